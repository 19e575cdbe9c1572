use Rattle.view_program.proofs.main.Given as goal

abbrev pub ghosts-serve_host : goal.ghosts-serve_host
ghosts-serve_host a = record { name = a.blank.name; parts = a.blank.parts }
