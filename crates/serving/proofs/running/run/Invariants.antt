use Rattle.serving.proofs.running.run.Given as goal

abbrev pub ghosts-serve_input : goal.ghosts-serve_input
ghosts-serve_input g a = record { name = a.blank.name; parts = a.blank.parts }

abbrev pub ghosts-rehearse_over : goal.ghosts-rehearse_over
ghosts-rehearse_over g a = record { name = a.blank.name; parts = a.blank.parts }
