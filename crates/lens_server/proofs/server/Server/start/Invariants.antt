use Rattle.lens_server.proofs.server.Server.start.Given as goal

abbrev pub ghosts-database_counted : goal.ghosts-database_counted
ghosts-database_counted g a = record { name = a.blank.name; parts = a.blank.parts }
