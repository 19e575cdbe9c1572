use Rattle.serving_tests.proofs.looks.rise_after.Given as goal

abbrev pub ghosts-rise_walking : goal.ghosts-rise_walking
ghosts-rise_walking g a = record { name = a.blank.name; parts = a.blank.parts }
