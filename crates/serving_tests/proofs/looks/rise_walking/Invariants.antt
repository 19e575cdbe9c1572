use Rattle.serving_tests.proofs.looks.rise_walking.Given as goal

abbrev pub ghosts-rise_looking : goal.ghosts-rise_looking
ghosts-rise_looking g a = record { name = a.blank.name; parts = a.blank.parts }
