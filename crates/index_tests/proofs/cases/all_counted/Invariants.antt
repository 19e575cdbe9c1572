use Rattle.index_tests.proofs.cases.all_counted.Given as goal

abbrev pub ghosts-all : goal.ghosts-all
ghosts-all g a = record { name = a.blank.name; parts = a.blank.parts }
