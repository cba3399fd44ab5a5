use Rattle.rapid_world_tests.proofs.clerks.ends.told.Given as goal

abbrev pub ghosts-told_in : goal.ghosts-told_in
ghosts-told_in g a = record { name = a.blank.name; parts = a.blank.parts }
