use Rattle.rapid_world_tests.proofs.clerks.relays.taken.Given as goal

abbrev pub ghosts-taken_in : goal.ghosts-taken_in
ghosts-taken_in g a = record { name = a.blank.name; parts = a.blank.parts }
