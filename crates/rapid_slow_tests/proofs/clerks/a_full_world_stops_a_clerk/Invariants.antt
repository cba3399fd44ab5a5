use Rattle.rapid_slow_tests.proofs.clerks.a_full_world_stops_a_clerk.Given as goal

abbrev pub ghosts-taken : goal.ghosts-taken
ghosts-taken g a = record { name = a.blank.name; parts = a.blank.parts }
