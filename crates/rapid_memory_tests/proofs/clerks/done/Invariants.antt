use Rattle.rapid_memory_tests.proofs.clerks.done.Given as goal

abbrev pub ghosts-done_in : goal.ghosts-done_in
ghosts-done_in g a = record { name = a.blank.name; parts = a.blank.parts }
