use Rattle.rapid_memory_tests.proofs.clerks.what_clerks_did_is_stored_if_out_of_memory.Given as goal

abbrev pub ghosts-adds_up : goal.ghosts-adds_up
ghosts-adds_up g a = record { name = a.blank.name; parts = a.blank.parts }
