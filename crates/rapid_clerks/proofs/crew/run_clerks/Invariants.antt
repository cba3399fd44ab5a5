use Rattle.rapid_clerks.proofs.crew.run_clerks.Given as goal

abbrev pub ghosts-run_given : goal.ghosts-run_given
ghosts-run_given g a = record { given = a.crew.turns }
