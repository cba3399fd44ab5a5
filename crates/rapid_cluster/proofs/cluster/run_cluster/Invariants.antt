use Rattle.rapid_cluster.proofs.cluster.run_cluster.Given as goal

abbrev pub ghosts-drive-L-Ledger : goal.ghosts-drive-L-Ledger
ghosts-drive-L-Ledger g a = record { name = a.blank.name; parts = a.blank.parts }

abbrev pub ghosts-drive-A-Asked : goal.ghosts-drive-A-Asked
ghosts-drive-A-Asked g a = record { params = a.params; nodes = a.nodes }
