use Rattle.seq_work.proofs.tests.enters_named.Given as goal

abbrev pub ghosts-enters : goal.ghosts-enters
ghosts-enters g a = record { words = a.prepared.words }
