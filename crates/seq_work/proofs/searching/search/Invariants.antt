use Rattle.seq_work.proofs.searching.search.Given as goal

abbrev pub ghosts-search_named : goal.ghosts-search_named
ghosts-search_named g a = record { words = a.prepared.words }
