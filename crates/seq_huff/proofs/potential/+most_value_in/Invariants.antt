use Rattle.seq_huff.proofs.potential.+most_value_in.Given as goal

abbrev pub decreases-most_value_in : goal.decreases-most_value_in
decreases-most_value_in l = l.octaves
