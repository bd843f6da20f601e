use Rattle.seq_check.proofs.model.first_in_model.Goals as goal

pub weight_of-requires : goal.weight_of-requires
weight_of-requires c = c.root.ensures.within
