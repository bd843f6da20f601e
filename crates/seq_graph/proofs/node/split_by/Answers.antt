use Rattle.seq_graph.proofs.node.split_by.Goals as goal

pub number_within-requires-clause-within : goal.number_within-requires-clause-within
number_within-requires-clause-within c = c.parts_of-parts.ensures.pass_within c.requires.within

pub number_within-requires-2-clause-within : goal.number_within-requires-2-clause-within
number_within-requires-2-clause-within c = c.parts_of-parts.ensures.fail_within c.requires.within
