use Rattle.seq_huff.proofs.tests.order_agrees.Goals as goal

pub ordered_bound-requires-clause-within : goal.ordered_bound-requires-clause-within
ordered_bound-requires-clause-within c = c.root-all.ensures.within

pub bound-requires : goal.bound-requires
bound-requires c = c.root-all.ensures.within

pub ordered_bound-requires-2-clause-within : goal.ordered_bound-requires-2-clause-within
ordered_bound-requires-2-clause-within c = c.part-some.ensures.within (c.root-all.ensures.within)

pub bound-requires-2 : goal.bound-requires-2
bound-requires-2 c = c.part-some.ensures.within (c.root-all.ensures.within)
