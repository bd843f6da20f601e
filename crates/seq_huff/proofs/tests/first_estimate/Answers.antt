use Rattle.seq_huff.proofs.tests.first_estimate.Goals as goal

pub of-requires-2-clause-within : goal.of-requires-2-clause-within
of-requires-2-clause-within c = c.root-all.ensures.within

pub least_sum-requires-clause-within : goal.least_sum-requires-clause-within
least_sum-requires-clause-within c = c.root-all.ensures.within
