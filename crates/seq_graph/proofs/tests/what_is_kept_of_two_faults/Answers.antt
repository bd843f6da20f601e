use Rattle.seq_graph.proofs.tests.what_is_kept_of_two_faults.Goals as goal

pub evaluate-done-requires-clause-splits : goal.evaluate-done-requires-clause-splits
evaluate-done-requires-clause-splits g c = (c.list.ensures.tests c.of-kept.new.numbers).waiting_are
