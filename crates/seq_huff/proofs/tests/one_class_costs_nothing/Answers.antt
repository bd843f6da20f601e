use Rattle.seq_huff.proofs.tests.one_class_costs_nothing.Goals as goal

pub huffman-requires : goal.huffman-requires
huffman-requires g c = c.part-one.ensures.within (c.root-all.ensures.within)

pub bound-requires : goal.bound-requires
bound-requires g c = c.part-one.ensures.within (c.root-all.ensures.within)

pub greedy_cost-requires : goal.greedy_cost-requires
greedy_cost-requires g c = c.part-one.ensures.within (c.root-all.ensures.within)
