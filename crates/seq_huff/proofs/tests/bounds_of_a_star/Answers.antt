use Rattle.seq_huff.proofs.tests.bounds_of_a_star.Goals as goal

pub huffman-requires : goal.huffman-requires
huffman-requires g c = c.root-all.ensures.within

pub bound-requires : goal.bound-requires
bound-requires g c = c.root-all.ensures.within

pub one_step-requires : goal.one_step-requires
one_step-requires g c = c.root-all.ensures.within

pub greedy_cost-requires : goal.greedy_cost-requires
greedy_cost-requires g c = c.root-all.ensures.within
