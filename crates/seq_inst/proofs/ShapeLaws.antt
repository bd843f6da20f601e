-- The shape of a strategy: the theory's lemmas.
pub use Rattle.seq_theory.proofs.ShapeLaws.{some-leaf, height-lt-leaves, leaves-le, tree_cost-le, asked-le, leaf_of-lt, costs-le}
