-- The shape of a strategy, in the theory's words.
pub use Rattle.seq_theory.specs.Shapes.{height, leaf_count, leaf_of, AsksSplitting}
