use Rattle.std.proofs.Common.{◌≡◌, ℕ, ◌<◌, []}
use Rattle.std.specs.Prelude.{slice_index}
use Rattle.sig_reach.specs.Components.{stage_of, IsSearch}
use Rattle.sig_reach.proofs.components.components.Given as goal

abbrev pub invariant-loop-node : goal.invariant-loop-node
invariant-loop-node l = record {
  search : IsSearch l.sources (stage_of l.search);
  none : l.search.path.items ≡ [];
  known : (v : ℕ) → v < l.node → 0 < slice_index l.search.numbers.items v;
}
