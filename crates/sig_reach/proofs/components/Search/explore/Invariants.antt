use Rattle.std.proofs.Common.{◌<◌}
use Rattle.std.specs.Prelude.{slice_index}
use Rattle.sig_reach.specs.Components.{stage_of, IsSearch, Keeps, work}
use Rattle.sig_reach.proofs.components.Search.explore.Given as goal

abbrev pub invariant-path : goal.invariant-path
invariant-path l = record {
  search : IsSearch l.sources (stage_of l.self);
  keeps : Keeps (stage_of l.fn.self) (stage_of l.self);
  entered : 0 < slice_index l.self.places.items l.node;
}

abbrev pub decreases-path : goal.decreases-path
decreases-path l = work l.sources (stage_of l.self)
