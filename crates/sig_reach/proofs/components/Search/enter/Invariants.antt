use Rattle.std.proofs.Common.{◌≡◌, map, take}
use Rattle.sig_reach.specs.Components.{stage_of, with_links, link_at}
use Rattle.sig_reach.proofs.components.Search.enter.Given as goal

abbrev pub invariant-loop-to : goal.invariant-loop-to
invariant-loop-to l = stage_of l.self ≡ with_links (stage_of l.fn.self) (map (link_at l.place) (take l.to-index l.row))
