use Rattle.std.proofs.Common.{◌≡◌, ◌≤◌, ◌+◌, ◌-◌, vec_len}
use Rattle.sig_edge.proofs.Pieces.{HoldsFront}
use Rattle.sig_edge.proofs.reading.fetch.Given as goal

-- what was read so far is the beginning of what is held, which is as before, and no count fell
abbrev pub invariant-loop-buffer : goal.invariant-loop-buffer
invariant-loop-buffer g l =
    HoldsFront (g.D.Shelf.holds l.shelf) l.name l.content.items
    × (g.D.Shelf.holds l.shelf ≡ g.D.Shelf.holds l.initial.shelf)
    × (g.D.Shelf.faults l.initial.shelf ≤ g.D.Shelf.faults l.shelf)
    × (g.D.Shelf.misses l.initial.shelf ≤ g.D.Shelf.misses l.shelf)

abbrev pub decreases-loop-buffer : goal.decreases-loop-buffer
decreases-loop-buffer g l = l.limit + 1 - vec_len l.content
