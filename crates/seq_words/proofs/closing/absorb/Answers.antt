use Rattle.std.proofs.Common.{arith, ap, ◌∙◌}
use Rattle.seq_words.proofs.Inside.{of_inside}
use Rattle.seq_words.proofs.Views.{M, scribe_live}
use Rattle.seq_words.proofs.ShareSteps.{merges, settles}
use Rattle.seq_words.proofs.closing.absorb.Goals as goal

pub join_seat-requires : goal.join_seat-requires
join_seat-requires c =
    let i = c.words.invariant in
    let scribe = of_inside c.words.view_is c.scribe.view_is c.requires.scribe in
    let seat = of_inside c.words.view_is c.seat.view_is c.requires.seat in
    (scribe.table, seat.table, c.seat.invariant.0, omega (arith, i.0), merges _ _ _ _ _ _)

pub load-requires : goal.load-requires
load-requires c =
    let i = c.words.invariant in
    let scribe = of_inside c.words.view_is c.scribe.view_is c.requires.scribe in
    let j = c.join_seat.ensures in
    (j.0 ∙ scribe.table, omega (arith, i.0), settles _ _ _ _ _ (scribe_live _ _ (ap (λ (x : M). x.0.role) j.2 ∙ c.scribe.invariant.1)))
