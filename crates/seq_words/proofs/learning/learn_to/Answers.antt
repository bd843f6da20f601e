use Rattle.std.proofs.Common.{arith, ap, ◌∙◌}
use Rattle.seq_words.proofs.Inside.{of_inside}
use Rattle.seq_words.proofs.Views.{M, worker_live, scribe_live}
use Rattle.seq_words.proofs.ShareSteps.{forks, merges, settles}
use Rattle.seq_words.proofs.learning.learn_to.Goals as goal

pub split_seat-copy-requires : goal.split_seat-copy-requires
split_seat-copy-requires c =
    let i = c.words.invariant in
    let of = of_inside c.words.view_is c.scribe.view_is c.requires.scribe in
    (of.table, omega (arith, i.0), forks _ _ _ _ (scribe_live _ _ c.scribe.invariant.1))

pub join_seat-requires : goal.join_seat-requires
join_seat-requires c =
    let i = c.words.invariant in
    let scribe = of_inside c.words.view_is c.scribe.view_is c.requires.scribe in
    let seat = of_inside c.words.view_is c.seat.view_is c.requires.seat in
    let s = c.split_seat-copy.ensures in
    (seat.table, s.3 ∙ scribe.table, ap (λ (x : M). x.1) s.4, omega (arith, i.0), merges _ _ _ _ _ _)

pub load-requires : goal.load-requires
load-requires c =
    let i = c.words.invariant in
    let seat = of_inside c.words.view_is c.seat.view_is c.requires.seat in
    let j = c.join_seat.ensures in
    (j.0 ∙ seat.table, omega (arith, i.0), settles _ _ _ _ _ (worker_live _ (ap (λ (x : M). x.0.role) j.2 ∙ c.seat.invariant.1)))

pub invariant_of-scribe : goal.invariant_of-scribe
invariant_of-scribe c =
    let s = c.split_seat-copy.ensures in
    let i = c.scribe.invariant in
    (ap (λ (x : M). x.1) s.2 ∙ i.0, ap (λ (x : M). x.0.role) s.2 ∙ i.1, ap (λ (x : M). x.0.stored) s.2 ∙ i.2)
