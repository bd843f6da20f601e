use Rattle.std.proofs.Common.{◌<◌, arith, sym, ap, ◌∙◌, subst, ⊎_elim}
use Rattle.seq_words.proofs.Inside.{of_inside}
use Rattle.seq_words.specs.Seats.{Wording}
use Rattle.seq_words.proofs.Views.{M, worker_live}
use Rattle.seq_words.proofs.SeeSteps.{finds}
use Rattle.seq_words.proofs.seeing.find.Goals as goal

pub load-found-requires : goal.load-found-requires
load-found-requires c =
    let i = c.words.invariant in
    let of = of_inside c.words.view_is c.seat.view_is c.requires.seat in
    let room = subst (λ (w : Wording). c.args.place < w.limit) (sym c.words.view_is) c.requires.room in
    let e = c.state_word.ensures in
    (of.table, omega (arith, i.0), rw e (finds _ _ _ _ _ _ (worker_live _ c.seat.invariant.1)))

pub invariant_of-seat : goal.invariant_of-seat
invariant_of-seat c = ⊎_elim
    (λ t. (ap (λ (x : M). x.1) t.1 ∙ c.seat.invariant.0, ap (λ (x : M). x.0.role) t.1 ∙ c.seat.invariant.1))
    (λ t. (ap (λ (x : M). x.1) t.1 ∙ c.seat.invariant.0, ap (λ (x : M). x.0.role) t.1 ∙ c.seat.invariant.1))
    (c.load-found.ensures.2 c.args.place c.state_word.ensures).0

pub returns-clause-alone : goal.returns-clause-alone
returns-clause-alone c = (c.load-found.ensures.2 c.args.place c.state_word.ensures).1
