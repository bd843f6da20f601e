use Rattle.std.proofs.Common.{ℕ, arith, sym, subst}
use Rattle.seq_words.proofs.Inside.{of_inside}
use Rattle.seq_words.specs.Knowledge.{IsUpAt, MayCap}
use Rattle.seq_words.specs.Seats.{Sitting}
use Rattle.seq_words.proofs.Views.{there_inside, worker_live}
use Rattle.seq_words.proofs.BoundSteps.{caps}
use Rattle.seq_words.proofs.bounding.lower_cap.Goals as goal

pub fetch_min-found-requires : goal.fetch_min-found-requires
fetch_min-found-requires c =
    let i = c.words.invariant in
    let of = of_inside c.words.view_is c.seat.view_is c.requires.seat in
    let may = subst (λ (x : Sitting). MayCap x.view c.args.place c.args.to) (sym c.seat.view_is) c.requires.may in
    let inside = there_inside c.seat.inside.seat.me.0 c.args.place may.there in
    let e = c.up_word.ensures in
    (of.table, (let size = of.sized in omega (arith, i.0)), rw e (caps _ _ _ _ _ _ _ (worker_live _ c.seat.invariant.1) may))

pub returns-clause-right : goal.returns-clause-right
returns-clause-right c =
    let told = (c.fetch_min-found.ensures.2 c.args.place c.up_word.ensures).2 in
    let place = c.args.place in
    subst (λ (x : Sitting). IsUpAt place x.view c.min.result) c.seat.view_is (subst (λ (n : ℕ). IsUpAt place c.seat.inside.seat.me.0 n) (sym c.min.ensures) told) c.requires.may.whole
