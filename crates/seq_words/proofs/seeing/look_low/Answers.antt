use Rattle.std.proofs.Common.{arith, sym, subst}
use Rattle.seq_words.proofs.Inside.{of_inside}
use Rattle.seq_words.specs.Knowledge.{IsThere, IsLowAt}
use Rattle.seq_words.specs.Seats.{Sitting}
use Rattle.seq_words.proofs.Views.{there_inside, worker_live}
use Rattle.seq_words.proofs.SeeSteps.{sees_low}
use Rattle.seq_words.proofs.seeing.look_low.Goals as goal

pub load-requires : goal.load-requires
load-requires c =
    let i = c.words.invariant in
    let of = of_inside c.words.view_is c.seat.view_is c.requires.seat in
    let there = subst (λ (x : Sitting). IsThere c.args.place x.view) (sym c.seat.view_is) c.requires.there in
    let inside = there_inside c.seat.inside.seat.me.0 c.args.place there in
    let e = c.low_word.ensures in
    (of.table, (let size = of.sized in omega (arith, i.0)), rw e (sees_low _ _ _ _ _ _ (worker_live _ c.seat.invariant.1) there))

pub returns-clause-right : goal.returns-clause-right
returns-clause-right c = subst (λ (x : Sitting). IsLowAt c.args.place x.view c.load.result) c.seat.view_is (c.load.ensures.2 c.args.place c.low_word.ensures).2
