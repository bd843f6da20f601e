use Rattle.std.proofs.Common.{◌≤◌, arith, sym, ap, ◌∙◌, subst, length}
use mathlib.Core.Logic.{dite}
use native.Mathlib.Decide.{dec_le}
use Rattle.seq_words.proofs.Inside.{of_inside}
use Rattle.seq_words.specs.Knowledge.{known, IsThere}
use Rattle.seq_words.specs.Seats.{Sitting, ReadsBits}
use Rattle.seq_words.proofs.Views.{M, worker_live}
use Rattle.seq_words.proofs.Views.{there_inside}
use Rattle.seq_words.proofs.SeeSteps.{sees_bits}
use Rattle.seq_words.proofs.seeing.look_part.Goals as goal

pub load-requires : goal.load-requires
load-requires c =
    let i = c.words.invariant in
    let of = of_inside c.words.view_is c.seat.view_is c.requires.seat in
    let there = subst (λ (x : Sitting). IsThere c.args.place x.view) (sym c.seat.view_is) c.requires.there in
    let part = subst (λ (x : Sitting). c.args.part ≤ length (known x.view c.args.place).bits) (sym c.seat.view_is) c.requires.part.1 in
    let inside = there_inside c.seat.inside.seat.me.0 c.args.place there in
    let e = c.bits_word.ensures in
    (of.table, (let size = of.sized in omega (arith, i.0, c.requires.part.0)), rw e (sees_bits _ _ _ _ _ _ _ (worker_live _ c.seat.invariant.1) there c.requires.part.0 part))

pub invariant_of-seat : goal.invariant_of-seat
invariant_of-seat c =
    let v = c.seat.inside.seat.me.0 in
    let part = subst (λ (x : Sitting). c.args.part ≤ length (known x.view c.args.place).bits) (sym c.seat.view_is) c.requires.part.1 in
    let f = c.load.ensures.2 c.args.place c.args.part c.bits_word.ensures c.requires.part.0 in
    dite (dec_le (length (known v c.args.place).bits) c.args.part)
    (λ h. let m = f.2 (omega arith) in (ap (λ (x : M). x.1) m ∙ c.seat.invariant.0, ap (λ (x : M). x.0.role) m ∙ c.seat.invariant.1))
    (λ h. let m = (f.1 (omega arith)).0 in (ap (λ (x : M). x.1) m ∙ c.seat.invariant.0, ap (λ (x : M). x.0.role) m ∙ c.seat.invariant.1))

pub returns : goal.returns
returns c =
    let f = c.load.ensures.2 c.args.place c.args.part c.bits_word.ensures c.requires.part.0 in
    let after : Sitting = record { table = c.load.new.seat.table_id; view = c.load.new.seat.me.0 } in
    subst (λ (x : Sitting). ReadsBits c.args.place c.args.part c.load.result x after) c.seat.view_is
    record {
      few = f.0;
      old = λ b. let m = f.1 b in ((λ k. record { table = c.load.ensures.0 k; view = (m.0 k).0 }), m.1);
      next = λ b. let m = f.2 b in λ k. record { table = c.load.ensures.0 k; view = (m k).0 };
    }
