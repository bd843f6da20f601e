use Rattle.std.proofs.Common.{◌≡◌, length, arith, subst, sym}
use Rattle.seq_words.specs.Seats.{Sitting}
use Rattle.seq_table.specs.Agreed.{Agreed}
use Rattle.seq_work.proofs.FreshLaws.{may-begin-all}
use Rattle.seq_work.proofs.preparing.prepare.Goals as goal

pub returns-clause-prepared : goal.returns-clause-prepared
returns-clause-prepared c =
    let words = c.in_ok-made.made.words in
    let seats = c.teach.new.seats.items in
    let locals = c.in_ok-locals.locals.items in
    let m = c.in_ok-made.ensures in
    let told = m.words.0 in
    let limit = m.words.1 in
    let small = c.requires.limit.1 in
    let workers = c.requires.workers in
    let least = workers.0 in
    let most = workers.1 in
    let dealt = m.count in
    let made = c.in_ok-locals.ensures.count in
    let taught = c.teach.ensures.count in
    let as_many : length seats ≡ length locals = omega arith in
    let room = c.in_ok-into.ensures.capacity in
    record {
      told = told;
      limit_is = limit;
      small = small;
      agreed = subst (λ (s : Sitting). Agreed words s c.enter_all.new.index) (sym c.teach.ensures.same) c.enter_all.ensures.agreed;
      some = omega arith;
      few = omega arith;
      as_locals = as_many;
      ready = may-begin-all c.in_ok-inst.inst words seats c.args.limit 0 locals told limit small as_many c.teach.ensures.taught c.in_ok-locals.ensures.fresh;
      fresh = c.in_ok-locals.ensures.fresh;
      empty = c.in_ok-into.ensures.items;
      room = omega arith;
    }
