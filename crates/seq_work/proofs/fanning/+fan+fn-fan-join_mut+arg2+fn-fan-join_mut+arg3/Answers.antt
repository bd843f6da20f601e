use Rattle.std.proofs.Common.{rules, sym, ◌∙◌}
use Rattle.seq_work.specs.Fans.{AreDone}
use Rattle.seq_work.proofs.Halves.{ready-front, ready-back, done-both, done-one}
use Rattle.seq_work.proofs.fanning.+fan+fn-fan-join_mut+arg2+fn-fan-join_mut+arg3.Goals as goal

pub returns-then-seats-eq1 : goal.returns-then-seats-eq1
returns-then-seats-eq1 g t c = done-one c.args.shared.now.inst _ _ _ _ _ _ _ c.if-seats-eq1.true c.requires.as_locals c.requires.as_ends c.work_at.ensures.of c.work_at.ensures.root c.work_at.ensures.ready c.work_at.ensures.worked

pub join_mut-requires-after_bounds : goal.join_mut-requires-after_bounds
join_mut-requires-after_bounds g t c =
    let s = c.split_at_mut-seats_a.ensures in
    let l = c.split_at_mut-locals_a.ensures in
    let e = c.split_at_mut-ends_a.ensures in
    let front = ready-front c.args.shared.now.inst g.N.Naming.words _ _ _ _ _ _ _ _ _ s.value l.value e.value (s.front_len ∙ sym l.front_len) (s.front_len ∙ sym e.front_len) c.requires in
    let back = ready-back c.args.shared.now.inst g.N.Naming.words _ _ _ _ _ _ _ _ _ s.value l.value e.value (s.front_len ∙ sym l.front_len) (s.front_len ∙ sym e.front_len) c.requires in
    search (rules, front, back)

pub returns : goal.returns
returns g t c =
    let a : AreDone c.args.shared.now.inst g.N.Naming.words c.seats_a-1.given.0 c.locals_a-1.given.0 c.ends_a-1.given.0 = search rules in
    let b : AreDone c.args.shared.now.inst g.N.Naming.words c.seats_b-1.given.0 c.locals_b-1.given.0 c.ends_b-1.given.0 = search rules in
    done-both c.args.shared.now.inst _ _ _ _ _ _ _ a b
