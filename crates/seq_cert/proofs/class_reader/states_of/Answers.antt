use Rattle.std.proofs.Common.{◌≡◌, ◌∷◌, [], ◌++◌, refl, arith}
use Rattle.std.proofs.lemmas.Result.{err_from_is_err_and}
use Rattle.seq_cert.specs.Reading.{place, states_at}
use Rattle.seq_cert.proofs.Loops.{states_go_on, states_fail, states_full, states_done}
use Rattle.seq_cert.proofs.class_reader.states_of.Goals as goal

pub returns-then-room-eq0 : goal.returns-then-room-eq0
returns-then-room-eq0 c =
    let e = c.bad_line.ensures in
    let none : c.loop-left.room ≡ 0 = omega (arith, c.if-room-eq0.true) in
    rw e (refl, states_full c.loop-left.lines c.loop-left.room c.loop-left.left (place c.loop-left.at) (states_at c.args.room c.args.count (place c.args.start)) none (omega (arith, c.loop-left-test.true)) c.loop-left.invariant)

pub returns-in_err-line : goal.returns-in_err-line
returns-in_err-line c =
    let p = err_from_is_err_and c.from_residual.result c.from_residual.ensures.1 in
    rw (p.1, p.2) (states_fail c.in_err-line.field-0.0 c.loop-left.lines c.loop-left.room c.loop-left.left (place c.loop-left.at) (states_at c.args.room c.args.count (place c.args.start)) (omega (arith, c.if-room-eq0.false)) (omega (arith, c.loop-left-test.true)) c.in_err-line.ensures c.loop-left.invariant)

pub loop-left-preserved : goal.loop-left-preserved
loop-left-preserved c =
    let e : c.push.new.self ≡ c.loop-left.lines ++ c.in_ok-line.line ∷ [] = c.in_ok-push.ensures.ok in
    rw e (states_go_on c.loop-left.lines c.loop-left.room c.loop-left.left (place c.loop-left.at) (place c.in_ok-line.after) c.in_ok-line.line (states_at c.args.room c.args.count (place c.args.start)) (omega (arith, c.if-room-eq0.false)) (omega (arith, c.loop-left-test.true)) c.in_ok-line.ensures c.loop-left.invariant)

pub returns : goal.returns
returns c = states_done c.loop-left.lines c.loop-left.room c.loop-left.left (place c.loop-left.at) (states_at c.args.room c.args.count (place c.args.start)) (omega (arith, c.loop-left-test.false)) c.loop-left.invariant
