use Rattle.std.proofs.Common.{◌≡◌, ◌-◌, ◌∷◌, [], ◌++◌, length, arith}
use Rattle.std.proofs.lemmas.Result.{err_from_is_err_and}
use Rattle.seq_cert.specs.Reading.{place, classes_at}
use Rattle.seq_cert.proofs.Loops.{classes_go_on, classes_fail, classes_done}
use Rattle.seq_cert.proofs.class_reader.classes_of.Goals as goal

pub returns-in_err-line : goal.returns-in_err-line
returns-in_err-line c =
    let p = err_from_is_err_and c.from_residual.result c.from_residual.ensures.1 in
    rw (p.1, p.2) (classes_fail c.in_err-line.field-0.0 c.loop-k.lines c.loop-k.room c.args.count c.loop-k.k (place c.loop-k.at) (classes_at 4097 c.args.count 0 (place c.args.start)) c.loop-k-test.true c.in_err-line.ensures c.loop-k.invariant)

pub loop-k-preserved : goal.loop-k-preserved
loop-k-preserved c =
    let e : c.push.new.self ≡ c.loop-k.lines ++ c.in_ok-line.line ∷ [] = c.in_ok-push.ensures.ok in
    let n = c.len.ensures in
    let s = c.saturating_sub-room.ensures in
    let room : c.saturating_sub-room.result ≡ c.loop-k.room - length (c.in_ok-line.line).states = omega (arith, n, s) in
    rw (e, room) (classes_go_on c.loop-k.lines c.loop-k.room c.args.count c.loop-k.k (place c.loop-k.at) (place c.in_ok-line.after) c.in_ok-line.line (classes_at 4097 c.args.count 0 (place c.args.start)) c.loop-k-test.true c.in_ok-line.ensures c.loop-k.invariant)

pub returns : goal.returns
returns c = classes_done c.loop-k.lines c.loop-k.room c.args.count c.loop-k.k (place c.loop-k.at) (classes_at 4097 c.args.count 0 (place c.args.start)) c.loop-k-test.false c.loop-k.invariant
