use Rattle.std.proofs.Common.{◌≡◌, ◌∷◌, [], ◌++◌}
use Rattle.std.proofs.lemmas.Result.{err_from_is_err_and}
use Rattle.seq_cert.specs.LineForms.{test_in}
use Rattle.seq_cert.specs.Reading.{place, lines_at}
use Rattle.seq_cert.proofs.Loops.{lines_go_on, lines_fail, lines_done}
use Rattle.seq_cert.proofs.test_reader.tests_of.Goals as goal

pub returns-in_err-line : goal.returns-in_err-line
returns-in_err-line c =
    let p = err_from_is_err_and c.from_residual.result c.from_residual.ensures.1 in
    rw (p.1, p.2) (lines_fail test_in c.in_err-line.field-0.0 c.loop-k.lines c.args.count c.loop-k.k (place c.loop-k.at) (lines_at test_in c.args.count 0 (place c.args.start)) c.loop-k-test.true c.in_err-line.ensures c.loop-k.invariant)

pub loop-k-preserved : goal.loop-k-preserved
loop-k-preserved c =
    let e : c.push.new.self ≡ c.loop-k.lines ++ c.in_ok-line.line ∷ [] = c.in_ok-push.ensures.ok in
    rw e (lines_go_on test_in c.loop-k.lines c.args.count c.loop-k.k (place c.loop-k.at) (place c.in_ok-line.after) c.in_ok-line.line (lines_at test_in c.args.count 0 (place c.args.start)) c.loop-k-test.true c.in_ok-line.ensures c.loop-k.invariant)

pub returns : goal.returns
returns c = lines_done test_in c.loop-k.lines c.args.count c.loop-k.k (place c.loop-k.at) (lines_at test_in c.args.count 0 (place c.args.start)) c.loop-k-test.false c.loop-k.invariant
