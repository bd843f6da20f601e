use Rattle.std.proofs.Common.{◌≡◌, ◌∷◌, [], ◌++◌}
use Rattle.std.proofs.lemmas.Result.{err_from_is_err_and}
use Rattle.seq_cert.specs.LineForms.{group_in}
use Rattle.seq_cert.specs.Reading.{place, lines_at}
use Rattle.seq_cert.proofs.Loops.{lines_go_on, lines_fail, lines_done}
use Rattle.seq_cert.proofs.group_reader.groups_of.Goals as goal

pub returns-in_err-line : goal.returns-in_err-line
returns-in_err-line c =
    let p = err_from_is_err_and c.from_residual.result c.from_residual.ensures.1 in
    rw (p.1, p.2) (lines_fail (λ k. group_in) c.in_err-line.field-0.0 c.loop.lines c.args.count c.loop.counter (place c.loop.at) (lines_at (λ k. group_in) c.args.count 0 (place c.args.start)) c.loop-test.true c.in_err-line.ensures c.loop.invariant)

pub loop-preserved : goal.loop-preserved
loop-preserved c =
    let e : c.push.new.self ≡ c.loop.lines ++ c.in_ok-line.line ∷ [] = c.in_ok-push.ensures.ok in
    rw e (lines_go_on (λ k. group_in) c.loop.lines c.args.count c.loop.counter (place c.loop.at) (place c.in_ok-line.after) c.in_ok-line.line (lines_at (λ k. group_in) c.args.count 0 (place c.args.start)) c.loop-test.true c.in_ok-line.ensures c.loop.invariant)

pub returns : goal.returns
returns c = lines_done (λ k. group_in) c.loop.lines c.args.count c.loop.counter (place c.loop.at) (lines_at (λ k. group_in) c.args.count 0 (place c.args.start)) c.loop-test.false c.loop.invariant
