use Rattle.std.proofs.Common.{rules, ◌≡◌, ◌≤◌, length, ap, arith}
use Rattle.sig_edge.specs.Causes.{Rose}
use Rattle.teams_run.specs.Runs.{model_limit}
use Rattle.teams_run.proofs.FileLaws.{lacks_log, long_log}
use Rattle.teams_run.proofs.running.file_due.Goals as goal

pub returns-then-eq-2-clause-missing : goal.returns-then-eq-2-clause-missing
returns-then-eq-2-clause-missing g c = λ missing.
    let rose : Rose (g.D.Shelf.misses c.args.shelf.now) (g.D.Shelf.misses c.reason_due.new.shelf) = search rules in
    let long = ap length c.as_slice-then-eq-2.ensures.value in
    let same = c.as_slice-then-eq-2.ensures.len in
    let short = c.in_ok-content.ensures.short in
    let within : length c.in_ok-content.content.items ≤ model_limit = omega (arith, long, same, short) in (
      rose,
      lacks_log c.args.plan.now (g.D.Shelf.holds c.args.shelf.now) (g.D.Shelf.holds c.fetch.new.shelf) c.in_ok-content.content.items c.as_slice-then-eq-2.result.now c.as_str.result.now
          c.in_ok-content.ensures.whole c.as_str.ensures within c.as_slice-then-eq-2.ensures.value c.fetch.ensures.same (c.reason_due.ensures.missing_held missing),
    )

pub returns-then-eq-2-clause-too_long : goal.returns-then-eq-2-clause-too_long
returns-then-eq-2-clause-too_long g c = λ long_file.
    let long = ap length c.as_slice-then-eq-2.ensures.value in
    let same = c.as_slice-then-eq-2.ensures.len in
    let short = c.in_ok-content.ensures.short in
    let within : length c.in_ok-content.content.items ≤ model_limit = omega (arith, long, same, short) in
    long_log c.args.plan.now (g.D.Shelf.holds c.args.shelf.now) (g.D.Shelf.holds c.fetch.new.shelf) c.in_ok-content.content.items c.as_slice-then-eq-2.result.now c.as_str.result.now
    c.in_ok-content.ensures.whole c.as_str.ensures within c.as_slice-then-eq-2.ensures.value c.fetch.ensures.same (c.reason_due.ensures.too_long long_file)
