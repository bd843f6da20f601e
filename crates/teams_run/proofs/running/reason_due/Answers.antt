use Rattle.std.proofs.Common.{rules, length, ◌≤◌, ap, arith, subst}
use Rattle.sig_edge.specs.Shelf.{HoldsWhole, HoldsNone, HoldsLonger}
use Rattle.teams_run.specs.Reasoned.{IsReasoning}
use Rattle.teams_run.specs.Texts.{log_limit, log_name, mode_word}
use Rattle.teams_run.proofs.DueLaws.{due_by_log}
use Rattle.teams_run.proofs.running.reason_due.Goals as goal

pub returns-in-Ok-reasoning_on-clause-due : goal.returns-in-Ok-reasoning_on-clause-due
returns-in-Ok-reasoning_on-clause-due g c =
    let matrix = c.in-Ok.matrix in
    let of_text = c.in-Ok.ensures.text in
    let status = c.in-Ok-reasoning_on.due.status in
    let text = c.in-Ok-reasoning_on.due.text.items in
    let by_name = subst (λ mode. IsReasoning matrix mode c.as_slice.result.now status text) c.mode_name-mode.ensures c.in-Ok-reasoning_on.ensures in
    let reasoning = subst (λ log. IsReasoning matrix (mode_word c.args.plan.now.mode) log status text) c.as_slice.ensures.value by_name in
    let long = ap length c.as_slice.ensures.value in
    let same = c.as_slice.ensures.len in
    let short = c.in_ok-log.ensures.short in
    let within : length c.in_ok-log.log.items ≤ log_limit = omega (arith, long, same, short) in
    due_by_log c.args.plan.now (g.D.Shelf.holds c.args.shelf.now) c.args.content.now text c.in_ok-log.log.items of_text.0 matrix
    c.requires.action of_text.1 (subst (λ name. HoldsWhole (g.D.Shelf.holds c.args.shelf.now) name c.in_ok-log.log.items) c.log_name.ensures c.in_ok-log.ensures.whole) within status reasoning

pub returns-in_err-log-clause-missing_held : goal.returns-in_err-log-clause-missing_held
returns-in_err-log-clause-missing_held g c = λ missing.
    let none : HoldsNone (g.D.Shelf.holds c.args.shelf.now) (log_name c.args.plan.now) = search rules in
    (c.requires.action, (c.in-Ok.ensures.text.1).accepted, none)

pub returns-in_err-log-clause-too_long : goal.returns-in_err-log-clause-too_long
returns-in_err-log-clause-too_long g c = λ long.
    let longer : HoldsLonger (g.D.Shelf.holds c.args.shelf.now) (log_name c.args.plan.now) log_limit = search rules in
    (c.requires.action, (c.in-Ok.ensures.text.1).accepted, longer)
