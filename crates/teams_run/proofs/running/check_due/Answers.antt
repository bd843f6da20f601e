use Rattle.std.proofs.Common.{rules, length, ◌≤◌, ap, arith, subst}
use Rattle.sig_edge.specs.Shelf.{HoldsWhole, HoldsNone, HoldsLonger}
use Rattle.sig_matrix.specs.Detection.{system_of}
use Rattle.sig_classes.specs.Labels.{labels_from}
use Rattle.teams_run.specs.Judged.{IsJudgement}
use Rattle.teams_run.specs.Texts.{cert_limit, cert_name, mode_word}
use Rattle.teams_run.proofs.UnfitLaws.{is_fit}
use Rattle.teams_run.proofs.DueLaws.{due}
use Rattle.teams_run.proofs.running.check_due.Goals as goal

pub returns-in-Ok-judgement_on-clause-due : goal.returns-in-Ok-judgement_on-clause-due
returns-in-Ok-judgement_on-clause-due g c =
    let matrix = c.in-Ok.both.0.matrix in
    let status = c.in-Ok-judgement_on.due.status in
    let text = c.in-Ok-judgement_on.due.text.items in
    let by_name = subst (λ mode. IsJudgement (system_of matrix) (labels_from matrix mode) c.as_slice.result.now status text) c.mode_name-mode.ensures c.in-Ok-judgement_on.ensures in
    let judged = subst (λ cert. IsJudgement (system_of matrix) (labels_from matrix (mode_word c.args.plan.now.mode)) cert status text) c.as_slice.ensures.value by_name in
    let long = ap length c.as_slice.ensures.value in
    let same = c.as_slice.ensures.len in
    let short = c.in_ok-cert.ensures.short in
    let within : length c.in_ok-cert.cert.items ≤ cert_limit = omega (arith, long, same, short) in
    due c.args.plan.now (g.D.Shelf.holds c.args.shelf.now) c.args.content.now text c.in_ok-cert.cert.items c.in-Ok.both.0.flat matrix
    c.requires.action c.in-Ok.ensures.text (subst (λ name. HoldsWhole (g.D.Shelf.holds c.args.shelf.now) name c.in_ok-cert.cert.items) c.cert_name.ensures c.in_ok-cert.ensures.whole) within status judged

pub returns-in_err-cert-clause-missing_held : goal.returns-in_err-cert-clause-missing_held
returns-in_err-cert-clause-missing_held g c = λ missing.
    let none : HoldsNone (g.D.Shelf.holds c.args.shelf.now) (cert_name c.args.plan.now) = search rules in
    (is_fit c.args.plan.now c.args.content.now c.in-Ok.both.0.flat c.in-Ok.both.0.matrix _ c.in-Ok.both.1 c.in-Ok.ensures.text c.in-Ok.ensures.prepared, none)

pub returns-in_err-cert-clause-too_long : goal.returns-in_err-cert-clause-too_long
returns-in_err-cert-clause-too_long g c = λ long.
    let longer : HoldsLonger (g.D.Shelf.holds c.args.shelf.now) (cert_name c.args.plan.now) cert_limit = search rules in
    (is_fit c.args.plan.now c.args.content.now c.in-Ok.both.0.flat c.in-Ok.both.0.matrix _ c.in-Ok.both.1 c.in-Ok.ensures.text c.in-Ok.ensures.prepared, longer)
