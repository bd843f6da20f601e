use Rattle.std.proofs.Common.{subst}
use Rattle.seq_inst.specs.Instances.{problem_of}
use Rattle.sig_matrix.specs.Detection.{system_of}
use Rattle.sig_classes.specs.Labels.{labels_from}
use Rattle.teams_run.specs.Judged.{IsGood}
use Rattle.teams_run.proofs.ProblemLaws.{accepted_as}
use Rattle.teams_run.proofs.judging.accepted_due.Goals as goal

pub returns : goal.returns
returns c =
    let ready = c.requires.prepared in
    let p = problem_of c.args.prepared.now.inst in
    let good = subst (λ l. IsGood p l c.args.cert.now c.args.report.now) ready.labels c.requires.good in
    accepted_as (system_of c.args.matrix.now) (labels_from c.args.matrix.now c.args.mode.now) p ready.problem c.args.cert.now c.in_ok-text.text.items c.args.report.now
    ready.few ready.classes good c.report_stands.ensures c.in_ok-text.ensures
