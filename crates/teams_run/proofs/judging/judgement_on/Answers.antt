use Rattle.std.proofs.Common.{sym, subst}
use Rattle.seq_inst.specs.Instances.{problem_of}
use Rattle.seq_cert.specs.LabelsOf.{AreLabelsOf}
use Rattle.teams_run.proofs.LabelLaws.{labels-are}
use Rattle.teams_run.proofs.judging.judgement_on.Goals as goal

pub good_report-requires-clause-labels : goal.good_report-requires-clause-labels
good_report-requires-clause-labels c =
    let p = problem_of c.args.prepared.now.inst in
    subst (AreLabelsOf p) (sym c.requires.prepared.labels) (labels-are c.args.matrix.now c.args.mode.now p c.requires.prepared.classes)
