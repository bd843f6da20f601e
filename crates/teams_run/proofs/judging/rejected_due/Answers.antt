use Rattle.std.proofs.Common.{subst}
use Rattle.seq_inst.specs.Instances.{problem_of}
use Rattle.sig_matrix.specs.Detection.{system_of}
use Rattle.sig_classes.specs.Labels.{labels_from}
use Rattle.teams_run.specs.Judged.{IsFirstBad}
use Rattle.teams_run.proofs.ProblemLaws.{rejected_as}
use Rattle.teams_run.proofs.judging.rejected_due.Goals as goal

pub returns : goal.returns
returns c =
    let ready = c.requires.prepared in
    let p = problem_of c.args.prepared.now.inst in
    let first = subst (λ l. IsFirstBad p l c.args.cert.now c.args.bad) ready.labels c.requires.first in
    rejected_as (system_of c.args.matrix.now) (labels_from c.args.matrix.now c.args.mode.now) p ready.problem c.args.cert.now c.in_ok-text.text.items c.args.bad
    ready.few ready.classes first c.in_ok-text.ensures
