use Rattle.seq_inst.specs.Instances.{problem_of}
use Rattle.teams_run.proofs.SampleLaws.{sums_up}
use Rattle.teams_run.proofs.sampling.sample_due.Goals as goal

pub returns : goal.returns
returns c =
    sums_up c.args.plan.now c.parts-parts.result c.of_verdict.result.status c.in_ok-flat.flat c.in_ok-matrix.matrix (problem_of c.in_ok-inst.inst) c.in_ok-outcome.outcome c.of_verdict.result.text.items
    c.parts-parts.ensures.parts c.in_ok-inst.ensures.problem c.in_ok-flat.ensures.flat c.in_ok-matrix.ensures.matrix c.outcome_stands.ensures (rw c.of_verdict.ensures.text c.in_ok-text.ensures) c.of_verdict.ensures.optimal c.of_verdict.ensures.bounded
