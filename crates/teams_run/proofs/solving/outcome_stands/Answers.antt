use Rattle.seq_inst.specs.Instances.{problem_of}
use Rattle.sig_matrix.specs.Detection.{system_of}
use Rattle.teams_run.proofs.StandLaws.{stands}
use Rattle.teams_run.proofs.solving.outcome_stands.Goals as goal

pub returns : goal.returns
returns c =
    let sys = system_of c.args.matrix.now in
    let p = problem_of c.args.inst.now in
    record {
      few = c.requires.few;
      classes = c.requires.inst;
      right = c.requires.right;
      stands = stands sys p c.args.groups c.args.outcome.now (c.passage_holds.ensures sys p c.requires.inst) c.has_least.ensures c.outcomes_hold.ensures
          c.args.inst.now.stands.weighed (c.classes_hold.ensures sys p c.requires.inst).told c.requires.right;
    }
