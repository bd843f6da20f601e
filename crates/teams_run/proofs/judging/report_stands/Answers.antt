use Rattle.seq_inst.specs.Instances.{problem_of}
use Rattle.sig_matrix.specs.Detection.{system_of}
use Rattle.teams_run.proofs.StandLaws.{shows}
use Rattle.teams_run.proofs.judging.report_stands.Goals as goal

pub returns : goal.returns
returns c =
    let sys = system_of c.args.matrix.now in
    let p = problem_of c.args.inst.now in
    shows sys p c.args.report.now (c.passage_holds.ensures sys p c.requires.inst) c.requires.shows
