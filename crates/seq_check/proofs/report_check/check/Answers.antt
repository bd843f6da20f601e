use Rattle.std.proofs.Common.{sym, ◌∙◌, arith}
use Rattle.seq_inst.specs.Instances.{problem_of}
use Rattle.seq_check.proofs.LineCounts.{missed-within}
use Rattle.seq_check.proofs.Certified.{certified_shows}
use Rattle.seq_check.proofs.report_check.check.Goals as goal

pub first_bad_line-requires-clause-fits : goal.first_bad_line-requires-clause-fits
first_bad_line-requires-clause-fits c = let within = missed-within c.args.report.now in let short = c.requires.short in omega arith

pub returns-in-None-clause-shows : goal.returns-in-None-clause-shows
returns-in-None-clause-shows c = certified_shows c.certificate_holds.ensures.sound (problem_of c.args.inst.now) c.args.labels.now c.args.report.now c.args.inst.now.stands.weighed c.args.inst.now.stands.told (sym c.in_ok-bad.ensures ∙ c.in-None.is)
