use Rattle.teams_run.proofs.RefusalLaws.{refused_as_text}
use Rattle.teams_run.proofs.answering.accept.Goals as goal

pub returns-in-Err-clause-refused : goal.returns-in-Err-clause-refused
returns-in-Err-clause-refused c = refused_as_text c.args.content.now c.args.plan.now.mode c.in-Err.fault c.in-Err.ensures.refused
