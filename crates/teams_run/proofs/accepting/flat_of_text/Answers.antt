use Rattle.teams_run.proofs.RefusalLaws.{refused_by_reader, refused_by_check}
use Rattle.teams_run.proofs.accepting.flat_of_text.Goals as goal

pub returns-in-Err-clause-refused : goal.returns-in-Err-clause-refused
returns-in-Err-clause-refused c = refused_by_reader c.args.content.now c.in-Err.fault c.in-Err.ensures.refused

pub returns-in-Err-check-clause-refused : goal.returns-in-Err-check-clause-refused
returns-in-Err-check-clause-refused c =
    refused_by_check c.args.content.now c.in-Ok.model c.in-Err-check.fault c.in-Ok.ensures.model.0 c.in-Ok.ensures.model.1 c.in-Err-check.ensures.refused
