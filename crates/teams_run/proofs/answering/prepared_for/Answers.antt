use Rattle.std.proofs.lemmas.Result.{err_from_is_err_and}
use Rattle.teams_run.proofs.UnfitLaws.{unprepared}
use Rattle.teams_run.proofs.answering.prepared_for.Goals as goal

pub returns-in_err-prepared-clause-refused : goal.returns-in_err-prepared-clause-refused
returns-in_err-prepared-clause-refused c =
    let p = err_from_is_err_and c.from_residual-in_err-prepared.result c.from_residual-in_err-prepared.ensures.1 in
    rw (p.1, p.2)
    (unprepared c.args.plan.now c.args.content.now c.in_ok-accepted.accepted.flat c.in_ok-accepted.accepted.matrix _ c.requires.action c.in_ok-accepted.ensures.text c.in_err-prepared.ensures.unsolved)
