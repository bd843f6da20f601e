use Rattle.std.proofs.lemmas.Result.{IfErr-weaker, IfOk-weaker}
use Rattle.teams_run.proofs.UnfitLaws.{unfit}
use Rattle.teams_run.proofs.answering.answer_for.Goals as goal

pub returns-clause-answer : goal.returns-clause-answer
returns-clause-answer c =
    IfOk-weaker c.action_due.result _ _ (λ due is. record { flat = c.in_ok-accepted.accepted.flat; matrix = c.in_ok-accepted.accepted.matrix; of_text = c.in_ok-accepted.ensures.text; text_is = is }) c.action_due.ensures.text

pub returns-clause-refused : goal.returns-clause-refused
returns-clause-refused c =
    IfErr-weaker c.action_due.result _ _ (λ fault tells. unfit c.args.plan.now c.args.content.now c.in_ok-accepted.accepted.flat c.in_ok-accepted.accepted.matrix fault c.in_ok-accepted.ensures.text tells) c.action_due.ensures.unfit
