use Rattle.std.proofs.Common.{rules}
use Rattle.std.proofs.lemmas.Result.{IfOk-weaker}
use Rattle.teams_run.specs.Runs.{WantsModel}
use Rattle.teams_run.proofs.EndLaws.{text_of_file}
use Rattle.teams_run.proofs.running.due_for.Goals as goal

pub returns-else-eq-2-clause-due : goal.returns-else-eq-2-clause-due
returns-else-eq-2-clause-due g c =
    let plan = c.args.plan.now in
    let wanted : WantsModel plan = search rules in
    IfOk-weaker c.file_due.result _ _ (λ due is. text_of_file plan (g.D.Shelf.holds c.args.shelf.now) due.status due.text.items wanted is) c.file_due.ensures.due
