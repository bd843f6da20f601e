use Rattle.std.proofs.Common.{◌≡◌, subst}
use Rattle.std.proofs.lemmas.Result.{IfOk-weaker}
use Rattle.teams_run.specs.Asked.{IsAskedOfFile}
use Rattle.teams_run.specs.declared.asking.Asked.TheVariants.{Search}
use Rattle.teams_run.proofs.AskedLaws.{searched}
use Rattle.teams_run.proofs.asking.due_alone.Goals as goal

pub returns-in_ok-outcome-in-Search : goal.returns-in_ok-outcome-in-Search
returns-in_ok-outcome-in-Search c = λ holds asked.
    let plan = c.args.plan.now in
    let is : c.args.asked ≡ Search c.in-Search.accepted c.in-Search.prepared = cc in
    let posed = subst (IsAskedOfFile plan holds) is asked in
    IfOk-weaker c.told.result _ _ (λ due told. searched plan holds c.in-Search.accepted c.in-Search.prepared due.status due.text.items c.requires.action posed told) c.told.ensures
