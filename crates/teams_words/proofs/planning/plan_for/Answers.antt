use Rattle.std.proofs.Common.{rules, ◌≡◌, true}
use Rattle.std.proofs.lemmas.Result.{IfOk-weaker}
use Rattle.teams_words.specs.Plans.{takes, is_count, most_workers, most_groups}
use Rattle.teams_words.specs.Read.{choice}
use Rattle.teams_words.proofs.Planned.{is_proper}
use Rattle.teams_words.proofs.planning.plan_for.Goals as goal

pub returns-in-Some-Some-clause-proper : goal.returns-in-Some-Some-clause-proper
returns-in-Some-Some-clause-proper c =
    let taken : takes c.in-Some.action (choice c.args.chosen.now) ≡ true = search rules in
    let workers : is_count 0 most_workers (choice c.args.chosen.now).workers ≡ true = search rules in
    let groups : is_count 1 most_groups (choice c.args.chosen.now).groups ≡ true = search rules in
    IfOk-weaker c.plan_with.result _ _ (λ plan is. rw is (is_proper c.in-Some.action (choice c.args.chosen.now) taken workers groups)) c.plan_with.ensures.plan
