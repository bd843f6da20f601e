-- A file that is lacking, or too long, may be the log's: the model is held and accepted, and the log is looked for.
use Rattle.std.proofs.Common.{◌≡◌, ◌≤◌, ℕ, List, [], length, subst, inr}
use Rattle.sig_edge.specs.Shelf.{Holds, HoldsWhole, HoldsNone, HoldsLonger}
use Rattle.teams_words.specs.declared.plan.Plan.{Plan}
use Rattle.teams_words.specs.declared.plan.Action.TheVariants.{Reason}
use Rattle.teams_run.specs.Accepted.{refusals}
use Rattle.teams_run.specs.Texts.{log_limit, log_name}
use Rattle.teams_run.specs.Runs.{HasLongFile, LacksFile, WantsLog, model_limit}

module _ (plan : Plan) (holds after : Holds) (content slice name : List ℕ)
    (held : HoldsWhole holds name content) (model : name ≡ plan.model) (within : length content ≤ model_limit)
    (same : slice ≡ content) (stays : after ≡ holds) where
  wants : plan.action ≡ Reason → refusals slice plan.mode ≡ [] → WantsLog plan holds
  wants action accepted = record {
    action = action;
    content = content;
    held = subst (λ n. HoldsWhole holds n content) model held;
    within = within;
    accepted = subst (λ l. refusals l plan.mode ≡ []) same accepted;
  }

  pub lacks_log : (plan.action ≡ Reason) × (refusals slice plan.mode ≡ []) × HoldsNone after (log_name plan) → LacksFile plan holds
  lacks_log (action, accepted, none) = inr (inr (wants action accepted, subst (λ h. HoldsNone h (log_name plan)) stays none))

  pub long_log : (plan.action ≡ Reason) × (refusals slice plan.mode ≡ []) × HoldsLonger after (log_name plan) log_limit → HasLongFile plan holds
  long_log (action, accepted, longer) = inr (inr (wants action accepted, subst (λ h. HoldsLonger h (log_name plan) log_limit) stays longer))
