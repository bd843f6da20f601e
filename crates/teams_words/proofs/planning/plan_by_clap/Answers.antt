use Rattle.std.proofs.Common.{◌∙◌, ℕ, List, ap, sym, map, string_bytes, Bor}
use Rattle.std.proofs.lemmas.Result.{IfOk-weaker}
use Rattle.std.specs.Prelude.{option_and_then, option_map}
use Rattle.clap.specs.Words.{found_of}
use Rattle.teams_words.specs.Plans.{plan_for, chosen_in, Chosen as Choice}
use Rattle.teams_words.specs.Read.{choice}
use Rattle.teams_words.proofs.Planned.{same_choice}
use Rattle.teams_words.proofs.planning.plan_by_clap.Goals as goal

pub returns-clause-found : goal.returns-clause-found
returns-clause-found c =
    let k : Choice = choice (record {
      action = c.in-Some-Some.action;
      model = c.in-Some-Some.model;
      cert = c.get_str-in-Some-Some.result;
      workers = c.get_str-in-Some-Some-2.result;
      groups = c.get_str-in-Some-Some-3.result;
      mode = c.get_str-in-Some-Some-4.result;
      log = c.get_str-in-Some-Some-5.result;
    }) in
    let same = same_choice (chosen_in (map string_bytes c.args.words.now)) (found_of c.in-Ok.matches) k c.requires c.in-Ok.ensures.found
    (sym c.get_str.ensures ∙ ap (option_map (λ (s : Bor (List ℕ)). s.now)) c.in-Some-Some.is-0)
    (sym c.get_str-2.ensures ∙ ap (option_map (λ (s : Bor (List ℕ)). s.now)) c.in-Some-Some.is-1)
    (sym c.get_str-in-Some-Some.ensures) (sym c.get_str-in-Some-Some-2.ensures) (sym c.get_str-in-Some-Some-3.ensures) (sym c.get_str-in-Some-Some-4.ensures) (sym c.get_str-in-Some-Some-5.ensures) in
    IfOk-weaker c.plan_for.result _ _ (λ plan is. ap (option_and_then plan_for) same ∙ is) c.plan_for.ensures.found

pub returns-clause-usage : goal.returns-clause-usage
returns-clause-usage c = λ usage.
    let k : Choice = choice (record {
      action = c.in-Some-Some.action;
      model = c.in-Some-Some.model;
      cert = c.get_str-in-Some-Some.result;
      workers = c.get_str-in-Some-Some-2.result;
      groups = c.get_str-in-Some-Some-3.result;
      mode = c.get_str-in-Some-Some-4.result;
      log = c.get_str-in-Some-Some-5.result;
    }) in
    let same = same_choice (chosen_in (map string_bytes c.args.words.now)) (found_of c.in-Ok.matches) k c.requires c.in-Ok.ensures.found
    (sym c.get_str.ensures ∙ ap (option_map (λ (s : Bor (List ℕ)). s.now)) c.in-Some-Some.is-0)
    (sym c.get_str-2.ensures ∙ ap (option_map (λ (s : Bor (List ℕ)). s.now)) c.in-Some-Some.is-1)
    (sym c.get_str-in-Some-Some.ensures) (sym c.get_str-in-Some-Some-2.ensures) (sym c.get_str-in-Some-Some-3.ensures) (sym c.get_str-in-Some-Some-4.ensures) (sym c.get_str-in-Some-Some-5.ensures) in
    ap (option_and_then plan_for) same ∙ c.plan_for.ensures.usage usage
