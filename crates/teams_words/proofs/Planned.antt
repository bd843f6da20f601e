-- The plan by what clap found, and what holds of each plan.
use Rattle.std.proofs.Common.{◌≡◌, ◌∙◌, ℕ, ◌≤◌, true, List, Option, Some, None, is_some, refl, ap, sym, codes, arith}
use Rattle.std.specs.Prelude.{◌&&◌, nat_le, unwrap_or, IsSome}
use Rattle.std.proofs.lemmas.Bool.{and_parts, leb-true, false≢true}
use Rattle.clap.specs.Words.{first_value}
use Rattle.clap.specs.declared.parser.matches.Found.{Found}
use Rattle.teams_words.specs.declared.plan.Action.{Action}
use Rattle.teams_words.specs.declared.plan.Action.TheVariants.{Solve, Check, Matrix, Figures, Sample, Reason}
use Rattle.teams_words.specs.Plans.{Chosen, IsProper, takes, plan_with, is_count, is_number, count_or, value_of, most_workers, most_groups, most_parts, usual_workers, usual_groups}
use Rattle.teams_words.specs.Read.{Finds}

the_word : (a b : List ℕ) → ◌≡◌ {A = Option (List ℕ)} (Some a) (Some b) → a ≡ b
the_word a b e = ap (λ o. unwrap_or o a) e

-- what the words choose is what clap found
pub same_choice : (o : Option Chosen) (f : Found) (k : Chosen) → is_some o ≡ true → Finds o f
    → first_value f (codes "action") ≡ Some k.action → first_value f (codes "model") ≡ Some k.model → first_value f (codes "cert") ≡ k.cert
    → first_value f (codes "workers") ≡ k.workers → first_value f (codes "groups") ≡ k.groups → first_value f (codes "mode") ≡ k.mode → first_value f (codes "log") ≡ k.log → o ≡ Some k
same_choice None f k there finds a m c w g o l = absurd (false≢true there)
same_choice (Some d) f k there (a', m', c', w', g', o', l') a m c w g o l =
    let action = the_word d.action k.action (sym a' ∙ a) in
    let model = the_word d.model k.model (sym m' ∙ m) in
    let cert = sym c' ∙ c in
    let workers = sym w' ∙ w in
    let groups = sym g' ∙ g in
    let mode = sym o' ∙ o in
    let log = sym l' ∙ l in
    ap Some (rw (action, model, cert, workers, groups, mode, log) refl)

number_within : (low high : ℕ) (word : List ℕ) → is_number low high word ≡ true → (low ≤ value_of word) × (value_of word ≤ high)
number_within low high word h =
    let (form, within) = and_parts _ (nat_le low (value_of word) && nat_le (value_of word) high) h in
    let (above, below) = and_parts (nat_le low (value_of word)) (nat_le (value_of word) high) within in
    (leb-true low (value_of word) above, leb-true (value_of word) high below)

count_within : (low high usual : ℕ) (word : Option (List ℕ)) → low ≤ usual → usual ≤ high → is_count low high word ≡ true → (low ≤ count_or usual word) × (count_or usual word ≤ high)
count_within low high usual None above below h = (above, below)
count_within low high usual (Some word) above below h = number_within low high word h

-- the plan of a choice that its action takes is proper
pub is_proper : (action : Action) (c : Chosen) → takes action c ≡ true → is_count 0 most_workers c.workers ≡ true → is_count 1 most_groups c.groups ≡ true → IsProper (plan_with action c)
is_proper action c takes_it workers groups = record {
  workers = (count_within 0 most_workers usual_workers c.workers (omega arith) (omega arith) workers).1;
  groups = count_within 1 most_groups usual_groups c.groups (omega arith) (omega arith) groups;
  cert = cert_there action takes_it;
  parts = parts_there action takes_it;
  log = log_there action takes_it;
}
  where
    some_there : (o : Option (List ℕ)) → is_some o ≡ true → IsSome o
    some_there None h = absurd (false≢true h)
    some_there (Some x) h = refl

    cert_there : (a : Action) → takes a c ≡ true → a ≡ Check → IsSome c.cert
    cert_there Solve h e = cc
    cert_there Matrix h e = cc
    cert_there Figures h e = cc
    cert_there Sample h e = cc
    cert_there Reason h e = cc
    cert_there Check h e = some_there c.cert ((and_parts (is_some c.cert) _ h).0)

    log_there : (a : Action) → takes a c ≡ true → a ≡ Reason → IsSome c.log
    log_there Solve h e = cc
    log_there Check h e = cc
    log_there Matrix h e = cc
    log_there Figures h e = cc
    log_there Sample h e = cc
    log_there Reason h e = some_there c.log ((and_parts (is_some c.log) _ h).0)

    parts_there : (a : Action) → takes a c ≡ true → a ≡ Sample → is_number 1 most_parts c.model ≡ true
    parts_there Solve h e = cc
    parts_there Matrix h e = cc
    parts_there Figures h e = cc
    parts_there Check h e = cc
    parts_there Reason h e = cc
    parts_there Sample h e = (and_parts (is_number 1 most_parts c.model) _ h).0
