-- The plan of the words of a command line: tests on the lists that the words give, and a function of them.
use Rattle.std.specs.Prelude.{◌≡◌, ℕ, ◌≤◌, ◌+◌, ◌-◌, ◌*◌, Bool, true, cond, ◌&&◌, not, nat_le, List, [], ◌∷◌, length, codes, Option, Some, None, is_some, IsSome, option_and_then}
use Rattle.std.specs.List.{list_all}
use Rattle.std.specs.Str.{bytes_eq}
use Rattle.std.specs.Char.{is_ascii_digit}
use Rattle.teams_words.specs.declared.plan.Plan.{Plan}
use Rattle.teams_words.specs.declared.plan.Action.{Action}
use Rattle.teams_words.specs.declared.plan.Action.TheVariants.{Solve, Check, Matrix, Figures, Sample, Reason}
use Rattle.teams_words.specs.Words.{Parts, parts_in}

-- the action, MODEL, and the value of each option that is given
pub record Chosen : Type 0 where
  pub action : List ℕ
  pub model : List ℕ
  pub cert : Option (List ℕ)
  pub workers : Option (List ℕ)
  pub groups : Option (List ℕ)
  pub mode : Option (List ℕ)
  pub log : Option (List ℕ)

-- at most one value
abbrev pub is_once : List (List ℕ) → Bool
is_once values = nat_le (length values) 1

abbrev pub first_of : List (List ℕ) → Option (List ℕ)
first_of [] = None
first_of (value ∷ rest) = Some value

-- no option is given twice
abbrev pub are_once : Parts → Bool
are_once p = is_once p.cert && (is_once p.workers && (is_once p.groups && (is_once p.mode && is_once p.log)))

-- the other words are the action and MODEL
abbrev pub chosen_from : List (List ℕ) → Parts → Option Chosen
chosen_from (action ∷ model ∷ []) p = Some (record {
  action = action;
  model = model;
  cert = first_of p.cert;
  workers = first_of p.workers;
  groups = first_of p.groups;
  mode = first_of p.mode;
  log = first_of p.log;
})
chosen_from _ p = None

-- what the lists choose
abbrev pub chosen_of : Parts → Option Chosen
chosen_of p = cond (are_once p) (chosen_from p.others p) None

-- what the words choose
abbrev pub chosen_in : List (List ℕ) → Option Chosen
chosen_in words = option_and_then chosen_of (parts_in words)

-- the action that a word names
abbrev pub action_of : List ℕ → Option Action
action_of word =
    cond (bytes_eq word (codes "solve")) (Some Solve)
    (cond (bytes_eq word (codes "check")) (Some Check)
    (cond (bytes_eq word (codes "matrix")) (Some Matrix)
    (cond (bytes_eq word (codes "figures")) (Some Figures)
    (cond (bytes_eq word (codes "sample")) (Some Sample)
    (cond (bytes_eq word (codes "reason")) (Some Reason) None)))))

-- the value of decimal digits, behind the number n
abbrev pub value_after : ℕ → List ℕ → ℕ
value_after n [] = n
value_after n (digit ∷ rest) = value_after (n * 10 + (digit - 48)) rest

abbrev pub value_of : List ℕ → ℕ
value_of = value_after 0

-- one to five decimal digits, leading zeros allowed, whose value lies between these
abbrev pub is_number : ℕ → ℕ → List ℕ → Bool
is_number low high word =
    (nat_le 1 (length word) && (nat_le (length word) 5 && list_all is_ascii_digit word)) && (nat_le low (value_of word) && nat_le (value_of word) high)

-- the limits of the numbers, and what stands where nothing is said of them
abbrev pub most_workers : ℕ
most_workers = 16

abbrev pub usual_workers : ℕ
usual_workers = 4

abbrev pub most_groups : ℕ
most_groups = 32768

abbrev pub usual_groups : ℕ
usual_groups = 4000

abbrev pub most_parts : ℕ
most_parts = 100

-- an option's number, where it is given, lies between these
abbrev pub is_count : ℕ → ℕ → Option (List ℕ) → Bool
is_count low high None = true
is_count low high (Some word) = is_number low high word

abbrev pub count_or : ℕ → Option (List ℕ) → ℕ
count_or usual None = usual
count_or usual (Some word) = value_of word

-- only `--mode` is given, or nothing
abbrev pub is_mode_alone : Chosen → Bool
is_mode_alone c = not (is_some c.cert) && (not (is_some c.workers) && (not (is_some c.groups) && not (is_some c.log)))

-- the action takes what is chosen: `solve` takes `--workers`, `--groups` and `--mode`, `check` needs `--cert` and takes `--mode`,
-- `matrix` and `figures` take `--mode`, `sample` takes `--groups` and its MODEL is a number of parts, and `reason` needs `--log` and
-- takes `--mode`
abbrev pub takes : Action → Chosen → Bool
takes Solve c = not (is_some c.cert) && not (is_some c.log)
takes Check c = is_some c.cert && (not (is_some c.workers) && (not (is_some c.groups) && not (is_some c.log)))
takes Matrix c = is_mode_alone c
takes Figures c = is_mode_alone c
takes Sample c = is_number 1 most_parts c.model && (not (is_some c.cert) && (not (is_some c.workers) && (not (is_some c.mode) && not (is_some c.log))))
takes Reason c = is_some c.log && (not (is_some c.cert) && (not (is_some c.workers) && not (is_some c.groups)))

-- the numbers of workers and of groups are within their limits
abbrev pub are_counts : Chosen → Bool
are_counts c = is_count 0 most_workers c.workers && is_count 1 most_groups c.groups

abbrev pub plan_with : Action → Chosen → Plan
plan_with action c = record {
  action = action;
  model = c.model;
  cert = c.cert;
  workers = count_or usual_workers c.workers;
  groups = count_or usual_groups c.groups;
  mode = c.mode;
  log = c.log;
}

abbrev pub plan_by : Option Action → Chosen → Option Plan
plan_by None c = None
plan_by (Some action) c = cond (takes action c && are_counts c) (Some (plan_with action c)) None

-- the plan of what is chosen, where the action is known and takes it
abbrev pub plan_for : Chosen → Option Plan
plan_for c = plan_by (action_of c.action) c

-- the plan of the words of a command line
abbrev pub plan_of : List (List ℕ) → Option Plan
plan_of words = option_and_then plan_for (chosen_in words)

-- how many groups a search may enter
abbrev pub IsLimit : ℕ → Type 0
IsLimit groups = (1 ≤ groups) × (groups ≤ most_groups)

-- how many parts a chain has
abbrev pub IsSize : ℕ → Type 0
IsSize parts = (1 ≤ parts) × (parts ≤ most_parts)

-- a plan that words can give: its numbers are within their limits, `check` has a certificate, `sample` has a number of parts,
-- and `reason` has a log
pub record IsProper (plan : Plan) : Type 0 where
  pub workers : plan.workers ≤ most_workers
  pub groups : IsLimit plan.groups
  pub cert : plan.action ≡ Check → IsSome plan.cert
  pub parts : plan.action ≡ Sample → is_number 1 most_parts plan.model ≡ true
  pub log : plan.action ≡ Reason → IsSome plan.log
