-- A certificate's claims: groups, each with a number that is claimed to be at most its least cost.
use Rattle.std.specs.Prelude.{◌≡◌, ◌⊎◌, ℕ, ◌≤◌, cond, max, List, [], ◌∷◌, map, Option, Some, None, unwrap_or}
use Rattle.seq_theory.specs.Problem.{Problem, splitting, is_end, least_of}
use Rattle.seq_theory.specs.Bound.{bound, step_sum}
use Rattle.seq_theory.specs.Graph.{same_group, low}

pub record Claim : Type 0 where
  pub group : List ℕ
  pub low : ℕ

abbrev pub IsClaim : Claim → List Claim → Type 0
IsClaim c [] = ⊥
IsClaim c (d ∷ rest) = (d ≡ c) ⊎ IsClaim c rest

-- the number in the first claim of a group
abbrev pub claim_of : List Claim → List ℕ → Option ℕ
claim_of [] group = None
claim_of (c ∷ rest) group = cond (same_group group c.group) (Some c.low) (claim_of rest group)

-- what a part counts: 0 for one goal, the claim of a listed group, and the bound of any other
abbrev pub claimed : Problem → List Claim → List ℕ → ℕ
claimed p claims group = cond (is_end p group) 0 (unwrap_or (claim_of claims group) (bound p group))

-- no claim is above the larger of its group's bound and the least sum of one test and what its parts count
abbrev pub ClaimsHold : Problem → List Claim → Type 0
ClaimsHold p claims = (c : Claim) → IsClaim c claims → c.low ≤ max (bound p c.group) (least_of (map (step_sum p (claimed p claims) c.group) (splitting p c.group)))

-- the lows of some groups, as claims
abbrev pub low_claims : Problem → List (List ℕ) → List (List ℕ) → List Claim
low_claims p entered [] = []
low_claims p entered (g ∷ rest) = record { group = g; low = low p entered g } ∷ low_claims p entered rest
