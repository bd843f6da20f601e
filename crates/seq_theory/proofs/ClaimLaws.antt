-- Where a certificate's claims hold against each other, each is at most the least cost of its group.
use Rattle.std.proofs.Common.{ap, ◌∙◌, ◌≡◌, ℕ, zero, suc, ◌<◌, ◌≤◌, max, List, [], ◌∷◌, length, refl, sym, arith, ◌⊎◌, inl, inr, subst, Option, Some, None}
use Rattle.std.specs.Prelude.{Bool, true, false, map, cond}
use Rattle.std.proofs.lemmas.Bool.{cases_Bool}
use Rattle.seq_theory.specs.Problem.{Problem, IsWithin, IsWeighed, AreTold, splitting, is_end, least_of}
use Rattle.seq_theory.specs.Bound.{bound, step_sum}
use Rattle.seq_theory.specs.Graph.{same_group}
use Rattle.seq_theory.specs.Claims.{Claim, IsClaim, claim_of, claimed, ClaimsHold, low_claims}
use Rattle.seq_theory.proofs.LeastLaws.{least}
use Rattle.seq_theory.proofs.GreedyLaws.{bound-le-least, least_of-steps-le}
use Rattle.std.specs.Prelude.{◌||◌, unwrap_or}
use Rattle.seq_theory.specs.Problem.{pass_part, fail_part}
use Rattle.seq_theory.specs.Graph.{is_entered, low}
use Rattle.seq_theory.proofs.PartsRecursion.{map-agree}
use Rattle.seq_theory.proofs.LowLaws.{low-end, low-entered, low-other}
use Rattle.seq_theory.proofs.RowLaws.{same_group-true, same_group-refl, or-left, or-right}

record ClaimOf (claims : List Claim) (group : List ℕ) (n : ℕ) : Type 0 where
  pub claim : Claim
  pub among : IsClaim claim claims
  pub same : group ≡ claim.group
  pub low : claim.low ≡ n

claim_of-found : (claims : List Claim) (group : List ℕ) (n : ℕ) → claim_of claims group ≡ Some n → ClaimOf claims group n
claim_of-found [] group n e = absurd (let bad : ⊥ = cc in bad)
claim_of-found (c ∷ rest) group n e = go (same_group group c.group) refl e (claim_of-found rest group n)
  where
    go : (b : Bool) → same_group group c.group ≡ b → cond b (Some c.low) (claim_of rest group) ≡ Some n → (claim_of rest group ≡ Some n → ClaimOf rest group n) → ClaimOf (c ∷ rest) group n
    go true y e later = record { claim = c; among = inl refl; same = same_group-true group c.group y; low = let is : c.low ≡ n = cc in is }
    go false other e later = let f = later e in record { claim = f.claim; among = inr f.among; same = f.same; low = f.low }

cases_claim : (o : Option ℕ) → (o ≡ None) ⊎ ((n : ℕ) × (o ≡ Some n))
cases_claim None = inl refl
cases_claim (Some n) = inr (n, refl)

module _ (p : Problem) (claims : List Claim) (hold : ClaimsHold p claims) where
  claimed-step : (group : List ℕ) → IsWeighed p → AreTold p → IsWithin p group → ((part : List ℕ) → length part < length group → IsWithin p part → claimed p claims part ≤ least p part) → claimed p claims group ≤ least p group
  claimed-step group w told within below = elim (cases_Bool (is_end p group)) [
    | inl e ↦ rw e (omega arith)
    | inr e ↦ rw e (elim (cases_claim (claim_of claims group)) [
      | inl none ↦ rw none (bound-le-least p group w told within)
      | inr found ↦ rw (found.1)
          (let f = claim_of-found claims group found.0 found.1 in
          let h = hold f.claim f.among in
          let h2 : (f.claim).low ≤ max (bound p group) (least_of (map (step_sum p (claimed p claims) group) (splitting p group))) =
          subst (λ g. (f.claim).low ≤ max (bound p g) (least_of (map (step_sum p (claimed p claims) g) (splitting p g)))) (sym f.same) h in
          let b = bound-le-least p group w told within in
          let s : least_of (map (step_sum p (claimed p claims) group) (splitting p group)) ≤ least p group = least_of-steps-le p (claimed p claims) group told within e below in
          let l = f.low in
          omega arith)
    ])
  ]

  claimed-to : (n : ℕ) (group : List ℕ) → length group ≤ n → IsWeighed p → AreTold p → IsWithin p group → claimed p claims group ≤ least p group
  claimed-to zero group le w told within = claimed-step group w told within (λ part lt wp. absurd (let h : ⊥ = omega arith in h))
  claimed-to (suc n) group le w told within = claimed-step group w told within (λ part lt wp. claimed-to n part (omega arith) w told wp)

  pub claimed-le-least : (group : List ℕ) → IsWeighed p → AreTold p → IsWithin p group → claimed p claims group ≤ least p group
  claimed-le-least group = claimed-to (length group) group (omega arith)

-- ---- a certificate of lows holds ----

claim_of-lows : (p : Problem) (entered listed : List (List ℕ)) (group : List ℕ) → claim_of (low_claims p entered listed) group ≡ cond (is_entered listed group) (Some (low p entered group)) None
claim_of-lows p entered [] group = refl
claim_of-lows p entered (g ∷ rest) group = go (same_group group g) refl (claim_of-lows p entered rest group)
  where
    go : (b : Bool) → same_group group g ≡ b → claim_of (low_claims p entered rest) group ≡ cond (is_entered rest group) (Some (low p entered group)) None → cond b (Some (low p entered g)) (claim_of (low_claims p entered rest) group) ≡ cond (b || is_entered rest group) (Some (low p entered group)) None
    go true y later = ap (λ x. Some (low p entered x)) (sym (same_group-true group g y))
    go false other later = later

-- what each group counts is then its low
claimed-low : (p : Problem) (entered listed : List (List ℕ)) → ((g : List ℕ) → is_entered listed g ≡ is_entered entered g) → (group : List ℕ) → claimed p (low_claims p entered listed) group ≡ low p entered group
claimed-low p entered listed same group = elim (cases_Bool (is_end p group)) [
  | inl e ↦ rw e (sym (low-end p entered group e))
  | inr e ↦ rw e (elim (cases_Bool (is_entered entered group)) [
    | inl i ↦ ap (λ o. unwrap_or o (bound p group)) (claim_of-lows p entered listed group ∙ ap (λ b. cond b (Some (low p entered group)) None) (same group ∙ i))
    | inr i ↦ ap (λ o. unwrap_or o (bound p group)) (claim_of-lows p entered listed group ∙ ap (λ b. cond b (Some (low p entered group)) None) (same group ∙ i)) ∙ sym (low-other p entered group e i)
  ])
]

record IsLowClaim (p : Problem) (entered listed : List (List ℕ)) (c : Claim) : Type 0 where
  pub listed_group : is_entered listed c.group ≡ true
  pub low_is : c.low ≡ low p entered c.group

low_claim : (p : Problem) (entered listed : List (List ℕ)) (c : Claim) → IsClaim c (low_claims p entered listed) → IsLowClaim p entered listed c
low_claim p entered [] c i = absurd i
low_claim p entered (g ∷ rest) c (inl e) = subst (IsLowClaim p entered (g ∷ rest)) e (record { listed_group = entered-first g rest; low_is = refl })
  where
    entered-first : (g : List ℕ) (rest : List (List ℕ)) → is_entered (g ∷ rest) g ≡ true
    entered-first g rest = or-left _ _ (same_group-refl g)
low_claim p entered (g ∷ rest) c (inr i) = let r = low_claim p entered rest c i in record { listed_group = or-right (same_group c.group g) _ r.listed_group; low_is = r.low_is }

-- the lows of all entered groups, in any order, hold against each other
pub low_claims-hold : (p : Problem) (entered listed : List (List ℕ)) → ((g : List ℕ) → is_entered listed g ≡ is_entered entered g) → ((g : List ℕ) → is_entered entered g ≡ true → is_end p g ≡ false) → ClaimsHold p (low_claims p entered listed)
low_claims-hold p entered listed same real c i =
    let k = low_claim p entered listed c i in
    let e = sym (same c.group) ∙ k.listed_group in
    let f = low-entered p entered c.group (real c.group e) e in
    let m = map-agree (step_sum p (claimed p (low_claims p entered listed)) c.group) (step_sum p (low p entered) c.group) (splitting p c.group) (λ t it.
    let a = claimed-low p entered listed same (pass_part p t c.group) in
    let b = claimed-low p entered listed same (fail_part p t c.group) in
    omega arith) in
    let m2 = ap least_of m in
    let l = k.low_is in
    omega arith
