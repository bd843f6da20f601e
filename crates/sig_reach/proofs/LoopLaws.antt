-- A node lies on a loop exactly where one of its sources is in its component.
use Rattle.std.proofs.Common.{◌≡◌, ℕ, ◌+◌, ◌<◌, List, [], ◌∷◌, ◌++◌, length, get_or, arith, ◌∙◌, sym, ap, inl, inr, subst, length-append}
use Rattle.std.specs.Prelude.{Bool, true, false, ◌↔◌, IsTrue}
use Rattle.std.proofs.lemmas.Bool.{cases_lt}
use Rattle.std.proofs.lemmas.List.{get_or_past, get_or-replicate}
use Rattle.sig_reach.specs.Walks.{seed, along, here, step}
use Rattle.sig_reach.specs.Marks.{sources_at, IsSource, AreThere, is_marked, GoesBack, LeadsTo, all_open}
use Rattle.sig_reach.specs.Components.{LeadsOn, AreComponents, HasNumbered}
use Rattle.sig_reach.proofs.WalkLaws.{Leads-more}
use Rattle.sig_reach.proofs.StageLaws.{Leads-one}
use Rattle.sig_reach.proofs.ReachLaws.{push-cases}

module _ (sources : List (List ℕ)) where
  -- what has a source is there, and may be gone through
  goes-through : (a b : ℕ) → IsSource sources a b → GoesBack sources (all_open sources) a b
  goes-through a b i = elim (cases_lt a (length sources)) [
    | inl lt ↦ (get_or-replicate (length sources) a true false lt, i)
    | inr ge ↦
        (let none : sources_at sources a ≡ [] = get_or_past sources a [] ge in
        let long : length (sources_at sources a) ≡ 0 = ap length none in
        let lt = i.1 in
        absurd (let f : ⊥ = omega arith in f))
  ]

  from-reached : (v x : ℕ) → LeadsTo sources (all_open sources) v x → (w : ℕ) × IsSource sources v w × LeadsOn sources w x
  from-reached v x (seed i) = (x, i, here)
  from-reached v x (along {u = u} r g) = let l = from-reached v u r in (l.0, l.1, Leads-more (IsSource sources) l.0 u x l.2 g.1)

  to-reached : (v w x : ℕ) → LeadsTo sources (all_open sources) v w → LeadsOn sources w x → LeadsTo sources (all_open sources) v x
  to-reached v w x r here = r
  to-reached v w x r (step {b = u} i rest) = to-reached v u x (along r (goes-through w u i)) rest

  pub loop-numbers : (numbers : List ℕ) (v : ℕ) → AreThere sources → AreComponents sources numbers → v < length sources → HasNumbered (sources_at sources v) numbers (get_or numbers v 0) ↔ LeadsTo sources (all_open sources) v v
  loop-numbers numbers v there h lt = (
    (λ (w, i, e). to-reached v w v (seed i) ((h.same w v (there v w i) lt).0 e).0),
    (λ r. let l = from-reached v v r in (l.0, l.1, (h.same l.0 v (there v l.0 l.1) lt).1 (l.2, Leads-one (IsSource sources) v l.0 l.1))),
  )

-- of marks with one more at their end
pub marks-more : (P : ℕ → Type 0) (marks marks' : List Bool) (b : Bool) (n : ℕ) → marks' ≡ marks ++ b ∷ [] → length marks ≡ n → IsTrue b ↔ P n → ((v : ℕ) → v < n → (is_marked marks v ≡ true) ↔ P v) → (length marks' ≡ n + 1) × ((v : ℕ) → v < n + 1 → (is_marked marks' v ≡ true) ↔ P v)
marks-more P marks marks' b n push len this h = (
  let l = ap length push ∙ length-append marks (b ∷ []) in omega arith,
  λ v lt. subst (λ l. (is_marked l v ≡ true) ↔ P v) (sym push) (at v lt),
)
  where
    at : (v : ℕ) → v < n + 1 → (is_marked (marks ++ b ∷ []) v ≡ true) ↔ P v
    at v lt = elim (push-cases marks b false n v len lt) [
      | inl (below, e) ↦ (let r = h v below in ((λ m. r.0 (sym e ∙ m)), (λ p. e ∙ r.1 p)))
      | inr (same, e) ↦ ((λ m. subst P same (this.0 (sym e ∙ m))), (λ p. e ∙ this.1 (subst P (sym same) p)))
    ]
