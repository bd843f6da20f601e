-- Consistent sets by causes. A table knows which faults no passed test detects (they are clear) and which tests failed. A set is
-- consistent exactly where its faults are clear and each failed test detects one of them, and that can be decided. So a
-- consistent set can be shrunk, fault by fault, to a minimal one.
use Rattle.std.proofs.Common.{◌≡◌, ℕ, zero, suc, ◌<◌, ◌⊎◌, inl, inr, subst, refl, sym, ap, ◌∙◌, arith, List, length, get_or}
use Rattle.std.specs.Prelude.{Bool, true, false, ◌&&◌, not, nat_eq, All, Contains}
use Rattle.std.specs.Bool.{MatchBool}
use Rattle.std.proofs.lemmas.Bool.{cases_Bool, cases_lt, cases_eq, both_ways, and_parts, and_cases, and_from, eqb-true, eqb-false, eq-eqb, ne_eqb, not-true, not-false, not_from_false, not_from_true, MatchBool-at_true, MatchBool-at_false, true≢false}
use Rattle.sig_reason.specs.declared.found.Finding.{Finding}
use Rattle.sig_reason.specs.FaultSets.{Case, FaultSet, DetectsOneOf, AgreesWith, IsConsistent, IsProperSubset, IsMinimal, IsCleared}
use Rattle.std.proofs.lemmas.List.Elements.{Contains-get_or}
use Rattle.sig_reason.proofs.Searching.{one_below, true_below}

-- what passed and failed tests say: which faults are clear, and which tests below a bound failed
pub record IsTable (c : Case) (tests : ℕ) (clear failed : ℕ → Bool) : Type 0 where
  pub clear_yes : (f : ℕ) → f < c.faults → clear f ≡ true → (x : Finding) → Contains c.findings x → x.failed ≡ false → c.detects f x.test ≡ false
  pub clear_no : (f : ℕ) → f < c.faults → clear f ≡ false → IsCleared c f
  pub failed_yes : (t : ℕ) → t < tests → failed t ≡ true → Contains c.findings (record { test = t; failed = true })
  pub failed_no : (x : Finding) → Contains c.findings x → x.failed ≡ true → (x.test < tests) × (failed x.test ≡ true)

-- the faults are clear, and each failed test detects one
pub record Explains (c : Case) (tests : ℕ) (clear failed : ℕ → Bool) (set : FaultSet) : Type 0 where
  pub within : (f : ℕ) → f < c.faults → set f ≡ true → clear f ≡ true
  pub hits : (t : ℕ) → t < tests → failed t ≡ true → DetectsOneOf c set t

-- each finding agrees with a consistent set
agrees : (c : Case) (set : FaultSet) → IsConsistent c set → (x : Finding) → Contains c.findings x → AgreesWith c set x
agrees c set all x has = subst (AgreesWith c set) has.2 (all has.0 x has.1)

pub explains-from : (c : Case) (tests : ℕ) (clear failed : ℕ → Bool) → IsTable c tests clear failed → (set : FaultSet) → IsConsistent c set → Explains c tests clear failed set
explains-from c tests clear failed table set all = record {
  within = λ f lt there. elim (cases_Bool (clear f)) [
    | inl is_so ↦ is_so
    | inr isnt ↦ (let x = table.clear_no f lt isnt in absurd (MatchBool-at_false (DetectsOneOf c set (x.0).test) (¬ DetectsOneOf c set (x.0).test) x.2 (agrees c set all x.0 x.1) (f, lt, there, x.3)))
  ];
  hits = λ t lt bad. agrees c set all (record { test = t; failed = true }) (table.failed_yes t lt bad);
}

pub consistent-from : (c : Case) (tests : ℕ) (clear failed : ℕ → Bool) → IsTable c tests clear failed → (set : FaultSet) → Explains c tests clear failed set → IsConsistent c set
consistent-from c tests clear failed table set e = λ k d lt. one (get_or c.findings k d) (Contains-get_or c.findings k d lt) (cases_Bool (get_or c.findings k d).failed)
  where
    one : (x : Finding) → Contains c.findings x → (x.failed ≡ true) ⊎ (x.failed ≡ false) → AgreesWith c set x
    one x has (inl bad) = let r = table.failed_no x has bad in subst (λ b. MatchBool b (DetectsOneOf c set x.test) (¬ DetectsOneOf c set x.test)) (sym bad) (e.hits x.test r.0 r.1)
    one x has (inr good) = subst (λ b. MatchBool b (DetectsOneOf c set x.test) (¬ DetectsOneOf c set x.test)) (sym good)
        (λ d. both_ways (c.detects d.0 x.test) (table.clear_yes d.0 d.1 (e.within d.0 d.1 d.2) x has good) d.3)

-- no fault of the set is detected by the test
abbrev pub IsMissed : Case → FaultSet → ℕ → Type 0
IsMissed c set t = (f : ℕ) → f < c.faults → (set f && c.detects f t) ≡ false

-- a failed test misses the set, or each one detects a fault of it
pub missed-or_hit : (c : Case) (tests : ℕ) (failed : ℕ → Bool) (set : FaultSet) → ((t : ℕ) × (t < tests) × ((failed t ≡ true) × IsMissed c set t)) ⊎ ((t : ℕ) → t < tests → failed t ≡ true → DetectsOneOf c set t)
missed-or_hit c tests failed set = one_below (λ t. (failed t ≡ true) × IsMissed c set t) (λ t. failed t ≡ true → DetectsOneOf c set t) at tests
  where
    at : (t : ℕ) → ((failed t ≡ true) × IsMissed c set t) ⊎ (failed t ≡ true → DetectsOneOf c set t)
    at t = elim (cases_Bool (failed t)) [
      | inr isnt ↦ inr (λ is_so. absurd (both_ways (failed t) isnt is_so))
      | inl is_so ↦ elim (true_below (λ f. set f && c.detects f t) c.faults) [
        | inl x ↦ inr (λ y. let p = and_parts (set x.0) (c.detects x.0 t) x.2 in (x.0, x.1, p.0, p.1))
        | inr none ↦ inl (is_so, none)
      ]
    ]

-- what misses a set doesn't detect one of it
missed-not : (c : Case) (set : FaultSet) (t : ℕ) → IsMissed c set t → DetectsOneOf c set t → ⊥
missed-not c set t missed d = both_ways (set d.0 && c.detects d.0 t) (missed d.0 d.1) (and_from (set d.0) (c.detects d.0 t) d.2 d.3)

-- a set between two that explain the findings explains them too
pub explains-between : (c : Case) (tests : ℕ) (clear failed : ℕ → Bool) (small middle large : FaultSet) → Explains c tests clear failed small → Explains c tests clear failed large
    → ((f : ℕ) → f < c.faults → small f ≡ true → middle f ≡ true) → ((f : ℕ) → f < c.faults → middle f ≡ true → large f ≡ true) → Explains c tests clear failed middle
explains-between c tests clear failed small middle large es el up down = record {
  within = λ f lt y. el.within f lt (down f lt y);
  hits = λ t lt bad. let d = es.hits t lt bad in (d.0, d.1, up d.0 d.1 d.2, d.3);
}

-- the set without one fault
abbrev pub without : FaultSet → ℕ → FaultSet
without set k = λ f. set f && not (nat_eq f k)

pub without-in : (set : FaultSet) (k f : ℕ) → without set k f ≡ true → set f ≡ true
without-in set k f y = (and_parts (set f) (not (nat_eq f k)) y).0

pub without-self : (set : FaultSet) (k : ℕ) → without set k k ≡ false
without-self set k = elim (cases_Bool (without set k k)) [
  | inl y ↦ absurd (both_ways (nat_eq k k) (not-true (nat_eq k k) (and_parts (set k) (not (nat_eq k k)) y).1) (eq-eqb k k refl))
  | inr n ↦ n
]

pub without-other : (set : FaultSet) (k f : ℕ) → set f ≡ true → (f ≡ k → ⊥) → without set k f ≡ true
without-other set k f y ne = and_from (set f) (not (nat_eq f k)) y (not_from_false (nat_eq f k) (ne_eqb f k ne))

-- a set that explains the findings, within which none of the first k faults can be left out
pub record Shrunk (c : Case) (tests : ℕ) (clear failed : ℕ → Bool) (set : FaultSet) (k : ℕ) : Type 0 where
  pub part : FaultSet
  pub explains : Explains c tests clear failed part
  pub within : (f : ℕ) → part f ≡ true → set f ≡ true
  pub needed : (j : ℕ) → j < k → part j ≡ true → ¬ Explains c tests clear failed (without part j)

shrink : (c : Case) (tests : ℕ) (clear failed : ℕ → Bool) (set : FaultSet) → Explains c tests clear failed set → (k : ℕ) → Shrunk c tests clear failed set k
shrink c tests clear failed set e zero = record { part = set; explains = e; within = λ f y. y; needed = λ j lt y. absurd (let bad : ⊥ = omega arith in bad) }
shrink c tests clear failed set e (suc k) = next (shrink c tests clear failed set e k)
  where
    next : Shrunk c tests clear failed set k → Shrunk c tests clear failed set (suc k)
    next s = split (cases_Bool (s.part k)) (missed-or_hit c tests failed (without s.part k))
      where
        stays : (s.part k ≡ true → ¬ Explains c tests clear failed (without s.part k)) → Shrunk c tests clear failed set (suc k)
        stays last = record {
          part = s.part;
          explains = s.explains;
          within = s.within;
          needed = λ j lt y. elim (cases_lt j k) [
            | inl below ↦ s.needed j below y
            | inr past ↦ (let same : k ≡ j = omega arith in subst (λ i. s.part i ≡ true → ¬ Explains c tests clear failed (without s.part i)) same last y)
          ];
        }

        split : (s.part k ≡ true) ⊎ (s.part k ≡ false) → ((t : ℕ) × (t < tests) × ((failed t ≡ true) × IsMissed c (without s.part k) t)) ⊎ ((t : ℕ) → t < tests → failed t ≡ true → DetectsOneOf c (without s.part k) t) → Shrunk c tests clear failed set (suc k)
        split (inr out) found = stays (λ y. absurd (both_ways (s.part k) out y))
        split (inl in_it) (inl x) = stays (λ y e2. missed-not c (without s.part k) x.0 x.2.1 (e2.hits x.0 x.1 x.2.0))
        split (inl in_it) (inr all) = record {
          part = without s.part k;
          explains = record { within = λ f lt y. (s.explains).within f lt (without-in s.part k f y); hits = all };
          within = λ f y. s.within f (without-in s.part k f y);
          needed = λ j lt y e2. elim (cases_lt j k) [
            | inl below ↦ s.needed j below (without-in s.part k j y) (explains-between c tests clear failed (without (without s.part k) j) (without s.part j) s.part e2 s.explains
                (λ f flt z. let p = and_parts (without s.part k f) (not (nat_eq f j)) z in and_from (s.part f) (not (nat_eq f j)) (without-in s.part k f p.0) p.1)
                (λ f flt z. without-in s.part j f z))
            | inr past ↦ (let same : j ≡ k = omega arith in both_ways (without s.part k k) (without-self s.part k) (subst (λ i. without s.part k i ≡ true) same y))
          ];
        }

-- a set that explains the findings has a minimal one within it
pub minimal-within : (c : Case) (tests : ℕ) (clear failed : ℕ → Bool) → IsTable c tests clear failed → (set : FaultSet) → Explains c tests clear failed set → (m : FaultSet) × IsMinimal c m × ((f : ℕ) → m f ≡ true → set f ≡ true)
minimal-within c tests clear failed table set e = (s.part, record { consistent = consistent-from c tests clear failed table s.part s.explains; none_within = none }, s.within)
  where
    s : Shrunk c tests clear failed set c.faults
    s = shrink c tests clear failed set e c.faults

    none : (other : FaultSet) → IsProperSubset c other s.part → ¬ IsConsistent c other
    none other proper all =
        let b = proper.beside in
        s.needed b.0 b.1 b.2 (explains-between c tests clear failed other (without s.part b.0) s.part (explains-from c tests clear failed table other all) s.explains
        (λ f lt y. without-other s.part b.0 f (proper.within f lt y) (λ same. both_ways (other b.0) b.3 (subst (λ i. other i ≡ true) same y)))
        (λ f lt y. without-in s.part b.0 f y))
