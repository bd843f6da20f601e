-- The two rules that need no sets, against the definition over all sets.
--
-- A cause of a failed test is a clear fault that the test detects. Where each failed test has a cause, the set of all clear faults is
-- consistent. A fault is then in every consistent set exactly where it is the only cause of a failed test: without one, the other clear
-- faults are consistent. And it is in a minimal set exactly where it is a cause of a failed test, and of each failed test whose
-- causes are all among that test's: the clear faults without that test's other causes are then consistent, and within them a minimal set keeps
-- the fault; the other way, a minimal set needs the fault for some test, of which it has no other cause.
use Rattle.std.proofs.Common.{◌≡◌, ℕ, ◌<◌, ◌⊎◌, inl, inr, subst, refl, sym, arith}
use Rattle.std.specs.Prelude.{Bool, true, false, ◌&&◌, ◌||◌, not, nat_eq, Contains}
use Rattle.std.proofs.lemmas.Bool.{cases_Bool, cases_eq, both_ways, and_parts, and_cases, and_from, eqb-true, eq-eqb, or_cases, or_left, or_right, not-true, not_from_false, not_from_true}
use Rattle.sig_reason.specs.FaultSets.{Case, FaultSet, DetectsOneOf, IsConsistent, IsProperSubset, IsMinimal, IsInNone, IsInEvery, IsInSomeMinimal, IsPossible}
use Rattle.sig_reason.proofs.Searching.{true_below}
use Rattle.sig_reason.proofs.Tables.{IsTable, Explains, IsMissed, explains-from, consistent-from, missed-or_hit, without, without-in, without-self, without-other, minimal-within}

-- the fault is a cause of the test
abbrev pub is_cause : Case → (ℕ → Bool) → ℕ → ℕ → Bool
is_cause c clear f t = clear f && c.detects f t

-- each failed test has a cause
abbrev pub AllHaveCauses : Case → ℕ → (ℕ → Bool) → (ℕ → Bool) → Type 0
AllHaveCauses c tests clear failed = (t : ℕ) → t < tests → failed t ≡ true → (f : ℕ) × (f < c.faults) × (is_cause c clear f t ≡ true)

-- the fault is the only cause of the test
abbrev pub IsOnlyCause : Case → (ℕ → Bool) → ℕ → ℕ → Type 0
IsOnlyCause c clear f t = (is_cause c clear f t ≡ true) × ((g : ℕ) → g < c.faults → is_cause c clear g t ≡ true → g ≡ f)

-- another fault is a cause of the test
abbrev pub HasOtherCause : Case → (ℕ → Bool) → ℕ → ℕ → Type 0
HasOtherCause c clear f t = (g : ℕ) × (g < c.faults) × (is_cause c clear g t ≡ true) × (g ≡ f → ⊥)

-- each cause of the one test is a cause of the other
abbrev pub CausesAreAmong : Case → (ℕ → Bool) → ℕ → ℕ → Type 0
CausesAreAmong c clear u t = (g : ℕ) → g < c.faults → is_cause c clear g u ≡ true → is_cause c clear g t ≡ true

-- the fault is a cause of the test, and of each failed test whose causes are among the test's
abbrev pub IsNeededFor : Case → ℕ → (ℕ → Bool) → (ℕ → Bool) → ℕ → ℕ → Type 0
IsNeededFor c tests clear failed f t = (is_cause c clear f t ≡ true) × ((u : ℕ) → u < tests → failed u ≡ true → CausesAreAmong c clear u t → is_cause c clear f u ≡ true)

-- the fault isn't a cause of the test, or not of some failed test whose causes are among the test's
abbrev pub IsSparedFor : Case → ℕ → (ℕ → Bool) → (ℕ → Bool) → ℕ → ℕ → Type 0
IsSparedFor c tests clear failed f t = (u : ℕ) × (u < tests) × (failed u ≡ true) × CausesAreAmong c clear u t × (is_cause c clear f u ≡ false)

-- all clear faults explain the findings
all-clear : (c : Case) (tests : ℕ) (clear failed : ℕ → Bool) → AllHaveCauses c tests clear failed → Explains c tests clear failed clear
all-clear c tests clear failed have = record {
  within = λ f lt y. y;
  hits = λ t lt bad. let x = have t lt bad in let p = and_parts (clear x.0) (c.detects x.0 t) x.2 in (x.0, x.1, p.0, p.1);
}

pub is-possible : (c : Case) (tests : ℕ) (clear failed : ℕ → Bool) → IsTable c tests clear failed → AllHaveCauses c tests clear failed → IsPossible c
is-possible c tests clear failed table have = (clear, consistent-from c tests clear failed table clear (all-clear c tests clear failed have))

-- a fault that a passed test detects is in no consistent set
pub cleared-in_none : (c : Case) (tests : ℕ) (clear failed : ℕ → Bool) → IsTable c tests clear failed → (f : ℕ) → f < c.faults → clear f ≡ false → IsInNone c f
cleared-in_none c tests clear failed table f lt out set all = elim (cases_Bool (set f)) [
  | inl there ↦ absurd (both_ways (clear f) out ((explains-from c tests clear failed table set all).within f lt there))
  | inr away ↦ away
]

-- and each other one is in the set of all clear faults
pub clear-in_some : (c : Case) (tests : ℕ) (clear failed : ℕ → Bool) → IsTable c tests clear failed → AllHaveCauses c tests clear failed → (f : ℕ) → clear f ≡ true → ¬ IsInNone c f
clear-in_some c tests clear failed table have f y none = both_ways (clear f) (none clear (consistent-from c tests clear failed table clear (all-clear c tests clear failed have))) y

-- the only cause of a failed test is in every consistent set
pub only-in_every : (c : Case) (tests : ℕ) (clear failed : ℕ → Bool) → IsTable c tests clear failed → (f t : ℕ) → t < tests → failed t ≡ true → IsOnlyCause c clear f t → IsInEvery c f
only-in_every c tests clear failed table f t lt bad only set all =
    let e = explains-from c tests clear failed table set all in
    let d = e.hits t lt bad in
    let same = only.1 d.0 d.1 (and_from (clear d.0) (c.detects d.0 t) (e.within d.0 d.1 d.2) d.3) in
    subst (λ g. set g ≡ true) same d.2

-- where each failed test has another cause, the other clear faults are consistent
pub other-in_every : (c : Case) (tests : ℕ) (clear failed : ℕ → Bool) → IsTable c tests clear failed → (f : ℕ) → ((t : ℕ) → t < tests → failed t ≡ true → HasOtherCause c clear f t) → ¬ IsInEvery c f
other-in_every c tests clear failed table f others every = both_ways (without clear f f) (without-self clear f) (every (without clear f) (consistent-from c tests clear failed table (without clear f) rest))
  where
    rest : Explains c tests clear failed (without clear f)
    rest = record {
      within = λ g lt y. without-in clear f g y;
      hits = λ t lt bad. let x = others t lt bad in let p = and_parts (clear x.0) (c.detects x.0 t) x.2 in (x.0, x.1, without-other clear f x.0 p.0 x.3, p.1);
    }

-- the clear faults, of a test's causes the one alone
abbrev pub sparing : Case → (ℕ → Bool) → ℕ → ℕ → FaultSet
sparing c clear f t = λ g. clear g && (not (c.detects g t) || nat_eq g f)

sparing-is : (c : Case) (clear : ℕ → Bool) (f t g : ℕ) → sparing c clear f t g ≡ true → c.detects g t ≡ true → g ≡ f
sparing-is c clear f t g y d = elim (or_cases (not (c.detects g t)) (nat_eq g f) (and_parts (clear g) (not (c.detects g t) || nat_eq g f) y).1) [
  | inl away ↦ absurd (both_ways (c.detects g t) (not-true (c.detects g t) away) d)
  | inr same ↦ eqb-true g f same
]

-- a fault that is needed for a test is in a minimal set
pub needed-in_minimal : (c : Case) (tests : ℕ) (clear failed : ℕ → Bool) → IsTable c tests clear failed → (f t : ℕ) → f < c.faults → t < tests → failed t ≡ true → IsNeededFor c tests clear failed f t → IsInSomeMinimal c f
needed-in_minimal c tests clear failed table f t flt lt bad needed = (m.0, m.1, has)
  where
    set : FaultSet
    set = sparing c clear f t

    mine : (clear f ≡ true) × (c.detects f t ≡ true)
    mine = and_parts (clear f) (c.detects f t) needed.0

    itself : set f ≡ true
    itself = and_from (clear f) (not (c.detects f t) || nat_eq f f) mine.0 (or_right (not (c.detects f t)) (nat_eq f f) (eq-eqb f f refl))

    hits : (u : ℕ) → u < tests → failed u ≡ true → DetectsOneOf c set u
    hits u ult ubad = elim (true_below (λ g. set g && c.detects g u) c.faults) [
      | inl x ↦ (let p = and_parts (set x.0) (c.detects x.0 u) x.2 in (x.0, x.1, p.0, p.1))
      | inr none ↦ (let mine_too = and_parts (clear f) (c.detects f u) (needed.1 u ult ubad (among u none)) in absurd (both_ways (set f && c.detects f u) (none f flt) (and_from (set f) (c.detects f u) itself mine_too.1)))
    ]
      where
        among : (u : ℕ) → ((g : ℕ) → g < c.faults → (set g && c.detects g u) ≡ false) → CausesAreAmong c clear u t
        among u none g glt y = elim (cases_Bool (c.detects g t)) [
          | inl d ↦ and_from (clear g) (c.detects g t) (and_parts (clear g) (c.detects g u) y).0 d
          | inr away ↦ (let p = and_parts (clear g) (c.detects g u) y in let there : set g ≡ true = and_from (clear g) (not (c.detects g t) || nat_eq g f) p.0 (or_left (not (c.detects g t)) (nat_eq g f) (not_from_false (c.detects g t) away)) in absurd (both_ways (set g && c.detects g u) (none g glt) (and_from (set g) (c.detects g u) there p.1)))
        ]

    m : (m : FaultSet) × IsMinimal c m × ((g : ℕ) → m g ≡ true → set g ≡ true)
    m = minimal-within c tests clear failed table set (record { within = λ g glt y. (and_parts (clear g) (not (c.detects g t) || nat_eq g f) y).0; hits = hits })

    has : m.0 f ≡ true
    has =
        let d = (explains-from c tests clear failed table m.0 (m.1).consistent).hits t lt bad in
        subst (λ g. m.0 g ≡ true) (sparing-is c clear f t d.0 (m.2 d.0 d.2) d.3) d.2

-- a fault that is spared for each test is in no minimal set
pub spared-in_minimal : (c : Case) (tests : ℕ) (clear failed : ℕ → Bool) → IsTable c tests clear failed → (f : ℕ) → f < c.faults → ((t : ℕ) → t < tests → failed t ≡ true → IsSparedFor c tests clear failed f t) → ¬ IsInSomeMinimal c f
spared-in_minimal c tests clear failed table f flt spared x = elim (missed-or_hit c tests failed (without set f)) [
  | inl miss ↦ needs miss.0 miss.1 miss.2.0 miss.2.1
  | inr all ↦ (x.1).none_within (without set f) (record { within = λ g lt y. without-in set f g y; beside = (f, flt, x.2, without-self set f) })
      (consistent-from c tests clear failed table (without set f) (record { within = λ g lt y. whole.within g lt (without-in set f g y); hits = all }))
]
  where
    set : FaultSet
    set = x.0

    whole : Explains c tests clear failed set
    whole = explains-from c tests clear failed table set (x.1).consistent

    needs : (t : ℕ) → t < tests → failed t ≡ true → IsMissed c (without set f) t → ⊥
    needs t lt bad miss =
        let s = spared t lt bad in
        let d = whole.hits s.0 s.1 s.2 in
        let cause = and_from (clear d.0) (c.detects d.0 s.0) (whole.within d.0 d.1 d.2) d.3 in
        let there = and_parts (clear d.0) (c.detects d.0 t) (s.3 d.0 d.1 cause) in
        elim (cases_eq d.0 f) [
          | inl same ↦ both_ways (is_cause c clear f s.0) s.4 (subst (λ g. is_cause c clear g s.0 ≡ true) same cause)
          | inr other ↦ both_ways (without set f d.0 && c.detects d.0 t) (miss d.0 d.1) (and_from (without set f d.0) (c.detects d.0 t) (without-other set f d.0 d.2 other) there.1)
        ]

-- a failed test without a cause leaves no set
pub uncaused-impossible : (c : Case) (tests : ℕ) (clear failed : ℕ → Bool) → IsTable c tests clear failed → (t : ℕ) → t < tests → failed t ≡ true → ((f : ℕ) → f < c.faults → is_cause c clear f t ≡ false) → (set : FaultSet) → ¬ IsConsistent c set
uncaused-impossible c tests clear failed table t lt bad none set all =
    let e = explains-from c tests clear failed table set all in
    let d = e.hits t lt bad in
    both_ways (is_cause c clear d.0 t) (none d.0 d.1) (and_from (clear d.0) (c.detects d.0 t) (e.within d.0 d.1 d.2) d.3)
