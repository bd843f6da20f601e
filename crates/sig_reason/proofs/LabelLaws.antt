-- What the code gathers, read as causes, and so what it answers: each label by the rules is the label by all sets, and a failed test without a
-- cause is a conflict.
use Rattle.std.proofs.Common.{◌≡◌, ℕ, ◌+◌, ◌<◌, ◌≤◌, List, [], length, get_or, refl, sym, ap, ◌∙◌, subst, arith, inl, inr}
use Rattle.std.specs.Prelude.{Bool, true, false, not, ◌&&◌, Contains}
use Rattle.std.proofs.lemmas.Bool.{cases_Bool, cases_lt, cases_eq, both_ways, and_parts, and_cases, and_from, not-true, not-false, not_from_false}
use Rattle.sig_matrix.specs.declared.matrix.Matrix.{Matrix}
use Rattle.sig_matrix.specs.Detection.{in_row, detects, no_row}
use Rattle.sig_reason.specs.declared.found.Finding.{Finding}
use Rattle.sig_reason.specs.declared.found.Label.{Label}
use Rattle.sig_reason.specs.declared.found.Label.TheVariants.{Good, Bad, Suspect, Unknown}
use Rattle.sig_reason.specs.declared.causes.Standing.{Standing}
use Rattle.sig_reason.specs.declared.rules.Tally.{Tally}
use Rattle.sig_reason.specs.FaultSets.{Case, IsCalled, IsCleared, IsContradicted, IsInEvery, IsInSomeMinimal, IsPossible}
use Rattle.sig_reason.specs.Labelling.{case_of, AreCalled, IsConflict}
use Rattle.sig_reason.specs.Rows.{HasJust, IsEmpty, IsFirst}
use Rattle.sig_reason.specs.Causes.{TellsTests, IsStanding, AreStandings, no_standing, is_cause_in}
use Rattle.sig_reason.specs.Rules.{IsTally, IsWithin, AreWithins, NeedsOne, SparesEach, HasCompany, IsRuled, AreRuled}
use Rattle.sig_reason.proofs.Tables.{IsTable}
use Rattle.sig_reason.proofs.RuleLaws.{is_cause, AllHaveCauses, CausesAreAmong, HasOtherCause, IsNeededFor, IsSparedFor, is-possible, cleared-in_none, clear-in_some, only-in_every, other-in_every, needed-in_minimal, spared-in_minimal, uncaused-impossible}

-- whether no passed test detects the fault
abbrev pub is_clear_in : List Standing → ℕ → Bool
is_clear_in standings f = (get_or standings f no_standing).clear

and-true : (b : Bool) → (b && true) ≡ b
and-true true = refl
and-true false = refl

-- what is gathered before the labels
pub record Gathered (matrix : Matrix) (findings : List Finding) (passed failed : List ℕ) (standings : List Standing) (tally : Tally) : Type 0 where
  pub small : (x : Finding) → Contains findings x → x.test < 256
  pub passes : TellsTests findings false passed
  pub fails : TellsTests findings true failed
  pub standings_are : AreStandings matrix passed failed standings
  pub tally_is : IsTally standings (length standings) tally

module _ (matrix : Matrix) (findings : List Finding) (passed failed : List ℕ) (standings : List Standing) (tally : Tally) (h : Gathered matrix findings passed failed standings tally) where
  standing : (f : ℕ) → f < length matrix.faults → IsStanding (get_or matrix.faults f no_row).row passed failed (get_or standings f no_standing)
  standing f lt = (h.standings_are).each f lt

  pub table : IsTable (case_of matrix findings) 256 (is_clear_in standings) (in_row failed)
  table = record {
    clear_yes = λ f lt y x has good. elim (cases_Bool (detects matrix f x.test)) [
      | inl seen ↦ absurd (both_ways (in_row passed x.test) ((standing f lt).clear y x.test (h.small x has) seen) ((h.passes).all x has good))
      | inr away ↦ away
    ];
    clear_no = λ f lt away. let x = (standing f lt).cleared away in (record { test = x.0; failed = false }, (h.passes).told x.0 x.1 x.3, refl, x.2);
    failed_yes = λ t lt y. (h.fails).told t lt y;
    failed_no = λ x has bad. (h.small x has, (h.fails).all x has bad);
  }

  -- of a failed test
  cause-is : (f t : ℕ) → f < length matrix.faults → t < 256 → in_row failed t ≡ true → is_cause_in standings f t ≡ is_cause (case_of matrix findings) (is_clear_in standings) f t
  cause-is f t lt small bad =
      (standing f lt).causes t small
      ∙ ap (λ b. is_clear_in standings f && (detects matrix f t && b)) bad
      ∙ ap (λ b. is_clear_in standings f && b) (and-true (detects matrix f t))

  cause-failed : (f t : ℕ) → f < length matrix.faults → t < 256 → is_cause_in standings f t ≡ true → in_row failed t ≡ true
  cause-failed f t lt small y =
      let p = and_parts (is_clear_in standings f) (detects matrix f t && in_row failed t) (sym ((standing f lt).causes t small) ∙ y) in
      (and_parts (detects matrix f t) (in_row failed t) p.1).1

  -- each failed test has a cause where none is left without one
  have-causes : (rest : List ℕ) → HasJust rest (λ t. in_row failed t && not (in_row tally.some t)) → IsEmpty rest → AllHaveCauses (case_of matrix findings) 256 (is_clear_in standings) (in_row failed)
  have-causes rest just empty t lt bad = elim (cases_Bool (in_row tally.some t)) [
    | inl one ↦ (let x = (h.tally_is).some t lt one in let long = (h.standings_are).long in let under : x.0 < length matrix.faults = omega arith in (x.0, under, sym (cause-is x.0 t under lt bad) ∙ x.2))
    | inr none ↦ absurd (both_ways (in_row failed t && not (in_row tally.some t)) (sym (just.tests t lt) ∙ empty.none t lt) (and_from (in_row failed t) (not (in_row tally.some t)) bad (not_from_false (in_row tally.some t) none)))
  ]

  pub some-set : (rest : List ℕ) → HasJust rest (λ t. in_row failed t && not (in_row tally.some t)) → IsEmpty rest → IsPossible (case_of matrix findings)
  some-set rest just empty = is-possible (case_of matrix findings) 256 (is_clear_in standings) (in_row failed) table (have-causes rest just empty)

  -- the first failed test without a cause is the conflict
  pub conflict-at : (rest : List ℕ) (test : ℕ) → HasJust rest (λ t. in_row failed t && not (in_row tally.some t)) → IsFirst rest test → IsConflict (case_of matrix findings) test
  conflict-at rest test just first = record {
    impossible = uncaused-impossible (case_of matrix findings) 256 (is_clear_in standings) (in_row failed) table test first.small mine.0 uncaused;
    first = record { here = record { failed = (h.fails).told test first.small mine.0; cleared = cleared }; lowest = lowest };
  }
    where
      mine : (in_row failed test ≡ true) × (not (in_row tally.some test) ≡ true)
      mine = and_parts (in_row failed test) (not (in_row tally.some test)) (sym (just.tests test first.small) ∙ first.there)

      uncaused : (f : ℕ) → f < length matrix.faults → is_cause (case_of matrix findings) (is_clear_in standings) f test ≡ false
      uncaused f lt =
          let long = (h.standings_are).long in
          let under : f < length standings = omega arith in
          sym (cause-is f test lt first.small mine.0) ∙ (h.tally_is).none test first.small (not-true (in_row tally.some test) mine.1) f under

      cleared : (f : ℕ) → f < length matrix.faults → detects matrix f test ≡ true → IsCleared (case_of matrix findings) f
      cleared f lt seen = elim (cases_Bool (is_clear_in standings f)) [
        | inl clear ↦ absurd (both_ways (is_clear_in standings f && detects matrix f test) (uncaused f lt) (and_from (is_clear_in standings f) (detects matrix f test) clear seen))
        | inr away ↦ table.clear_no f lt away
      ]

      lowest : (other : ℕ) → IsContradicted (case_of matrix findings) other → test ≤ other
      lowest other con = elim (cases_lt other test) [
        | inr above ↦ above
        | inl below ↦ absurd (not_below below)
      ]
        where
          other_small : other < 256
          other_small = h.small (record { test = other; failed = true }) con.failed

          other_failed : in_row failed other ≡ true
          other_failed = (h.fails).all (record { test = other; failed = true }) con.failed refl

          not_below : other < test → ⊥
          not_below below = elim (cases_Bool (in_row tally.some other)) [
            | inr none ↦ both_ways (in_row failed other && not (in_row tally.some other)) (sym (just.tests other other_small) ∙ first.lowest other below) (and_from (in_row failed other) (not (in_row tally.some other)) other_failed (not_from_false (in_row tally.some other) none))
            | inl one ↦
                (let x = (h.tally_is).some other other_small one in
                let long = (h.standings_are).long in
                let under : x.0 < length matrix.faults = omega arith in
                let p = and_parts (is_clear_in standings x.0) (detects matrix x.0 other) (sym (cause-is x.0 other under other_small other_failed) ∙ x.2) in
                let y = con.cleared x.0 under p.1 in
                both_ways (detects matrix x.0 (y.0).test) (table.clear_yes x.0 under p.0 y.0 y.1 y.2) y.3)
          ]

  -- what is among a test's causes by rows is among them by the definition
  among-is : (u t : ℕ) → u < 256 → t < 256 → in_row failed u ≡ true → in_row failed t ≡ true → ((g : ℕ) → g < length standings → is_cause_in standings g u ≡ true → is_cause_in standings g t ≡ true) → CausesAreAmong (case_of matrix findings) (is_clear_in standings) u t
  among-is u t ult tlt ubad tbad all g lt y =
      let long = (h.standings_are).long in
      let under : g < length standings = omega arith in
      sym (cause-is g t lt tlt tbad) ∙ all g under (cause-is g u lt ult ubad ∙ y)

  among-in : (u t k : ℕ) (rows : List (List ℕ)) → u < 256 → t < 256 → in_row failed u ≡ true → in_row failed t ≡ true → IsWithin standings failed t (get_or rows k []) → CausesAreAmong (case_of matrix findings) (is_clear_in standings) u t → in_row (get_or rows k []) u ≡ true
  among-in u t k rows ult tlt ubad tbad w among = elim (cases_Bool (in_row (get_or rows k []) u)) [
    | inl there ↦ there
    | inr away ↦
        (let x = w.outside u ult ubad away in
        let long = (h.standings_are).long in
        let under : x.0 < length matrix.faults = omega arith in
        absurd (both_ways (is_cause_in standings x.0 t) x.3 (cause-is x.0 t under tlt tbad ∙ among x.0 under (sym (cause-is x.0 u under ult ubad) ∙ x.2))))
  ]

  -- a fault that one of the rows needs
  needs : (withins : List (List ℕ)) → AreWithins standings failed 256 withins → (f : ℕ) → f < length matrix.faults → NeedsOne (get_or standings f no_standing).causes withins → IsInSomeMinimal (case_of matrix findings) f
  needs withins ws f lt (k, klt, sub) =
      let x = ws.each k klt in
      let itself = among-in x.0 x.0 k withins x.1 x.1 x.2 x.2 x.3 (λ g glt y. y) in
      needed-in_minimal (case_of matrix findings) 256 (is_clear_in standings) (in_row failed) table f x.0 lt x.1 x.2 (
        sym (cause-is f x.0 lt x.1 x.2) ∙ sub x.0 x.1 itself,
        λ u ult ubad among. sym (cause-is f u lt ult ubad) ∙ sub u ult (among-in u x.0 k withins ult x.1 ubad x.2 x.3 among),
      )

  spares : (withins : List (List ℕ)) → AreWithins standings failed 256 withins → (f : ℕ) → f < length matrix.faults → SparesEach (get_or standings f no_standing).causes withins (length withins) → ¬ IsInSomeMinimal (case_of matrix findings) f
  spares withins ws f lt spare = spared-in_minimal (case_of matrix findings) 256 (is_clear_in standings) (in_row failed) table f lt each
    where
      each : (t : ℕ) → t < 256 → in_row failed t ≡ true → IsSparedFor (case_of matrix findings) 256 (is_clear_in standings) (in_row failed) f t
      each t tlt bad =
          let x = ws.all t tlt bad in
          let y = spare x.0 x.1 in
          let ubad = (x.2).fails y.0 y.1 y.2 in
          (y.0, y.1, ubad, among-is y.0 t y.1 tlt ubad bad ((x.2).within y.0 y.1 y.2), sym (cause-is f y.0 lt y.1 ubad) ∙ y.3)

  -- each test of the fault has another cause
  company : AllHaveCauses (case_of matrix findings) 256 (is_clear_in standings) (in_row failed) → (f : ℕ) → f < length matrix.faults → HasCompany (get_or standings f no_standing) tally.several → ¬ IsInEvery (case_of matrix findings) f
  company have f lt several = other-in_every (case_of matrix findings) 256 (is_clear_in standings) (in_row failed) table f other
    where
      other : (t : ℕ) → t < 256 → in_row failed t ≡ true → HasOtherCause (case_of matrix findings) (is_clear_in standings) f t
      other t tlt bad = elim (cases_Bool (is_cause_in standings f t)) [
        | inr away ↦ (let x = have t tlt bad in (x.0, x.1, x.2, λ same. both_ways (is_cause_in standings f t) away (cause-is f t lt tlt bad ∙ subst (λ g. is_cause (case_of matrix findings) (is_clear_in standings) g t ≡ true) same x.2)))
        | inl mine ↦
            (let x = (h.tally_is).several t tlt (several t tlt mine) in
            let long = (h.standings_are).long in
            let first : x.0 < length matrix.faults = (let p = x.2 in let q = x.3 in omega arith) in
            let second : x.1 < length matrix.faults = (let q = x.3 in omega arith) in
            elim (cases_eq x.0 f) [
              | inl same ↦ (x.1, second, sym (cause-is x.1 t second tlt bad) ∙ x.5, λ again. let p = x.2 in let no_more : ⊥ = omega arith in no_more)
              | inr apart ↦ (x.0, first, sym (cause-is x.0 t first tlt bad) ∙ x.4, apart)
            ])
      ]

  -- what a fault is called by the rules it is called by all sets
  called : AllHaveCauses (case_of matrix findings) 256 (is_clear_in standings) (in_row failed) → (withins : List (List ℕ)) → AreWithins standings failed 256 withins → (f : ℕ) → f < length matrix.faults → (label : Label) → IsRuled (get_or standings f no_standing) tally.several withins label → IsCalled (case_of matrix findings) f label
  called have withins ws f lt Good away = cleared-in_none (case_of matrix findings) 256 (is_clear_in standings) (in_row failed) table f lt away
  called have withins ws f lt Bad (clear, (t, tlt, mine, lone)) =
      let bad = cause-failed f t lt tlt mine in
      let long = (h.standings_are).long in
      let under : f < length standings = omega arith in
      only-in_every (case_of matrix findings) 256 (is_clear_in standings) (in_row failed) table f t tlt bad (
        sym (cause-is f t lt tlt bad) ∙ mine,
        λ g glt y. (h.tally_is).lone t tlt lone g f (let p : g < length standings = omega arith in p) under (cause-is g t glt tlt bad ∙ y) mine,
      )
  called have withins ws f lt Suspect (clear, several, needed) = (needs withins ws f lt needed, company have f lt several)
  called have withins ws f lt Unknown (clear, several, spare) = (clear-in_some (case_of matrix findings) 256 (is_clear_in standings) (in_row failed) table have f clear, company have f lt several, spares withins ws f lt spare)

  pub labels-are : (rest : List ℕ) → HasJust rest (λ t. in_row failed t && not (in_row tally.some t)) → IsEmpty rest → (withins : List (List ℕ)) → AreWithins standings failed 256 withins → (labels : List Label) → AreRuled standings tally.several withins labels → AreCalled (case_of matrix findings) labels
  labels-are rest just empty withins ws labels ruled = record {
    long = ruled.long ∙ (h.standings_are).long;
    each = λ f lt. let long = (h.standings_are).long in let under : f < length standings = omega arith in called (have-causes rest just empty) withins ws f lt (get_or labels f Unknown) (ruled.each f under);
  }
