-- The classes that pass each test, over the states so far.
--
-- The first state of a class puts the class to the tests that it doesn't fail, and later ones have its row. So each state
-- so far is told by its class, and no class is there that hasn't begun.
use Rattle.std.proofs.Common.{◌≡◌, ℕ, suc, ◌+◌, ◌<◌, ◌≤◌, List, length, get_or, refl, sym, ap, ◌∙◌, arith, inl, inr, subst}
use Rattle.std.specs.Prelude.{Bool, true, false, not, ◌&&◌, ◌||◌, nat_eq}
use Rattle.std.proofs.lemmas.Bool.{cases_Bool, cases_lt, eqb-true, eqb-false, eq-eqb, ne_eqb, or_cases, and_parts}
use Rattle.seq_theory.specs.States.{System, row, is_first, first_alike, class_of, firsts}
use Rattle.seq_theory.proofs.StatesLaws.{begun, begun-yes, begun-no, begun-below, class_of-begun, class_of-same, class_of-there, first_alike-is_first, first_alike-row}
use Rattle.seq_theory.proofs.NumberingLaws.{first_alike-le}
use Rattle.seq_inst.specs.declared.group.Group.{Group}
use Rattle.seq_inst.specs.Members.{has_class}
use Rattle.seq_inst.specs.Valid.{no_class}
use Rattle.sig_classes.specs.Passing.{AddsClass, AreEightWords}
use Rattle.sig_matrix.specs.Detection.{in_row}
use Rattle.sig_classes.proofs.GroupingLaws.{class_of-lt}
use Rattle.sig_classes.proofs.RowWordsLaws.{fails-from_row}

module _ (sys : System) where
  -- a state is the first of its row exactly where its class is the next
  first-from_next : (m : ℕ) → m < sys.states → class_of sys m ≡ begun sys m → is_first sys m ≡ true
  first-from_next m lt e = elim (cases_Bool (is_first sys m)) [
    | inl first ↦ first
    | inr later ↦
        (let ne = eqb-false (first_alike sys m) m later in
        let le = first_alike-le sys m lt in
        let class = class_of-begun sys m in
        let below = begun-below sys (first_alike sys m) m (omega arith) (first_alike-is_first sys m lt) in
        absurd (omega arith))
  ]

  later-from_other : (m : ℕ) → m < sys.states → (class_of sys m ≡ begun sys m → ⊥) → is_first sys m ≡ false
  later-from_other m lt ne = elim (cases_Bool (is_first sys m)) [
    | inl first ↦ absurd (ne (class_of-begun sys m ∙ ap (begun sys) (eqb-true (first_alike sys m) m first)))
    | inr later ↦ later
  ]

  -- the states below a number are told by their classes, and as many classes as found are there
  pub record Passed (m found : ℕ) (passes : List Group) : Type 0 where
    pub begins : found ≡ begun sys m
    pub as_many : length passes ≡ sys.tests
    pub words : AreEightWords passes
    pub passing : (t s : ℕ) → t < sys.tests → s < m → has_class (get_or passes t no_class) (class_of sys s) ≡ not (sys.fails s t)
    pub within : (t c : ℕ) → t < sys.tests → c < 512 → has_class (get_or passes t no_class) c ≡ true → c < found

  -- the first state of a class puts the class to its tests
  pub passed-new : (m found : ℕ) (passes new : List Group) (row : List ℕ) → m < sys.states → length (firsts sys) ≤ 512 → ((t : ℕ) → sys.fails m t ≡ in_row row t)
      → class_of sys m ≡ found → Passed m found passes → AddsClass row found passes new → Passed (m + 1) (found + 1) new
  passed-new m found passes new row lt few tells next before adds = record {
    begins =
        (let first = first-from_next m lt (next ∙ before.begins) in
        let more = begun-yes sys m first in
        let start = before.begins in
        let one : suc m ≡ m + 1 = omega arith in
        let counted = ap (begun sys) one in
        omega arith);
    as_many = adds.as_many ∙ before.as_many;
    words = adds.words;
    passing = λ t s l below. elim (cases_lt s m) [
      | inl earlier ↦
          (let lower = class_of-lt sys s m (omega arith) earlier in
          let start = before.begins in
          let other = ne_eqb (class_of sys s) found (λ e. let h : ⊥ = omega arith in h) in
          adds.added t (class_of sys s) (in_passes t l) (class_fits s (omega arith))
          ∙ ap (λ b. has_class (get_or passes t no_class) (class_of sys s) || (b && not (in_row row t))) other
          ∙ or-false (has_class (get_or passes t no_class) (class_of sys s))
          ∙ before.passing t s l earlier)
      | inr ge ↦ (let here : m ≡ s = omega arith in subst (λ k. has_class (get_or new t no_class) (class_of sys k) ≡ not (sys.fails k t)) here (own t l))
    ];
    within = λ t c l fits y. elim (or_cases (has_class (get_or passes t no_class) c) (nat_eq c found && not (in_row row t)) (sym (adds.added t c (in_passes t l) fits) ∙ y)) [
      | inl old ↦ (let h = before.within t c l fits old in omega arith)
      | inr added ↦ (let h = eqb-true c found (and_parts (nat_eq c found) (not (in_row row t)) added).0 in omega arith)
    ];
  }
    where
      or-false : (b : Bool) → (b || false) ≡ b
      or-false true = refl
      or-false false = refl

      in_passes : (t : ℕ) → t < sys.tests → t < length passes
      in_passes t l = let long = before.as_many in omega arith

      class_fits : (s : ℕ) → s < sys.states → class_of sys s < 512
      class_fits s l = let h = class_of-there sys s l in omega arith

      own : (t : ℕ) → t < sys.tests → has_class (get_or new t no_class) (class_of sys m) ≡ not (sys.fails m t)
      own t l =
          adds.added t (class_of sys m) (in_passes t l) (class_fits m lt)
          ∙ ap (λ b. b || (nat_eq (class_of sys m) found && not (in_row row t))) absent
          ∙ ap (λ b. b && not (in_row row t)) (eq-eqb (class_of sys m) found next)
          ∙ ap not (sym (tells t))
        where
          absent : has_class (get_or passes t no_class) (class_of sys m) ≡ false
          absent = elim (cases_Bool (has_class (get_or passes t no_class) (class_of sys m))) [
            | inl y ↦ (let h = before.within t (class_of sys m) l (class_fits m lt) y in absurd (omega arith))
            | inr n ↦ n
          ]

  -- a later state of a class has the row of the first
  pub passed-again : (m found : ℕ) (passes : List Group) → m < sys.states → (class_of sys m ≡ found → ⊥) → Passed m found passes → Passed (m + 1) found passes
  passed-again m found passes lt other before = record {
    begins =
        (let same = begun-no sys m later in
        let start = before.begins in
        let one : suc m ≡ m + 1 = omega arith in
        let counted = ap (begun sys) one in
        omega arith);
    as_many = before.as_many;
    words = before.words;
    passing = λ t s l below. elim (cases_lt s m) [
      | inl earlier ↦ before.passing t s l earlier
      | inr ge ↦ (let here : m ≡ s = omega arith in subst (λ k. has_class (get_or passes t no_class) (class_of sys k) ≡ not (sys.fails k t)) here (own t l))
    ];
    within = before.within;
  }
    where
      later : is_first sys m ≡ false
      later = later-from_other m lt (λ e. other (e ∙ sym before.begins))

      first : ℕ
      first = first_alike sys m

      earlier : first < m
      earlier = let ne = eqb-false (first_alike sys m) m later in let le = first_alike-le sys m lt in omega arith

      own : (t : ℕ) → t < sys.tests → has_class (get_or passes t no_class) (class_of sys m) ≡ not (sys.fails m t)
      own t l =
          ap (has_class (get_or passes t no_class)) (class_of-same sys m first (sym (eqb-true (first_alike sys first) first (first_alike-is_first sys m lt))))
          ∙ before.passing t first l earlier
          ∙ ap not (fails-from_row sys first m t (first_alike-row sys m lt) l)
