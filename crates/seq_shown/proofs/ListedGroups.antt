-- The group lines of a right outcome are good: each has its size and comes after the one before; each low is allowed beside
-- the others, since they are the lows of all entered groups; and the last line is that of the group of all classes, since
-- a line after that of the largest group there is would have as many classes, and so the same ones.
use Rattle.std.proofs.Common.{◌≡◌, ℕ, ◌+◌, ◌≤◌, List, [], ◌∷◌, length, map, refl, sym, ap, subst, ◌∙◌, arith, inl, inr, ◌⊎◌, Option, Some, None}
use Rattle.std.specs.Prelude.{Bool, true, false, not, ◌&&◌, ◌||◌, nat_eq, nat_le, nat_lt}
use Rattle.std.specs.List.{AllByRecursion, list_any, list_all}
use Rattle.std.proofs.lemmas.Bool.{cases_Bool, and_from, or_cases, or_left, or_right, eq-eqb, lt-ltb, le-leb, ltb-false, false≢true}
use Rattle.seq_theory.specs.Problem.{Problem, IsIn, all_classes, is_end}
use Rattle.seq_theory.specs.Graph.{same_group, is_entered, low, IsReal}
use Rattle.seq_theory.specs.Claims.{Claim, IsClaim, ClaimsHold, low_claims}
use Rattle.seq_theory.proofs.RowLaws.{same_group-true, same_group-refl, wanted-within}
use Rattle.seq_theory.specs.Laws.{LowsAreClaims}
use Rattle.seq_inst.specs.Members.{members}
use Rattle.seq_inst.specs.declared.group.Group.{Group}
use Rattle.seq_cert.specs.declared.report.GroupLine.{GroupLine}
use Rattle.seq_cert.specs.Order.{is_before}
use Rattle.seq_check.specs.Looks.{AreGood}
use Rattle.seq_check.specs.GroupLooks.{claim_at, claims_of, is_sized, comes_after, most_claimed, is_root, root_looks, group_look, group_looks}
use Rattle.seq_shown.proofs.GoodLooks.{good-both}
use Rattle.seq_shown.proofs.LineOrder.{AreUp, before-size}
use Rattle.seq_shown.proofs.WholeGroup.{whole-group, length-classes}
use Rattle.seq_shown.proofs.RowLines.{IsLineOf}

-- ---- sizes ----

all-from : (f : ℕ → Bool) (xs : List ℕ) → ((c : ℕ) → IsIn c xs → f c ≡ true) → list_all f xs ≡ true
all-from f [] h = refl
all-from f (x ∷ xs) h = and_from (f x) (list_all f xs) (h x (inl refl)) (all-from f xs (λ c i. h c (inr i)))

-- a real group with its size
pub real-sized : (p : Problem) (size : ℕ) (g : Group) → size ≡ length (members g) → IsReal p (members g) → is_sized p size g ≡ true
real-sized p size g is real =
    let within = wanted-within p (members g) real.wanted in
    let all = all-from (λ c. nat_lt c p.classes) (members g) (λ c i. lt-ltb c p.classes (within c i)) in
    and_from (nat_eq size (length (members g))) (not (is_end p (members g)) && list_all (λ c. nat_lt c p.classes) (members g)) (eq-eqb size (length (members g)) is) (rw (real.goals) all)

-- ---- the order ----

-- each line comes after the one before it
abbrev Follows : Option GroupLine → List GroupLine → Type 0
Follows before [] = Unit {0}
Follows before (line ∷ lines) = (comes_after before line ≡ true) × Follows (Some line) lines

after-one : (before : GroupLine) (lines : List GroupLine) → AllByRecursion (λ z. is_before before z ≡ true) lines → AreUp lines → Follows (Some before) lines
after-one before [] after up = tt
after-one before (line ∷ lines) after up = (after.0, after-one line lines up.0 up.1)

after-none : (lines : List GroupLine) → AreUp lines → Follows None lines
after-none [] up = tt
after-none (line ∷ lines) up = (refl, after-one line lines up.0 up.1)

-- ---- the last line ----

abbrev EndsWithRoot : Problem → ℕ → List GroupLine → Type 0
EndsWithRoot p n [] = Unit {0}
EndsWithRoot p n (line ∷ []) = is_root p n line ≡ true
EndsWithRoot p n (line ∷ next ∷ lines) = EndsWithRoot p n (next ∷ lines)

-- whether the line's group is that of all classes
abbrev is_whole : Problem → GroupLine → Bool
is_whole p line = same_group (all_classes p) (members line.group)

module _ (p : Problem) (entered : List (List ℕ)) where
  -- a line after that of all classes is another one of all classes
  after-whole : (line next : GroupLine) → IsLineOf p entered line → IsLineOf p entered next → is_before line next ≡ true → is_whole p line ≡ true → is_whole p next ≡ true
  after-whole line next l m before whole =
      let same = same_group-true (all_classes p) (members line.group) whole in
      let long = ap length same in
      let count = length-classes 0 p.classes in
      let a = l.size_is in
      let b = m.size_is in
      let le = ltb-false next.size line.size (before-size line next before) in
      let all = whole-group p next.group (wanted-within p (members next.group) (m.real).wanted) (omega arith) in
      ap (same_group (all_classes p)) all ∙ same_group-refl (all_classes p)

  whole-root : (line : GroupLine) → IsLineOf p entered line → is_whole p line ≡ true → is_root p (low p entered (all_classes p)) line ≡ true
  whole-root line l whole =
      let same = same_group-true (all_classes p) (members line.group) whole in
      let group : same_group (members line.group) (all_classes p) ≡ true = ap (λ g. same_group g (all_classes p)) (sym same) ∙ same_group-refl (all_classes p) in
      let low_is : line.low ≡ low p entered (all_classes p) = l.low_is ∙ ap (low p entered) (sym same) in
      or_right (is_end p (all_classes p)) _ (and_from (same_group (members line.group) (all_classes p)) (nat_eq line.low (low p entered (all_classes p))) group (eq-eqb line.low (low p entered (all_classes p)) low_is))

  ends-with-root : (lines : List GroupLine) → AreUp lines → AllByRecursion (IsLineOf p entered) lines → list_any (is_whole p) lines ≡ true → EndsWithRoot p (low p entered (all_classes p)) lines
  ends-with-root [] up of has = tt
  ends-with-root (line ∷ []) up of has = whole-root line of.0 (elim (or_cases (is_whole p line) false has) [ inl y ↦ y | inr n ↦ absurd (false≢true n) ])
  ends-with-root (line ∷ next ∷ lines) up of has = ends-with-root (next ∷ lines) up.1 of.1 (elim (or_cases (is_whole p line) (list_any (is_whole p) (next ∷ lines)) has) [
    | inl y ↦ or_left (is_whole p next) (list_any (is_whole p) lines) (after-whole line next of.0 of.1.0 up.0.0 y)
    | inr later ↦ later
  ])

  -- ---- the lows ----

  groups_at_lines : List GroupLine → List (List ℕ)
  groups_at_lines lines = map (λ (line : GroupLine). members line.group) lines

  low-claims : (lines : List GroupLine) → AllByRecursion (IsLineOf p entered) lines → low_claims p entered (groups_at_lines lines) ≡ claims_of lines
  unfolding groups_at_lines
  low-claims [] of = refl
  low-claims (line ∷ lines) of =
      let claim : ℕ → Claim = λ n. record { group = members line.group; low = n } in
      ap (λ n. claim n ∷ low_claims p entered (groups_at_lines lines)) (sym (of.0).low_is) ∙ ap (λ cs. claim_at line ∷ cs) (low-claims lines of.1)

  at-lines : (lines : List GroupLine) (group : List ℕ) → is_entered (groups_at_lines lines) group ≡ list_any (λ (line : GroupLine). same_group group (members line.group)) lines
  unfolding groups_at_lines
  at-lines [] group = refl
  at-lines (line ∷ lines) group = ap (λ b. same_group group (members line.group) || b) (at-lines lines group)

  claims-hold : LowsAreClaims → (lines : List GroupLine) → AllByRecursion (IsLineOf p entered) lines → ((g : List ℕ) → list_any (λ (line : GroupLine). same_group g (members line.group)) lines ≡ is_entered entered g) → ((g : List ℕ) → is_entered entered g ≡ true → is_end p g ≡ false) → ClaimsHold p (claims_of lines)
  claims-hold law lines of listed more = subst (ClaimsHold p) (low-claims lines of) (law p entered (groups_at_lines lines) (λ g. at-lines lines g ∙ listed g) more)

  each-allowed : (claims : List Claim) (lines : List GroupLine) → ((c : Claim) → IsClaim c (claims_of lines) → c.low ≤ most_claimed p claims c.group) → AllByRecursion (λ (line : GroupLine). nat_le line.low (most_claimed p claims (members line.group)) ≡ true) lines
  each-allowed claims [] hold = tt
  each-allowed claims (line ∷ lines) hold = (le-leb line.low (most_claimed p claims (members line.group)) (hold (claim_at line) (inl refl)), each-allowed claims lines (λ c i. hold c (inr i)))

  -- ---- all lines ----

  module _ (claims : List Claim) (n : ℕ) where
    root-good : (k : ℕ) (line : GroupLine) (lines : List GroupLine) → EndsWithRoot p n (line ∷ lines) → AreGood (root_looks p k n line lines)
    root-good k line [] ends = (ends, tt)
    root-good k line (next ∷ lines) ends = tt

    rest-ends : (line : GroupLine) (lines : List GroupLine) → EndsWithRoot p n (line ∷ lines) → EndsWithRoot p n lines
    rest-ends line [] ends = tt
    rest-ends line (next ∷ lines) ends = ends

    line-good : (k : ℕ) (before : Option GroupLine) (line : GroupLine) (lines : List GroupLine) → IsLineOf p entered line → nat_le line.low (most_claimed p claims (members line.group)) ≡ true → comes_after before line ≡ true → EndsWithRoot p n (line ∷ lines) → AreGood (group_look p k n claims before line lines)
    unfolding group_look
    line-good k before line lines of allowed after ends = (and_from (is_sized p line.size line.group) (comes_after before line) (real-sized p line.size line.group of.size_is of.real) after, (allowed, root-good k line lines ends))

    lines-good : (k : ℕ) (before : Option GroupLine) (lines : List GroupLine) → AllByRecursion (IsLineOf p entered) lines → AllByRecursion (λ (line : GroupLine). nat_le line.low (most_claimed p claims (members line.group)) ≡ true) lines → Follows before lines → EndsWithRoot p n lines → AreGood (group_looks p k n claims before lines)
    lines-good k before [] of allowed follows ends = tt
    lines-good k before (line ∷ lines) of allowed follows ends =
        good-both (group_look p k n claims before line lines) (group_looks p (k + 1) n claims (Some line) lines)
        (line-good k before line lines of.0 allowed.0 follows.0 ends)
        (lines-good (k + 1) (Some line) lines of.1 allowed.1 follows.1 (rest-ends line lines ends))

  -- lines in order, of all entered groups, one of which is the group of all classes
  pub groups-good : LowsAreClaims → (k : ℕ) (lines : List GroupLine) → AllByRecursion (IsLineOf p entered) lines → AreUp lines → ((g : List ℕ) → list_any (λ (line : GroupLine). same_group g (members line.group)) lines ≡ is_entered entered g) → ((g : List ℕ) → is_entered entered g ≡ true → is_end p g ≡ false)
      → (is_end p (all_classes p) ≡ false → is_entered entered (all_classes p) ≡ true) → AreGood (group_looks p k (low p entered (all_classes p)) (claims_of lines) None lines)
  groups-good law k lines of up listed more root = lines-good (claims_of lines) (low p entered (all_classes p)) k None lines of (each-allowed (claims_of lines) lines (claims-hold law lines of listed more)) (after-none lines up) (ends (cases_Bool (is_end p (all_classes p))))
    where
      one-goal : (lines : List GroupLine) → is_end p (all_classes p) ≡ true → EndsWithRoot p (low p entered (all_classes p)) lines
      one-goal [] e = tt
      one-goal (line ∷ []) e = or_left (is_end p (all_classes p)) _ e
      one-goal (line ∷ next ∷ lines) e = one-goal (next ∷ lines) e

      ends : (is_end p (all_classes p) ≡ true) ⊎ (is_end p (all_classes p) ≡ false) → EndsWithRoot p (low p entered (all_classes p)) lines
      ends (inl e) = one-goal lines e
      ends (inr e) = ends-with-root lines up of (listed (all_classes p) ∙ root e)
