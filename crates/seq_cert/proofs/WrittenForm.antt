-- The report of an outcome has the form that a reader asks. Each class has a state, since it weighs something; the counts
-- of the classes are together the count of the states, since each state is in one class; and a strategy asks one test
-- fewer than it has leaves.
use Rattle.std.proofs.Common.{◌≡◌, ℕ, zero, suc, ◌+◌, ◌-◌, ◌<◌, ◌≤◌, List, [], ◌∷◌, ◌++◌, length, map, filter, refl, ap, arith, inl, inr, Option, Some, None}
use Rattle.std.specs.Prelude.{Bool, true, false, nat_eq, nat_le, sum_by, slice_index_or, IfSome}
use Rattle.std.specs.List.{AllByRecursion}
use Rattle.std.specs.Option.{option_map}
use Rattle.std.proofs.lemmas.Bool.{cases_Bool, cases_order}
use Rattle.std.proofs.lemmas.Bool.Decides.{nat_tests}
use Rattle.std.proofs.lemmas.List.Elements.{recursion_from_All}
use Rattle.std.proofs.lemmas.List.Sums.{sum_by-cons}
use Rattle.seq_theory.specs.Problem.{Problem, IsIn, IsWithin, IsWeighed, IsSized, all_classes, count_up, weight_of, pass_part, fail_part}
use Rattle.seq_theory.specs.Tree.{Tree, leaf, ask, AsksOnly}
use Rattle.sig_lines.specs.declared.labels.StateLabel.{StateLabel}
use Rattle.sig_lines.specs.declared.labels.TestLabel.{TestLabel}
use Rattle.sig_lines.specs.declared.labels.Labels.{Labels}
use Rattle.seq_inst.specs.Instances.{problem_of}
use Rattle.seq_inst.specs.Shapes.{leaf_count}
use Rattle.seq_inst.specs.Trees.{tree_of}
use Rattle.seq_inst.specs.declared.group.Group.{Group}
use Rattle.seq_inst.specs.declared.instance.Instance.{Instance}
use Rattle.seq_inst.specs.declared.outcome.Outcome.{Outcome}
use Rattle.seq_inst.specs.declared.outcome.Verdict.{Verdict}
use Rattle.seq_inst.specs.declared.outcome.Verdict.TheVariants.{Optimal, Bounded}
use Rattle.seq_cert.specs.declared.report.TreeLine.{TreeLine}
use Rattle.seq_cert.specs.declared.report.TreeLine.TheVariants.{Ask, Leaf}
use Rattle.seq_cert.specs.LineForms.{most_32, most_64, is_label}
use Rattle.seq_cert.specs.ReportForm.{IsState, AreClasses, IsTest, AreTreeLines, IsGroupLine, IsMissedLine, IsMissing, IsReport}
use Rattle.seq_cert.specs.Order.{in_order}
use Rattle.seq_cert.specs.TreeLines.{goal_at, tree_lines}
use Rattle.seq_cert.specs.OutcomeReport.{is_of, state_line, class_line, row_line, missed_line, report_from}
use Rattle.seq_cert.specs.LabelsOf.{AreLabelsOf, no_test}
use Rattle.seq_cert.specs.Printable.{IsMissedAt, IsPrintable, FitWords}
use Rattle.seq_cert.proofs.FormLaws.{IsTreeLine}
use Rattle.seq_cert.proofs.OrderLaws.{groups_counted}

-- ---- states

abbrev HasLabel : StateLabel → Type 0
HasLabel s = is_label s.label ≡ true

kept : (f : StateLabel → Bool) (xs : List StateLabel) → AllByRecursion HasLabel xs → AllByRecursion HasLabel (filter f xs)
kept f [] all = tt
kept f (x ∷ xs) all = elim (cases_Bool (f x)) [
  | inl y ↦ rw y (all.0, kept f xs all.1)
  | inr n ↦ rw n (kept f xs all.1)
]

states_fit : (n : ℕ) (xs : List StateLabel) → n ≤ most_64 → sum_by (λ (s : StateLabel). s.weight) xs ≤ n → AllByRecursion HasLabel xs → AllByRecursion IsState (map state_line xs)
states_fit n [] small le all = tt
states_fit n (x ∷ xs) small le all =
    let sum = sum_by-cons (λ (s : StateLabel). s.weight) x xs in
    (record { weight = omega arith; label = all.0 }, states_fit n xs small (omega arith) all.1)

-- the states from a class on are those of the class and those of the later ones
from-next : (k : ℕ) (xs : List StateLabel) → length (filter (λ (s : StateLabel). nat_le k s.class) xs) ≡ length (filter (is_of k) xs) + length (filter (λ (s : StateLabel). nat_le (suc k) s.class) xs)
from-next k [] = refl
from-next k (x ∷ xs) = elim (cases_order x.class k) [
  | inl same ↦ (let a : nat_le k x.class ≡ true = grind (arith, nat_tests) in let b : nat_eq x.class k ≡ true = grind (arith, nat_tests) in let d : nat_le (suc k) x.class ≡ false = grind (arith, nat_tests) in rw (a, b, d) (let r = from-next k xs in omega arith))
  | inr (inl less) ↦ (let a : nat_le k x.class ≡ false = grind (arith, nat_tests) in let b : nat_eq x.class k ≡ false = grind (arith, nat_tests) in let d : nat_le (suc k) x.class ≡ false = grind (arith, nat_tests) in rw (a, b, d) (from-next k xs))
  | inr (inr more) ↦ (let a : nat_le k x.class ≡ true = grind (arith, nat_tests) in let b : nat_eq x.class k ≡ false = grind (arith, nat_tests) in let d : nat_le (suc k) x.class ≡ true = grind (arith, nat_tests) in rw (a, b, d) (let r = from-next k xs in omega arith))
]

length-filter : (f : StateLabel → Bool) (xs : List StateLabel) → length (filter f xs) ≤ length xs
length-filter f [] = omega arith
length-filter f (x ∷ xs) = let r = length-filter f xs in elim (cases_Bool (f x)) [ inl y ↦ rw y (omega arith) | inr n ↦ rw n (omega arith) ]

length-states : (xs : List StateLabel) → length (map state_line xs) ≡ length xs
length-states [] = refl
length-states (x ∷ xs) = ap suc (length-states xs)

-- a class that weighs something has a state
some_state : (xs : List StateLabel) (n : ℕ) → sum_by (λ (s : StateLabel). s.weight) xs ≡ n → 1 ≤ n → 1 ≤ length xs
some_state [] n is some = absurd (let bad : ⊥ = omega arith in bad)
some_state (x ∷ xs) n is some = omega arith

module _ (p : Problem) (labels : Labels) (are : AreLabelsOf p labels) (w : IsWeighed p) (light : (c : ℕ) → c < p.classes → p.weight c ≤ 4097000000) (named : AllByRecursion HasLabel labels.states) where
  classes_fit : (m k room : ℕ) → k + m ≡ p.classes → length (filter (λ (s : StateLabel). nat_le k s.class) labels.states) ≤ room → room ≤ 4097 → AreClasses room (map (class_line p labels.states) (count_up k m))
  classes_fit zero k room all le small = tt
  classes_fit (suc m) k room all le small =
      let lt : k < p.classes = omega arith in
      let split = from-next k labels.states in
      let sum = are.weights k lt in
      let pos = w.positive k lt in
      let top = light k lt in
      let count = length-states (filter (is_of k) labels.states) in
      let some = some_state (filter (is_of k) labels.states) (p.weight k) sum pos in (
        record {
          line = ((omega arith, omega arith), (omega arith, omega arith));
          states = (refl, omega arith, states_fit (p.weight k) (filter (is_of k) labels.states) (omega arith) (omega arith) (kept (is_of k) labels.states named));
        },
        classes_fit m (suc k) (room - length (map state_line (filter (is_of k) labels.states))) (omega arith) (omega arith) (omega arith),
      )

-- ---- tests

tests_fit : (xs : List TestLabel) → ((t : ℕ) → t < length xs → (slice_index_or xs t no_test).cost ≤ most_32) → AllByRecursion (λ (t : TestLabel). is_label t.label ≡ true) xs → AllByRecursion IsTest xs
tests_fit [] below named = tt
tests_fit (x ∷ xs) below named = (record { cost = below 0 (omega arith); label = named.0 }, tests_fit xs (λ t lt. below (suc t) (omega arith)) named.1)

-- ---- tree lines

asks_in : List TreeLine → ℕ
asks_in [] = 0
asks_in (Leaf c ∷ lines) = asks_in lines
asks_in (Ask t ∷ lines) = suc (asks_in lines)

asks-append : (xs ys : List TreeLine) → asks_in (xs ++ ys) ≡ asks_in xs + asks_in ys
unfolding asks_in
asks-append [] ys = omega arith
asks-append (Leaf c ∷ xs) ys = asks-append xs ys
asks-append (Ask t ∷ xs) ys = let r = asks-append xs ys in omega arith

lines_fit : (n : ℕ) (lines : List TreeLine) → AllByRecursion IsTreeLine lines → asks_in lines ≤ n → AreTreeLines n lines
unfolding asks_in
lines_fit n [] all le = tt
lines_fit n (Leaf c ∷ lines) all le = (all.0, lines_fit n lines all.1 le)
lines_fit zero (Ask t ∷ lines) all le = absurd (let bad : ⊥ = omega arith in bad)
lines_fit (suc n) (Ask t ∷ lines) all le = (all.0, lines_fit n lines all.1 (omega arith))

joined : (xs ys : List TreeLine) → AllByRecursion IsTreeLine xs → AllByRecursion IsTreeLine ys → AllByRecursion IsTreeLine (xs ++ ys)
joined [] ys a b = b
joined (x ∷ xs) ys a b = (a.0, joined xs ys a.1 b)

within-filter : (p : Problem) (f : ℕ → Bool) (group : List ℕ) → IsWithin p group → IsWithin p (filter f group)
within-filter p f group within c i = within c (in_filter group i)
  where
    in_filter : (group : List ℕ) → IsIn c (filter f group) → IsIn c group
    in_filter [] i = i
    in_filter (d ∷ rest) i = elim (cases_Bool (f d)) [
      | inl y ↦ (let j : IsIn c (d ∷ filter f rest) = rw y at i in elim j [ inl e ↦ inl e | inr k ↦ inr (in_filter rest k) ])
      | inr n ↦ (let j : IsIn c (filter f rest) = rw n at i in inr (in_filter rest j))
    ]

module _ (p : Problem) (sized : IsSized p) (w : IsWeighed p) (few : p.tests ≤ 256) where
  goal_fits : (group : List ℕ) → IsWithin p group → goal_at p group ≤ most_32
  goal_fits [] within = omega arith
  goal_fits (c ∷ rest) within = let g = w.goals c (within c (inl refl)) in let s = sized.classes in omega arith

  tree_fits : (tree : Tree) (group : List ℕ) → AsksOnly p.tests tree → IsWithin p group → AllByRecursion IsTreeLine (tree_lines p tree group)
  tree_fits leaf group there within = (goal_fits group within, tt)
  tree_fits (ask t pass fail) group there within =
      let lt = there.0 in (
        omega arith,
        joined (tree_lines p pass (pass_part p t group)) (tree_lines p fail (fail_part p t group))
            (tree_fits pass (pass_part p t group) there.1 (within-filter p _ group within)) (tree_fits fail (fail_part p t group) there.2 (within-filter p _ group within)),
      )

  asks-leaves : (tree : Tree) (group : List ℕ) → asks_in (tree_lines p tree group) + 1 ≡ leaf_count tree
  unfolding asks_in
  asks-leaves leaf group = refl
  asks-leaves (ask t pass fail) group =
      let a = asks-leaves pass (pass_part p t group) in
      let b = asks-leaves fail (fail_part p t group) in
      let j = asks-append (tree_lines p pass (pass_part p t group)) (tree_lines p fail (fail_part p t group)) in
      omega arith

-- ---- the whole

missing_fits : (v : Verdict) (m : Option Group) → IsMissedAt v m → IfSome (option_map missed_line m) IsMissedLine → IsMissing v (option_map missed_line m)
missing_fits Optimal None at fits = tt
missing_fits Optimal (Some g) at fits = absurd at
missing_fits Bounded None at fits = absurd at
missing_fits Bounded (Some g) at fits = fits

length-classes : {A : Type 0} (f : ℕ → A) (k m : ℕ) → length (map f (count_up k m)) ≡ m
length-classes f k zero = refl
length-classes f k (suc m) = ap suc (length-classes f (suc k) m)

in_count_up : (c k m : ℕ) → IsIn c (count_up k m) → (k ≤ c) × (c < k + m)
in_count_up c k zero i = absurd i
in_count_up c k (suc m) (inl e) = (omega arith, omega arith)
in_count_up c k (suc m) (inr i) = let r = in_count_up c (suc k) m i in let a = r.0 in let b = r.1 in (omega arith, omega arith)

within_all : (p : Problem) → IsWithin p (all_classes p)
within_all p c i = let r = in_count_up c 0 p.classes i in let b = r.1 in omega arith

weight-in : (p : Problem) (c k m : ℕ) → k ≤ c → c < k + m → p.weight c ≤ weight_of p (count_up k m)
weight-in p c k zero le lt = absurd (let bad : ⊥ = omega arith in bad)
weight-in p c k (suc m) le lt = elim (cases_order c k) [
  | inl same ↦ (let e : p.weight c ≡ p.weight k = ap p.weight same in omega arith)
  | inr (inl less) ↦ absurd (let bad : ⊥ = omega arith in bad)
  | inr (inr more) ↦ (let r = weight-in p c (suc k) m (omega arith) (omega arith) in omega arith)
]

pub written_form : (p : Problem) (o : Outcome) (labels : Labels) → IsSized p → IsWeighed p → 1 ≤ p.classes → p.tests ≤ 256 → AreLabelsOf p labels → AsksOnly p.tests (tree_of o.strategy) → FitWords o → IsPrintable o labels → IsReport (report_from p o labels)
written_form p o labels sized w some few are there numbers fits =
    let size = sized.classes in
    let total = sized.weights in
    let light : (c : ℕ) → c < p.classes → p.weight c ≤ 4097000000 = λ c lt. let h = weight-in p c 0 p.classes (omega arith) (omega arith) in omega arith in
    let named = recursion_from_All HasLabel labels.states fits.state_labels in
    let cost = numbers.cost in
    let low = numbers.low in
    let many = fits.states in
    let rows = fits.rows in
    let counted = groups_counted o.rows.items in
    let leaves = fits.leaves in
    let asks = asks-leaves p sized w few (tree_of o.strategy) (all_classes p) in
    let tests = are.tests in
    let first = some_state (filter (is_of 0) labels.states) (p.weight 0) (are.weights 0 (omega arith)) (w.positive 0 (omega arith)) in
    let first_in = length-filter (is_of 0) labels.states in
    let all_from = length-filter (λ (s : StateLabel). nat_le 0 s.class) labels.states in
    record {
      head = record {
        mode = fits.mode;
        states = (omega arith, omega arith);
        classes = (omega arith, omega arith);
        tests = (omega arith, omega arith);
        weight = (omega arith, omega arith);
        cost = (omega arith, omega arith);
        low = (omega arith, omega arith);
        gap = (omega arith, omega arith);
        limit = fits.limit;
        groups = (omega arith, omega arith);
      };
      class_count = length-classes (class_line p labels.states) 0 p.classes;
      class_lines = classes_fit p labels are w light named p.classes 0 4097 (omega arith) (omega arith) (omega arith);
      test_count = are.tests;
      test_lines = tests_fit labels.tests (λ t lt. let e = are.costs t (omega arith) in let le = sized.costs t (omega arith) in omega arith) (recursion_from_All _ labels.tests fits.test_labels);
      tree = lines_fit 511 (tree_lines p (tree_of o.strategy) (all_classes p)) (tree_fits p sized w few (tree_of o.strategy) (all_classes p) there (within_all p)) (omega arith);
      groups = recursion_from_All IsGroupLine (in_order (map row_line o.rows.items)) numbers.groups;
      missed = missing_fits o.verdict o.missed fits.missed numbers.missed;
    }
