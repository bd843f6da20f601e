-- The lines of cost, low, gap and count are good. The strategy costs the outcome's cost, which is at least its low; the gap
-- is what lies between; and there are no more groups than the limit, as many where the result is bounded, and none
-- where one goal is left.
use Rattle.std.proofs.Common.{◌≡◌, ℕ, suc, ◌-◌, ◌<◌, ◌≤◌, List, [], ◌∷◌, length, refl, sym, ap, subst, ◌∙◌, arith, inl, inr, ◌⊎◌}
use Rattle.std.specs.Prelude.{Bool, true, false, not, cond, ◌||◌, nat_eq, nat_lt, map}
use Rattle.std.specs.List.{AllByRecursion}
use Rattle.std.proofs.lemmas.Bool.{cases_Bool, cases_lt, and_from, or_right, eq-eqb, lt-ltb, le-leb, true≢false, false≢true}
use Rattle.seq_theory.specs.Problem.{Problem, IsIn, IsWithin, IsWeighed, AreTold, all_classes, is_end}
use Rattle.seq_theory.specs.Tree.{tree_cost}
use Rattle.seq_theory.specs.Graph.{is_entered, IsReal}
use Rattle.seq_theory.proofs.GroupLaws.{is_end-from_goals, goals-from_is_end}
use Rattle.seq_theory.proofs.LeastLaws.{count_up-IsIn, IsIn-count_up}
use Rattle.seq_theory.proofs.LowLaws.{low-end, low-le-least}
use Rattle.seq_theory.proofs.RowLaws.{wanted-within}
use Rattle.seq_theory.proofs.StratLaws.{strat-holds}
use Rattle.seq_theory.proofs.ValLaws.{least-le-val}
use Rattle.seq_inst.specs.declared.outcome.Row.{Row}
use Rattle.seq_inst.specs.declared.outcome.Outcome.{Outcome}
use Rattle.seq_inst.specs.declared.outcome.Verdict.{Verdict}
use Rattle.seq_inst.specs.declared.outcome.Verdict.TheVariants.{Optimal, Bounded}
use Rattle.seq_inst.specs.Members.{members}
use Rattle.seq_inst.specs.Trees.{tree_of}
use Rattle.seq_core.specs.Settled.{groups_in}
use Rattle.seq_finish.specs.Outcomes.{IsRightOutcome}
use Rattle.sig_lines.specs.declared.labels.Labels.{Labels}
use Rattle.seq_cert.specs.OutcomeReport.{report_from}
use Rattle.seq_cert.specs.TreeLines.{tree_lines}
use Rattle.seq_cert.specs.declared.report.GroupLine.{GroupLine}
use Rattle.seq_cert.specs.Order.{placed, ordered, is_before, in_order}
use Rattle.seq_cert.specs.OutcomeReport.{row_line}
use Rattle.seq_check.specs.Looks.{AreGood, all_good}
use Rattle.seq_check.specs.TreesIn.{tree_in}
use Rattle.seq_check.specs.Lines.{tree_at, looks_at_tree, cost_looks, low_looks, is_gap, is_count, gap_looks, count_looks}
use Rattle.seq_shown.proofs.NeededTests.{AsksWhereNeeded, strat-needed}
use Rattle.seq_shown.proofs.DrawnLines.{tree-good, tree-drawn}

-- there are as many group lines as rows
length-placed : (before : GroupLine → GroupLine → Bool) (x : GroupLine) (xs : List GroupLine) → length (placed before x xs) ≡ suc (length xs)
length-placed before x [] = refl
length-placed before x (y ∷ ys) = elim (cases_Bool (before y x)) [
  | inl later ↦ rw later (ap suc (length-placed before x ys))
  | inr sooner ↦ rw sooner refl
]

groups_counted : (rows : List Row) → length (in_order (map row_line rows)) ≡ length rows
unfolding in_order
groups_counted [] = refl
groups_counted (r ∷ rows) = length-placed is_before (row_line r) (ordered is_before (map row_line rows)) ∙ ap suc (groups_counted rows)

pub within-all : (p : Problem) → IsWithin p (all_classes p)
within-all p c i = let h = count_up-IsIn c 0 p.classes i in omega arith

-- a group within classes of one goal has one goal
one-goal : (p : Problem) (group : List ℕ) → IsWithin p group → is_end p (all_classes p) ≡ true → is_end p group ≡ true
one-goal p group within e = is_end-from_goals p group (λ a b i j. goals-from_is_end p (all_classes p) e a b (there a (within a i)) (there b (within b j)))
  where
    there : (c : ℕ) → c < p.classes → IsIn c (all_classes p)
    there c lt = IsIn-count_up c 0 p.classes (omega arith) (omega arith)

module _ (p : Problem) (limit : ℕ) (o : Outcome) (told : AreTold p) (right : IsRightOutcome p limit o) where
  -- the strategy asks where it has to, and costs the cost
  pub needed : AsksWhereNeeded p (tree_of o.strategy) (all_classes p)
  needed = subst (λ t. AsksWhereNeeded p t (all_classes p)) (sym right.strategy_is) (strat-needed p (groups_in o.rows.items) (all_classes p) o.cost told (within-all p) right.cost_is)

  costs : tree_cost p (tree_of o.strategy) (all_classes p) ≡ o.cost
  costs = ap (λ t. tree_cost p t (all_classes p)) right.strategy_is ∙ (strat-holds p (groups_in o.rows.items) (all_classes p) o.cost told (within-all p) right.cost_is).costs

  pub low-cost : IsWeighed p → o.low ≤ o.cost
  low-cost w =
      let a = low-le-least p (groups_in o.rows.items) (all_classes p) w told (within-all p) in
      let b = least-le-val p (groups_in o.rows.items) (all_classes p) o.cost told (within-all p) right.cost_is in
      let c = right.low_is in
      omega arith

  pub tree-lines-good : (labels : Labels) → AreGood (looks_at_tree p (report_from p o labels))
  unfolding looks_at_tree
  tree-lines-good labels = tree-good p (tree_at (report_from p o labels)) (tree_of o.strategy) (all_classes p) needed

  pub cost-good : (labels : Labels) → AreGood (cost_looks p (report_from p o labels))
  unfolding cost_looks
  cost-good labels =
      let drawn = ap (λ t. tree_cost p t (all_classes p)) (tree-drawn p (tree_of o.strategy) (all_classes p)) in
      (or_right (not (all_good (looks_at_tree p (report_from p o labels)))) _ (eq-eqb o.cost (tree_cost p (tree_in (tree_lines p (tree_of o.strategy) (all_classes p))) (all_classes p)) (sym (drawn ∙ costs))), tt)

  pub low-good : (labels : Labels) → IsWeighed p → AreGood (low_looks p (report_from p o labels))
  unfolding low_looks
  low-good labels w = (le-leb o.low o.cost (low-cost w), (none (cases_Bool (is_end p (all_classes p))), tt))
    where
      none : (is_end p (all_classes p) ≡ true) ⊎ (is_end p (all_classes p) ≡ false) → (not (is_end p (all_classes p)) || nat_eq o.low 0) ≡ true
      none (inl e) = or_right (not (is_end p (all_classes p))) (nat_eq o.low 0) (eq-eqb o.low 0 (sym right.low_is ∙ low-end p (groups_in o.rows.items) (all_classes p) e))
      none (inr e) = rw e refl

  gap-of : (v : Verdict) → (o.verdict ≡ v) → IsWeighed p → is_gap v (o.cost - o.low) ≡ true
  gap-of Optimal is w = let same = (right.optimal).0 is in eq-eqb (o.cost - o.low) 0 (omega arith)
  gap-of Bounded is w =
      let le = low-cost w in
      lt-ltb 0 (o.cost - o.low) (elim (cases_lt o.low o.cost) [
        | inl lt ↦ omega arith
        | inr ge ↦ absurd (let same : o.low ≡ o.cost = omega arith in let bad = sym is ∙ (right.optimal).1 same in different bad)
      ])
    where
      different : Bounded ≡ Optimal → ⊥
      different e = cc

  pub gap-good : (labels : Labels) → IsWeighed p → AreGood (gap_looks (report_from p o labels))
  unfolding gap_looks
  gap-good labels w = (and_from (nat_eq (o.cost - o.low) (o.cost - o.low)) (is_gap o.verdict (o.cost - o.low)) (eq-eqb (o.cost - o.low) (o.cost - o.low) refl) (gap-of o.verdict refl w), tt)

  length-groups : (rows : List Row) → length (groups_in rows) ≡ length rows
  length-groups [] = refl
  length-groups (r ∷ rows) = ap suc (length-groups rows)

  count-of : (v : Verdict) → (o.verdict ≡ v) → is_count v o.limit (length o.rows.items) ≡ true
  count-of Optimal is = let few = (right.entered).few in let l = right.limit_is in le-leb (length o.rows.items) o.limit (omega arith)
  count-of Bounded is = let many = (right.full is).many in let l = right.limit_is in let n = length-groups o.rows.items in eq-eqb (length o.rows.items) o.limit (omega arith)

  no-rows : (rows : List Row) → AllByRecursion (λ (r : Row). IsReal p (members r.group)) rows → is_end p (all_classes p) ≡ true → nat_eq (length rows) 0 ≡ true
  no-rows [] real e = refl
  no-rows (r ∷ rows) real e = absurd (true≢false (sym (one-goal p (members r.group) (wanted-within p (members r.group) (real.0).wanted) e) ∙ (real.0).goals))

  some-rows : (rows : List Row) (group : List ℕ) → is_entered (groups_in rows) group ≡ true → nat_lt 0 (length rows) ≡ true
  some-rows [] group e = absurd (false≢true e)
  some-rows (r ∷ rows) group e = lt-ltb 0 (length (r ∷ rows)) (omega arith)

  rows-there : AllByRecursion (λ (r : Row). IsReal p (members r.group)) o.rows.items → cond (is_end p (all_classes p)) (nat_eq (length o.rows.items) 0) (nat_lt 0 (length o.rows.items)) ≡ true
  rows-there real = elim (cases_Bool (is_end p (all_classes p))) [
    | inl e ↦ rw e (no-rows o.rows.items real e)
    | inr e ↦ rw e (some-rows o.rows.items (all_classes p) ((right.entered).root e))
  ]

  pub count-good : (labels : Labels) → AllByRecursion (λ (r : Row). IsReal p (members r.group)) o.rows.items → AreGood (count_looks p (report_from p o labels))
  unfolding count_looks
  count-good labels real =
      let n = groups_counted o.rows.items in (
        ap (is_count o.verdict o.limit) n ∙ count-of o.verdict refl,
        (ap (λ k. cond (is_end p (all_classes p)) (nat_eq k 0) (nat_lt 0 k)) n ∙ rows-there real, tt),
      )
