-- No look at the report of a right outcome is bad: the parts of the report, each good by its own file, in the order of the
-- lines. Of the report's form only one thing is asked: that each group is eight words of 64 bits, without which two groups
-- could be one number.
use Rattle.std.proofs.Common.{◌≡◌, ℕ, List, [], ◌∷◌, map, ap, subst, ◌∙◌, inl, inr, None}
use Rattle.std.specs.Prelude.{true, false}
use Rattle.std.specs.List.{AllByRecursion, list_any}
use Rattle.std.proofs.lemmas.Bool.{or_cases, false≢true}
use Rattle.std.proofs.lemmas.List.Elements.{recursion_from_All}
use Rattle.seq_theory.specs.Laws.{LowsAreClaims}
use Rattle.seq_theory.specs.Problem.{Problem, IsWeighed, AreTold, is_end}
use Rattle.seq_theory.specs.Graph.{same_group, is_entered, IsReal}
use Rattle.seq_theory.proofs.RowLaws.{same_group-true}
use Rattle.sig_lines.specs.declared.labels.Labels.{Labels}
use Rattle.seq_inst.specs.declared.outcome.Row.{Row}
use Rattle.seq_inst.specs.declared.outcome.Outcome.{Outcome}
use Rattle.seq_inst.specs.Members.{members}
use Rattle.seq_core.specs.Settled.{groups_in}
use Rattle.seq_finish.specs.Outcomes.{IsSettled, IsRightOutcome}
use Rattle.seq_cert.specs.declared.report.GroupLine.{GroupLine}
use Rattle.seq_cert.specs.OutcomeReport.{row_line, report_from}
use Rattle.seq_cert.specs.Order.{in_order}
use Rattle.seq_cert.specs.ReportForm.{IsGroupLine}
use Rattle.seq_check.specs.Looks.{AreGood}
use Rattle.seq_check.specs.ModelLooks.{model_looks, class_looks, test_looks}
use Rattle.seq_check.specs.GroupLooks.{claims_of, group_looks}
use Rattle.seq_check.specs.Lines.{tests_at, groups_at, missed_at, looks_at_tree, cost_looks, low_looks, gap_looks, head_looks, looks_from_groups, looks_from_tree, looks_from_classes, looks}
use Rattle.seq_check.specs.Shown.{IsCertified}
use Rattle.seq_shown.proofs.GoodLooks.{none-bad, good-both}
use Rattle.seq_shown.proofs.LineOrder.{all-in_order, in_order-all, any-in_order, up-in_order}
use Rattle.seq_shown.proofs.RowLines.{IsLineOf, row-lines, rows-apart, rows-listed}
use Rattle.seq_shown.proofs.ListedGroups.{groups-good}
use Rattle.seq_shown.proofs.ModelLines.{model-good, classes-good, tests-good}
use Rattle.seq_shown.proofs.HeadLines.{tree-lines-good, cost-good, low-good, gap-good, count-good}
use Rattle.seq_shown.proofs.MissedLine.{missed-good}

-- an entered group is real
entered-more : (p : Problem) (rows : List Row) → AllByRecursion (λ (r : Row). IsReal p (members r.group)) rows → (g : List ℕ) → is_entered (groups_in rows) g ≡ true → is_end p g ≡ false
entered-more p [] real g e = absurd (false≢true e)
entered-more p (r ∷ rows) real g e = elim (or_cases (same_group g (members r.group)) (is_entered (groups_in rows) g) e) [
  | inl same ↦ ap (is_end p) (same_group-true g (members r.group) same) ∙ (real.0).goals
  | inr later ↦ entered-more p rows real.1 g later
]

module _ (law : LowsAreClaims) (p : Problem) (labels : Labels) (limit : ℕ) (o : Outcome) (w : IsWeighed p) (told : AreTold p) (right : IsRightOutcome p limit o) where
  real : AllByRecursion (λ (r : Row). IsReal p (members r.group)) o.rows.items
  real = recursion_from_All (λ (r : Row). IsReal p (members r.group)) o.rows.items (right.entered).real

  settled : AllByRecursion (IsSettled p (groups_in o.rows.items)) o.rows.items
  settled = recursion_from_All (IsSettled p (groups_in o.rows.items)) o.rows.items right.settled

  -- a group is listed exactly where it was entered
  listed : (g : List ℕ) → list_any (λ (line : GroupLine). same_group g (members line.group)) (in_order (map row_line o.rows.items)) ≡ is_entered (groups_in o.rows.items) g
  listed g = any-in_order (λ (line : GroupLine). same_group g (members line.group)) (map row_line o.rows.items) ∙ rows-listed o.rows.items g

  groups : AllByRecursion IsGroupLine (in_order (map row_line o.rows.items)) → (k : ℕ) → AreGood (group_looks p k o.low (claims_of (in_order (map row_line o.rows.items))) None (in_order (map row_line o.rows.items)))
  groups words k =
      let lines = map row_line o.rows.items in
      let of = all-in_order (IsLineOf p (groups_in o.rows.items)) lines (row-lines p (groups_in o.rows.items) o.rows.items real settled) in
      let up = up-in_order lines (rows-apart o.rows.items (right.entered).distinct (in_order-all IsGroupLine lines words)) in
      subst (λ n. AreGood (group_looks p k n (claims_of (in_order lines)) None (in_order lines))) right.low_is
      (groups-good p (groups_in o.rows.items) law k (in_order lines) of up listed (entered-more p o.rows.items real) (right.entered).root)

  head : AreGood (head_looks p labels (report_from p o labels))
  unfolding head_looks
  head =
      let r = report_from p o labels in
      good-both (model_looks p labels r) _ (model-good p labels o)
      (good-both (cost_looks p r) _ (cost-good p limit o told right labels)
      (good-both (low_looks p r) _ (low-good p limit o told right labels w)
      (good-both (gap_looks r) _ (gap-good p limit o told right labels w) (count-good p limit o told right labels real))))

  from-groups : AllByRecursion IsGroupLine (in_order (map row_line o.rows.items)) → AreGood (looks_from_groups p (report_from p o labels))
  unfolding looks_from_groups
  from-groups words =
      let r = report_from p o labels in
      good-both (group_looks p (groups_at r) r.low (claims_of r.groups) None r.groups) _ (groups words (groups_at r))
      (missed-good p (missed_at r) limit (groups_in o.rows.items) r.groups o.verdict o.missed listed right.none_missed right.full)

  from-tree : AllByRecursion IsGroupLine (in_order (map row_line o.rows.items)) → AreGood (looks_from_tree p (report_from p o labels))
  unfolding looks_from_tree
  from-tree words = good-both (looks_at_tree p (report_from p o labels)) _ (tree-lines-good p limit o told right labels) (from-groups words)

  from-classes : AllByRecursion IsGroupLine (in_order (map row_line o.rows.items)) → AreGood (looks_from_classes p labels (report_from p o labels))
  unfolding looks_from_classes
  from-classes words =
      let r = report_from p o labels in
      good-both (class_looks p labels.states 13 0 r.class_lines) _ (classes-good p labels o)
      (good-both (test_looks (tests_at r) labels.tests r.test_lines) _ (tests-good (tests_at r) labels.tests) (from-tree words))

  all-looks : AllByRecursion IsGroupLine (in_order (map row_line o.rows.items)) → AreGood (looks p labels (report_from p o labels))
  unfolding looks
  all-looks words = good-both (head_looks p labels (report_from p o labels)) _ head (from-classes words)

  -- where each group is eight words of 64 bits
  pub report-certified : AllByRecursion IsGroupLine (report_from p o labels).groups → IsCertified p labels (report_from p o labels)
  report-certified words = none-bad (looks p labels (report_from p o labels)) (all-looks words)
