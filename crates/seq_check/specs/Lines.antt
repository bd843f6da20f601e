-- All looks at a report, in the order of lines and at a line of codes, and on which line each part begins.
use Rattle.std.specs.Prelude.{ℕ, ◌+◌, ◌-◌, Bool, not, cond, ◌&&◌, ◌||◌, nat_eq, nat_le, nat_lt, List, [], ◌∷◌, ◌++◌, length, None}
use Rattle.seq_theory.specs.Problem.{Problem, all_classes, is_end}
use Rattle.seq_theory.specs.Tree.{tree_cost}
use Rattle.sig_lines.specs.declared.labels.Labels.{Labels}
use Rattle.seq_inst.specs.declared.outcome.Verdict.{Verdict}
use Rattle.seq_inst.specs.declared.outcome.Verdict.TheVariants.{Optimal, Bounded}
use Rattle.seq_cert.specs.declared.fault.BadCode.TheVariants.{C04, C05, C08}
use Rattle.seq_cert.specs.declared.report.Report.{Report}
use Rattle.seq_cert.specs.declared.report.ClassLine.{ClassLine}
use Rattle.seq_check.specs.Looks.{Look, look, all_good}
use Rattle.seq_check.specs.TreesIn.{tree_in}
use Rattle.seq_check.specs.ModelLooks.{model_looks, class_looks, test_looks}
use Rattle.seq_check.specs.TreeLooks.{tree_looks}
use Rattle.seq_check.specs.GroupLooks.{claims_of, group_looks, missed_looks}

-- how many lines the classes take
abbrev pub class_length : List ClassLine → ℕ
class_length [] = 0
class_length (line ∷ lines) = (1 + length line.states) + class_length lines

-- the first line of the tests, of the tree, of the groups, and the line after the groups
abbrev pub tests_at : Report → ℕ
tests_at r = 13 + class_length r.class_lines

abbrev pub tree_at : Report → ℕ
tree_at r = tests_at r + length r.test_lines

abbrev pub groups_at : Report → ℕ
groups_at r = tree_at r + length r.tree

abbrev pub missed_at : Report → ℕ
missed_at r = groups_at r + length r.groups

-- the tree lines, with the group of all classes to settle
unfoldable pub looks_at_tree : Problem → Report → List Look
looks_at_tree p r = tree_looks p (tree_at r) (all_classes p ∷ []) r.tree

-- the cost; it is looked at only where the tree is good
unfoldable pub cost_looks : Problem → Report → List Look
cost_looks p r = look 8 C04 (not (all_good (looks_at_tree p r)) || nat_eq r.cost (tree_cost p (tree_in r.tree) (all_classes p))) ∷ []

-- the low
unfoldable pub low_looks : Problem → Report → List Look
low_looks p r = look 9 C05 (nat_le r.low r.cost) ∷ look 9 C08 (not (is_end p (all_classes p)) || nat_eq r.low 0) ∷ []

-- whether a gap goes with a verdict, and a number of groups with a verdict and a limit
abbrev pub is_gap : Verdict → ℕ → Bool
is_gap Optimal gap = nat_eq gap 0
is_gap Bounded gap = nat_lt 0 gap

abbrev pub is_count : Verdict → ℕ → ℕ → Bool
is_count Optimal limit count = nat_le count limit
is_count Bounded limit count = nat_eq count limit

-- the gap
unfoldable pub gap_looks : Report → List Look
gap_looks r = look 10 C05 (nat_eq r.gap (r.cost - r.low) && is_gap r.verdict r.gap) ∷ []

-- how many groups there are
unfoldable pub count_looks : Problem → Report → List Look
count_looks p r =
    look 12 C05 (is_count r.verdict r.limit (length r.groups))
    ∷ look 12 C08 (cond (is_end p (all_classes p)) (nat_eq (length r.groups) 0) (nat_lt 0 (length r.groups)))
    ∷ []

-- the first twelve lines
unfoldable pub head_looks : Problem → Labels → Report → List Look
head_looks p labels r = model_looks p labels r ++ (cost_looks p r ++ (low_looks p r ++ (gap_looks r ++ count_looks p r)))

-- the looks from the group lines on
unfoldable pub looks_from_groups : Problem → Report → List Look
looks_from_groups p r = group_looks p (groups_at r) r.low (claims_of r.groups) None r.groups ++ missed_looks p (missed_at r) r.groups r.missed

-- the looks from the tree lines on
unfoldable pub looks_from_tree : Problem → Report → List Look
looks_from_tree p r = looks_at_tree p r ++ looks_from_groups p r

-- the looks from the class lines on
unfoldable pub looks_from_classes : Problem → Labels → Report → List Look
looks_from_classes p labels r = class_looks p labels.states 13 0 r.class_lines ++ (test_looks (tests_at r) labels.tests r.test_lines ++ looks_from_tree p r)

-- all looks at a report
unfoldable pub looks : Problem → Labels → Report → List Look
looks p labels r = head_looks p labels r ++ looks_from_classes p labels r
