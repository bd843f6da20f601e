-- What a certified report shows.
use Rattle.std.specs.Prelude.{◌≡◌, ℕ, ◌≤◌, Option, Some, None, Result, Ok, Err, All}
use Rattle.seq_theory.specs.Problem.{Problem, all_classes}
use Rattle.seq_theory.specs.Tree.{Tree, tree_cost, Solves, IsLeast}
use Rattle.sig_lines.specs.declared.labels.Labels.{Labels}
use Rattle.seq_inst.specs.declared.outcome.Verdict.{Verdict}
use Rattle.seq_inst.specs.declared.outcome.Verdict.TheVariants.{Optimal}
use Rattle.seq_cert.specs.declared.fault.BadLine.{BadLine}
use Rattle.seq_cert.specs.declared.fault.ReportFault.{ReportFault}
use Rattle.seq_cert.specs.declared.fault.ReportFault.TheVariants.{Bad, OutOfMemory}
use Rattle.seq_cert.specs.declared.report.Report.{Report}
use Rattle.seq_cert.specs.declared.report.GroupLine.{GroupLine}
use Rattle.seq_inst.specs.Members.{members}
use Rattle.seq_huff.specs.Bounds.{IsAtMostLeast}
use Rattle.seq_cert.specs.TreeLines.{tree_lines}
use Rattle.seq_check.specs.Looks.{first_bad}
use Rattle.seq_check.specs.Lines.{looks}

-- no line is bad
abbrev pub IsCertified : Problem → Labels → Report → Type 0
IsCertified p labels r = first_bad (looks p labels r) ≡ None

-- the report's tree lines are those of a strategy that is right for all classes and costs the report's cost; the least
-- cost lies between the report's low and its cost, and is the cost where the report says optimal; and no right strategy
-- for the group of a group line undercuts the line's low
pub record Shows (p : Problem) (r : Report) : Type 0 where
  pub tree : Tree
  pub drawn : r.tree ≡ tree_lines p tree (all_classes p)
  pub right : Solves p tree (all_classes p)
  pub costs : tree_cost p tree (all_classes p) ≡ r.cost
  pub least : ℕ
  pub is_least : IsLeast p (all_classes p) least
  pub low : r.low ≤ least
  pub high : least ≤ r.cost
  pub optimal : r.verdict ≡ Optimal → r.cost ≡ least
  pub groups : All (λ (line : GroupLine). IsAtMostLeast p (members line.group) line.low) r.groups

-- the verdict where no line is bad, else the first bad line; memory may be short
abbrev pub Judges : Verdict → Option BadLine → Result Verdict ReportFault → Type 0
Judges verdict first (Ok v) = (v ≡ verdict) × (first ≡ None)
Judges verdict first (Err (Bad b)) = first ≡ Some b
Judges verdict first (Err OutOfMemory) = Unit {0}
