-- What solving a system means, in words of single states, and its report.
use Rattle.std.specs.Prelude.{◌≡◌, ℕ, ◌<◌, ◌≤◌, nat_lt, List, length}
use Rattle.seq_theory.specs.Problem.{Problem, all_classes}
use Rattle.seq_theory.specs.Tree.{Tree, tree_cost, Solves, IsLeast}
use Rattle.seq_theory.specs.States.{System, state_problem, firsts, IsOfClasses, problem_of_classes}
use Rattle.seq_inst.specs.declared.outcome.Outcome.{Outcome}
use Rattle.seq_inst.specs.declared.outcome.Verdict.{Verdict}
use Rattle.seq_inst.specs.declared.outcome.Verdict.TheVariants.{Optimal, Bounded}
use Rattle.seq_inst.specs.Trees.{tree_of}
use Rattle.sig_types.specs.declared.refusals.Refusal.{Refusal}
use Rattle.sig_types.specs.declared.refusals.Code.TheVariants.{M13}
use Rattle.sig_types.specs.declared.refusals.Place.TheVariants.{Count}
use Rattle.sig_types.specs.declared.refusals.Counted.TheVariants.{Classes as ManyClasses}
use Rattle.sig_types.specs.Breaches.{breach_if}
use Rattle.sig_lines.specs.declared.labels.Labels.{Labels}
use Rattle.seq_finish.specs.Outcomes.{IsRightOutcome}
use Rattle.seq_cert.specs.ReportForm.{IsReport}
use Rattle.seq_cert.specs.Text.{report_bytes}
use Rattle.seq_cert.specs.OutcomeReport.{report_from}
use Rattle.seq_check.specs.Shown.{Shows}
use Rattle.seq_shown.specs.Laws.{IsAccepted}

-- all states of the system
abbrev pub all_states : System → List ℕ
all_states sys = all_classes (state_problem sys)

-- the strategy is right: states that end at one leaf have equal rows
abbrev pub IsRightFor : System → Tree → Type 0
IsRightFor sys tree = Solves (state_problem sys) tree (all_states sys)

-- what the strategy costs over all states: each state's weight times the costs of the tests asked on its way
abbrev pub state_cost : System → Tree → ℕ
state_cost sys tree = tree_cost (state_problem sys) tree (all_states sys)

-- the number is what some right strategy costs, and no right strategy costs less
abbrev pub IsLeastFor : System → ℕ → Type 0
IsLeastFor sys cost = IsLeast (state_problem sys) (all_states sys) cost

-- the outcome's strategy is right for all states and costs its cost; the least cost lies between its low and its cost, and is
-- the cost where the verdict is Optimal
pub record Stands (sys : System) (o : Outcome) : Type 0 where
  pub right : IsRightFor sys (tree_of o.strategy)
  pub costs : o.cost ≡ state_cost sys (tree_of o.strategy)
  pub least : ℕ
  pub is_least : IsLeastFor sys least
  pub low : o.low ≤ least
  pub high : least ≤ o.cost
  pub optimal : o.verdict ≡ Optimal → o.cost ≡ least
  pub bounded : o.verdict ≡ Bounded → o.low < o.cost

-- the outcome is right over the system's ambiguity groups, of which there are at most 512, with this limit, and says the same
-- of the states
pub record IsSolved (sys : System) (problem : Problem) (groups : ℕ) (outcome : Outcome) : Type 0 where
  pub few : length (firsts sys) ≤ 512
  pub classes : IsOfClasses sys problem
  pub right : IsRightOutcome problem groups outcome
  pub stands : Stands sys outcome

-- the text is the report of such an outcome under these labels, over the one problem of the system's ambiguity groups
pub record IsSolution (sys : System) (labels : Labels) (groups : ℕ) (verdict : Verdict) (text : List ℕ) : Type 0 where
  pub outcome : Outcome
  pub solved : IsSolved sys (problem_of_classes sys) groups outcome
  pub verdict_is : outcome.verdict ≡ verdict
  pub report : text ≡ report_bytes (report_from (problem_of_classes sys) outcome labels)
  -- it has a report's form, the checker accepts it, and it shows what it says
  pub form : IsReport (report_from (problem_of_classes sys) outcome labels)
  pub accepted : IsAccepted (problem_of_classes sys) labels (report_from (problem_of_classes sys) outcome labels)
  pub shows : Shows (problem_of_classes sys) (report_from (problem_of_classes sys) outcome labels)

-- what a system is refused for before a search or a check: that it has more than 512 ambiguity groups
abbrev pub class_refusals : System → List Refusal
class_refusals sys = breach_if (nat_lt 512 (length (firsts sys))) M13 (Count ManyClasses)
