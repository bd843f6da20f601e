-- What holds of the ambiguity groups holds of the states: an outcome, and a certified report.
use Rattle.std.proofs.Common.{◌∙◌, ℕ, refl, sym}
use Rattle.seq_theory.specs.Problem.{Problem, AreTold, IsWeighed, all_classes}
use Rattle.seq_theory.specs.Laws.{HasLeast}
use Rattle.seq_theory.specs.PassageLaws.{PassageStands}
use Rattle.seq_theory.specs.States.{System}
use Rattle.seq_inst.specs.declared.outcome.Outcome.{Outcome}
use Rattle.seq_inst.specs.Trees.{tree_of}
use Rattle.seq_theory.proofs.BelowLaws.{within-all}
use Rattle.seq_finish.specs.Outcomes.{IsRightOutcome}
use Rattle.seq_finish.specs.Laws.{OutcomesHold}
use Rattle.seq_cert.specs.declared.report.Report.{Report}
use Rattle.seq_check.specs.Shown.{Shows}
use Rattle.teams_run.specs.Solved.{Stands}
use Rattle.teams_run.specs.Judged.{ShowsStates}

pub stands : (sys : System) (p : Problem) (limit : ℕ) (o : Outcome) → PassageStands sys p → HasLeast → OutcomesHold → IsWeighed p → AreTold p → IsRightOutcome p limit o → Stands sys o
stands sys p limit o passage has_least outcomes is_weighed told right =
    let least = has_least p (all_classes p) told (within-all p (all_classes p) refl) in
    let s = outcomes p limit least.0 o is_weighed told right least.1 in
    record {
      right = (passage.right (tree_of o.strategy)).1 s.right;
      costs = sym (passage.costs (tree_of o.strategy) s.right.there ∙ s.costs);
      least = least.0;
      is_least = (passage.least least.0).1 least.1;
      low = s.low;
      high = s.high;
      optimal = λ is. sym (s.optimal is);
      bounded = s.bounded;
    }

pub shows : (sys : System) (p : Problem) (report : Report) → PassageStands sys p → Shows p report → ShowsStates sys p report
shows sys p report passage s = record {
  tree = s.tree;
  drawn = s.drawn;
  right = (passage.right s.tree).1 s.right;
  costs = sym (passage.costs s.tree s.right.there ∙ s.costs);
  least = s.least;
  is_least = (passage.least s.least).1 s.is_least;
  low = s.low;
  high = s.high;
  optimal = s.optimal;
}
