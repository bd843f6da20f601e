-- What a right outcome has to print has room: no more rows than the limit, and no more leaves than classes, since its
-- strategy asks only tests that split what reaches them; and a group was missed exactly where the verdict says so.
use Rattle.std.proofs.Common.{◌≡◌, ℕ, ◌≤◌, List, refl, sym, subst, arith, Option, Some, None}
use Rattle.seq_theory.specs.Problem.{Problem, AreTold, all_classes}
use Rattle.seq_theory.specs.Tree.{AsksOnly}
use Rattle.seq_theory.proofs.StratLaws.{strat-holds}
use Rattle.seq_inst.specs.declared.group.Group.{Group}
use Rattle.seq_inst.specs.declared.outcome.Outcome.{Outcome}
use Rattle.seq_inst.specs.declared.outcome.Verdict.{Verdict}
use Rattle.seq_inst.specs.declared.outcome.Verdict.TheVariants.{Optimal, Bounded}
use Rattle.seq_inst.specs.Shapes.{leaf_count, AsksSplitting}
use Rattle.seq_inst.specs.Trees.{tree_of}
use Rattle.seq_theory.proofs.ShapeLaws.{leaves-le}
use Rattle.seq_core.specs.Settled.{groups_in}
use Rattle.seq_core.specs.Entered.{IsFull, IsMissed}
use Rattle.seq_finish.specs.Outcomes.{IsRightOutcome}
use Rattle.seq_theory.proofs.StratParts.{strat-splitting}
use Rattle.seq_cert.specs.Printable.{IsMissedAt}
use Rattle.seq_shown.specs.Laws.{OutcomesPrint}
use Rattle.seq_shown.proofs.HeadLines.{within-all}
use Rattle.seq_shown.proofs.WholeGroup.{length-classes}

-- a group was missed exactly where the result is bounded
no-group : (missed : Option Group) → missed ≡ None → IsMissedAt Optimal missed
no-group None e = tt
no-group (Some g) e = absurd (let bad : ⊥ = cc in bad)

a-group : (p : Problem) (entered : List (List ℕ)) (missed : Option Group) → IsMissed p entered missed → IsMissedAt Bounded missed
a-group p entered None m = m
a-group p entered (Some g) m = tt

missed-at : (p : Problem) (limit : ℕ) (entered : List (List ℕ)) (v : Verdict) (missed : Option Group) → (v ≡ Optimal → missed ≡ None) → (v ≡ Bounded → IsFull p limit entered missed) → IsMissedAt v missed
missed-at p limit entered Optimal missed none full = no-group missed (none refl)
missed-at p limit entered Bounded missed none full = a-group p entered missed (full refl).missed_is

leaves-few : (p : Problem) (limit : ℕ) (o : Outcome) → AreTold p → 1 ≤ p.classes → IsRightOutcome p limit o → leaf_count (tree_of o.strategy) ≤ p.classes
leaves-few p limit o told some right =
    let count = length-classes 0 p.classes in
    let splitting = subst (λ t. AsksSplitting p t (all_classes p)) (sym right.strategy_is) (strat-splitting p (groups_in o.rows.items) (all_classes p) o.cost told (within-all p) right.cost_is) in
    let few = leaves-le p (tree_of o.strategy) (all_classes p) splitting (omega arith) in
    omega arith

pub outcomes_print : OutcomesPrint
outcomes_print p labels limit o told classes room fits right =
    let rows = (right.entered).few in
    let leaves = leaves-few p limit o told classes.0 right in
    let most = classes.1 in
    let high = room.1 in
    record {
      mode = fits.mode;
      state_labels = fits.state_labels;
      test_labels = fits.test_labels;
      states = fits.states;
      limit = subst (λ n. (1 ≤ n) × (n ≤ 32768)) (sym right.limit_is) room;
      rows = omega arith;
      leaves = omega arith;
      missed = missed-at p limit (groups_in o.rows.items) o.verdict o.missed right.none_missed right.full;
    }
