-- What a group may be capped to: greedy's cost, and the least of what some tests give, are no less than the least of what greedy and
-- all tests give; and a test of which both parts are closed gives its sum over lows.
use Rattle.std.proofs.Common.{◌≡◌, ℕ, ◌*◌, ◌≤◌, List, ◌∷◌, ap, ◌∙◌, Some}
use Rattle.std.specs.List.{filter_map}
use Rattle.seq_theory.specs.Problem.{Problem, IsIn, least_of, splitting, pass_part, fail_part, weight_of}
use Rattle.seq_theory.specs.Bound.{step_sum}
use Rattle.seq_theory.specs.Greedy.{greedy_cost}
use Rattle.seq_theory.specs.Graph.{step_value, sum_with}
use Rattle.seq_theory.specs.Rows.{Row as PlainRow, known_low, known_up, least_up}
use Rattle.seq_theory.proofs.ValLaws.{least_of-first, least_of-values-le, values-at_least}

module _ (p : Problem) (rows : List PlainRow) (group : List ℕ) where
  pub below-greedy : least_up p rows group ≤ greedy_cost p group
  below-greedy = least_of-first (greedy_cost p group) (filter_map (step_value p (known_up p rows) group) (splitting p group))

  pub cap-above : (first : ℕ) (tests : List ℕ) → least_up p rows group ≤ first → ((t : ℕ) → IsIn t tests → IsIn t (splitting p group)) → least_up p rows group ≤ least_of (first ∷ filter_map (step_value p (known_up p rows) group) tests)
  cap-above first tests le within =
      let v = step_value p (known_up p rows) group in
      values-at_least (least_up p rows group) first v tests le (λ t x i e. least_of-values-le (greedy_cost p group) v t x (splitting p group) (within t i) e)

  pub closed-value : (t : ℕ) → known_up p rows (pass_part p t group) ≡ Some (known_low p rows (pass_part p t group)) → known_up p rows (fail_part p t group) ≡ Some (known_low p rows (fail_part p t group))
      → step_value p (known_up p rows) group t ≡ Some (step_sum p (known_low p rows) group t)
  closed-value t pass fail =
      ap (λ o. sum_with (p.cost t * weight_of p group) o (known_up p rows (fail_part p t group))) pass
      ∙ ap (λ o. sum_with (p.cost t * weight_of p group) (Some (known_low p rows (pass_part p t group))) o) fail
