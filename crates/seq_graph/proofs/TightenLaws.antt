-- Raising and capping a group by the test of least sum and the evaluated ones is allowed, and closes the group where both parts by
-- that test are closed: its sum over lows, to which the group is raised, is one of the sums by which it is capped.
use Rattle.std.proofs.Common.{◌≡◌, ℕ, ◌<◌, ◌≤◌, max, min, List, length, get_or, map, ap, ◌∙◌, arith, refl, subst, Option, Some, None}
use Rattle.seq_theory.specs.Problem.{IsIn, splitting}
use Rattle.seq_theory.specs.Bound.{step_sum}
use Rattle.seq_theory.specs.Greedy.{greedy_cost}
use Rattle.seq_theory.specs.Rows.{no_value, known_low, known_up, most_low, least_up}
use Rattle.seq_inst.specs.declared.instance.Instance.{Instance}
use Rattle.seq_inst.specs.declared.outcome.Row.{Row}
use Rattle.seq_inst.specs.Members.{members}
use Rattle.seq_inst.specs.Instances.{problem_of}
use Rattle.seq_graph.specs.declared.node.Node.{Node}
use Rattle.seq_graph.specs.declared.node.Split.{Split}
use Rattle.seq_graph.specs.Numbered.{Numbered}
use Rattle.seq_core.specs.RowsOf.{rows_of as rows_from}
use Rattle.seq_graph.specs.declared.graph.Count.{Count}
use Rattle.seq_graph.specs.Known.{AreKnown, AreBounds, Allow, row_at, group_at, splits_at}
use Rattle.seq_graph.specs.Settling.{evaluated_up}
use Rattle.seq_graph.specs.Steps.{least_test, ClosesBelow}
use Rattle.seq_graph.proofs.KnownLaws.{row-real, row-within}
use Rattle.seq_graph.proofs.CountLaws.{kept-read}
use Rattle.seq_graph.proofs.SplitLaws.{splits-read}
use Rattle.seq_graph.proofs.ChoiceLaws.{IsFirst, least_test-first, most_low-is}
use Rattle.seq_graph.proofs.CoverLaws.{test-listed}
use Rattle.seq_theory.specs.Graph.{step_value}
use Rattle.seq_theory.proofs.ValLaws.{least_of-values-le}
use Rattle.seq_core.specs.Settled.{value_or}
use Rattle.seq_graph.proofs.CapLaws.{below-greedy, cap-above, closed-value}
use Rattle.seq_graph.proofs.BoundsLaws.{allowed-right}

module _ (inst : Instance) (v : Numbered) (rows : List Row) (kept : List Node) (counts : List Count) (known : AreKnown (problem_of inst) v rows kept counts) (place : ℕ) (lt : place < length rows) (k : Node) (read : k ≡ get_or kept place k)
    (t sum over low up : ℕ) (test_is : t ≡ least_test (problem_of inst) rows (members (group_at rows place)))
    (sum_is : sum ≡ step_sum (problem_of inst) (known_low (problem_of inst) (rows_from rows)) (members (group_at rows place)) t) (low_is : low ≡ max k.bound sum)
    (over_is : over ≡ value_or (step_value (problem_of inst) (known_up (problem_of inst) (rows_from rows)) (members (group_at rows place)) t)) (up_is : up ≡ min (evaluated_up (problem_of inst) rows kept place) over) where
  pub within : (u : ℕ) → IsIn u (map (λ s. s.test) (splits_at kept place)) → IsIn u (splitting (problem_of inst) (members (group_at rows place)))
  within u i =
      let p = problem_of inst in
      let g = members (group_at rows place) in
      let of = kept-read p v rows kept counts known place k lt read in
      let long = known.kept_are.as_many in
      let same = splits-read kept place k (omega arith) read in
      let h = test-listed (λ (s : Split). IsIn s.test (splitting p g)) k.splits.items u of.tests.splits_are (subst (λ l. IsIn u (map (λ (s : Split). s.test) l)) same i) in
      subst (λ n. IsIn n (splitting p g)) h.test_is h.holds

  pub most : low ≡ most_low (problem_of inst) (rows_from rows) (members (group_at rows place))
  most =
      let p = problem_of inst in
      let r = row_at rows place in
      let g = members r.group in
      let l = known_low p (rows_from rows) in
      let of = kept-read p v rows kept counts known place k lt read in
      let first : IsFirst (step_sum p l g) (splitting p g) t = least_test-first p (step_sum p l g) g t inst.valid.told (row-within p rows known.rows_are place lt) (row-real p rows known.rows_are place lt).goals test_is in
      low_is ∙ most_low-is p l g t k.bound sum of.bound_is sum_is first

  first : IsFirst (step_sum (problem_of inst) (known_low (problem_of inst) (rows_from rows)) (members (group_at rows place))) (splitting (problem_of inst) (members (group_at rows place))) t
  first =
      let p = problem_of inst in
      let g = members (group_at rows place) in
      least_test-first p (step_sum p (known_low p (rows_from rows)) g) g t inst.valid.told (row-within p rows known.rows_are place lt) (row-real p rows known.rows_are place lt).goals test_is

  -- what the test of least sum gives over ups is no less than the least of what all give
  over-above : least_up (problem_of inst) (rows_from rows) (members (group_at rows place)) ≤ over
  over-above = go (step_value (problem_of inst) (known_up (problem_of inst) (rows_from rows)) (members (group_at rows place)) t) refl
    where
      go : (o : Option ℕ) → step_value (problem_of inst) (known_up (problem_of inst) (rows_from rows)) (members (group_at rows place)) t ≡ o → least_up (problem_of inst) (rows_from rows) (members (group_at rows place)) ≤ over
      go None is =
          let p = problem_of inst in
          let g = members (group_at rows place) in
          let greedy = below-greedy p (rows_from rows) g in
          let small = inst.stands.greedy_fits (group_at rows place) (row-within p rows known.rows_are place lt) in
          let e : over ≡ no_value = over_is ∙ ap value_or is in
          omega arith
      go (Some n) is =
          let p = problem_of inst in
          let g = members (group_at rows place) in
          let least = least_of-values-le (greedy_cost p g) (step_value p (known_up p (rows_from rows)) g) t n (splitting p g) first.among is in
          let e : over ≡ n = over_is ∙ ap value_or is in
          omega arith

  pub allow : Allow (problem_of inst) rows (members (group_at rows place)) low up
  allow =
      let p = problem_of inst in
      let g = members (group_at rows place) in
      let greedy = below-greedy p (rows_from rows) g in
      let small = inst.stands.greedy_fits (group_at rows place) (row-within p rows known.rows_are place lt) in
      let above = cap-above p (rows_from rows) g no_value (map (λ (s : Split). s.test) (splits_at kept place)) (omega arith) within in
      let raised = most in
      let over_up = over-above in
      record { low_allowed = omega arith; up_allowed = omega arith }

  pub right : AreBounds (problem_of inst) (members (group_at rows place)) low up
  right = allowed-right inst rows known.rows_are place lt low up allow

  pub closes-below : ClosesBelow (problem_of inst) rows (members (group_at rows place)) → up ≤ low
  closes-below closed =
      let p = problem_of inst in
      let r = row_at rows place in
      let g = members r.group in
      let value = closed-value p (rows_from rows) g (least_test p rows g) closed.passing closed.failing in
      let same = ap (step_sum p (known_low p (rows_from rows)) g) test_is in
      let e : over ≡ step_sum p (known_low p (rows_from rows)) g (least_test p rows g) = over_is ∙ ap (λ n. value_or (step_value p (known_up p (rows_from rows)) g n)) test_is ∙ ap value_or value in
      omega arith
