-- A worker may go by any test whose sum over bounds is at most a low that is known of the group: its parts are wanted. And what a
-- glance at a group gives is allowed: each test that splits it is evaluated, or waits with no more than its sum, or has a sum above
-- the number up to which all tests are listed.
use Rattle.std.proofs.Common.{◌≡◌, ℕ, ◌+◌, ◌*◌, ◌<◌, ◌≤◌, max, List, length, get_or, sym, ap, ◌∙◌, arith, inl, inr, subst, Option, Some, None}
use Rattle.std.specs.Prelude.{All, slice_get}
use Rattle.std.specs.List.{filter_map}
use Rattle.seq_theory.specs.Problem.{Problem, IsIn, splitting, pass_part, fail_part, weight_of}
use Rattle.seq_theory.specs.Tree.{IsLeast}
use Rattle.seq_theory.specs.Bound.{bound, step_sum}
use Rattle.seq_theory.specs.Graph.{IsReal, IsWanted, step_value}
use Rattle.seq_theory.specs.Greedy.{greedy_cost}
use Rattle.seq_theory.specs.Rows.{no_value, known_low, known_up, most_low, least_up}
use Rattle.seq_theory.proofs.GreedyLaws.{least_of-steps-le}
use Rattle.seq_theory.proofs.LeastLaws.{least, IsLeast-least, IsLeast-one}
use Rattle.seq_theory.proofs.PartsRecursion.{splitting-splits, splitting-there}
use Rattle.seq_theory.proofs.ValLaws.{least_of-first, least_of-values-le}
use Rattle.seq_huff.specs.Bounds.{greatest_cost}
use Rattle.seq_inst.specs.declared.instance.Instance.{Instance}
use Rattle.seq_inst.specs.declared.outcome.Row.{Row}
use Rattle.seq_inst.specs.Members.{members}
use Rattle.seq_inst.specs.Instances.{problem_of}
use Rattle.seq_core.specs.RowsOf.{rows_of as rows_from}
use Rattle.seq_graph.specs.declared.graph.Count.{Count}
use Rattle.seq_graph.specs.declared.node.Node.{Node}
use Rattle.seq_graph.specs.declared.node.Split.{Split}
use Rattle.seq_graph.specs.declared.node.Waiting.{Waiting}
use Rattle.seq_graph.specs.declared.steps.Knowledge.{Knowledge}
use Rattle.seq_graph.specs.declared.steps.Knowledge.TheVariants.{Closed}
use Rattle.seq_graph.specs.Choice.{lesser_value}
use Rattle.seq_graph.specs.Choosing.{IsAhead, IsLowOf, WantsBoth}
use Rattle.seq_graph.specs.KeptOf.{HasParts, AreTestsOf}
use Rattle.seq_graph.specs.Known.{AreRows, AreKnown, group_at, row_at}
use Rattle.seq_graph.specs.Numbered.{Numbered, HasNumber}
use Rattle.seq_graph.specs.Steps.{least_test}
use Rattle.seq_graph.proofs.CountLaws.{kept-read}
use Rattle.seq_graph.proofs.CoverLaws.{test-listed}
use Rattle.seq_graph.proofs.ChoiceLaws.{sum-fits}
use Rattle.seq_graph.proofs.KeptLaws.{all-waits}
use Rattle.seq_graph.proofs.KnownLaws.{light-group, light-pass, light-fail, known_low-le, known_low-small, bound-le-known_low, row-real, row-within, row-bounds}
use Rattle.seq_graph.proofs.NumberedLaws.{kept-bound}
use Rattle.seq_graph.proofs.SplitLaws.{first-test, split-at}
use Rattle.seq_graph.proofs.StepLaws.{wants-both}

-- ---- which tests lead to wanted parts ----

-- any test does of which the sum over bounds is at most a low of the group that is known
pub wanted-within : (p : Problem) (group : List ℕ) (t low n : ℕ) → IsReal p group → IsIn t (splitting p group) → IsLowOf p group low → IsLeast p group n → step_sum p (bound p) group t ≤ low → WantsBoth p group t
wanted-within p group t low n real i below is le =
    let above = below n is in
    wants-both p group t i (λ passed. IsWanted.part_of group t n passed real.wanted real.goals (splitting-there p group t i) (splitting-splits p group t i) is (omega arith))

-- a step by a test of which a part isn't closed does not close the group
pub ahead-open : (k m : Knowledge) → IsAhead k m → k ≡ Closed → m ≡ Closed → ⊥
ahead-open k m ahead ek em = subst (λ x. IsAhead x Closed) ek (subst (IsAhead k) em ahead)

-- a number has one group
pub one-group : (v : Numbered) (a b : List ℕ) (n : ℕ) → HasNumber v a n → HasNumber v b n → a ≡ b
one-group v a b n ha hb = some-same a b (sym ha ∙ hb)
  where
    some-same : (x y : List ℕ) → Some x ≡ Some y → x ≡ y
    some-same x y e = cc

module _ (inst : Instance) (rows : List Row) (known : AreRows (problem_of inst) rows) (place : ℕ) (lt : place < length rows) where
  -- the least sum, and the low of the group's row, are lows that are known
  pub low-limit : (sum low : ℕ) → sum ≡ step_sum (problem_of inst) (known_low (problem_of inst) (rows_from rows)) (members (group_at rows place)) (least_test (problem_of inst) rows (members (group_at rows place))) → low ≡ (row_at rows place).low
      → IsLowOf (problem_of inst) (members (group_at rows place)) (max sum low)
  low-limit sum low is read n least_is =
      let p = problem_of inst in
      let g = members (group_at rows place) in
      let within = row-within p rows known place lt in
      let a = least_of-steps-le p (known_low p (rows_from rows)) g inst.valid.told within (row-real p rows known place lt).goals (λ part less w. known_low-le p rows known inst.stands.weighed inst.valid.told part w) in
      let b = (row-bounds p rows known inst.stands.weighed inst.valid.told place lt).0 in
      let one = IsLeast-one p g (least p g) n (IsLeast-least p g inst.valid.told within) least_is in
      let e = (first-test inst rows known place lt).least in
      omega arith

  pub limit-wants : (t low : ℕ) → IsIn t (splitting (problem_of inst) (members (group_at rows place))) → IsLowOf (problem_of inst) (members (group_at rows place)) low
      → step_sum (problem_of inst) (bound (problem_of inst)) (members (group_at rows place)) t ≤ low → WantsBoth (problem_of inst) (members (group_at rows place)) t
  limit-wants t low i below le =
      let p = problem_of inst in
      let g = members (group_at rows place) in
      wanted-within p g t low (least p g) (row-real p rows known place lt) i below (IsLeast-least p g inst.valid.told (row-within p rows known place lt)) le

-- ---- a sum over bounds ----

pub record IsBoundSum (sum product passing failing : ℕ) : Type 0 where
  pub fits : product ≤ 4097000000000000
  pub pass_fits : passing ≤ greatest_cost
  pub fail_fits : failing ≤ greatest_cost
  pub is : product + (passing + failing) ≡ sum

module _ (inst : Instance) (v : Numbered) (rows : List Row) (kept : List Node) (counts : List Count) (known : AreKnown (problem_of inst) v rows kept counts) (place : ℕ) (lt : place < length rows) where
  pub bound-sum : (s : Split) (cost pass fail : ℕ) (k : Node) → HasParts (problem_of inst) v (members (group_at rows place)) s → s.test < (problem_of inst).tests → cost ≡ (problem_of inst).cost s.test → k ≡ get_or kept place k
      → slice_get v.bounds s.pass ≡ Some pass → slice_get v.bounds s.fail ≡ Some fail
      → IsBoundSum (step_sum (problem_of inst) (bound (problem_of inst)) (members (group_at rows place)) s.test) (cost * k.weight) pass fail
  bound-sum s cost pass fail k parts there cost_is read pass_is fail_is =
      let p = problem_of inst in
      let g = members (group_at rows place) in
      let of = kept-read p v rows kept counts known place k lt read in
      let light = light-group inst (group_at rows place) (row-within p rows known.rows_are place lt) in
      let a = kept-bound p v known.numbers_are (pass_part p s.test g) s.pass pass parts.passing pass_is in
      let b = kept-bound p v known.numbers_are (fail_part p s.test g) s.fail fail parts.failing fail_is in
      let al = bound-le-known_low p rows known.rows_are (pass_part p s.test g) in
      let bl = bound-le-known_low p rows known.rows_are (fail_part p s.test g) in
      let ps = known_low-small inst rows known.rows_are (pass_part p s.test g) (light-pass inst s.test g light) in
      let fs = known_low-small inst rows known.rows_are (fail_part p s.test g) (light-fail inst s.test g light) in
      record {
        fits = sum-fits inst (group_at rows place) cost k.weight s.test light.within there cost_is of.weight;
        pass_fits = omega arith;
        fail_fits = omega arith;
        is =
            ap (λ n. n * k.weight + (pass + fail)) cost_is ∙ ap (λ n. p.cost s.test * n + (pass + fail)) of.weight
            ∙ ap (λ n. p.cost s.test * weight_of p g + (n + fail)) a ∙ ap (λ n. p.cost s.test * weight_of p g + (bound p (pass_part p s.test g) + n)) b;
      }

  -- each evaluated test splits the group
  pub splits-at : (k : Node) (splits : List Split) (i : ℕ) (d : Split) → k ≡ get_or kept place k → splits ≡ k.splits.items → i < length splits → IsIn (get_or splits i d).test (splitting (problem_of inst) (members (group_at rows place)))
  splits-at k splits i d read are lt_i =
      let p = problem_of inst in
      let g = members (group_at rows place) in
      let of = kept-read p v rows kept counts known place k lt read in
      subst (λ l. IsIn (get_or l i d).test (splitting p g)) (sym are) (of.tests.splits_are i d (let l = ap length are in omega arith))

  pub parts-at : (k : Node) (splits : List Split) (i : ℕ) (d : Split) → k ≡ get_or kept place k → splits ≡ k.splits.items → i < length splits → HasParts (problem_of inst) v (members (group_at rows place)) (get_or splits i d)
  parts-at k splits i d read are lt_i = (split-at (problem_of inst) v rows (row_at rows place) k splits (kept-read (problem_of inst) v rows kept counts known place k lt read) are i d lt_i).parts

-- ---- a glance at a group ----

module _ (inst : Instance) (rows : List Row) (known : AreRows (problem_of inst) rows) (place : ℕ) (lt : place < length rows) where
  -- no up at all is allowed
  pub up-none : least_up (problem_of inst) (rows_from rows) (members (group_at rows place)) ≤ no_value
  up-none =
      let p = problem_of inst in
      let g = members (group_at rows place) in
      let greedy = least_of-first (greedy_cost p g) (filter_map (step_value p (known_up p (rows_from rows)) g) (splitting p g)) in
      let small = inst.stands.greedy_fits (group_at rows place) (row-within p rows known place lt) in
      omega arith

  -- and what one test gives is
  pub up-lesser : (up t : ℕ) (o : Option ℕ) → least_up (problem_of inst) (rows_from rows) (members (group_at rows place)) ≤ up → IsIn t (splitting (problem_of inst) (members (group_at rows place)))
      → o ≡ step_value (problem_of inst) (known_up (problem_of inst) (rows_from rows)) (members (group_at rows place)) t → least_up (problem_of inst) (rows_from rows) (members (group_at rows place)) ≤ lesser_value up o
  up-lesser up t None le i is = le
  up-lesser up t (Some n) le i is =
      let p = problem_of inst in
      let g = members (group_at rows place) in
      let least = least_of-values-le (greedy_cost p g) (step_value p (known_up p (rows_from rows)) g) t n (splitting p g) i (sym is) in
      omega arith

  -- a number that is at most each evaluated sum, each number that a test waits with, and the number up to which tests are listed
  module _ (v : Numbered) (low up : ℕ) (splits : List Split) (waiting : List Waiting)
      (tests : AreTestsOf (problem_of inst) v (members (group_at rows place)) (step_sum (problem_of inst) (known_low (problem_of inst) (rows_from rows)) (members (group_at rows place))) up splits waiting)
      (evaluated : All (λ s. low ≤ step_sum (problem_of inst) (known_low (problem_of inst) (rows_from rows)) (members (group_at rows place)) s.test) splits) (waits : All (λ w. low ≤ w.least) waiting) (missing : low ≤ up) where
    below-each : (t : ℕ) → IsIn t (splitting (problem_of inst) (members (group_at rows place))) → low ≤ step_sum (problem_of inst) (known_low (problem_of inst) (rows_from rows)) (members (group_at rows place)) t
    below-each t i =
        let f = step_sum (problem_of inst) (known_low (problem_of inst) (rows_from rows)) (members (group_at rows place)) in
        elim (tests.covers t i) [
          | inl l ↦ (let h = test-listed (λ (s : Split). low ≤ f s.test) splits t evaluated l in subst (λ n. low ≤ f n) h.test_is h.holds)
          | inr (inl b) ↦ (let a = all-waits (λ (w : Waiting). low ≤ w.least) b.entry waiting waits b.waits in let l = b.least in omega arith)
          | inr (inr above) ↦ omega arith
        ]

    -- is one to which the rows allow to raise the group
    pub low-allowed : (b : ℕ) → b ≡ bound (problem_of inst) (members (group_at rows place)) → max b low ≤ most_low (problem_of inst) (rows_from rows) (members (group_at rows place))
    low-allowed b is =
        let first = first-test inst rows known place lt in
        let le = below-each _ first.among in
        let e = first.least in
        omega arith
