-- Which parts of a wanted group are wanted.
use Rattle.std.proofs.Common.{◌≡◌, ℕ, ◌<◌, ◌≤◌, List, arith}
use Rattle.std.specs.Prelude.{Bool, true, false, map}
use Rattle.seq_theory.specs.Problem.{Problem, IsWithin, IsWeighed, AreTold, pass_part, fail_part, splits, splitting, is_end, least_of}
use Rattle.seq_theory.specs.Bound.{bound, step_sum}
use Rattle.seq_theory.specs.Greedy.{one_step}
use Rattle.seq_theory.specs.Graph.{part, IsWanted, part_of}
use Rattle.seq_theory.proofs.LeastLaws.{least, IsLeast-least}
use Rattle.seq_theory.proofs.GreedyLaws.{one_step-le-least, least_of-steps-le}
use Rattle.seq_theory.proofs.RowLaws.{wanted-within}

module _ (p : Problem) where
  wanted-part : (group : List ℕ) (t : ℕ) (passed : Bool) → AreTold p → IsWanted p group → is_end p group ≡ false → t < p.tests → splits p group t ≡ true → step_sum p (bound p) group t ≤ least p group → IsWanted p (part p t passed group)
  wanted-part group t passed told w e there s le =
      part_of group t (least p group) passed w e there s (IsLeast-least p group told (wanted-within p group w)) le

  -- a part by a splitting test whose sum over bounds is at most the group's one-step bound is wanted
  pub one_step-wanted : (group : List ℕ) (t : ℕ) (passed : Bool) → IsWeighed p → AreTold p → IsWanted p group → is_end p group ≡ false → t < p.tests → splits p group t ≡ true → step_sum p (bound p) group t ≤ one_step p group → IsWanted p (part p t passed group)
  one_step-wanted group t passed w told wanted e there s le =
      let f = one_step-le-least p group w told (wanted-within p group wanted) in
      wanted-part group t passed told wanted e there s (omega arith)

  -- a part by a test of least sum is wanted, where what each part counts lies between its bound and its least cost
  pub walk-wanted : (l : List ℕ → ℕ) (group : List ℕ) (t : ℕ) (passed : Bool) → AreTold p → IsWanted p group → is_end p group ≡ false → t < p.tests → splits p group t ≡ true → ((part : List ℕ) → bound p part ≤ l part) → ((part : List ℕ) → IsWithin p part → l part ≤ least p part) → step_sum p l group t ≡ least_of (map (step_sum p l group) (splitting p group)) → IsWanted p (part p t passed group)
  walk-wanted l group t passed told wanted e there s above below is =
      let f1 = above (pass_part p t group) in
      let f2 = above (fail_part p t group) in
      let f3 = least_of-steps-le p l group told (wanted-within p group wanted) e (λ part lt wp. below part wp) in
      wanted-part group t passed told wanted e there s (omega arith)
