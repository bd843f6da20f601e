-- Groups by number, with what was worked out of each.
use Rattle.std.specs.Prelude.{◌≡◌, ℕ, ◌+◌, List, length, map, Option, Some, slice_get}
use Rattle.seq_theory.specs.Problem.{Problem, IsWithin}
use Rattle.seq_theory.specs.Bound.{bound}
use Rattle.seq_theory.specs.Greedy.{greedy_test, greedy_cost}
use Rattle.seq_theory.specs.Rows.{AreDistinct}
use Rattle.seq_graph.specs.declared.greedy.Greedy.{Greedy}
use Rattle.seq_graph.specs.declared.memo.BoundMemo.{BoundMemo}
use Rattle.seq_graph.specs.Memos.{IsMemoOf}
use Rattle.seq_inst.specs.declared.instance.Instance.{Instance}
use Rattle.seq_inst.specs.Instances.{problem_of}

-- what bounds are worked out by, and remembered in; the groups, as lists of classes, by number; their bounds; greedy's test and cost
-- over each, where these were worked out; for how many more groups there is room; and for how many more room is held that are
-- entered later
pub record Numbered : Type 0 where
  pub memo : BoundMemo
  pub groups : List (List ℕ)
  pub bounds : List ℕ
  pub greedy : List (Option Greedy)
  pub room : ℕ
  pub held : ℕ

-- how many groups can have numbers without more room
abbrev pub capacity : Numbered → ℕ
capacity v = length v.groups + v.room + v.held

-- no room was made, and none that is held was used
pub record KeepsNumberRoom (old new : Numbered) : Type 0 where
  pub all : capacity new ≡ capacity old
  pub held : new.held ≡ old.held

-- the group has this number
abbrev pub HasNumber : Numbered → List ℕ → ℕ → Type 0
HasNumber v group n = slice_get v.groups n ≡ Some group

-- this is kept of greedy at a number of the group
pub record HasGreedy (v : Numbered) (group : List ℕ) (g : Greedy) : Type 0 where
  pub number : ℕ
  pub has : HasNumber v group number
  pub kept : slice_get v.greedy number ≡ Some (Some g)

-- greedy's test of the group, and what greedy costs over it
pub record IsGreedyOf (p : Problem) (group : List ℕ) (g : Greedy) : Type 0 where
  pub test : g.test ≡ greedy_test p group
  pub cost : g.cost ≡ greedy_cost p group

-- the memo is the problem's, no group has two numbers, and what is kept of each is what working it out afresh gives
pub record AreNumbers (p : Problem) (v : Numbered) : Type 0 where
  pub memo : IsMemoOf p v.memo
  pub distinct : AreDistinct v.groups
  pub within : (group : List ℕ) (n : ℕ) → HasNumber v group n → IsWithin p group
  pub bounds : v.bounds ≡ map (bound p) v.groups
  pub as_many : length v.greedy ≡ length v.groups
  pub greedy : (group : List ℕ) (g : Greedy) → HasGreedy v group g → IsGreedyOf p group g

-- each group that had a number has it still
abbrev pub KeepsNumbers : Numbered → Numbered → Type 0
KeepsNumbers old new = (group : List ℕ) (n : ℕ) → HasNumber old group n → HasNumber new group n

-- what is kept of groups by number is that of this instance
abbrev pub AreNumbersFor : Instance → Numbered → Type 0
AreNumbersFor inst v = AreNumbers (problem_of inst) v
