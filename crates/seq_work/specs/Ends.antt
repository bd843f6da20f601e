-- How a worker's run begins and ends.
use Rattle.std.specs.Prelude.{◌≡◌, ◌⊎◌, ℕ, ◌≤◌, true, false}
use Rattle.seq_theory.specs.Problem.{Problem, all_classes, is_end}
use Rattle.seq_inst.specs.declared.instance.Instance.{Instance}
use Rattle.seq_inst.specs.Instances.{problem_of}
use Rattle.seq_words.specs.declared.view.View.{View}
use Rattle.seq_words.specs.Knowledge.{IsKnown, group_at, low_seen, up_seen}
use Rattle.seq_words.specs.Seats.{Wording, Sitting}
use Rattle.seq_work.specs.declared.work.WorkEnd.{WorkEnd}
use Rattle.seq_work.specs.declared.work.WorkEnd.TheVariants.{Solved, Full}
use Rattle.seq_work.specs.Turns.{IsFullFor}

-- place 0 is known with the group of all classes, unless all have one goal
pub record KnowsRoot (p : Problem) (v : View) : Type 0 where
  pub there : is_end p (all_classes p) ≡ false → IsKnown 0 v
  pub group : is_end p (all_classes p) ≡ false → group_at 0 v ≡ all_classes p

-- a place is known with the group of all classes, and the low that was seen there is no less than the up
pub record IsClosedFor (p : Problem) (v : View) : Type 0 where
  pub place : ℕ
  pub known : IsKnown place v
  pub group : group_at place v ≡ all_classes p
  pub closed : up_seen place v ≤ low_seen place v

-- the seat knows the group of all classes closed, or all have one goal; or all places are drawn, and a real group has none
abbrev pub Worked : Instance → Wording → Sitting → WorkEnd → Type 0
Worked inst words seat Solved = (is_end (problem_of inst) (all_classes (problem_of inst)) ≡ true) ⊎ IsClosedFor (problem_of inst) seat.view
Worked inst words seat (Full missed) = IsFullFor inst words seat missed
