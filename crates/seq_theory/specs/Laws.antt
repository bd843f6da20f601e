-- What is proved of least costs, bounds, strategies, rows and certificates.
use Rattle.std.specs.Prelude.{◌≡◌, ℕ, ◌<◌, ◌≤◌, Bool, true, false, List, [], Some, map}
use Rattle.seq_theory.specs.Problem.{Problem, IsWithin, IsWeighed, IsSized, AreTold, splits, splitting, least_of, is_end}
use Rattle.seq_theory.specs.Tree.{tree_cost, Solves, IsLeast}
use Rattle.seq_theory.specs.Bound.{bound, step_sum}
use Rattle.seq_theory.specs.Greedy.{greedy, greedy_cost, one_step}
use Rattle.seq_theory.specs.Graph.{is_entered, low, val, strat, part, IsWanted, IsReal}
use Rattle.seq_theory.specs.Rows.{Row, IsSound, Event, AreAllowed, after_all}
use Rattle.seq_theory.specs.Claims.{Claim, ClaimsHold, claimed, low_claims}

-- each group of a problem whose classes are told apart has a least cost
abbrev pub HasLeast : Type 0
HasLeast = (p : Problem) (group : List ℕ) → AreTold p → IsWithin p group → (n : ℕ) × IsLeast p group n

-- the bound, the one-step bound, the least cost and greedy's cost stand in this order, and greedy is right
pub record BoundsStand (p : Problem) (group : List ℕ) (n : ℕ) : Type 0 where
  pub bound_low : bound p group ≤ one_step p group
  pub one_step_low : one_step p group ≤ n
  pub greedy_high : n ≤ greedy_cost p group
  pub greedy_right : Solves p (greedy p group) group

abbrev pub BoundsHold : Type 0
BoundsHold = (p : Problem) (group : List ℕ) (n : ℕ) → IsWeighed p → AreTold p → IsWithin p group → IsLeast p group n → BoundsStand p group n

-- whatever was entered: the low is at most the least cost, the value is at least the least cost, and the strategy is
-- right and costs the value
pub record EnteredStands (p : Problem) (entered : List (List ℕ)) (group : List ℕ) (n : ℕ) : Type 0 where
  pub low_low : low p entered group ≤ n
  pub val_high : (v : ℕ) → val p entered group ≡ Some v → n ≤ v
  pub right : (v : ℕ) → val p entered group ≡ Some v → Solves p (strat p entered group) group
  pub costs : (v : ℕ) → val p entered group ≡ Some v → tree_cost p (strat p entered group) group ≡ v

abbrev pub EnteredHolds : Type 0
EnteredHolds = (p : Problem) (entered : List (List ℕ)) (group : List ℕ) (n : ℕ) → IsWeighed p → AreTold p → IsWithin p group → IsLeast p group n → EnteredStands p entered group n

-- before the first event there are no rows, and these are sound
abbrev pub NoRowsAreSound : Type 0
NoRowsAreSound = (p : Problem) (limit : ℕ) → IsSound p limit []

-- whatever allowed events are played, sound rows stay sound
abbrev pub RunsHold : Type 0
RunsHold = (p : Problem) (limit : ℕ) (rows : List Row) (events : List Event) → IsSized p → AreTold p → IsSound p limit rows → AreAllowed p limit rows events → IsSound p limit (after_all rows events)

-- where a certificate's claims hold against each other, what each group counts is at most its least cost
abbrev pub CertificateHolds : Type 0
CertificateHolds = (p : Problem) (claims : List Claim) (group : List ℕ) (n : ℕ) → IsWeighed p → AreTold p → ClaimsHold p claims → IsWithin p group → IsLeast p group n → claimed p claims group ≤ n

-- the lows of all entered groups of two goals or more, listed in any order, hold against each other
abbrev pub LowsAreClaims : Type 0
LowsAreClaims = (p : Problem) (entered listed : List (List ℕ)) → ((g : List ℕ) → is_entered listed g ≡ is_entered entered g) → ((g : List ℕ) → is_entered entered g ≡ true → is_end p g ≡ false) → ClaimsHold p (low_claims p entered listed)

-- a part of a wanted group by a splitting test is wanted, where the test and what its parts count are together no more
-- than for any other test, and each group counts between its bound and its least cost
abbrev pub WalksHold : Type 0
WalksHold = (p : Problem) (l : List ℕ → ℕ) (group : List ℕ) (t : ℕ) (passed : Bool) → AreTold p → IsReal p group → t < p.tests → splits p group t ≡ true
    → ((g : List ℕ) → bound p g ≤ l g) → ((g : List ℕ) (n : ℕ) → IsWithin p g → IsLeast p g n → l g ≤ n)
    → step_sum p l group t ≡ least_of (map (step_sum p l group) (splitting p group)) → IsWanted p (part p t passed group)
