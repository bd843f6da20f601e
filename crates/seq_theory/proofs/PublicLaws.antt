-- The laws that the functions of the crate state.
use Rattle.std.proofs.Common.{◌≡◌, ℕ, List, arith}
use Rattle.seq_theory.specs.Problem.{Problem, IsWithin, AreTold}
use Rattle.seq_theory.specs.Tree.{IsLeast}
use Rattle.seq_theory.specs.Laws.{HasLeast, BoundsHold, EnteredHolds, NoRowsAreSound, RunsHold, CertificateHolds, WalksHold}
use Rattle.seq_theory.proofs.LeastLaws.{least, IsLeast-least, IsLeast-one}
use Rattle.seq_theory.proofs.GreedyLaws.{bound-le-one_step, one_step-le-least, least-le-greedy, greedy-solves}
use Rattle.seq_theory.proofs.LowLaws.{low-le-least}
use Rattle.seq_theory.proofs.ValLaws.{least-le-val}
use Rattle.seq_theory.proofs.StratLaws.{strat-holds}
use Rattle.seq_theory.proofs.RowLaws.{events-sound, none-sound}
use Rattle.seq_theory.proofs.WantedLaws.{walk-wanted}
use Rattle.seq_theory.proofs.ClaimLaws.{claimed-le-least}

pub has_least : HasLeast
has_least p group told within = (least p group, IsLeast-least p group told within)

one : (p : Problem) (group : List ℕ) (n : ℕ) → AreTold p → IsWithin p group → IsLeast p group n → least p group ≡ n
one p group n told within l = IsLeast-one p group (least p group) n (IsLeast-least p group told within) l

pub bounds_hold : BoundsHold
bounds_hold p group n w told within l =
    let e = one p group n told within l in
    record {
      bound_low = bound-le-one_step p group;
      one_step_low = (let f = one_step-le-least p group w told within in omega arith);
      greedy_high = (let f = least-le-greedy p group told within in omega arith);
      greedy_right = greedy-solves p group told within;
    }

pub entered_holds : EnteredHolds
entered_holds p entered group n w told within l =
    let e = one p group n told within l in
    record {
      low_low = (let f = low-le-least p entered group w told within in omega arith);
      val_high = λ v is. let f = least-le-val p entered group v told within is in omega arith;
      right = λ v is. (strat-holds p entered group v told within is).solves;
      costs = λ v is. (strat-holds p entered group v told within is).costs;
    }

pub no_rows_are_sound : NoRowsAreSound
no_rows_are_sound p limit = none-sound p limit

pub runs_hold : RunsHold
runs_hold p limit rows events sized told sound allowed = events-sound p limit rows events sized told sound allowed

pub certificate_holds : CertificateHolds
certificate_holds p claims group n w told hold within l =
    let e = one p group n told within l in
    let f = claimed-le-least p claims hold group w told within in
    omega arith

pub walks_hold : WalksHold
walks_hold p l group t passed told real there s above below is =
    walk-wanted p l group t passed told real.wanted real.goals there s above (λ g within. below g (least p g) within (IsLeast-least p g told within)) is
