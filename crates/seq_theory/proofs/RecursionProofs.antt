-- The values that are made down to a depth meet their recursions, and sound rows stand around the least costs.
use Rattle.std.proofs.Common.{arith}
use Rattle.seq_theory.specs.Recursions.{RecursionsHold, SoundRowsHold}
use Rattle.seq_theory.proofs.LeastLaws.{least, IsLeast-least, IsLeast-one}
use Rattle.seq_theory.proofs.GreedyLaws.{greedy-step}
use Rattle.seq_theory.proofs.LowLaws.{low-step}
use Rattle.seq_theory.proofs.ValLaws.{val-step}
use Rattle.seq_theory.proofs.StratLaws.{strat-step}
use Rattle.seq_theory.proofs.RowLaws.{sound-bounds, wanted-within}

pub recursions_hold : RecursionsHold
recursions_hold p group told within = record {
  greedy_recurs = greedy-step p group told within;
  low_recurs = λ entered. low-step p entered group;
  val_recurs = λ entered. val-step p entered group;
  strat_recurs = λ entered v is. strat-step p entered group (record { within = within; value = v; value_is = is });
}

pub sound_rows_hold : SoundRowsHold
sound_rows_hold p limit rows r n w told s i l =
    let b = sound-bounds p limit rows r w told s i in
    let real = s.real r i in
    let e = IsLeast-one p r.group (least p r.group) n (IsLeast-least p r.group told (wanted-within p r.group real.wanted)) l in
    let b0 = b.0 in
    let b1 = b.1 in
    (omega arith, omega arith)
