use Rattle.std.proofs.Common.{◌<◌, ◌-◌, ◌^◌, ℕ}
use Rattle.seq_inst.specs.Walks.{IsAhead}
use Rattle.seq_inst.proofs.AheadLaws.{IsPassed}
use Rattle.seq_inst.proofs.ahead.Ahead.next_class.Given as goal

abbrev pub invariant-loop-self : goal.invariant-loop-self
invariant-loop-self l = record {
  there : l.self.place < 8;
  small : l.self.word < 2 ^ 64;
  passed : (from : ℕ) → IsAhead l.group l.initial.self from → IsPassed l.group l.self from;
}

abbrev pub decreases-loop-self : goal.decreases-loop-self
decreases-loop-self l = 8 - l.self.place
