use Rattle.std.proofs.Common.{◌≡◌, drop}
use Rattle.seq_work.specs.Searches.{first_missed}
use Rattle.seq_work.proofs.searching.first_missed.Given as goal

abbrev pub invariant-loop-end : goal.invariant-loop-end
invariant-loop-end l = first_missed l.ends ≡ first_missed (drop l.end-index l.ends)
