-- The word by which a verdict is written.
use Rattle.std.specs.Prelude.{ℕ, List, codes}
use Rattle.seq_inst.specs.declared.outcome.Verdict.{Verdict}
use Rattle.seq_inst.specs.declared.outcome.Verdict.TheVariants.{Optimal, Bounded}

abbrev pub verdict_word : Verdict → List ℕ
verdict_word Optimal = codes "optimal"
verdict_word Bounded = codes "bounded"
