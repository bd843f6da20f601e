use Rattle.std.proofs.Common.{◌≡◌, length}
use Rattle.seq_work.specs.Prepares.{AreFreshFrom}
use Rattle.seq_work.proofs.preparing.fresh.Given as goal

abbrev pub invariant-loop-number : goal.invariant-loop-number
invariant-loop-number l = record {
  fresh : AreFreshFrom l.inst l.limit 0 l.locals.items;
  count : length l.locals.items ≡ l.number;
}
