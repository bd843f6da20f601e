use Rattle.std.proofs.Common.{◌≡◌, take}
use Rattle.sig_figures.specs.Counts.{counts_of}
use Rattle.sig_figures.proofs.sizes.counts_of.Given as goal

-- the numbers so far are counted
abbrev pub invariant-loop-number : goal.invariant-loop-number
invariant-loop-number l = l.counts.items ≡ counts_of (take l.number-index l.numbers) l.bound
