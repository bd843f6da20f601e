use Rattle.std.proofs.Common.{◌≡◌, map}
use Rattle.std.specs.Prelude.{filter, nat_lt, slice_index}
use Rattle.seq_theory.specs.Problem.{count_up}
use Rattle.sig_figures.specs.Counts.{count_at}
use Rattle.sig_figures.proofs.sizes.some_counts.Given as goal

-- the numbers so far that have a count
abbrev pub invariant-loop-states : goal.invariant-loop-states
invariant-loop-states l = l.sizes ≡ map (count_at l.counts) (filter (λ n. nat_lt 0 (slice_index l.counts n)) (count_up 0 l.states))
