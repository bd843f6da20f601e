use Rattle.std.proofs.Common.{◌≡◌}
use Rattle.std.specs.Prelude.{filter}
use Rattle.seq_theory.specs.Problem.{count_up}
use Rattle.sig_reach.specs.Marks.{is_marked}
use Rattle.sig_figures.proofs.loops.marked.Given as goal

-- the places of the marks so far
abbrev pub invariant-loop-node : goal.invariant-loop-node
invariant-loop-node l = l.nodes ≡ filter (is_marked l.marks) (count_up 0 l.node)
