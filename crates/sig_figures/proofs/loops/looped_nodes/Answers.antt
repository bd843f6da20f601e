use Rattle.std.proofs.Common.{List, length, ap, ◌∙◌}
use Rattle.std.specs.Prelude.{Bool, filter}
use Rattle.seq_theory.specs.Problem.{count_up}
use Rattle.sig_reach.specs.Marks.{is_marked}
use Rattle.sig_figures.proofs.LoopLaws.{loops-listed}
use Rattle.sig_figures.proofs.loops.looped_nodes.Goals as goal

pub returns : goal.returns
returns c =
    loops-listed c.args.flat.now c.args.mode c.in_ok-marks.marks.items c.in_ok-nodes.nodes c.in_ok-marks.ensures.long c.in_ok-marks.ensures.loops
    (c.in_ok-nodes.ensures ∙ ap (λ (l : List Bool). filter (is_marked l) (count_up 0 (length l))) c.as_slice.ensures.value)
