use Rattle.std.proofs.Common.{drop, ap, sym, ◌∙◌}
use Rattle.seq_check.specs.ModelLooks.{has_line, is_state}
use Rattle.seq_check.specs.Picked.{picked}
use Rattle.seq_check.proofs.SideLooks.{side_goes_on}
use Rattle.seq_check.proofs.model.first_in_states.Goals as goal

pub loop-at-preserved : goal.loop-at-preserved
loop-at-preserved c =
    let states = picked c.args.states.now c.args.numbers.now in
    side_goes_on is_state c.args.line c.loop-at.at states c.args.lines.now c.index-lines-at.result c.loop-at-test.true
    (ap (has_line is_state (drop c.loop-at.at states)) (sym c.index-lines-at.is) ∙ sym c.if-not-is_state_at.ensures) c.loop-at.invariant
