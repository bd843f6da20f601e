use Rattle.sig_matrix.specs.MatrixText.{state_words}
use Rattle.sig_matrix.proofs.TextLaws.{lines_next}
use Rattle.sig_matrix.proofs.text.write_states.Goals as goal

pub loop-state-preserved : goal.loop-state-preserved
loop-state-preserved c = lines_next _ _ _ (state_words c.args.matrix.now) c.loop-state.state c.loop-state.invariant c.in_ok-write_state.ensures
