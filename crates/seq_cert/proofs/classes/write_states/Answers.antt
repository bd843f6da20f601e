use Rattle.std.proofs.Common.{◌<◌, ℕ, ap, ◌∙◌, get_or, length}
use Rattle.std.proofs.lemmas.List.{get_or_read}
use Rattle.std.proofs.lemmas.List.Elements.{All-get_or}
use Rattle.sig_lines.specs.Written.{with_line}
use Rattle.sig_lines.specs.declared.labels.StateLabel.{StateLabel}
use Rattle.seq_cert.specs.ByClass.{no_state}
use Rattle.seq_cert.specs.Text.{state_words}
use Rattle.seq_cert.specs.OutcomeReport.{state_line}
use Rattle.seq_cert.proofs.Appended.{lines_more}
use Rattle.seq_cert.proofs.classes.write_states.Goals as goal

pub loop-at-preserved : goal.loop-at-preserved
loop-at-preserved c =
    let states = c.args.states.now in
    let numbers = c.args.numbers.now in
    let number = get_or numbers c.loop-at.at 0 in
    let low : number < length states = All-get_or (λ (i : ℕ). i < length states) numbers c.loop-at.at 0 c.loop-at-test.true c.requires in
    let same = get_or_read states number c.index-states-numbers.result low c.index-states-numbers.is no_state in
    lines_more _ _ _ (λ (i : ℕ). state_words (state_line (get_or states i no_state))) numbers c.loop-at.at 0 c.loop-at-test.true c.loop-at.invariant
    (c.in_ok-write_state.ensures ∙ ap (λ (s : StateLabel). with_line c.loop-at.out (state_words (state_line s))) same)
