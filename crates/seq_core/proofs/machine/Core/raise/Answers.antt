use Rattle.std.proofs.Common.{◌≡◌, ◌<◌, ◌≤◌, ◌∙◌, sym, ap, arith, subst, refl, Some, None, Err, length, get_or}
use Rattle.std.specs.Prelude.{cond, nat_le, true, false}
use Rattle.std.proofs.lemmas.Bool.{le-leb, lt-leb}
use Rattle.std.proofs.lemmas.Option.{slice_get_past}
use Rattle.seq_theory.specs.Rows.{most_low}
use Rattle.seq_inst.specs.Instances.{problem_of}
use Rattle.seq_core.specs.declared.event.Event.TheVariants.{Raise}
use Rattle.seq_core.specs.declared.event.Illegal.TheVariants.{NoPlace, TooHigh}
use Rattle.seq_core.specs.RowsOf.{row_of, rows_of}
use Rattle.seq_core.specs.Events.{IsCoreOf, raise_refusal, answer}
use Rattle.seq_core.proofs.TableLaws.{no_row, get-row, length-rows_of}
use Rattle.seq_core.specs.Changes.{change_row, raised}
use Rattle.seq_core.proofs.CoreLaws.{sound-fit, sound-after}
use Rattle.seq_core.proofs.machine.Core.raise.Goals as goal

pub most_low-allowed-requires-clause-fit : goal.most_low-allowed-requires-clause-fit
most_low-allowed-requires-clause-fit c = sound-fit c.args.inst.now c.args.self.now.room c.args.self.now.rows c.requires.of.sound

pub returns-then-place-rows-clause-answer : goal.returns-then-place-rows-clause-answer
returns-then-place-rows-clause-answer c =
    let p = problem_of c.args.inst.now in
    let t = c.args.self.now in
    let n = c.len-rows.ensures in
    let long = length-rows_of t.rows in
    let none = slice_get_past (rows_of t.rows) c.args.place (omega arith) in
    let same : c.len-rows.result ≡ length (rows_of t.rows) = omega arith in
    ap (λ k. Err (NoPlace k)) same ∙ sym (ap (λ o. answer (raise_refusal p (rows_of t.rows) c.args.to o)) none)

pub returns-then-to-allowed-clause-answer : goal.returns-then-to-allowed-clause-answer
returns-then-to-allowed-clause-answer c =
    let inst = c.args.inst.now in
    let p = problem_of inst in
    let t = c.args.self.now in
    let n = c.len-rows.ensures in
    let there : c.args.place < length t.rows = omega arith in
    let r = get_or t.rows c.args.place no_row in
    let at = get-row t.rows c.args.place there in
    let allowed : c.most_low-allowed.result ≡ most_low p (rows_of t.rows) (row_of r).group = c.most_low-allowed.ensures (row_of r) at in
    let test : nat_le c.args.to (most_low p (rows_of t.rows) (row_of r).group) ≡ false = lt-leb c.args.to (most_low p (rows_of t.rows) (row_of r).group) (omega arith) in
    ap (λ k. Err (TooHigh c.args.to k)) allowed
    ∙ sym (ap (λ o. answer (raise_refusal p (rows_of t.rows) c.args.to o)) at ∙ ap (λ b. answer (cond b None (Some (TooHigh c.args.to (most_low p (rows_of t.rows) (row_of r).group))))) test)

pub returns-clause-answer : goal.returns-clause-answer
returns-clause-answer c =
    let inst = c.args.inst.now in
    let p = problem_of inst in
    let t = c.args.self.now in
    let n = c.len-rows.ensures in
    let there : c.args.place < length t.rows = omega arith in
    let r = get_or t.rows c.args.place no_row in
    let at = get-row t.rows c.args.place there in
    let allowed : c.most_low-allowed.result ≡ most_low p (rows_of t.rows) (row_of r).group = c.most_low-allowed.ensures (row_of r) at in
    let test : nat_le c.args.to (most_low p (rows_of t.rows) (row_of r).group) ≡ true = le-leb c.args.to (most_low p (rows_of t.rows) (row_of r).group) (omega arith) in
    sym (ap (λ o. answer (raise_refusal p (rows_of t.rows) c.args.to o)) at ∙ ap (λ b. answer (cond b None (Some (TooHigh c.args.to (most_low p (rows_of t.rows) (row_of r).group))))) test)

pub returns-clause-of : goal.returns-clause-of
returns-clause-of c =
    let inst = c.args.inst.now in
    let p = problem_of inst in
    let t = c.args.self.now in
    let n = c.len-rows.ensures in
    let there : c.args.place < length t.rows = omega arith in
    let r = get_or t.rows c.args.place no_row in
    let at = get-row t.rows c.args.place there in
    let allowed : c.most_low-allowed.result ≡ most_low p (rows_of t.rows) (row_of r).group = c.most_low-allowed.ensures (row_of r) at in
    let le : c.args.to ≤ most_low p (rows_of t.rows) (row_of r).group = omega arith in
    subst (IsCoreOf p) (sym c.raise_to.ensures) (record {
      sound = sound-after c.runs_hold.ensures.runs inst t.room t.rows (change_row t.rows c.args.place (raised c.args.to)) (Raise c.args.place c.args.to) c.requires.of.sound (row_of r, at, le) refl;
    })
