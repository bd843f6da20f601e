-- The state of a number, among the states that the numbers pick.
use Rattle.std.proofs.Common.{◌≡◌, ℕ, zero, suc, ◌<◌, List, [], ◌∷◌, drop, get_or, length, refl, sym, ap, ◌∙◌, arith}
use Rattle.std.specs.List.{All}
use Rattle.std.proofs.lemmas.List.{get_or_default}
use Rattle.std.proofs.lemmas.List.Elements.{All-get_or}
use Rattle.sig_lines.specs.declared.labels.StateLabel.{StateLabel}
use Rattle.seq_cert.specs.declared.report.StateLine.{StateLine}
use Rattle.seq_cert.specs.ByClass.{no_state}
use Rattle.seq_check.specs.ModelLooks.{has_line, is_state}
use Rattle.seq_check.specs.Picked.{picked}

pick-at : (states : List StateLabel) (numbers : List ℕ) (at : ℕ) → at < length numbers → drop at (picked states numbers) ≡ get_or states (get_or numbers at 0) no_state ∷ drop (suc at) (picked states numbers)
pick-at states [] at lt = absurd (let bad : ⊥ = omega arith in bad)
pick-at states (n ∷ numbers) zero lt = refl
pick-at states (n ∷ numbers) (suc at) lt = pick-at states numbers at (omega arith)

pub state_at : (states : List StateLabel) (numbers : List ℕ) (at : ℕ) (s : StateLabel) (line : StateLine) → at < length numbers → All (λ i. i < length states) numbers → s ≡ get_or states (get_or numbers at 0) s
    → has_line is_state (drop at (picked states numbers)) line ≡ is_state s line
state_at states numbers at s line lt there is =
    let within : get_or numbers at 0 < length states = All-get_or (λ i. i < length states) numbers at 0 lt there in
    let same : get_or states (get_or numbers at 0) no_state ≡ s = get_or_default states (get_or numbers at 0) no_state s within ∙ sym is in
    ap (λ l. has_line is_state l line) (pick-at states numbers at lt) ∙ ap (λ (x : StateLabel). is_state x line) same
