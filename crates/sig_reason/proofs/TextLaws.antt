-- The text grows line by line: of the faults below one more, the last one's line comes after those before it.
use Rattle.std.proofs.Common.{◌≡◌, ℕ, ◌+◌, [], ◌∷◌, ◌++◌, map, sym, ap, ◌∙◌, add-one, zero-add}
use Rattle.std.proofs.lemmas.List.{map-append}
use Rattle.std.proofs.lemmas.List.Sums.{fold-append}
use Rattle.sig_lines.specs.Pieces.{Words}
use Rattle.sig_lines.specs.Written.{Written, with_line, with_lines}
use Rattle.seq_theory.specs.Problem.{count_up}
use Rattle.seq_theory.proofs.StatesLaws.{count_up-last}

map_next : {B : Type 0} (f : ℕ → B) (n : ℕ) → map f (count_up 0 (n + 1)) ≡ map f (count_up 0 n) ++ f n ∷ []
map_next f n =
    ap (λ k. map f (count_up 0 k)) (add-one n) ∙ ap (map f) (count_up-last 0 n) ∙ map-append f (count_up 0 n) ((0 + n) ∷ [])
    ∙ ap (λ k. map f (count_up 0 n) ++ f k ∷ []) (zero-add n)

-- one more line
pub lines_next : (start out more : Written) (f : ℕ → Words) (n : ℕ) → out ≡ with_lines start (map f (count_up 0 n)) → more ≡ with_line out (f n) → more ≡ with_lines start (map f (count_up 0 (n + 1)))
lines_next start out more f n before last =
    last ∙ ap (λ w. with_line w (f n)) before ∙ sym (ap (with_lines start) (map_next f n) ∙ fold-append with_line start (map f (count_up 0 n)) (f n ∷ []))
