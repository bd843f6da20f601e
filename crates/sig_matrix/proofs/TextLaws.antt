-- The matrix text grows line by line, a row character by character: of the numbers below one more, the last one's line or
-- character comes after those before it.
use Rattle.std.proofs.Common.{◌≡◌, ℕ, ◌+◌, ◌<◌, true, false, arith, List, [], ◌∷◌, ◌++◌, map, sym, ap, ◌∙◌, add-one, zero-add}
use Rattle.std.specs.Prelude.{Bool}
use Rattle.std.proofs.lemmas.List.{map-append}
use Rattle.std.proofs.lemmas.List.Sums.{fold-append}
use Rattle.sig_lines.specs.Pieces.{Words}
use Rattle.sig_lines.specs.Written.{Written, with_line, with_lines}
use Rattle.seq_theory.specs.Problem.{count_up}
use Rattle.seq_theory.proofs.StatesLaws.{count_up-last}
use Rattle.sig_matrix.specs.MatrixText.{outcome}

-- of the numbers below one more
pub map_next : {B : Type 0} (f : ℕ → B) (n : ℕ) → map f (count_up 0 (n + 1)) ≡ map f (count_up 0 n) ++ f n ∷ []
map_next f n =
    ap (λ k. map f (count_up 0 k)) (add-one n) ∙ ap (map f) (count_up-last 0 n) ∙ map-append f (count_up 0 n) ((0 + n) ∷ [])
    ∙ ap (λ k. map f (count_up 0 n) ++ f k ∷ []) (zero-add n)

-- one more line
pub lines_next : (start out more : Written) (f : ℕ → Words) (n : ℕ) → out ≡ with_lines start (map f (count_up 0 n)) → more ≡ with_line out (f n) → more ≡ with_lines start (map f (count_up 0 (n + 1)))
lines_next start out more f n before last =
    last ∙ ap (λ w. with_line w (f n)) before ∙ sym (ap (with_lines start) (map_next f n) ∙ fold-append with_line start (map f (count_up 0 n)) (f n ∷ []))

-- one more character
pub row_next : {A : Type 0} (out : List ℕ) (f : A → ℕ) (g : ℕ → A) (n : ℕ) → out ≡ map f (map g (count_up 0 n)) → out ++ f (g n) ∷ [] ≡ map f (map g (count_up 0 (n + 1)))
row_next out f g n before = ap (λ l. l ++ f (g n) ∷ []) before ∙ sym (ap (map f) (map_next g n) ∙ map-append f (map g (count_up 0 n)) (g n ∷ []))

-- each character is of ASCII
pub outcome_small : (fails : Bool) → outcome fails < 128
outcome_small true = omega arith
outcome_small false = omega arith
