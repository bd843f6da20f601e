-- What it means that a word begins with another.
use Rattle.std.proofs.Common.{◌≡◌, ◌∙◌, ◌≢◌, inl, inr, ℕ, true, false, List, [], ◌∷◌, ◌++◌, ◌<◌, length, take, drop, refl, ap, sym, arith}
use Rattle.std.specs.Prelude.{nat_lt}
use Rattle.std.specs.Str.{bytes_eq}
use Rattle.std.proofs.lemmas.Bool.{cases_Bool, and_parts}
use Rattle.std.proofs.lemmas.List.{take-append-drop}
use Rattle.std.proofs.lemmas.Slice.Eq.{bytes_eq-Decides}
use Rattle.std.specs.Str.Pattern.{StripsPrefix, FindsTextPrefix}
use Rattle.teams_words.specs.Words.{goes_on}

pub started : (start word : List ℕ) → goes_on start word ≡ true → word ≡ start ++ drop (length start) word
started start word h =
    let (front, more) = and_parts (bytes_eq (take (length start) word) start) _ h in
    sym (take-append-drop (length start) word) ∙ ap (λ f. f ++ drop (length start) word) ((bytes_eq-Decides (take (length start) word) start).0 front)

pub rest_missing : (start word : List ℕ) → ((rest : List ℕ) → word ≢ start ++ rest) → goes_on start word ≡ false
rest_missing start word not_so =
    elim (cases_Bool (goes_on start word)) [
      | inl so ↦ absurd (not_so (drop (length start) word) (started start word so))
      | inr no_start ↦ no_start
    ]

takes_front : (start rest : List ℕ) → take (length start) (start ++ rest) ≡ start
takes_front [] rest = refl
takes_front (x ∷ start) rest = ap (λ xs. x ∷ xs) (takes_front start rest)

pub rest_found : (start word rest : List ℕ) → StripsPrefix (FindsTextPrefix start) word rest → 0 < length rest → (goes_on start word ≡ true) × (rest ≡ drop (length start) word)
rest_found start word rest (n, (whole, is, boundary), rest_is, lengths) longer =
    let front : take (length start) word ≡ start = ap (take (length start)) is ∙ takes_front start (drop n word) in
    let more : length start < length word = omega (arith, lengths, whole, longer) in
    let passes : nat_lt (length start) (length word) ≡ true = grind arith in
    (rw ((bytes_eq-Decides (take (length start) word) start).1 front, passes) refl, rest_is ∙ ap (λ k. drop k word) whole)

pub some_length : (xs : List ℕ) → xs ≢ [] → 0 < length xs
some_length [] not_empty = absurd (not_empty refl)
some_length (x ∷ xs) not_empty = omega arith
