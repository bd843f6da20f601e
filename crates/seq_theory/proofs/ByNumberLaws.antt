-- Lists of what a function gives of the numbers from 0 on: each item is the function at its place.
use Rattle.std.proofs.Common.{◌≡◌, ℕ, zero, suc, ◌+◌, ◌<◌, List, [], ◌∷◌, ◌++◌, length, map, get_or, sym, ap, ◌∙◌, arith}
use Rattle.std.proofs.lemmas.List.{length-map, get_or-map, map-append, ext_get_or}
use Rattle.seq_theory.specs.Problem.{count_up}
use Rattle.seq_theory.proofs.BelowLaws.{length-count_up, count_up-more}

pub get_or-count_up : (from n i d : ℕ) → i < n → get_or (count_up from n) i d ≡ from + i
get_or-count_up from zero i d lt = absurd (let h : ⊥ = omega arith in h)
get_or-count_up from (suc n) zero d lt = let e : from ≡ from + 0 = omega arith in e
get_or-count_up from (suc n) (suc i) d lt = let e : suc from + i ≡ from + suc i = omega arith in get_or-count_up (suc from) n i d (omega arith) ∙ e

pub length-by_number : {X : Type 0} (f : ℕ → X) (n : ℕ) → length (map f (count_up 0 n)) ≡ n
length-by_number f n = length-map (count_up 0 n) f ∙ length-count_up 0 n

pub get_or-by_number : {X : Type 0} (f : ℕ → X) (n i : ℕ) (d : X) → i < n → get_or (map f (count_up 0 n)) i d ≡ f i
get_or-by_number f n i d lt =
    let long = length-count_up 0 n in
    let z : 0 + i ≡ i = omega arith in
    get_or-map f (count_up 0 n) i 0 d (omega arith) ∙ ap f (get_or-count_up 0 n i 0 lt ∙ z)

-- one more item
pub by_number_more : {X : Type 0} (f : ℕ → X) (n : ℕ) → map f (count_up 0 n) ++ f n ∷ [] ≡ map f (count_up 0 (suc n))
by_number_more f n =
    let z : 0 + n ≡ n = omega arith in
    ap (λ k. map f (count_up 0 n) ++ f k ∷ []) (sym z) ∙ sym (map-append f (count_up 0 n) ((0 + n) ∷ [])) ∙ ap (map f) (sym (count_up-more 0 n))

-- a list whose items are the function at their places
pub by_number-from_items : {X : Type 0} (f : ℕ → X) (n : ℕ) (d : X) (xs : List X) → length xs ≡ n → ((i : ℕ) → i < n → get_or xs i d ≡ f i) → xs ≡ map f (count_up 0 n)
by_number-from_items f n d xs long items = ext_get_or d xs (map f (count_up 0 n)) (long ∙ sym (length-by_number f n)) (λ i lt. items i (omega arith) ∙ sym (get_or-by_number f n i d (omega arith)))
