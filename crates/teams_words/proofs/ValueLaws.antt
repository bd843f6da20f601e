-- The value of digits, digit by digit.
use Rattle.std.proofs.Common.{◌≡◌, ℕ, ◌+◌, ◌-◌, ◌*◌, ◌<◌, List, [], ◌∷◌, ◌++◌, length, take, min, get_or, refl, ap, ◌∙◌, arith}
use Rattle.std.proofs.lemmas.List.{take_more}
use Rattle.teams_words.specs.Plans.{value_after}

value-more : (n : ℕ) (xs : List ℕ) (d : ℕ) → value_after n (xs ++ d ∷ []) ≡ value_after n xs * 10 + (d - 48)
value-more n [] d = refl
value-more n (x ∷ xs) d = value-more (n * 10 + (x - 48)) xs d

-- one more digit of a value that stands still at a bound
pub value-step : (xs : List ℕ) (i value : ℕ) → i < length xs → value ≡ min (value_after 0 (take i xs)) 100000 → min (value * 10 + (get_or xs i 0 - 48)) 100000 ≡ min (value_after 0 (take (i + 1) xs)) 100000
value-step xs i value there is =
    let more = ap (value_after 0) (take_more xs i 0 there) ∙ value-more 0 (take i xs) (get_or xs i 0) in
    omega (arith, more, is)
