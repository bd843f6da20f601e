-- Heights from the heights of earlier blocks.
use Rattle.std.proofs.Common.{◌≡◌, ℕ, zero, suc, ◌+◌, ◌<◌, max, List, [], ◌∷◌, ◌++◌, get_or, refl, ap, ◌∙◌, arith}
use Rattle.std.specs.List.{Contains}
use Rattle.std.specs.Ordering.{ord_max, nat_cmp}
use Rattle.std.proofs.lemmas.Bool.Decides.{nat_tests}
use Rattle.sig_flat.specs.Sizes.{greatest_over, height_down, height, UseEarlier, in_word}

pub greatest_over-more : (f : ℕ → ℕ) (xs : List ℕ) (x : ℕ) → greatest_over f (xs ++ x ∷ []) ≡ max (greatest_over f xs) (f x)
greatest_over-more f [] x = omega arith
greatest_over-more f (y ∷ xs) x = let h = greatest_over-more f xs x in omega arith

-- the greatest of numbers that stand still is the greatest in a word
pub greatest_over-in_word : (f g : ℕ → ℕ) (xs : List ℕ) → ((x : ℕ) → Contains xs x → f x ≡ in_word (g x)) → in_word (greatest_over (λ x. 1 + f x) xs) ≡ in_word (greatest_over (λ x. 1 + g x) xs)
greatest_over-in_word f g [] h = refl
greatest_over-in_word f g (x ∷ xs) h =
    let e = h x (0, omega arith, refl) in
    let r = greatest_over-in_word f g xs (λ y i. h y (later y i)) in
    omega arith
  where
    later : (y : ℕ) → Contains xs y → Contains (x ∷ xs) y
    later y (k, lt, e) = (suc k, omega arith, e)

greatest_over-same : (f g : ℕ → ℕ) (xs : List ℕ) → ((x : ℕ) → Contains xs x → f x ≡ g x) → greatest_over (λ x. 1 + f x) xs ≡ greatest_over (λ x. 1 + g x) xs
greatest_over-same f g [] h = refl
greatest_over-same f g (x ∷ xs) h =
    let e = h x (0, omega arith, refl) in
    let r = greatest_over-same f g xs (λ y (k, lt, s). h y (suc k, omega arith, s)) in
    omega arith

-- the levels say nothing, where there are enough of them
pub height_down-same : (uses : List (List ℕ)) → UseEarlier uses → (n m block : ℕ) → block < n → block < m → height_down uses n block ≡ height_down uses m block
height_down-same uses earlier zero m block ln lm = absurd (let f : ⊥ = omega arith in f)
height_down-same uses earlier (suc n) zero block ln lm = absurd (let f : ⊥ = omega arith in f)
height_down-same uses earlier (suc n) (suc m) block ln lm =
    greatest_over-same (height_down uses n) (height_down uses m) (get_or uses block [])
    (λ used i. let e = earlier block used i in height_down-same uses earlier n m used (omega arith) (omega arith))

-- the next height, from the heights so far
pub height-next : (uses : List (List ℕ)) (heights : ℕ → ℕ) (block : ℕ) → UseEarlier uses → ((b : ℕ) → b < block → heights b ≡ in_word (height uses b)) → in_word (greatest_over (λ used. 1 + heights used) (get_or uses block [])) ≡ in_word (height uses block)
unfolding height
height-next uses heights block earlier h =
    greatest_over-in_word heights (λ used. height_down uses (suc used) used) (get_or uses block []) (λ used i. h used (earlier block used i))
    ∙ ap in_word (greatest_over-same (λ used. height_down uses (suc used) used) (height_down uses block) (get_or uses block [])
    (λ used i. let e = earlier block used i in height_down-same uses earlier (suc used) block used (omega arith) e))

pub ord_max-is : (a b : ℕ) → ord_max nat_cmp a b ≡ max a b
ord_max-is a b = grind (arith, nat_tests)
