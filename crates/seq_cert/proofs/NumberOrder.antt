-- Which of two numbers of words is less: the highest word in which they differ decides.
use Rattle.std.proofs.Common.{◌≡◌, ◌≢◌, ℕ, zero, suc, ◌<◌, ◌≤◌, ◌^◌, List, [], ◌∷◌, length, get_or, drop, refl, sym, ap, ◌∙◌, arith, inl, inr}
use Rattle.std.specs.Ordering.{nat_cmp, is_lt}
use Rattle.std.specs.Prelude.{nat_lt, nat_eq, ◌||◌, ◌&&◌}
use Rattle.std.specs.declared.cmp.Ordering.TheVariants.{Less, Equal, Greater}
use Rattle.std.proofs.lemmas.Bool.{cases_order}
use Rattle.std.proofs.lemmas.Bool.Decides.{nat_tests}
use Rattle.std.proofs.Math.Seq.{drop-cons}
use Rattle.sig_lines.specs.Hex.{number_of_words}

-- every word is below 2 ^ 64
abbrev pub AreSmall : List ℕ → Type 0
AreSmall ws = (i : ℕ) → i < length ws → get_or ws i 0 < 2 ^ 64

pub lower_number : (k : ℕ) (xs ys : List ℕ) → k < length xs → k < length ys → AreSmall xs → drop (suc k) xs ≡ drop (suc k) ys → get_or xs k 0 < get_or ys k 0 → number_of_words xs < number_of_words ys
lower_number k [] ys in_xs in_ys small above lt = absurd (omega arith)
lower_number k (x ∷ xs) [] in_xs in_ys small above lt = absurd (omega arith)
lower_number zero (x ∷ xs) (y ∷ ys) in_xs in_ys small above lt = let same : number_of_words xs ≡ number_of_words ys = ap number_of_words above in omega arith
lower_number (suc k) (x ∷ xs) (y ∷ ys) in_xs in_ys small above lt =
    let rest = lower_number k xs ys (omega arith) (omega arith) (λ i l. small (suc i) (omega arith)) above lt in
    let first : x < 2 ^ 64 = small 0 (omega arith) in
    omega arith

cmp_below : (m n : ℕ) → m < n → nat_cmp m n ≡ Less
cmp_below m n lt = grind (arith, nat_tests)

cmp_above : (m n : ℕ) → n < m → nat_cmp m n ≡ Greater
cmp_above m n lt = grind (arith, nat_tests)

cmp_same : (m n : ℕ) → m ≡ n → nat_cmp m n ≡ Equal
cmp_same m n e = grind (arith, nat_tests)

-- the numbers are in the order of their highest words that differ
pub compared_at : (xs ys : List ℕ) (k : ℕ) → k < length xs → k < length ys → AreSmall xs → AreSmall ys → drop (suc k) xs ≡ drop (suc k) ys → get_or xs k 0 ≢ get_or ys k 0
    → nat_cmp (get_or xs k 0) (get_or ys k 0) ≡ nat_cmp (number_of_words xs) (number_of_words ys)
compared_at xs ys k in_xs in_ys small_xs small_ys above differ = elim (cases_order (get_or xs k 0) (get_or ys k 0)) [
  | inl same ↦ absurd (differ same)
  | inr (inl lt) ↦ cmp_below _ _ lt ∙ sym (cmp_below _ _ (lower_number k xs ys in_xs in_ys small_xs above lt))
  | inr (inr gt) ↦ cmp_above _ _ gt ∙ sym (cmp_above _ _ (lower_number k ys xs in_ys in_xs small_ys (sym above) gt))
]

pub compared_same : (xs ys : List ℕ) → xs ≡ ys → Equal ≡ nat_cmp (number_of_words xs) (number_of_words ys)
compared_same xs ys e = sym (cmp_same _ _ (ap number_of_words e))

-- one more word that is equal
pub equal_more : (xs ys : List ℕ) (k : ℕ) → k < length xs → k < length ys → drop (suc k) xs ≡ drop (suc k) ys → get_or xs k 0 ≡ get_or ys k 0 → drop k xs ≡ drop k ys
equal_more xs ys k in_xs in_ys above same = drop-cons xs k 0 in_xs ∙ ap (λ x. x ∷ drop (suc k) xs) same ∙ ap (λ l. get_or ys k 0 ∷ l) above ∙ sym (drop-cons ys k 0 in_ys)

pub none_left : (xs : List ℕ) (n : ℕ) → length xs ≤ n → drop n xs ≡ []
none_left [] zero le = refl
none_left [] (suc n) le = refl
none_left (x ∷ xs) zero le = absurd (omega arith)
none_left (x ∷ xs) (suc n) le = none_left xs n (omega arith)

-- what an order of numbers says of the test
pub is_lt-nat_cmp : (m n : ℕ) → is_lt (nat_cmp m n) ≡ nat_lt m n
is_lt-nat_cmp m n = grind (arith, nat_tests)

-- the order of two numbers, with the size first
pub line_order : (a m b n : ℕ) → a ≡ b → is_lt (nat_cmp m n) ≡ nat_lt a b || (nat_eq a b && nat_lt m n)
line_order a m b n e = grind (arith, nat_tests)

pub size_order : (a m b n : ℕ) → a ≢ b → is_lt (nat_cmp a b) ≡ nat_lt a b || (nat_eq a b && nat_lt m n)
size_order a m b n ne = grind (arith, nat_tests)
