-- Merging the two least first costs least: three laws, proved together by induction on the number of merges.
use Rattle.std.proofs.Common.{◌≡◌, ℕ, zero, suc, ◌+◌, ◌-◌, ◌<◌, ◌≤◌, List, [], ◌∷◌, sym, ap, ◌∙◌, arith, inl, inr}
use Rattle.std.proofs.lemmas.Bool.{cases_lt}
use Rattle.seq_theory.specs.Huffman.{place_in, merging}
use Rattle.seq_theory.proofs.UpwardLaws.{AtMost, Below, IsUp, cases_first, AtMost-lower, place-low, place-least, AtMost-place, IsUp-place, place-swap}

-- the third to the front
pub place-third : (a b r : ℕ) (xs : List ℕ) → place_in a (place_in b (place_in r xs)) ≡ place_in r (place_in a (place_in b xs))
place-third a b r xs = ap (place_in a) (place-swap b r xs) ∙ place-swap a r (place_in b xs)

-- the first behind the next two
place-last : (a r s : ℕ) (xs : List ℕ) → place_in a (place_in r (place_in s xs)) ≡ place_in r (place_in s (place_in a xs))
place-last a r s xs = place-swap a r (place_in s xs) ∙ ap (place_in r) (place-swap a s xs)

-- the third and the fourth to the front
place-fourth : (a b r s : ℕ) (xs : List ℕ) → place_in a (place_in b (place_in r (place_in s xs))) ≡ place_in r (place_in s (place_in a (place_in b xs)))
place-fourth a b r s xs = place-third a b r (place_in s xs) ∙ ap (place_in r) (place-third a b s xs)

cons-place : (r : ℕ) (xs : List ℕ) → AtMost r xs → r ∷ xs ≡ place_in r xs
cons-place r xs h = sym (place-least r xs h)

merge_ordered : (k x y : ℕ) (xs : List ℕ) → x ≤ y → AtMost y xs → merging (suc k) (place_in x (place_in y xs)) ≡ (x + y) + merging k (place_in (x + y) xs)
merge_ordered k x y xs le h = ap (λ l. merging (suc k) (place_in x l)) (place-least y xs h) ∙ ap (merging (suc k)) (place-low x y xs le)

-- the two least are merged
merge_two : (k x y : ℕ) (xs : List ℕ) → AtMost x xs → AtMost y xs → merging (suc k) (place_in x (place_in y xs)) ≡ (x + y) + merging k (place_in (x + y) xs)
merge_two k x y xs hx hy = elim (cases_lt y x) [
  | inr le ↦ merge_ordered k x y xs le hy
  | inl lt ↦ ap (merging (suc k)) (place-swap x y xs) ∙ merge_ordered k y x xs (omega arith) hx
      ∙ (let e : y + x ≡ x + y = omega arith in ap (λ s. s + merging k (place_in s xs)) e)
]

-- no merge is better than that of the two least
abbrev pub AnyMergeCosts : ℕ → Type 0
AnyMergeCosts k = (a b : ℕ) (xs : List ℕ) → IsUp xs → merging (suc k) (place_in a (place_in b xs)) ≤ (a + b) + merging k (place_in (a + b) xs)

-- two weights that lie further apart cost no more than two of the same sum
abbrev pub SpreadSaves : ℕ → Type 0
SpreadSaves k = (a b c d : ℕ) (xs : List ℕ) → IsUp xs → a + d ≡ b + c → a ≤ b → a ≤ c → merging k (place_in a (place_in d xs)) ≤ merging k (place_in b (place_in c xs))

-- where p + q is the sum of two that are at most all others, a part of it that goes over to another weight costs no more
-- than that part
abbrev pub ShiftCosts : ℕ → Type 0
ShiftCosts k = (u v w gap p q : ℕ) (xs : List ℕ) → IsUp xs → u + gap ≡ p + q → v + gap ≡ w → p ≤ v → q ≤ v → AtMost p xs → AtMost q xs → merging k (place_in u (place_in w xs)) ≤ gap + merging k (place_in (p + q) (place_in v xs))

-- a merge with a greater one in place of the lesser
abbrev Exchange : ℕ → Type 0
Exchange k = (a r b : ℕ) (xs : List ℕ) → IsUp xs → a ≤ b → r ≤ b → AtMost a xs → AtMost r xs → r + merging k (place_in (a + r) (place_in b xs)) ≤ b + merging k (place_in (a + b) (place_in r xs))

-- a merge of two while two lesser are there
abbrev Deep : ℕ → Type 0
Deep k = (a b r s : ℕ) (xs : List ℕ) → IsUp xs → r ≤ s → s < a → s < b → AtMost s xs → (r + s) + merging k (place_in (r + s) (place_in a (place_in b xs))) ≤ (a + b) + merging k (place_in (a + b) (place_in r (place_in s xs)))

exchange_zero : Exchange zero
exchange_zero a r b xs up le1 le2 h1 h2 = omega arith

exchange_low : (k : ℕ) → AnyMergeCosts k → SpreadSaves k → (a r b : ℕ) (xs : List ℕ) → IsUp xs → a ≤ b → r ≤ b → AtMost a xs → AtMost r xs → Below (a + b) xs → r + merging (suc k) (place_in (a + r) (place_in b xs)) ≤ b + merging (suc k) (place_in (a + b) (place_in r xs))
exchange_low k any spread a r b [] up le1 le2 h1 h2 low = absurd low
exchange_low k any spread a r b (s ∷ xs) up le1 le2 h1 h2 low =
    let c = cons-place s xs up.0 in
    let f1 = ap (λ l. merging (suc k) (place_in (a + b) (place_in r l))) c ∙ ap (merging (suc k)) (place-last (a + b) r s xs) in
    let f2 = merge_two k r s (place_in (a + b) xs) (AtMost-place r (a + b) xs (omega arith) (AtMost-lower r s xs h2 up.0)) (AtMost-place s (a + b) xs (omega arith) up.0) in
    let f3 = ap (λ l. merging (suc k) (place_in (a + r) (place_in b l))) c ∙ ap (merging (suc k)) (place-swap (a + r) b (place_in s xs) ∙ ap (place_in b) (place-swap (a + r) s xs)) in
    let f4 = any b s (place_in (a + r) xs) (IsUp-place (a + r) xs up.1) in
    let f5 = spread (a + r) (a + b) (r + s) (b + s) xs up.1 (omega arith) (omega arith) (omega arith) in
    let f6 = ap (merging k) (place-swap (b + s) (a + r) xs) in
    let f7 = ap (merging k) (place-swap (r + s) (a + b) xs) in
    omega arith

exchange_suc : (k : ℕ) → AnyMergeCosts k → SpreadSaves k → Exchange (suc k)
exchange_suc k any spread a r b xs up le1 le2 h1 h2 = elim (cases_first (a + b) xs) [
  | inl h ↦
      (let f1 = merge_two k (a + b) r xs h h2 in
      let f2 = any (a + r) b xs up in
      let e : (a + r) + b ≡ (a + b) + r = omega arith in
      let f3 = ap (λ s. merging k (place_in s xs)) e in
      omega arith)
  | inr low ↦ exchange_low k any spread a r b xs up le1 le2 h1 h2 low
]

deep_zero : Deep zero
deep_zero a b r s xs up le lt1 lt2 h = omega arith

deep_suc : (k : ℕ) → AnyMergeCosts k → Deep (suc k)
deep_suc k any a b r s xs up le lt1 lt2 h =
    let f1 = ap (merging (suc k)) (place-last (a + b) r s xs) in
    let f2 = merge_two k r s (place_in (a + b) xs) (AtMost-place r (a + b) xs (omega arith) (AtMost-lower r s xs le h)) (AtMost-place s (a + b) xs (omega arith) h) in
    let f3 = ap (merging (suc k)) (sym (place-third a b (r + s) xs)) in
    let f4 = any a b (place_in (r + s) xs) (IsUp-place (r + s) xs up) in
    let f5 = ap (merging k) (place-swap (r + s) (a + b) xs) in
    omega arith

any_two_low : (k : ℕ) → Deep k → (a b r : ℕ) (xs : List ℕ) → IsUp (r ∷ xs) → a ≤ b → Below a xs → merging (suc k) (place_in a (place_in b (r ∷ xs))) ≤ (a + b) + merging k (place_in (a + b) (r ∷ xs))
any_two_low k deep a b r [] up le low = absurd low
any_two_low k deep a b r (s ∷ xs) up le low =
    let c1 = cons-place s xs up.1.0 in
    let c2 = cons-place r (s ∷ xs) up.0 ∙ ap (place_in r) c1 in
    let f1 = ap (λ l. merging (suc k) (place_in a (place_in b l))) c2 ∙ ap (merging (suc k)) (place-fourth a b r s xs) in
    let f2 = merge_two k r s (place_in a (place_in b xs)) (AtMost-place r a (place_in b xs) (omega arith) (AtMost-place r b xs (omega arith) (AtMost-lower r s xs up.0 up.1.0))) (AtMost-place s a (place_in b xs) (omega arith) (AtMost-place s b xs (omega arith) up.1.0)) in
    let f3 = deep a b r s xs up.1.1 up.0 low (omega arith) up.1.0 in
    let f4 = ap (λ l. merging k (place_in (a + b) l)) c2 in
    omega arith

any_low : (k : ℕ) → Exchange k → Deep k → (a b : ℕ) (xs : List ℕ) → IsUp xs → a ≤ b → Below b xs → merging (suc k) (place_in a (place_in b xs)) ≤ (a + b) + merging k (place_in (a + b) xs)
any_low k exchange deep a b [] up le low = absurd low
any_low k exchange deep a b (r ∷ xs) up le low = elim (cases_first a xs) [
  | inl h ↦
      (let c = cons-place r xs up.0 in
      let f1 = ap (λ l. merging (suc k) (place_in a (place_in b l))) c ∙ ap (λ l. merging (suc k) (place_in a l)) (place-swap b r xs) in
      let f2 = merge_two k a r (place_in b xs) (AtMost-place a b xs le h) (AtMost-place r b xs (omega arith) up.0) in
      let f3 = exchange a r b xs up.1 le (omega arith) h up.0 in
      let f4 = ap (λ l. merging k (place_in (a + b) l)) c in
      omega arith)
  | inr h ↦ any_two_low k deep a b r xs up le h
]

any_ordered : (k : ℕ) → Exchange k → Deep k → (a b : ℕ) (xs : List ℕ) → IsUp xs → a ≤ b → merging (suc k) (place_in a (place_in b xs)) ≤ (a + b) + merging k (place_in (a + b) xs)
any_ordered k exchange deep a b xs up le = elim (cases_first b xs) [
  | inl h ↦ (let f = merge_two k a b xs (AtMost-lower a b xs le h) h in omega arith)
  | inr h ↦ any_low k exchange deep a b xs up le h
]

any_merge : (k : ℕ) → Exchange k → Deep k → AnyMergeCosts k
any_merge k exchange deep a b xs up = elim (cases_lt b a) [
  | inr le ↦ any_ordered k exchange deep a b xs up le
  | inl lt ↦
      (let f1 = ap (merging (suc k)) (place-swap a b xs) in
      let f2 = any_ordered k exchange deep b a xs up (omega arith) in
      let e : b + a ≡ a + b = omega arith in
      let f3 = ap (λ s. merging k (place_in s xs)) e in
      omega arith)
]

spread_zero : SpreadSaves zero
spread_zero a b c d xs up sum le1 le2 = omega arith

spread_two_low : (k : ℕ) → AnyMergeCosts k → SpreadSaves k → (a b c d r : ℕ) (xs : List ℕ) → IsUp (r ∷ xs) → a + d ≡ b + c → a ≤ b → a ≤ c → b ≤ c → Below b xs → merging (suc k) (place_in a (place_in d (r ∷ xs))) ≤ merging (suc k) (place_in b (place_in c (r ∷ xs)))
spread_two_low k any spread a b c d r [] up sum le1 le2 le3 low = absurd low
spread_two_low k any spread a b c d r (s ∷ xs) up sum le1 le2 le3 low =
    let c1 = cons-place s xs up.1.0 in
    let c2 = cons-place r (s ∷ xs) up.0 ∙ ap (place_in r) c1 in
    let f1 = ap (λ l. merging (suc k) (place_in b (place_in c l))) c2 ∙ ap (merging (suc k)) (place-fourth b c r s xs) in
    let f2 = merge_two k r s (place_in b (place_in c xs)) (AtMost-place r b (place_in c xs) (omega arith) (AtMost-place r c xs (omega arith) (AtMost-lower r s xs up.0 up.1.0))) (AtMost-place s b (place_in c xs) (omega arith) (AtMost-place s c xs (omega arith) up.1.0)) in
    let f3 = ap (λ l. merging (suc k) (place_in a (place_in d l))) c2 ∙ ap (merging (suc k)) (place-fourth a d r s xs) in
    let f4 = any r s (place_in a (place_in d xs)) (IsUp-place a (place_in d xs) (IsUp-place d xs up.1.1)) in
    let f5 = ap (merging k) (sym (place-third a d (r + s) xs)) in
    let f6 = ap (merging k) (sym (place-third b c (r + s) xs)) in
    let f7 = spread a b c d (place_in (r + s) xs) (IsUp-place (r + s) xs up.1.1) sum le1 le2 in
    omega arith

spread_low : (k : ℕ) → AnyMergeCosts k → SpreadSaves k → ShiftCosts k → (a b c d : ℕ) (xs : List ℕ) → IsUp xs → a + d ≡ b + c → a ≤ b → a ≤ c → b ≤ c → Below c xs → merging (suc k) (place_in a (place_in d xs)) ≤ merging (suc k) (place_in b (place_in c xs))
spread_low k any spread shift a b c d [] up sum le1 le2 le3 low = absurd low
spread_low k any spread shift a b c d (r ∷ xs) up sum le1 le2 le3 low = elim (cases_first b xs) [
  | inl h ↦
      (let c1 = cons-place r xs up.0 in
      let f1 = ap (λ l. merging (suc k) (place_in b (place_in c l))) c1 ∙ ap (λ l. merging (suc k) (place_in b l)) (place-swap c r xs) in
      let f2 = merge_two k b r (place_in c xs) (AtMost-place b c xs le3 h) (AtMost-place r c xs (omega arith) up.0) in
      let f3 = ap (λ l. merging (suc k) (place_in a (place_in d l))) c1 ∙ ap (λ l. merging (suc k) (place_in a l)) (place-swap d r xs) in
      let f4 = any a r (place_in d xs) (IsUp-place d xs up.1) in
      let f5 = shift (a + r) c d (b - a) b r xs up.1 (omega arith) (omega arith) le3 (omega arith) h up.0 in
      omega arith)
  | inr h ↦ spread_two_low k any spread a b c d r xs up sum le1 le2 le3 h
]

spread_ordered : (k : ℕ) → AnyMergeCosts k → SpreadSaves k → ShiftCosts k → (a b c d : ℕ) (xs : List ℕ) → IsUp xs → a + d ≡ b + c → a ≤ b → a ≤ c → b ≤ c → merging (suc k) (place_in a (place_in d xs)) ≤ merging (suc k) (place_in b (place_in c xs))
spread_ordered k any spread shift a b c d xs up sum le1 le2 le3 = elim (cases_first c xs) [
  | inl h ↦
      (let f1 = merge_two k b c xs (AtMost-lower b c xs le3 h) h in
      let f2 = any a d xs up in
      let f3 = ap (λ s. merging k (place_in s xs)) sum in
      omega arith)
  | inr h ↦ spread_low k any spread shift a b c d xs up sum le1 le2 le3 h
]

spread_suc : (k : ℕ) → AnyMergeCosts k → SpreadSaves k → ShiftCosts k → SpreadSaves (suc k)
spread_suc k any spread shift a b c d xs up sum le1 le2 = elim (cases_lt c b) [
  | inr le ↦ spread_ordered k any spread shift a b c d xs up sum le1 le2 le
  | inl lt ↦
      (let f1 = ap (merging (suc k)) (place-swap b c xs) in
      let e : a + d ≡ c + b = omega arith in
      let f2 = spread_ordered k any spread shift a c b d xs up e le2 le1 (omega arith) in
      omega arith)
]

shift_zero : ShiftCosts zero
shift_zero u v w gap p q xs up sum1 sum2 le1 le2 h1 h2 = omega arith

-- the two least are two of the others
shift_two_low : (k : ℕ) → AnyMergeCosts k → ShiftCosts k → (u v w gap p q r : ℕ) (xs : List ℕ) → IsUp (r ∷ xs) → u + gap ≡ p + q → v + gap ≡ w → p ≤ v → q ≤ v → p ≤ r → q ≤ r → Below (p + q) xs → Below v xs → merging (suc k) (place_in u (place_in w (r ∷ xs))) ≤ gap + merging (suc k) (place_in (p + q) (place_in v (r ∷ xs)))
shift_two_low k any shift u v w gap p q r [] up sum1 sum2 le1 le2 le3 le4 low1 low2 = absurd low1
shift_two_low k any shift u v w gap p q r (s ∷ xs) up sum1 sum2 le1 le2 le3 le4 low1 low2 =
    let c1 = cons-place s xs up.1.0 in
    let c2 = cons-place r (s ∷ xs) up.0 ∙ ap (place_in r) c1 in
    let f1 = ap (λ l. merging (suc k) (place_in (p + q) (place_in v l))) c2 ∙ ap (merging (suc k)) (place-fourth (p + q) v r s xs) in
    let f2 = merge_two k r s (place_in (p + q) (place_in v xs)) (AtMost-place r (p + q) (place_in v xs) (omega arith) (AtMost-place r v xs (omega arith) (AtMost-lower r s xs up.0 up.1.0))) (AtMost-place s (p + q) (place_in v xs) (omega arith) (AtMost-place s v xs (omega arith) up.1.0)) in
    let f3 = ap (λ l. merging (suc k) (place_in u (place_in w l))) c2 ∙ ap (merging (suc k)) (place-fourth u w r s xs) in
    let f4 = any r s (place_in u (place_in w xs)) (IsUp-place u (place_in w xs) (IsUp-place w xs up.1.1)) in
    let f5 = ap (merging k) (sym (place-third u w (r + s) xs)) in
    let f6 = ap (merging k) (sym (place-third (p + q) v (r + s) xs)) in
    let f7 = shift u v w gap p q (place_in (r + s) xs) (IsUp-place (r + s) xs up.1.1) sum1 sum2 le1 le2 (AtMost-place p (r + s) xs (omega arith) (AtMost-lower p s xs (omega arith) up.1.0)) (AtMost-place q (r + s) xs (omega arith) (AtMost-lower q s xs (omega arith) up.1.0)) in
    omega arith

-- where p + q is the lesser of the two, and one of the others is below the greater
shift_sum_first : (k : ℕ) → AnyMergeCosts k → ShiftCosts k → (u v w gap p q : ℕ) (xs : List ℕ) → IsUp xs → u + gap ≡ p + q → v + gap ≡ w → p ≤ v → q ≤ v → AtMost p xs → AtMost q xs → p + q ≤ v → Below v xs → merging (suc k) (place_in u (place_in w xs)) ≤ gap + merging (suc k) (place_in (p + q) (place_in v xs))
shift_sum_first k any shift u v w gap p q [] up sum1 sum2 le1 le2 h1 h2 le low = absurd low
shift_sum_first k any shift u v w gap p q (r ∷ xs) up sum1 sum2 le1 le2 h1 h2 le low = elim (cases_first (p + q) xs) [
  | inl h ↦
      (let c1 = cons-place r xs up.0 in
      let f1 = ap (λ l. merging (suc k) (place_in (p + q) (place_in v l))) c1 ∙ ap (λ l. merging (suc k) (place_in (p + q) l)) (place-swap v r xs) in
      let f2 = merge_two k (p + q) r (place_in v xs) (AtMost-place (p + q) v xs le h) (AtMost-place r v xs (omega arith) up.0) in
      let f3 = ap (λ l. merging (suc k) (place_in u (place_in w l))) c1 ∙ ap (λ l. merging (suc k) (place_in u l)) (place-swap w r xs) in
      let f4 = any u r (place_in w xs) (IsUp-place w xs up.1) in
      let f5 = shift (u + r) v w gap (p + q) r xs up.1 (omega arith) sum2 le (omega arith) h up.0 in
      omega arith)
  | inr h ↦ shift_two_low k any shift u v w gap p q r xs up sum1 sum2 le1 le2 h1 h2 h (below_more (p + q) v xs le h)
]
  where
    below_more : (m n : ℕ) (xs : List ℕ) → m ≤ n → Below m xs → Below n xs
    below_more m n [] le h = h
    below_more m n (x ∷ xs) le h = omega arith

-- where p + q is the greater of the two, and one of the others is below it
shift_sum_second : (k : ℕ) → AnyMergeCosts k → SpreadSaves k → ShiftCosts k → (u v w gap p q : ℕ) (xs : List ℕ) → IsUp xs → u + gap ≡ p + q → v + gap ≡ w → p ≤ v → q ≤ v → AtMost p xs → AtMost q xs → v ≤ p + q → Below (p + q) xs → merging (suc k) (place_in u (place_in w xs)) ≤ gap + merging (suc k) (place_in (p + q) (place_in v xs))
shift_sum_second k any spread shift u v w gap p q [] up sum1 sum2 le1 le2 h1 h2 le low = absurd low
shift_sum_second k any spread shift u v w gap p q (r ∷ xs) up sum1 sum2 le1 le2 h1 h2 le low = elim (cases_first v xs) [
  | inl h ↦
      (let c1 = cons-place r xs up.0 in
      let f1 = ap (λ l. merging (suc k) (place_in (p + q) (place_in v l))) c1 ∙ ap (merging (suc k)) (place-swap (p + q) v (place_in r xs) ∙ ap (place_in v) (place-swap (p + q) r xs)) in
      let f2 = merge_two k v r (place_in (p + q) xs) (AtMost-place v (p + q) xs le h) (AtMost-place r (p + q) xs (omega arith) up.0) in
      let f3 = ap (λ l. merging (suc k) (place_in u (place_in w l))) c1 ∙ ap (merging (suc k)) (place-last u w r xs) in
      let f4 = any w r (place_in u xs) (IsUp-place u xs up.1) in
      let f5 = ap (merging k) (place-swap (w + r) u xs) in
      let f6 = spread u (p + q) (v + r) (w + r) xs up.1 (omega arith) (omega arith) (omega arith) in
      let f7 = ap (merging k) (place-swap (v + r) (p + q) xs) in
      omega arith)
  | inr h ↦ shift_two_low k any shift u v w gap p q r xs up sum1 sum2 le1 le2 h1 h2 (below_more v (p + q) xs le h) h
]
  where
    below_more : (m n : ℕ) (xs : List ℕ) → m ≤ n → Below m xs → Below n xs
    below_more m n [] le h = h
    below_more m n (x ∷ xs) le h = omega arith

shift_both_least : (k : ℕ) → AnyMergeCosts k → (u v w gap p q : ℕ) (xs : List ℕ) → IsUp xs → u + gap ≡ p + q → v + gap ≡ w → AtMost (p + q) xs → AtMost v xs → merging (suc k) (place_in u (place_in w xs)) ≤ gap + merging (suc k) (place_in (p + q) (place_in v xs))
shift_both_least k any u v w gap p q xs up sum1 sum2 h1 h2 =
    let f1 = merge_two k (p + q) v xs h1 h2 in
    let f2 = any u w xs up in
    let e : u + w ≡ (p + q) + v = omega arith in
    let f3 = ap (λ s. merging k (place_in s xs)) e in
    omega arith

shift_suc : (k : ℕ) → AnyMergeCosts k → SpreadSaves k → ShiftCosts k → ShiftCosts (suc k)
shift_suc k any spread shift u v w gap p q xs up sum1 sum2 le1 le2 h1 h2 = elim (cases_lt v (p + q)) [
  | inr le ↦ elim (cases_first v xs) [
    | inl h ↦ shift_both_least k any u v w gap p q xs up sum1 sum2 (AtMost-lower (p + q) v xs le h) h
    | inr h ↦ shift_sum_first k any shift u v w gap p q xs up sum1 sum2 le1 le2 h1 h2 le h
  ]
  | inl lt ↦ elim (cases_first (p + q) xs) [
    | inl h ↦ shift_both_least k any u v w gap p q xs up sum1 sum2 h (AtMost-lower v (p + q) xs (omega arith) h)
    | inr h ↦ shift_sum_second k any spread shift u v w gap p q xs up sum1 sum2 le1 le2 h1 h2 (omega arith) h
  ]
]

record Laws (k : ℕ) : Type 0 where
  any : AnyMergeCosts k
  spread : SpreadSaves k
  shift : ShiftCosts k

laws : (k : ℕ) → Laws k
laws zero = record {
  any = any_merge zero exchange_zero deep_zero;
  spread = spread_zero;
  shift = shift_zero;
}
laws (suc k) =
    let l = laws k in
    record {
      any = any_merge (suc k) (exchange_suc k l.any l.spread) (deep_suc k l.any);
      spread = spread_suc k l.any l.spread l.shift;
      shift = shift_suc k l.any l.spread l.shift;
    }

pub any_merge_costs : (k : ℕ) → AnyMergeCosts k
any_merge_costs k = (laws k).any

pub spread_saves : (k : ℕ) → SpreadSaves k
spread_saves k = (laws k).spread
