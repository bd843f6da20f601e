-- The numbers below a bound that pass a test, one after another: what a loop over tests, or over the classes of a group,
-- has met so far, and what such a group weighs.
use Rattle.std.proofs.Common.{◌≡◌, ℕ, zero, suc, ◌+◌, ◌-◌, ◌*◌, ◌<◌, ◌≤◌, List, [], ◌∷◌, ◌++◌, length, refl, ap, ◌∙◌, arith, inl, inr, subst}
use Rattle.std.proofs.Math.Nat.{mul-le-mul_left, mul-le-mul_right}
use Rattle.std.proofs.lemmas.Bool.{cases_Bool}
use Rattle.std.proofs.lemmas.List.Elements.{filter-append}
use Rattle.std.specs.Prelude.{Bool, true, false, filter, cond}
use Rattle.seq_theory.specs.Problem.{Problem, count_up, all_classes, IsIn, IsWithin, weight_of}
use Rattle.seq_theory.specs.Below.{passing_below}
use Rattle.seq_theory.proofs.GroupLaws.{IsIn-filter, filter-IsIn, filter_passes}
use Rattle.seq_theory.proofs.LeastLaws.{count_up-IsIn, IsIn-count_up}

pub product-le : (a b c d : ℕ) → a ≤ c → b ≤ d → a * b ≤ c * d
product-le a b c d h1 h2 = let f1 = mul-le-mul_left a h2 in let f2 = mul-le-mul_right d h1 in omega arith

-- ---- counting up ----

pub length-count_up : (from n : ℕ) → length (count_up from n) ≡ n
length-count_up from zero = refl
length-count_up from (suc n) = ap suc (length-count_up (suc from) n)

pub count_up-more : (from n : ℕ) → count_up from (suc n) ≡ count_up from n ++ (from + n) ∷ []
count_up-more from zero = ap (λ n. n ∷ []) (let e : from ≡ from + 0 = omega arith in e)
count_up-more from (suc n) = ap (λ l. from ∷ l) (count_up-more (suc from) n ∙ ap (λ m. count_up (suc from) n ++ m ∷ []) (let e : suc from + n ≡ from + suc n = omega arith in e))

pub count_up-append : (from m k : ℕ) → count_up from (m + k) ≡ count_up from m ++ count_up (from + m) k
count_up-append from zero k = ap (count_up from) (let e : 0 + k ≡ k = omega arith in e) ∙ ap (λ a. count_up a k) (let e : from ≡ from + 0 = omega arith in e)
count_up-append from (suc m) k = ap (count_up from) (let e : suc m + k ≡ suc (m + k) = omega arith in e) ∙ ap (λ l. from ∷ l) (count_up-append (suc from) m k ∙ ap (λ a. count_up (suc from) m ++ count_up a k) (let e : suc from + m ≡ from + suc m = omega arith in e))

-- the group of all classes is within them
pub within-all : (p : Problem) (xs : List ℕ) → xs ≡ all_classes p → IsWithin p xs
within-all p xs e c i = let w = count_up-IsIn c 0 p.classes (subst (IsIn c) e i) in omega arith

-- ---- lists ----

pub append-nil : (xs : List ℕ) → xs ++ [] ≡ xs
append-nil [] = refl
append-nil (x ∷ xs) = ap (λ l. x ∷ l) (append-nil xs)

filter-last : (f : ℕ → Bool) (xs : List ℕ) (x : ℕ) → filter f (xs ++ x ∷ []) ≡ filter f xs ++ cond (f x) (x ∷ []) []
filter-last f [] x = elim (cases_Bool (f x)) [ inl y ↦ rw y refl | inr n ↦ rw n refl ]
filter-last f (z ∷ xs) x = elim (cases_Bool (f z)) [
  | inl y ↦ rw y (ap (λ l. z ∷ l) (filter-last f xs x))
  | inr n ↦ rw n (filter-last f xs x)
]

length-filter-le : (f : ℕ → Bool) (xs : List ℕ) → length (filter f xs) ≤ length xs
length-filter-le f [] = omega arith
length-filter-le f (x ∷ xs) = elim (cases_Bool (f x)) [
  | inl y ↦ rw y (omega (arith, length-filter-le f xs))
  | inr n ↦ rw n (omega (arith, length-filter-le f xs))
]

filter-none : (f : ℕ → Bool) (from n : ℕ) → ((k : ℕ) → from ≤ k → k < from + n → f k ≡ false) → filter f (count_up from n) ≡ []
filter-none f from zero none = refl
filter-none f from (suc n) none = rw (none from (omega arith) (omega arith)) (filter-none f (suc from) n (λ k l u. none k (omega arith) (omega arith)))

filter-upto : (f : ℕ → Bool) (from m n : ℕ) → m ≤ n → ((c : ℕ) → from + m ≤ c → c < from + n → f c ≡ true → ⊥) → filter f (count_up from m) ≡ filter f (count_up from n)
filter-upto f from zero zero le h = refl
filter-upto f from zero (suc n) le h = elim (cases_Bool (f from)) [
  | inl y ↦ absurd (h from (omega arith) (omega arith) y)
  | inr e ↦ rw e (filter-upto f (suc from) zero n (omega arith) (λ c l1 l2 y. h c (omega arith) (omega arith) y))
]
filter-upto f from (suc m) zero le h = absurd (let bad : ⊥ = omega arith in bad)
filter-upto f from (suc m) (suc n) le h =
    let rest = filter-upto f (suc from) m n (omega arith) (λ c l1 l2 y. h c (omega arith) (omega arith) y) in
    elim (cases_Bool (f from)) [
      | inl y ↦ rw y (ap (λ l. from ∷ l) rest)
      | inr e ↦ rw e rest
    ]

-- ---- the numbers that pass ----

pub passing-zero : (f : ℕ → Bool) → passing_below f 0 ≡ []
unfolding passing_below
passing-zero f = refl

pub passing-all : (f : ℕ → Bool) (n : ℕ) → passing_below f n ≡ filter f (count_up 0 n)
unfolding passing_below
passing-all f n = refl

-- one number more
pub passing-more : (f : ℕ → Bool) (n : ℕ) → passing_below f (n + 1) ≡ passing_below f n ++ cond (f n) (n ∷ []) []
unfolding passing_below
passing-more f n =
    let e : n + 1 ≡ suc n = omega arith in
    let e2 : 0 + n ≡ n = omega arith in
    ap (λ m. filter f (count_up 0 m)) e ∙ ap (filter f) (count_up-more 0 n ∙ ap (λ m. count_up 0 n ++ m ∷ []) e2) ∙ filter-last f (count_up 0 n) n

pub passing-in : (f : ℕ → Bool) (n : ℕ) → f n ≡ true → passing_below f (n + 1) ≡ passing_below f n ++ n ∷ []
passing-in f n e = passing-more f n ∙ rw e refl

pub passing-out : (f : ℕ → Bool) (n : ℕ) → f n ≡ false → passing_below f (n + 1) ≡ passing_below f n
passing-out f n e = passing-more f n ∙ rw e (append-nil (passing_below f n))

pub length-passing : (f : ℕ → Bool) (n : ℕ) → length (passing_below f n) ≤ n
unfolding passing_below
length-passing f n = omega (arith, length-filter-le f (count_up 0 n), length-count_up 0 n)

-- a stretch more
pub passing-split : (f : ℕ → Bool) (m k : ℕ) → passing_below f (m + k) ≡ passing_below f m ++ filter f (count_up m k)
unfolding passing_below
passing-split f m k =
    ap (filter f) (count_up-append 0 m k ∙ ap (λ a. count_up 0 m ++ count_up a k) (let e : 0 + m ≡ m = omega arith in e)) ∙ filter-append f (count_up 0 m) (count_up m k)

-- a stretch in which none passes
pub passing-skip : (f : ℕ → Bool) (from to : ℕ) → from ≤ to → ((k : ℕ) → from ≤ k → k < to → f k ≡ false) → passing_below f to ≡ passing_below f from
passing-skip f from to le none =
    let e : to ≡ from + (to - from) = omega arith in
    ap (passing_below f) e ∙ passing-split f from (to - from)
    ∙ ap (λ l. passing_below f from ++ l) (filter-none f from (to - from) (λ k l u. none k l (omega arith))) ∙ append-nil (passing_below f from)

pub IsIn-passing : (f : ℕ → Bool) (c n : ℕ) → c < n → f c ≡ true → IsIn c (passing_below f n)
unfolding passing_below
IsIn-passing f c n lt e = IsIn-filter f c (count_up 0 n) (IsIn-count_up c 0 n (omega arith) (omega arith)) e

pub passing-passes : (f : ℕ → Bool) (c n : ℕ) → IsIn c (passing_below f n) → f c ≡ true
unfolding passing_below
passing-passes f c n i = filter_passes f c (count_up 0 n) i

pub passing-below : (f : ℕ → Bool) (c n : ℕ) → IsIn c (passing_below f n) → c < n
unfolding passing_below
passing-below f c n i = let w = count_up-IsIn c 0 n (filter-IsIn f c (count_up 0 n) i) in omega arith

-- ---- groups within the classes ----

module _ (p : Problem) where
  -- a class of a group within the classes is one of them
  pub class-within : (f : ℕ → Bool) (c n : ℕ) → IsWithin p (passing_below f n) → c < n → f c ≡ true → c < p.classes
  class-within f c n within lt has = within c (IsIn-passing f c n lt has)

  -- a group within the classes has no class past the last
  pub passing-within : (f : ℕ → Bool) (n : ℕ) → p.classes ≤ n → IsWithin p (passing_below f n) → passing_below f p.classes ≡ passing_below f n
  unfolding passing_below
  passing-within f n le within = filter-upto f 0 p.classes n le (λ c l1 l2 y.
      let w = within c (IsIn-passing f c n (omega arith) y) in
      let bad : ⊥ = omega arith in bad)

  weight-append : (xs ys : List ℕ) → weight_of p (xs ++ ys) ≡ weight_of p xs + weight_of p ys
  weight-append [] ys = omega arith
  weight-append (x ∷ xs) ys = omega (arith, weight-append xs ys)

  weight-filter : (f : ℕ → Bool) (xs : List ℕ) → weight_of p (filter f xs) ≤ weight_of p xs
  weight-filter f [] = omega arith
  weight-filter f (x ∷ xs) = elim (cases_Bool (f x)) [
    | inl y ↦ rw y (omega (arith, weight-filter f xs))
    | inr n ↦ rw n (omega (arith, weight-filter f xs))
  ]

  weight-count_up : (from m n : ℕ) → m ≤ n → weight_of p (count_up from m) ≤ weight_of p (count_up from n)
  weight-count_up from zero n le = omega arith
  weight-count_up from (suc m) zero le = absurd (let h : ⊥ = omega arith in h)
  weight-count_up from (suc m) (suc n) le = omega (arith, weight-count_up (suc from) m n (omega arith))

  -- a group within the classes weighs no more than all of them
  pub weight-passing : (f : ℕ → Bool) (n : ℕ) → n ≤ p.classes → weight_of p (passing_below f n) ≤ weight_of p (all_classes p)
  unfolding passing_below
  weight-passing f n le = omega (arith, weight-filter f (count_up 0 n), weight-count_up 0 n p.classes le)

  pub weight-within : (f : ℕ → Bool) (n : ℕ) → p.classes ≤ n → IsWithin p (passing_below f n) → weight_of p (passing_below f n) ≤ weight_of p (all_classes p)
  weight-within f n le within =
      let e = ap (weight_of p) (passing-within f n le within) in
      omega (arith, weight-passing f p.classes (omega arith))

  -- one class more
  pub weight-more : (f : ℕ → Bool) (n : ℕ) → f n ≡ true → weight_of p (passing_below f (n + 1)) ≡ weight_of p (passing_below f n) + p.weight n
  weight-more f n e = ap (weight_of p) (passing-in f n e) ∙ weight-append (passing_below f n) (n ∷ []) ∙ (let h : weight_of p (passing_below f n) + (p.weight n + 0) ≡ weight_of p (passing_below f n) + p.weight n = omega arith in h)
