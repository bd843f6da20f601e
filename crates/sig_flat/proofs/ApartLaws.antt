-- Lists without repetition: no item stands at two places of one. So a list that is joined from such lists is one, where
-- none of them shares an item with another; and an item of one has a place of its own.
use Rattle.std.proofs.Common.{◌≡◌, ℕ, zero, suc, List, [], ◌∷◌, ◌++◌, map, Some, refl, sym, ap, subst, arith, inl, inr}
use Rattle.std.specs.Prelude.{slice_get}
use Rattle.std.specs.List.{Contains, flat_map}
use Rattle.std.proofs.lemmas.List.Elements.{Contains-append_cases, Contains-append_left, Contains-append_right}

-- no item of the list stands in it again
abbrev pub AreApart : {A : Type 0} → List A → Type 0
AreApart [] = Unit {0}
AreApart (x ∷ xs) = (Contains xs x → ⊥) × AreApart xs

pub contains-here : {A : Type 0} (x : A) (xs : List A) → Contains (x ∷ xs) x
contains-here x xs = (0, omega arith, refl)

pub contains-later : {A : Type 0} (x : A) (xs : List A) (y : A) → Contains xs y → Contains (x ∷ xs) y
contains-later x xs y (k, lt, e) = (suc k, omega arith, e)

pub contains-none : {A : Type 0} (y : A) → Contains [] y → ⊥
contains-none y (k, lt, e) = omega arith

pub contains-at : {A : Type 0} (xs : List A) (i : ℕ) (x : A) → slice_get xs i ≡ Some x → Contains xs x
contains-at [] i x h = absurd (let f : ⊥ = cc in f)
contains-at (y ∷ xs) zero x h = (0, omega arith, let e : y ≡ x = cc in e)
contains-at (y ∷ xs) (suc i) x h = contains-later y xs x (contains-at xs i x h)

-- an item has one place
pub one-place : {A : Type 0} (xs : List A) (i j : ℕ) (x : A) → AreApart xs → slice_get xs i ≡ Some x → slice_get xs j ≡ Some x → i ≡ j
one-place [] i j x a p q = absurd (let f : ⊥ = cc in f)
one-place (y ∷ xs) zero zero x a p q = refl
one-place (y ∷ xs) zero (suc j) x a p q = let e : y ≡ x = cc in absurd (a.0 (subst (Contains xs) (sym e) (contains-at xs j x q)))
one-place (y ∷ xs) (suc i) zero x a p q = let e : y ≡ x = cc in absurd (a.0 (subst (Contains xs) (sym e) (contains-at xs i x p)))
one-place (y ∷ xs) (suc i) (suc j) x a p q = ap suc (one-place xs i j x a.1 p q)

pub apart-append : {A : Type 0} (xs ys : List A) → AreApart xs → AreApart ys → ((x : A) → Contains xs x → Contains ys x → ⊥) → AreApart (xs ++ ys)
apart-append [] ys a b never = b
apart-append (x ∷ xs) ys a b never = (
  (λ h. elim (Contains-append_cases xs ys x h) [
    | inl l ↦ a.0 l
    | inr r ↦ never x (contains-here x xs) r
  ]),
  apart-append xs ys a.1 b (λ y l r. never y (contains-later x xs y l) r),
)

pub apart-left : {A : Type 0} (xs ys : List A) → AreApart (xs ++ ys) → AreApart xs
apart-left [] ys a = tt
apart-left (x ∷ xs) ys a = ((λ h. a.0 (Contains-append_left xs ys x h)), apart-left xs ys a.1)

pub apart-right : {A : Type 0} (xs ys : List A) → AreApart (xs ++ ys) → AreApart ys
apart-right [] ys a = a
apart-right (x ∷ xs) ys a = apart-right xs ys a.1

pub apart-between : {A : Type 0} (xs ys : List A) → AreApart (xs ++ ys) → (z : A) → Contains xs z → Contains ys z → ⊥
apart-between [] ys a z l r = contains-none z l
apart-between (x ∷ xs) ys a z (zero, lt, e) r = a.0 (subst (Contains (xs ++ ys)) (sym e) (Contains-append_right xs ys z r))
apart-between (x ∷ xs) ys a z (suc k, lt, e) r = apart-between xs ys a.1 z (k, omega arith, e) r

-- an item of a list that was made item by item
pub contains-made : {A B : Type 0} (f : A → B) (xs : List A) (y : B) → Contains (map f xs) y → (x : A) × Contains xs x × (f x ≡ y)
contains-made f [] y h = absurd (contains-none y h)
contains-made f (x ∷ xs) y (zero, lt, e) = (x, contains-here x xs, e)
contains-made f (x ∷ xs) y (suc k, lt, e) =
    let (z, there, is) = contains-made f xs y (k, omega arith, e) in
    (z, contains-later x xs z there, is)

pub made-contains : {A B : Type 0} (f : A → B) (xs : List A) (x : A) → Contains xs x → Contains (map f xs) (f x)
made-contains f [] x h = absurd (contains-none x h)
made-contains f (y ∷ xs) x (zero, lt, e) = (0, omega arith, ap f e)
made-contains f (y ∷ xs) x (suc k, lt, e) = contains-later (f y) (map f xs) (f x) (made-contains f xs x (k, omega arith, e))

pub apart-map : {A B : Type 0} (f : A → B) → ((x y : A) → f x ≡ f y → x ≡ y) → (xs : List A) → AreApart xs → AreApart (map f xs)
apart-map f one [] a = tt
apart-map f one (x ∷ xs) a = (
  (λ h. let (y, there, is) = contains-made f xs (f x) h in a.0 (subst (Contains xs) (one y x is) there)),
  apart-map f one xs a.1,
)

pub contains-joined : {A B : Type 0} (f : A → List B) (xs : List A) (y : B) → Contains (flat_map f xs) y → (x : A) × Contains xs x × Contains (f x) y
contains-joined f [] y h = absurd (contains-none y h)
contains-joined f (x ∷ xs) y h = elim (Contains-append_cases (f x) (flat_map f xs) y h) [
  | inl l ↦ (x, contains-here x xs, l)
  | inr r ↦ (let (z, there, is) = contains-joined f xs y r in (z, contains-later x xs z there, is))
]

-- lists that are joined: each is without repetition, and an item of two is of two with one key
pub apart-flat_map : {A B K : Type 0} (f : A → List B) (key : A → K) → ((x y : A) (b : B) → Contains (f x) b → Contains (f y) b → key x ≡ key y) → (xs : List A) → AreApart (map key xs)
    → ((x : A) → Contains xs x → AreApart (f x)) → AreApart (flat_map f xs)
apart-flat_map f key one [] keys each = tt
apart-flat_map f key one (x ∷ xs) keys each =
    apart-append (f x) (flat_map f xs) (each x (contains-here x xs)) (apart-flat_map f key one xs keys.1 (λ y there. each y (contains-later x xs y there)))
    (λ b l r. let (y, there, is) = contains-joined f xs b r in keys.0 (subst (Contains (map key xs)) (one y x b is l) (made-contains key xs y there)))
