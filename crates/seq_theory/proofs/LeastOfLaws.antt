-- The least over a list that grows at its end, as a loop finds it; and the first place of the least.
use Rattle.std.proofs.Common.{◌≡◌, ℕ, min, List, [], ◌∷◌, ◌++◌, refl, sym, ap, ◌∙◌, arith, inl, inr, subst, Option, Some, None}
use Rattle.std.specs.Prelude.{Bool, true, false, cond, map, nat_le, unwrap_or}
use Rattle.std.proofs.lemmas.Bool.{cases_lt, le-leb, lt-leb, leb-true, leb-false}
use Rattle.seq_theory.specs.Problem.{least_of}
use Rattle.seq_theory.specs.Greedy.{first_least}

pub least_of-last : (f : ℕ → ℕ) (x y : ℕ) (xs : List ℕ) → least_of (map f ((x ∷ xs) ++ y ∷ [])) ≡ min (least_of (map f (x ∷ xs))) (f y)
least_of-last f x y [] = refl
least_of-last f x y (z ∷ rest) = let e = least_of-last f z y rest in omega arith

-- the place of the least has the least
pub first_least-is : (f : ℕ → ℕ) (x : ℕ) (xs : List ℕ) → f (first_least f (x ∷ xs)) ≡ least_of (map f (x ∷ xs))
first_least-is f x [] = refl
first_least-is f x (y ∷ rest) = go (nat_le (f x) (f (first_least f (y ∷ rest)))) refl (first_least-is f y rest)
  where
    go : (b : Bool) → nat_le (f x) (f (first_least f (y ∷ rest))) ≡ b → f (first_least f (y ∷ rest)) ≡ least_of (map f (y ∷ rest)) → f (cond b x (first_least f (y ∷ rest))) ≡ min (f x) (least_of (map f (y ∷ rest)))
    go true e h = let l = leb-true (f x) (f (first_least f (y ∷ rest))) e in omega arith
    go false e h = let l = leb-false (f x) (f (first_least f (y ∷ rest))) e in omega arith

-- one more at the end takes the place where it is less
pub first_least-last : (f : ℕ → ℕ) (x y : ℕ) (xs : List ℕ) → first_least f ((x ∷ xs) ++ y ∷ []) ≡ cond (nat_le (f (first_least f (x ∷ xs))) (f y)) (first_least f (x ∷ xs)) y
first_least-last f x y [] = refl
first_least-last f x y (z ∷ rest) =
    ap (λ m. cond (nat_le (f x) (f m)) x m) (first_least-last f z y rest) ∙ go (first_least f (z ∷ rest))
  where
    go : (m : ℕ) → cond (nat_le (f x) (f (cond (nat_le (f m) (f y)) m y))) x (cond (nat_le (f m) (f y)) m y) ≡ cond (nat_le (f (cond (nat_le (f x) (f m)) x m)) (f y)) (cond (nat_le (f x) (f m)) x m) y
    go m = elim (cases_lt (f y) (f m)) [
      | inr le ↦ rw (le-leb (f m) (f y) le) (elim (cases_lt (f m) (f x)) [
        | inr xm ↦ rw (le-leb (f x) (f m) xm) (sym (ap (λ b. cond b x y) (le-leb (f x) (f y) (omega arith))))
        | inl mx ↦ rw (lt-leb (f x) (f m) mx) (sym (ap (λ b. cond b m y) (le-leb (f m) (f y) le)))
      ])
      | inl lt ↦ rw (lt-leb (f m) (f y) lt) (elim (cases_lt (f m) (f x)) [
        | inr xm ↦ rw (le-leb (f x) (f m) xm) refl
        | inl mx ↦ rw (lt-leb (f x) (f m) mx) (ap (λ b. cond b x y) (lt-leb (f x) (f y) (omega arith)) ∙ sym (ap (λ b. cond b m y) (lt-leb (f m) (f y) lt)))
      ])
    ]

-- the least so far, where there is one
abbrev pub LeastSoFar : (ℕ → ℕ) → List ℕ → Option ℕ → Type 0
LeastSoFar f [] o = o ≡ None
LeastSoFar f (x ∷ xs) o = o ≡ Some (least_of (map f (x ∷ xs)))

-- the lesser of an earlier number, where there is one, and a new one
abbrev pub lesser : Option ℕ → ℕ → ℕ
lesser None n = n
lesser (Some m) n = min m n

pub least_so_far-more : (f : ℕ → ℕ) (xs more : List ℕ) (t n : ℕ) (o : Option ℕ) → LeastSoFar f xs o → more ≡ xs ++ t ∷ [] → n ≡ f t → LeastSoFar f more (Some (lesser o n))
least_so_far-more f [] more t n o s e v = subst (λ l. LeastSoFar f l (Some (lesser o n))) (sym e) (ap (λ p. Some (lesser p n)) s ∙ ap (λ m. Some m) v)
least_so_far-more f (x ∷ xs) more t n o s e v = subst (λ l. LeastSoFar f l (Some (lesser o n))) (sym e)
    (ap (λ p. Some (lesser p n)) s ∙ ap (λ m. Some (min (least_of (map f (x ∷ xs))) m)) v ∙ ap (λ m. Some m) (sym (least_of-last f x t xs)))

pub least_so_far-all : (f : ℕ → ℕ) (xs : List ℕ) (o : Option ℕ) → LeastSoFar f xs o → unwrap_or o 0 ≡ least_of (map f xs)
least_so_far-all f [] o s = ap (λ p. unwrap_or p 0) s
least_so_far-all f (x ∷ xs) o s = ap (λ p. unwrap_or p 0) s
