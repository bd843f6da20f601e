-- Two lists side by side.
use Rattle.std.proofs.Common.{◌≡◌, ℕ, zero, suc, ◌<◌, List, [], ◌∷◌, ◌++◌, length, get_or, set, refl, ap, arith}
use Rattle.std.specs.List.{AllZip}

module _ {A B : Type 0} (R : A → B → Type 0) where
  pub zip-length : (xs : List A) (ys : List B) → AllZip R xs ys → length xs ≡ length ys
  zip-length [] [] a = refl
  zip-length [] (y ∷ ys) a = absurd a
  zip-length (x ∷ xs) [] a = absurd a
  zip-length (x ∷ xs) (y ∷ ys) a = ap suc (zip-length xs ys a.1)

  pub zip-at : (xs : List A) (ys : List B) (k : ℕ) (d : A) (e : B) → AllZip R xs ys → k < length xs → R (get_or xs k d) (get_or ys k e)
  zip-at [] ys k d e a lt = absurd (let bad : ⊥ = omega arith in bad)
  zip-at (x ∷ xs) [] k d e a lt = absurd a
  zip-at (x ∷ xs) (y ∷ ys) zero d e a lt = a.0
  zip-at (x ∷ xs) (y ∷ ys) (suc k) d e a lt = zip-at xs ys k d e a.1 (omega arith)

  pub zip-set : (xs : List A) (ys : List B) (k : ℕ) (x : A) (e : B) → AllZip R xs ys → k < length xs → R x (get_or ys k e) → AllZip R (set xs k x) ys
  zip-set [] ys k x e a lt r = absurd (let bad : ⊥ = omega arith in bad)
  zip-set (z ∷ xs) [] k x e a lt r = absurd a
  zip-set (z ∷ xs) (y ∷ ys) zero x e a lt r = (r, a.1)
  zip-set (z ∷ xs) (y ∷ ys) (suc k) x e a lt r = (a.0, zip-set xs ys k x e a.1 (omega arith) r)

  pub zip-last : (xs : List A) (ys : List B) (x : A) (y : B) → AllZip R xs ys → R x y → AllZip R (xs ++ x ∷ []) (ys ++ y ∷ [])
  zip-last [] [] x y a r = (r, tt)
  zip-last [] (z ∷ ys) x y a r = absurd a
  zip-last (z ∷ xs) [] x y a r = absurd a
  zip-last (z ∷ xs) (w ∷ ys) x y a r = (a.0, zip-last xs ys x y a.1 r)

pub zip-weaker : {A B : Type 0} (R S : A → B → Type 0) → ((x : A) (y : B) → R x y → S x y) → (xs : List A) (ys : List B) → AllZip R xs ys → AllZip S xs ys
zip-weaker R S f [] [] a = tt
zip-weaker R S f [] (y ∷ ys) a = absurd a
zip-weaker R S f (x ∷ xs) [] a = absurd a
zip-weaker R S f (x ∷ xs) (y ∷ ys) a = (f x y a.0, zip-weaker R S f xs ys a.1)
