-- An index with one more group.
use Rattle.std.proofs.Common.{◌≡◌, ◌⊎◌, inl, inr, ℕ, List, [], ◌∷◌, ◌++◌, refl, Option, Some, None}
use Rattle.std.specs.Prelude.{Bool, true, false, cond}
use Rattle.seq_theory.specs.Graph.{same_group}
use Rattle.seq_theory.proofs.RowLaws.{same_group-true, same_group-refl}
use Rattle.seq_core.specs.Mapping.{Placed, place_of}

some-not-none : (p : ℕ) (o : Option ℕ) → o ≡ None → o ≡ Some p → ⊥
some-not-none p o a b = let bad : ⊥ = cc in bad

pub place-kept : (placed : List Placed) (x : Placed) (g : List ℕ) (p : ℕ) → place_of placed g ≡ Some p → place_of (placed ++ x ∷ []) g ≡ Some p
place-kept [] x g p e = absurd (some-not-none p None refl e)
place-kept (y ∷ rest) x g p e = go (same_group g y.group) e (place-kept rest x g p)
  where
    go : (b : Bool) → cond b (Some y.place) (place_of rest g) ≡ Some p → (place_of rest g ≡ Some p → place_of (rest ++ x ∷ []) g ≡ Some p) → cond b (Some y.place) (place_of (rest ++ x ∷ []) g) ≡ Some p
    go true e later = e
    go false e later = later e

pub place-new : (placed : List Placed) (x : Placed) → place_of placed x.group ≡ None → place_of (placed ++ x ∷ []) x.group ≡ Some x.place
place-new [] x e = rw (same_group-refl x.group) refl
place-new (y ∷ rest) x e = go (same_group x.group y.group) e (place-new rest x)
  where
    go : (b : Bool) → cond b (Some y.place) (place_of rest x.group) ≡ None → (place_of rest x.group ≡ None → place_of (rest ++ x ∷ []) x.group ≡ Some x.place) → cond b (Some y.place) (place_of (rest ++ x ∷ []) x.group) ≡ Some x.place
    go true e later = absurd (some-not-none y.place (Some y.place) e refl)
    go false e later = later e

some-one : (p q : ℕ) → Some p ≡ Some q → p ≡ q
some-one p q e = cc

pub place-from : (placed : List Placed) (x : Placed) (g : List ℕ) (p : ℕ) → place_of (placed ++ x ∷ []) g ≡ Some p → (place_of placed g ≡ Some p) ⊎ ((x.place ≡ p) × (g ≡ x.group))
place-from [] x g p e = go (same_group g x.group) refl e
  where
    go : (b : Bool) → same_group g x.group ≡ b → cond b (Some x.place) None ≡ Some p → (None ≡ Some p) ⊎ ((x.place ≡ p) × (g ≡ x.group))
    go true y e = inr (some-one x.place p e, same_group-true g x.group y)
    go false n e = inl e
place-from (y ∷ rest) x g p e = go (same_group g y.group) e (place-from rest x g p)
  where
    go : (b : Bool) → cond b (Some y.place) (place_of (rest ++ x ∷ []) g) ≡ Some p
        → (place_of (rest ++ x ∷ []) g ≡ Some p → (place_of rest g ≡ Some p) ⊎ ((x.place ≡ p) × (g ≡ x.group)))
        → (cond b (Some y.place) (place_of rest g) ≡ Some p) ⊎ ((x.place ≡ p) × (g ≡ x.group))
    go true e later = inl e
    go false e later = later e
