-- Groups by their words, as they stand in a list of keys.
use Rattle.std.proofs.Common.{◌≡◌, ℕ, zero, suc, List, [], ◌∷◌, ◌++◌, length, slice_get, Some, Result, Ok, Err, OnOk, IsOk, ◌⊎◌, inl, inr, refl, sym, ap, subst, ◌∙◌}
use Rattle.std.specs.Map.{keys_of}
use Rattle.std.proofs.lemmas.List.{map-append}
use Rattle.seq_core.specs.Words.{AreItsWords, AreWords}

-- what stands in a list with one more element
get-more : {X : Type 0} → (xs : List X) (y : X) (n : ℕ) (x : X) → slice_get (xs ++ y ∷ []) n ≡ Some x → (slice_get xs n ≡ Some x) ⊎ ((n ≡ length xs) × (x ≡ y))
get-more [] y zero x e = inr (refl, let is : x ≡ y = cc in is)
get-more [] y (suc n) x e = absurd (let bad : ⊥ = cc in bad)
get-more (z ∷ zs) y zero x e = inl e
get-more (z ∷ zs) y (suc n) x e = elim (get-more zs y n x e) [
  | inl old ↦ inl old
  | inr new ↦ inr (ap suc new.0, new.1)
]

-- ---- groups by their words ----

pub words-more : (keys : List (List ℕ)) (words : List ℕ) → AreWords keys → AreItsWords words → AreWords (keys ++ words ∷ [])
words-more keys words all w n l at = elim (get-more keys words n l at) [
  | inl old ↦ all n l old
  | inr new ↦ subst AreItsWords (sym new.1) w
]

pub keys-more : (old new : List (List ℕ × ℕ)) (words : List ℕ) (b : ℕ) → new ≡ old ++ (words, b) ∷ [] → keys_of new ≡ keys_of old ++ words ∷ []
keys-more old new words b e = ap keys_of e ∙ map-append (λ (x : List ℕ × ℕ). x.0) old ((words, b) ∷ [])

-- what an attempt that succeeds has done
pub inserted : {A E : Type 0} (r : Result A E) (old new : List (List ℕ × ℕ)) → IsOk r → OnOk r (new ≡ old) → new ≡ old
inserted (Ok a) old new ok done = done
inserted (Err e) old new ok done = absurd (let bad : ⊥ = cc in bad)
