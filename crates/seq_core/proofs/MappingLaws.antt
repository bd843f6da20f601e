-- Places by the words of their groups. Two groups have the same words exactly where they have the same classes, so a table that finds
-- a place by the words gives the place of the group.
use Rattle.std.proofs.Common.{◌≡◌, ℕ, suc, List, length, [], ◌∷◌, ◌++◌, refl, sym, ap, ◌∙◌, inl, inr}
use Rattle.std.specs.Str.{bytes_eq}
use Rattle.std.specs.Map.{keys_of, lookup}
use Rattle.std.proofs.lemmas.Bool.{cases_Bool}
use Rattle.std.proofs.lemmas.List.{length-map, map-append}
use Rattle.seq_inst.specs.Members.{SameWordsHold}
use Rattle.seq_core.specs.Words.{AreItsWords, AreWords, classes_of}
use Rattle.seq_core.specs.Mapping.{place_of, placed_from}

pub placed-lookup : SameWordsHold → (entries : List (List ℕ × ℕ)) (words : List ℕ) → AreWords (keys_of entries) → AreItsWords words → place_of (placed_from entries) (classes_of words) ≡ lookup (bytes_eq words) entries
placed-lookup law [] words all w = refl
placed-lookup law (x ∷ rest) words all w =
    let test = (law (record { 0 = words }) (record { 0 = x.0 }) w (all 0 x.0 refl)).test in
    elim (cases_Bool (bytes_eq words x.0)) [
      | inl y ↦ rw (y, sym test ∙ y) refl
      | inr n ↦ rw (n, sym test ∙ n) (placed-lookup law rest words (λ k l at. all (suc k) l at) w)
    ]

pub length-placed : (entries : List (List ℕ × ℕ)) → length (placed_from entries) ≡ length entries
length-placed entries = length-map entries (λ (x : List ℕ × ℕ). record { group = classes_of x.0; place = x.1 })

pub placed-more : (old new : List (List ℕ × ℕ)) (words : List ℕ) (place : ℕ) → new ≡ old ++ (words, place) ∷ [] → placed_from new ≡ placed_from old ++ record { group = classes_of words; place = place } ∷ []
placed-more old new words place e = ap placed_from e ∙ map-append (λ (x : List ℕ × ℕ). record { group = classes_of x.0; place = x.1 }) old ((words, place) ∷ [])
