-- One text of figures: each figure is a sum or a list of the flat model and the matrix, and the nodes on a loop are one list,
-- as they are told upwards.
use Rattle.std.proofs.Common.{◌≡◌, ◌∙◌, ℕ, zero, suc, ◌<◌, List, [], ◌∷◌, length, refl, sym, ap₂, subst, arith, get_or, inl, inr, slice_get}
use Rattle.std.specs.Prelude.{◌↔◌, ◌⊎◌, Option}
use Rattle.std.specs.List.{Contains}
use Rattle.std.specs.List.Sorted.{IsStrictlyIncreasing}
use Rattle.std.proofs.lemmas.Map.Keys.{IsStrictlyIncreasing-from_sorted, below_from_sorted, sorted_from_strictly_increasing, sorted_tail}
use Rattle.sig_flat.specs.declared.flat.Flat.{Flat}
use Rattle.sig_matrix.specs.declared.matrix.Matrix.{Matrix}
use Rattle.sig_figures.specs.declared.summary.Figures.{Figures}
use Rattle.sig_figures.specs.Figures.{AreFigures}
use Rattle.sig_figures.specs.FiguresText.{figures_bytes}
use Rattle.sig_figures.specs.Loops.{AreLooped}

-- two lists have the same elements
abbrev SameElements : List ℕ → List ℕ → Type 0
SameElements xs ys = (x : ℕ) → Contains xs x ↔ Contains ys x

here : (x : ℕ) (xs : List ℕ) → Contains (x ∷ xs) x
here x xs = (0, omega arith, refl)

later : (x y : ℕ) (xs : List ℕ) → Contains xs y → Contains (x ∷ xs) y
later x y xs (k, lt, e) = (suc k, omega arith, e)

-- what comes after the first is above it
above : (x y : ℕ) (xs : List ℕ) → IsStrictlyIncreasing (x ∷ xs) → Contains xs y → x < y
above x y xs up (k, lt, e) =
    let below : x < get_or xs k y = below_from_sorted (x ∷ xs) 0 (suc k) y (sorted_from_strictly_increasing (x ∷ xs) up) (omega arith) (omega arith) in
    subst (λ n. x < n) e below

-- an element is the first, or comes after it
first-or-later : (x y : ℕ) (xs : List ℕ) → Contains (x ∷ xs) y → (x ≡ y) ⊎ Contains xs y
first-or-later x y xs (zero, lt, e) = inl e
first-or-later x y xs (suc k, lt, e) = inr (k, omega arith, e)

none : (y : ℕ) → Contains [] y → ⊥
none y (k, lt, e) = omega arith

rises : (x : ℕ) (xs : List ℕ) → IsStrictlyIncreasing (x ∷ xs) → IsStrictlyIncreasing xs
rises x xs up = IsStrictlyIncreasing-from_sorted xs (sorted_tail _ x xs (sorted_from_strictly_increasing (x ∷ xs) up))

module _ (x y : ℕ) (xs ys : List ℕ) (up : IsStrictlyIncreasing (x ∷ xs)) (up' : IsStrictlyIncreasing (y ∷ ys)) (same : SameElements (x ∷ xs) (y ∷ ys)) where
  firsts-same : x ≡ y
  firsts-same = go (first-or-later y x ys ((same x).0 (here x xs))) (first-or-later x y xs ((same y).1 (here y ys)))
    where
      go : (y ≡ x) ⊎ Contains ys x → (x ≡ y) ⊎ Contains xs y → x ≡ y
      go (inl e) b = sym e
      go (inr a) (inl e) = e
      go (inr a) (inr b) = let l = above y x ys up' a in let m = above x y xs up b in absurd (omega arith)

  rest-to : (z : ℕ) → Contains xs z → Contains ys z
  rest-to z c = go (first-or-later y z ys ((same z).0 (later x z xs c)))
    where
      go : (y ≡ z) ⊎ Contains ys z → Contains ys z
      go (inl e) = let l = above x z xs up c in let f = firsts-same in absurd (omega arith)
      go (inr a) = a

  rest-from : (z : ℕ) → Contains ys z → Contains xs z
  rest-from z c = go (first-or-later x z xs ((same z).1 (later y z ys c)))
    where
      go : (x ≡ z) ⊎ Contains xs z → Contains xs z
      go (inl e) = let l = above y z ys up' c in let f = firsts-same in absurd (omega arith)
      go (inr a) = a

-- lists that rise and have the same elements are one
rising-one : (xs ys : List ℕ) → IsStrictlyIncreasing xs → IsStrictlyIncreasing ys → SameElements xs ys → xs ≡ ys
rising-one [] [] up up' same = refl
rising-one [] (y ∷ ys) up up' same = absurd (none y ((same y).1 (here y ys)))
rising-one (x ∷ xs) [] up up' same = absurd (none x ((same x).0 (here x xs)))
rising-one (x ∷ xs) (y ∷ ys) up up' same =
    ap₂ (λ z zs. z ∷ zs) (firsts-same x y xs ys up up' same)
    (rising-one xs ys (rises x xs up) (rises y ys up') (λ z. (rest-to x y xs ys up up' same z, rest-from x y xs ys up up' same z)))

looped-one : (flat : Flat) (mode : Option ℕ) (nodes others : List ℕ) → AreLooped flat mode nodes → AreLooped flat mode others → nodes ≡ others
looped-one flat mode nodes others a b =
    rising-one nodes others a.upwards b.upwards
    (λ n. (
      λ c. (b.looped n (a.there n c)).1 ((a.looped n (a.there n c)).0 c),
      λ c. (a.looped n (b.there n c)).1 ((b.looped n (b.there n c)).0 c),
    ))

-- two texts of figures are one
pub one-figures : (flat : Flat) (mode : Option ℕ) (matrix : Matrix) (name : List ℕ) (figures other : Figures) → AreFigures flat mode matrix figures → AreFigures flat mode matrix other → figures_bytes flat matrix figures name ≡ figures_bytes flat matrix other name
one-figures flat mode matrix name figures other a b =
    let faults : figures.faults ≡ other.faults = a.faults ∙ sym b.faults in
    let tests : figures.tests ≡ other.tests = a.tests ∙ sym b.tests in
    let weight : figures.fault_weight ≡ other.fault_weight = a.fault_weight ∙ sym b.fault_weight in
    let detected : figures.detected_weight ≡ other.detected_weight = a.detected_weight ∙ sym b.detected_weight in
    let classes : figures.classes ≡ other.classes = a.classes ∙ sym b.classes in
    let sizes : figures.sizes ≡ other.sizes = a.sizes ∙ sym b.sizes in
    let undetected : figures.undetected ≡ other.undetected = a.undetected ∙ sym b.undetected in
    let blind : figures.blind ≡ other.blind = a.blind ∙ sym b.blind in
    let equal : figures.equal ≡ other.equal = a.equal ∙ sym b.equal in
    let looped : figures.looped ≡ other.looped = looped-one flat mode figures.looped other.looped a.looped b.looped in
    rw (faults, tests, weight, detected, classes, sizes, undetected, blind, equal, looped) refl
