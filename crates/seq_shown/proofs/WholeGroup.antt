-- A group within the classes that has as many classes as there are has them all: its classes stand upwards, so none is
-- left out between the first and the last.
use Rattle.std.proofs.Common.{◌≡◌, ℕ, zero, suc, ◌+◌, ◌<◌, ◌≤◌, List, [], ◌∷◌, length, filter, refl, ap, ◌∙◌, arith, inl, inr}
use Rattle.std.specs.Prelude.{Bool}
use Rattle.std.proofs.lemmas.Bool.{cases_Bool}
use Rattle.seq_theory.specs.Problem.{Problem, IsIn, IsWithin, count_up, all_classes}
use Rattle.seq_inst.specs.declared.group.Group.{Group}
use Rattle.seq_theory.specs.Below.{passing_below}
use Rattle.seq_inst.specs.Members.{has_class, members}

-- the numbers stand upwards, from a first one on
abbrev AreUpFrom : ℕ → List ℕ → Type 0
AreUpFrom k [] = Unit {0}
AreUpFrom k (x ∷ xs) = (k ≤ x) × AreUpFrom (suc x) xs

earlier : (j k : ℕ) (xs : List ℕ) → j ≤ k → AreUpFrom k xs → AreUpFrom j xs
earlier j k [] le up = tt
earlier j k (x ∷ xs) le up = ((let h = up.0 in omega arith), up.1)

up-filter : (f : ℕ → Bool) (k m : ℕ) → AreUpFrom k (filter f (count_up k m))
up-filter f k zero = tt
up-filter f k (suc m) = elim (cases_Bool (f k)) [
  | inl y ↦ rw y ((let le : k ≤ k = omega arith in le), up-filter f (suc k) m)
  | inr n ↦ rw n (earlier k (suc k) (filter f (count_up (suc k) m)) (omega arith) (up-filter f (suc k) m))
]

-- below a number there is room for so many
room : (j b : ℕ) (xs : List ℕ) → j ≤ b → AreUpFrom j xs → ((c : ℕ) → IsIn c xs → c < b) → j + length xs ≤ b
room j b [] le up below = omega arith
room j b (x ∷ xs) le up below =
    let first = below x (inl refl) in
    let rest = room (suc x) b xs (omega arith) up.1 (λ c i. below c (inr i)) in
    let h = up.0 in
    omega arith

dense : (k : ℕ) (xs : List ℕ) → AreUpFrom k xs → ((c : ℕ) → IsIn c xs → c < k + length xs) → xs ≡ count_up k (length xs)
dense k [] up below = refl
dense k (x ∷ xs) up below =
    let first = below x (inl refl) in
    let h = up.0 in
    let r = room (suc x) (k + suc (length xs)) xs (omega arith) up.1 (λ c i. below c (inr i)) in
    let same : x ≡ k = omega arith in
    let rest = dense (suc k) xs (earlier (suc k) (suc x) xs (omega arith) up.1) (λ c i. let b = below c (inr i) in omega arith) in
    ap (λ n. n ∷ xs) same ∙ ap (λ l. k ∷ l) rest

up-members : (g : Group) → AreUpFrom 0 (members g)
unfolding passing_below
up-members g = up-filter (has_class g) 0 512

pub whole-group : (p : Problem) (g : Group) → IsWithin p (members g) → p.classes ≤ length (members g) → members g ≡ all_classes p
whole-group p g within many =
    let up = up-members g in
    let few = room 0 p.classes (members g) (omega arith) up within in
    let same : length (members g) ≡ p.classes = omega arith in
    dense 0 (members g) up (λ c i. let b = within c i in omega arith) ∙ ap (count_up 0) same

pub length-classes : (k n : ℕ) → length (count_up k n) ≡ n
length-classes k zero = refl
length-classes k (suc n) = ap suc (length-classes (suc k) n)
