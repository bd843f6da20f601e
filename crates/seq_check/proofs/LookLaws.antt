-- Looks that are all good, and the first bad one.
use Rattle.std.proofs.Common.{◌≡◌, List, [], ◌∷◌, ◌++◌, refl, sym, ap, ◌∙◌, inl, inr, Option, Some, None}
use Rattle.std.specs.Prelude.{true, false, is_none, is_some}
use Rattle.std.proofs.lemmas.Bool.{cases_Bool}
use Rattle.seq_cert.specs.declared.fault.BadLine.{BadLine}
use Rattle.seq_check.specs.Looks.{Look, first_bad, all_good, AreGood}

pub good-first_bad : (xs : List Look) → first_bad xs ≡ None → AreGood xs
good-first_bad [] e = tt
good-first_bad (l ∷ xs) e = elim (cases_Bool l.good) [
  | inl y ↦ (y, good-first_bad xs (rw y at e))
  | inr n ↦ absurd (let e' = rw n at e in let bad : ⊥ = cc in bad)
]

pub first_bad-good : (xs : List Look) → AreGood xs → first_bad xs ≡ None
first_bad-good [] g = refl
first_bad-good (l ∷ xs) g = rw (g.0) (first_bad-good xs g.1)

pub all_good-good : (xs : List Look) → AreGood xs → all_good xs ≡ true
all_good-good xs g = ap is_none (first_bad-good xs g)

pub good-append : (xs ys : List Look) → AreGood (xs ++ ys) → AreGood xs × AreGood ys
good-append [] ys g = (tt, g)
good-append (l ∷ xs) ys g = let h = good-append xs ys g.1 in ((g.0, h.0), h.1)

-- the first bad look of two lists is that of the first list, or else that of the second
pub first_here : (xs ys : List Look) (b : BadLine) → first_bad xs ≡ Some b → first_bad (xs ++ ys) ≡ Some b
first_here [] ys b e = absurd (let bad : ⊥ = cc in bad)
first_here (l ∷ xs) ys b e = elim (cases_Bool l.good) [
  | inl y ↦ (let e' = rw y at e in rw y (first_here xs ys b e'))
  | inr n ↦ (let e' = rw n at e in rw n e')
]

pub first_later : (xs ys : List Look) → first_bad xs ≡ None → first_bad (xs ++ ys) ≡ first_bad ys
first_later [] ys e = refl
first_later (l ∷ xs) ys e = elim (cases_Bool l.good) [
  | inl y ↦ (let e' = rw y at e in rw y (first_later xs ys e'))
  | inr n ↦ (let e' = rw n at e in absurd (let bad : ⊥ = cc in bad))
]

-- the same, with what a part found
pub stops : (xs ys : List Look) (o : Option BadLine) → is_some o ≡ true → o ≡ first_bad xs → o ≡ first_bad (xs ++ ys)
stops xs ys None some is = absurd (let bad : ⊥ = cc in bad)
stops xs ys (Some b) some is = sym (first_here xs ys b (sym is))

pub is_none_left : (o : Option BadLine) → is_some o ≡ false → o ≡ None
is_none_left None none = refl
is_none_left (Some b) none = absurd (let bad : ⊥ = cc in bad)

pub passes : (xs ys : List Look) (o : Option BadLine) → is_some o ≡ false → o ≡ first_bad xs → first_bad (xs ++ ys) ≡ first_bad ys
passes xs ys o none is = first_later xs ys (sym is ∙ is_none_left o none)
