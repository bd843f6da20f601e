-- Group lines in order. Putting lines in order keeps which lines there are; and lines of groups that are apart stand one
-- strictly before the next, since of two such lines one comes before the other.
use Rattle.std.proofs.Common.{◌≡◌, ℕ, List, [], ◌∷◌, refl, sym, ap, ◌∙◌, arith, inl, inr}
use Rattle.std.specs.Prelude.{Bool, true, false, ◌||◌, ◌&&◌, nat_eq, nat_lt}
use Rattle.std.specs.List.{AllByRecursion, list_any}
use Rattle.std.proofs.lemmas.Bool.{cases_Bool}
use Rattle.std.proofs.lemmas.Bool.Decides.{nat_tests}
use Rattle.sig_lines.specs.Hex.{number_of_words}
use Rattle.seq_cert.specs.declared.report.GroupLine.{GroupLine}
use Rattle.seq_cert.specs.Order.{is_before, placed, ordered, in_order}

-- ---- what is in order is what was there ----

module _ (P : GroupLine → Type 0) where
  all-placed : (x : GroupLine) (xs : List GroupLine) → P x → AllByRecursion P xs → AllByRecursion P (placed is_before x xs)
  all-placed x [] here all = (here, tt)
  all-placed x (y ∷ more) here all = elim (cases_Bool (is_before y x)) [
    | inl later ↦ rw later (all.0, all-placed x more here all.1)
    | inr first ↦ rw first (here, all)
  ]

  all-ordered : (xs : List GroupLine) → AllByRecursion P xs → AllByRecursion P (ordered is_before xs)
  all-ordered [] all = tt
  all-ordered (x ∷ more) all = all-placed x (ordered is_before more) all.0 (all-ordered more all.1)

  pub all-in_order : (xs : List GroupLine) → AllByRecursion P xs → AllByRecursion P (in_order xs)
  unfolding in_order
  all-in_order xs all = all-ordered xs all

  placed-all : (x : GroupLine) (xs : List GroupLine) → AllByRecursion P (placed is_before x xs) → P x × AllByRecursion P xs
  placed-all x [] all = (all.0, tt)
  placed-all x (y ∷ more) all = elim (cases_Bool (is_before y x)) [
    | inl later ↦ (let h = rw later at all in let rest = placed-all x more h.1 in (rest.0, (h.0, rest.1)))
    | inr first ↦ (let h = rw first at all in (h.0, h.1))
  ]

  ordered-all : (xs : List GroupLine) → AllByRecursion P (ordered is_before xs) → AllByRecursion P xs
  ordered-all [] all = tt
  ordered-all (x ∷ more) all = let h = placed-all x (ordered is_before more) all in (h.0, ordered-all more h.1)

  pub in_order-all : (xs : List GroupLine) → AllByRecursion P (in_order xs) → AllByRecursion P xs
  unfolding in_order
  in_order-all xs all = ordered-all xs all

turned : (a b c : Bool) → a || (b || c) ≡ b || (a || c)
turned true true c = refl
turned true false c = refl
turned false b c = refl

module _ (f : GroupLine → Bool) where
  any-placed : (x : GroupLine) (xs : List GroupLine) → list_any f (placed is_before x xs) ≡ f x || list_any f xs
  any-placed x [] = refl
  any-placed x (y ∷ more) = elim (cases_Bool (is_before y x)) [
    | inl later ↦ rw later (ap (λ b. f y || b) (any-placed x more) ∙ turned (f y) (f x) (list_any f more))
    | inr first ↦ rw first refl
  ]

  any-ordered : (xs : List GroupLine) → list_any f (ordered is_before xs) ≡ list_any f xs
  any-ordered [] = refl
  any-ordered (x ∷ more) = any-placed x (ordered is_before more) ∙ ap (λ b. f x || b) (any-ordered more)

  pub any-in_order : (xs : List GroupLine) → list_any f (in_order xs) ≡ list_any f xs
  unfolding in_order
  any-in_order xs = any-ordered xs

-- ---- lines that are apart stand strictly upwards ----

-- the groups are two numbers
abbrev pub Apart : GroupLine → GroupLine → Type 0
Apart a b = number_of_words a.group.0 ≡ number_of_words b.group.0 → ⊥

abbrev pub AreApart : List GroupLine → Type 0
AreApart [] = Unit {0}
AreApart (x ∷ xs) = AllByRecursion (Apart x) xs × AreApart xs

-- each line comes before all that follow
abbrev pub AreUp : List GroupLine → Type 0
AreUp [] = Unit {0}
AreUp (x ∷ xs) = AllByRecursion (λ y. is_before x y ≡ true) xs × AreUp xs

other_first : (a m b n : ℕ) → (n ≡ m → ⊥) → nat_lt b a || (nat_eq b a && nat_lt n m) ≡ false → nat_lt a b || (nat_eq a b && nat_lt m n) ≡ true
other_first a m b n apart e = grind (arith, nat_tests)

through : (a m b n c k : ℕ) → nat_lt a b || (nat_eq a b && nat_lt m n) ≡ true → nat_lt b c || (nat_eq b c && nat_lt n k) ≡ true → nat_lt a c || (nat_eq a c && nat_lt m k) ≡ true
through a m b n c k e f = grind (arith, nat_tests)

all-through : (x y : GroupLine) (ys : List GroupLine) → is_before x y ≡ true → AllByRecursion (λ z. is_before y z ≡ true) ys → AllByRecursion (λ z. is_before x z ≡ true) ys
all-through x y [] e all = tt
all-through x y (z ∷ ys) e all = (through x.size (number_of_words x.group.0) y.size (number_of_words y.group.0) z.size (number_of_words z.group.0) e all.0, all-through x y ys e all.1)

up-placed : (x : GroupLine) (ys : List GroupLine) → AllByRecursion (Apart x) ys → AreUp ys → AreUp (placed is_before x ys)
up-placed x [] apart up = (tt, tt)
up-placed x (y ∷ ys) apart up = elim (cases_Bool (is_before y x)) [
  | inl later ↦ rw later (all-placed (λ z. is_before y z ≡ true) x ys later up.0, up-placed x ys apart.1 up.1)
  | inr first ↦
      (let e : is_before x y ≡ true = other_first x.size (number_of_words x.group.0) y.size (number_of_words y.group.0) (λ s. apart.0 (sym s)) first in
      rw first ((e, all-through x y ys e up.0), up))
]

up-ordered : (xs : List GroupLine) → AreApart xs → AreUp (ordered is_before xs)
up-ordered [] apart = tt
up-ordered (x ∷ xs) apart = up-placed x (ordered is_before xs) (all-ordered (Apart x) xs apart.0) (up-ordered xs apart.1)

pub up-in_order : (xs : List GroupLine) → AreApart xs → AreUp (in_order xs)
unfolding in_order
up-in_order xs apart = up-ordered xs apart

-- a line that comes before another has no larger size
pub before-size : (a b : GroupLine) → is_before a b ≡ true → nat_lt b.size a.size ≡ false
before-size a b e = size_order a.size (number_of_words a.group.0) b.size (number_of_words b.group.0) e
  where
    size_order : (a m b n : ℕ) → nat_lt a b || (nat_eq a b && nat_lt m n) ≡ true → nat_lt b a ≡ false
    size_order a m b n e = grind (arith, nat_tests)
