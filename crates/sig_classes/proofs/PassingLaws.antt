-- The classes that pass each test, as they are put together state by state.
--
-- The first state of a class puts the class to the tests that it doesn't fail. The later ones of that class have the same
-- row, so each state so far stands for its class.
use Rattle.std.proofs.Common.{◌≡◌, ℕ, ◌+◌, ◌*◌, ◌/◌, ◌%◌, ◌^◌, ◌<◌, ◌≤◌, List, length, set, get_or, bit_and, bit_or, refl, sym, ap, ◌∙◌, arith, inl, inr, subst, w64}
use Rattle.std.specs.Prelude.{Bool, true, false, not, ◌&&◌, ◌||◌, nat_eq}
use Rattle.std.specs.Int.{bit_at}
use Rattle.std.proofs.lemmas.Bool.{cases_lt, cases_eq, eq-eqb, ne_eqb}
use Rattle.std.proofs.lemmas.List.{get_or-set_same, get_or-set_other, length-set}
use Rattle.std.proofs.lemmas.Nat.Bits.{bit_at-lt, bit_at_set_same, bit_at_set_other, shr_and_one}
use Rattle.seq_inst.specs.declared.group.Group.{Group}
use Rattle.seq_inst.specs.Members.{has_class}
use Rattle.seq_inst.specs.Valid.{no_class}
use Rattle.sig_classes.specs.Passing.{AddsTo, AreEightWords}
use Rattle.sig_matrix.specs.Detection.{in_row}

or-false : (b : Bool) → (b || false) ≡ b
or-false true = refl
or-false false = refl

or-true : (b : Bool) → (b || true) ≡ true
or-true true = refl
or-true false = refl

-- a bit that is set puts the class to the group
pub adds_to : (group : Group) (class : ℕ) → length group.0 ≡ 8 → class < 512 → AddsTo class group (record { 0 = set group.0 (class / 64) (bit_or (get_or group.0 (class / 64) 0) (1 * 2 ^ (class % 64) % 18446744073709551616)) })
adds_to group class eight lt = record {
  eight = length-set words (class / 64) word ∙ eight;
  added = λ c l. elim (cases_eq c class) [
    | inl same ↦
        (let this : has_class new class ≡ true = ap (λ w. nat_eq (bit_at w (class % 64)) 1) (get_or-set_same words (class / 64) word 0 there) ∙ ap (λ b. nat_eq b 1) (bit_at_set_same w64 old (class % 64) (omega arith)) in
        ap (has_class new) same ∙ this ∙ sym (or-true (has_class group c)) ∙ ap (λ b. has_class group c || b) (sym (eq-eqb c class same)))
    | inr other ↦ unchanged c other ∙ sym (or-false (has_class group c)) ∙ ap (λ b. has_class group c || b) (sym (ne_eqb c class other))
  ];
}
  where
    words : List ℕ
    words = group.0

    old : ℕ
    old = get_or words (class / 64) 0

    word : ℕ
    word = bit_or old (1 * 2 ^ (class % 64) % 18446744073709551616)

    new : Group
    new = record { 0 = set words (class / 64) word }

    there : class / 64 < length words
    there = omega arith

    unchanged : (c : ℕ) → (c ≡ class → ⊥) → has_class new c ≡ has_class group c
    unchanged c other = elim (cases_eq (c / 64) (class / 64)) [
      | inl same ↦
          (let ne : c % 64 ≡ class % 64 → ⊥ = λ e. other (omega arith) in
          ap (λ q. nat_eq (bit_at (get_or (set words (class / 64) word) q 0) (c % 64)) 1) same
          ∙ ap (λ w. nat_eq (bit_at w (c % 64)) 1) (get_or-set_same words (class / 64) word 0 there)
          ∙ ap (λ b. nat_eq b 1) (bit_at_set_other w64 old (class % 64) (omega arith) (c % 64) ne)
          ∙ ap (λ q. nat_eq (bit_at (get_or words q 0) (c % 64)) 1) (sym same))
      | inr ne ↦ ap (λ w. nat_eq (bit_at w (c % 64)) 1) (get_or-set_other words (class / 64) (c / 64) word 0 ne)
    ]

-- the tests below a number have the class where its row doesn't fail them, and the others are as before
pub record AddedBelow (row : List ℕ) (class n : ℕ) (old new : List Group) : Type 0 where
  pub as_many : length new ≡ length old
  pub words : AreEightWords new
  pub added : (t c : ℕ) → t < n → c < 512 → has_class (get_or new t no_class) c ≡ (has_class (get_or old t no_class) c || (nat_eq c class && not (in_row row t)))
  pub same : (t : ℕ) → n ≤ t → get_or new t no_class ≡ get_or old t no_class

-- a test that the row fails stays
pub added_fails : (row : List ℕ) (class n : ℕ) (old passes : List Group) → AddedBelow row class n old passes → in_row row n ≡ true → AddedBelow row class (n + 1) old passes
added_fails row class n old passes before fails = record {
  as_many = before.as_many;
  words = before.words;
  added = λ t c lt l. elim (cases_lt t n) [
    | inl below ↦ before.added t c below l
    | inr ge ↦
        (let here : n ≡ t = omega arith in
        let stays : (nat_eq c class && not (in_row row t)) ≡ false = ap (λ k. nat_eq c class && not (in_row row k)) (sym here) ∙ ap (λ b. nat_eq c class && not b) fails ∙ and-false (nat_eq c class) in
        ap (λ g. has_class g c) (before.same t ge) ∙ sym (or-false (has_class (get_or old t no_class) c)) ∙ ap (λ b. has_class (get_or old t no_class) c || b) (sym stays))
  ];
  same = λ t le. before.same t (omega arith);
}
  where
    and-false : (b : Bool) → (b && false) ≡ false
    and-false true = refl
    and-false false = refl

-- a test that the row passes gains the class
pub added_passes : (row : List ℕ) (class n : ℕ) (old passes : List Group) (group : Group) → AddedBelow row class n old passes → n < length old → AddsTo class (get_or passes n no_class) group → in_row row n ≡ false → AddedBelow row class (n + 1) old (set passes n group)
added_passes row class n old passes group before lt adds passing = record {
  as_many = length-set passes n group ∙ before.as_many;
  words = λ t l. elim (cases_eq n t) [
    | inl here ↦
        subst (λ k. length (get_or (set passes n group) k no_class).0 ≡ 8) here
        (ap (λ g. length g.0) (get_or-set_same passes n group no_class in_range) ∙ adds.eight)
    | inr other ↦
        ap (λ g. length g.0) (get_or-set_other passes n t group no_class (λ e. other (sym e)))
        ∙ before.words t (let long = length-set passes n group in omega arith)
  ];
  added = λ t c below l. elim (cases_eq n t) [
    | inl here ↦ subst (λ k. has_class (get_or (set passes n group) k no_class) c ≡ (has_class (get_or old k no_class) c || (nat_eq c class && not (in_row row k)))) here (at_test c l)
    | inr other ↦
        ap (λ g. has_class g c) (get_or-set_other passes n t group no_class (λ e. other (sym e)))
        ∙ before.added t c (omega arith) l
  ];
  same = λ t le. get_or-set_other passes n t group no_class (λ e. let h : ⊥ = omega arith in h) ∙ before.same t (omega arith);
}
  where
    in_range : n < length passes
    in_range = let as_many = before.as_many in omega arith

    and-true : (b : Bool) → b ≡ (b && true)
    and-true true = refl
    and-true false = refl

    at_test : (c : ℕ) → c < 512 → has_class (get_or (set passes n group) n no_class) c ≡ (has_class (get_or old n no_class) c || (nat_eq c class && not (in_row row n)))
    at_test c l =
        let gains : nat_eq c class ≡ (nat_eq c class && not (in_row row n)) = and-true (nat_eq c class) ∙ ap (λ b. nat_eq c class && not b) (sym passing) in
        ap (λ g. has_class g c) (get_or-set_same passes n group no_class in_range)
        ∙ adds.added c l
        ∙ ap (λ g. has_class g c || nat_eq c class) (before.same n (omega arith))
        ∙ ap (λ b. has_class (get_or old n no_class) c || b) gains
