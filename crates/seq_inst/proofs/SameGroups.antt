-- Two groups with the same classes are the same words.
use Rattle.std.proofs.Common.{◌≡◌, ℕ, suc, ◌+◌, ◌*◌, ◌/◌, ◌%◌, ◌<◌, List, [], ◌∷◌, length, get_or, refl, sym, ap, ◌∙◌, arith, inl, inr, subst}
use Rattle.std.specs.Prelude.{Bool, true, false, nat_eq}
use Rattle.std.specs.Str.{bytes_eq}
use Rattle.std.proofs.lemmas.Slice.Eq.{bytes_eq-Decides}
use Rattle.std.specs.Int.{bit_at}
use Rattle.std.proofs.lemmas.Bool.{cases_Bool, cases_lt, eqb-true, eqb-false, false≢true}
use Rattle.std.proofs.lemmas.Nat.Bits.{bit_at-lt, same_from_bits_below}
use Rattle.seq_theory.specs.Problem.{IsIn}
use Rattle.seq_theory.specs.Graph.{same_group}
use Rattle.seq_theory.proofs.BelowLaws.{IsIn-passing, passing-passes}
use Rattle.seq_theory.proofs.RowLaws.{same_group-true, same_group-refl}
use Rattle.seq_inst.specs.declared.group.Group.{Group}
use Rattle.seq_inst.specs.Members.{has_class, members, IsWords, SameWordsHold}

pub class-member : (g : Group) (c : ℕ) → c < 512 → has_class g c ≡ true → IsIn c (members g)
class-member g c lt e = IsIn-passing (has_class g) c 512 lt e

pub member-class : (g : Group) (c : ℕ) → IsIn c (members g) → has_class g c ≡ true
member-class g c i = passing-passes (has_class g) c 512 i

same_class : (g h : Group) → members g ≡ members h → (c : ℕ) → c < 512 → has_class g c ≡ has_class h c
same_class g h e c lt = elim (cases_Bool (has_class g c)) [
  | inl y ↦ y ∙ sym (member-class h c (subst (IsIn c) e (class-member g c lt y)))
  | inr n ↦ elim (cases_Bool (has_class h c)) [
    | inl y ↦ absurd (false≢true (sym n ∙ member-class g c (subst (IsIn c) (sym e) (class-member h c lt y))))
    | inr m ↦ n ∙ sym m
  ]
]

same_bit : (a b : ℕ) → a < 2 → b < 2 → nat_eq a 1 ≡ nat_eq b 1 → a ≡ b
same_bit a b ha hb e = elim (cases_Bool (nat_eq a 1)) [
  | inl y ↦ eqb-true a 1 y ∙ sym (eqb-true b 1 (sym e ∙ y))
  | inr n ↦
      (let na = eqb-false a 1 n in
      let nb = eqb-false b 1 (sym e ∙ n) in
      let a0 : a ≡ 0 = low a ha na in
      let b0 : b ≡ 0 = low b hb nb in
      a0 ∙ sym b0)
]
  where
    low : (x : ℕ) → x < 2 → (x ≡ 1 → ⊥) → x ≡ 0
    low x h ne = elim (cases_lt x 1) [ inl lt ↦ (let z : x ≡ 0 = omega arith in z) | inr ge ↦ absurd (ne (omega arith)) ]

same_lists : (xs ys : List ℕ) → length xs ≡ length ys → ((k : ℕ) → k < length xs → get_or xs k 0 ≡ get_or ys k 0) → xs ≡ ys
same_lists [] [] e h = refl
same_lists [] (y ∷ ys) e h = absurd (let bad : ⊥ = omega arith in bad)
same_lists (x ∷ xs) [] e h = absurd (let bad : ⊥ = omega arith in bad)
same_lists (x ∷ xs) (y ∷ ys) e h =
    let first : x ≡ y = h 0 (omega arith) in
    ap (λ n. n ∷ xs) first ∙ ap (λ l. y ∷ l) (same_lists xs ys (omega arith) (λ k lt. h (suc k) (omega arith)))

pub same_members : (g h : Group) → IsWords g → IsWords h → members g ≡ members h → g.0 ≡ h.0
same_members g h wg wh e =
    let lg = wg.eight in
    let lh = wh.eight in
    same_lists g.0 h.0 (lg ∙ sym lh) (λ k lt.
    let k8 : k < 8 = omega arith in
    same_from_bits_below 64 (get_or g.0 k 0) (get_or h.0 k 0) (wg.each k k8) (wh.each k k8) (λ i li.
    let d : (64 * k + i) / 64 ≡ k = omega arith in
    let m : (64 * k + i) % 64 ≡ i = omega arith in
    let s = same_class g h e (64 * k + i) (omega arith) in
    let at = (λ (x : Group). ap (λ j. nat_eq (bit_at (get_or x.0 j 0) ((64 * k + i) % 64)) 1) d ∙ ap (λ j. nat_eq (bit_at (get_or x.0 k 0) j) 1) m) in
    same_bit (bit_at (get_or g.0 k 0) i) (bit_at (get_or h.0 k 0) i) (bit_at-lt (get_or g.0 k 0) i) (bit_at-lt (get_or h.0 k 0) i) (sym (at g) ∙ s ∙ at h)))

same-classes : (g h : Group) → g.0 ≡ h.0 → same_group (members g) (members h) ≡ true
same-classes g h e =
    let whole : g ≡ h = ap (λ (ws : List ℕ). group_of ws) e in
    ap (λ (x : Group). same_group (members g) (members x)) (sym whole) ∙ same_group-refl (members g)
  where
    group_of : List ℕ → Group
    group_of ws = record { 0 = ws }

-- the words of two groups are the same exactly where their classes are
pub words-tell : (g h : Group) → IsWords g → IsWords h → bytes_eq g.0 h.0 ≡ same_group (members g) (members h)
words-tell g h wg wh = equal (bytes_eq g.0 h.0) (same_group (members g) (members h))
    (λ t. same-classes g h ((bytes_eq-Decides g.0 h.0).0 t))
    (λ t. (bytes_eq-Decides g.0 h.0).1 (same_members g h wg wh (same_group-true (members g) (members h) t)))
  where
    equal : (x y : Bool) → (x ≡ true → y ≡ true) → (y ≡ true → x ≡ true) → x ≡ y
    equal true y h k = sym (h refl)
    equal false true h k = k refl
    equal false false h k = refl

pub same_words_hold : SameWordsHold
same_words_hold g h wg wh = record { same = same_members g h wg wh; test = words-tell g h wg wh }
