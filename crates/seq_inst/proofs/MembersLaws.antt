-- Groups word by word and class by class.
use Rattle.std.proofs.Common.{◌≡◌, ℕ, ◌+◌, ◌/◌, ◌%◌, ◌<◌, ◌≤◌, List, [], ◌∷◌, ◌++◌, length, get_or, refl, sym, ap, ◌∙◌, arith, inl, inr}
use Rattle.std.specs.Prelude.{Bool, true, false, not, ◌&&◌, cond, filter, nat_eq, bit_and, bit_xor}
use Rattle.std.specs.Int.{bit_at}
use Rattle.std.proofs.lemmas.Bool.{cases_Bool, cases_lt, eq-eqb, ne_eqb}
use Rattle.std.proofs.lemmas.Nat.Bits.{bit_at_and, bit_at_xor, bit_at-lt}
use Rattle.seq_theory.specs.Problem.{count_up, IsIn}
use Rattle.seq_theory.specs.Below.{passing_below}
use Rattle.seq_theory.proofs.LeastLaws.{count_up-IsIn}
use Rattle.seq_theory.proofs.BelowLaws.{passing-in, passing-out, passing-more, passing-zero, length-passing}
use Rattle.seq_inst.specs.declared.group.Group.{Group}
use Rattle.seq_inst.specs.Members.{has_class, members_below, members}

filter_two : (f g h : ℕ → Bool) (xs : List ℕ) → ((c : ℕ) → IsIn c xs → h c ≡ (f c && g c)) → filter h xs ≡ filter g (filter f xs)
filter_two f g h [] same = refl
filter_two f g h (x ∷ xs) same =
    let rest = filter_two f g h xs (λ c i. same c (inr i)) in
    elim (cases_Bool (f x)) [
      | inl y ↦ elim (cases_Bool (g x)) [
        | inl z ↦ (let e : h x ≡ true = same x (inl refl) ∙ rw (y, z) refl in rw (e, y, z) (ap (λ l. x ∷ l) rest))
        | inr z ↦ (let e : h x ≡ false = same x (inl refl) ∙ rw (y, z) refl in rw (e, y, z) rest)
      ]
      | inr n ↦ (let e : h x ≡ false = same x (inl refl) ∙ rw n refl in rw (e, n) rest)
    ]

-- a bit of the word-wise and
pub bit-and : (a b i : ℕ) → nat_eq (bit_at (bit_and a b) i) 1 ≡ (nat_eq (bit_at a i) 1 && nat_eq (bit_at b i) 1)
bit-and a b i =
    let e = bit_at_and a b i in
    let la = bit_at-lt a i in
    let lb = bit_at-lt b i in
    elim (cases_lt (bit_at a i) 1) [
      | inl za ↦ ne_eqb (bit_at (bit_and a b) i) 1 (λ s. let h : ⊥ = omega arith in h) ∙ sym (rw (ne_eqb (bit_at a i) 1 (λ s. let h : ⊥ = omega arith in h)) refl)
      | inr oa ↦ elim (cases_lt (bit_at b i) 1) [
        | inl zb ↦ ne_eqb (bit_at (bit_and a b) i) 1 (λ s. let h : ⊥ = omega arith in h) ∙ sym (rw (eq-eqb (bit_at a i) 1 (omega arith), ne_eqb (bit_at b i) 1 (λ s. let h : ⊥ = omega arith in h)) refl)
        | inr ob ↦ eq-eqb (bit_at (bit_and a b) i) 1 (omega arith) ∙ sym (rw (eq-eqb (bit_at a i) 1 (omega arith), eq-eqb (bit_at b i) 1 (omega arith)) refl)
      ]
    ]

-- a bit of the first number that the second lacks
pub bit-lacks : (a b i : ℕ) → nat_eq (bit_at (bit_xor a (bit_and a b)) i) 1 ≡ (nat_eq (bit_at a i) 1 && not (nat_eq (bit_at b i) 1))
bit-lacks a b i =
    let e = bit_at_xor a (bit_and a b) i in
    let e2 = bit_at_and a b i in
    let la = bit_at-lt a i in
    let lb = bit_at-lt b i in
    elim (cases_lt (bit_at a i) 1) [
      | inl za ↦ ne_eqb (bit_at (bit_xor a (bit_and a b)) i) 1 (λ s. let h : ⊥ = omega arith in h) ∙ sym (rw (ne_eqb (bit_at a i) 1 (λ s. let h : ⊥ = omega arith in h)) refl)
      | inr oa ↦ elim (cases_lt (bit_at b i) 1) [
        | inl zb ↦ eq-eqb (bit_at (bit_xor a (bit_and a b)) i) 1 (omega arith) ∙ sym (rw (eq-eqb (bit_at a i) 1 (omega arith), ne_eqb (bit_at b i) 1 (λ s. let h : ⊥ = omega arith in h)) refl)
        | inr ob ↦ ne_eqb (bit_at (bit_xor a (bit_and a b)) i) 1 (λ s. let h : ⊥ = omega arith in h) ∙ sym (rw (eq-eqb (bit_at a i) 1 (omega arith), eq-eqb (bit_at b i) 1 (omega arith)) refl)
      ]
    ]

pub members-common : (r a b : Group) → ((k : ℕ) → k < 8 → get_or r.0 k 0 ≡ bit_and (get_or a.0 k 0) (get_or b.0 k 0)) → members r ≡ filter (has_class b) (members a)
unfolding passing_below
members-common r a b words = filter_two (has_class a) (has_class b) (has_class r) (count_up 0 512) (λ c i.
    let lt = count_up-IsIn c 0 512 i in
    let k : c / 64 < 8 = omega arith in
    ap (λ w. nat_eq (bit_at w (c % 64)) 1) (words (c / 64) k) ∙ bit-and (get_or a.0 (c / 64) 0) (get_or b.0 (c / 64) 0) (c % 64))

pub members-without : (r a b : Group) → ((k : ℕ) → k < 8 → get_or r.0 k 0 ≡ bit_xor (get_or a.0 k 0) (bit_and (get_or a.0 k 0) (get_or b.0 k 0))) → members r ≡ filter (λ c. not (has_class b c)) (members a)
unfolding passing_below
members-without r a b words = filter_two (has_class a) (λ c. not (has_class b c)) (has_class r) (count_up 0 512) (λ c i.
    let lt = count_up-IsIn c 0 512 i in
    let k : c / 64 < 8 = omega arith in
    ap (λ w. nat_eq (bit_at w (c % 64)) 1) (words (c / 64) k) ∙ bit-lacks (get_or a.0 (c / 64) 0) (get_or b.0 (c / 64) 0) (c % 64))

pub members_below-in : (g : Group) (n : ℕ) → has_class g n ≡ true → members_below g (n + 1) ≡ members_below g n ++ n ∷ []
members_below-in g n e = passing-in (has_class g) n e

pub members_below-out : (g : Group) (n : ℕ) → has_class g n ≡ false → members_below g (n + 1) ≡ members_below g n
members_below-out g n e = passing-out (has_class g) n e

pub members_below-more : (g : Group) (n : ℕ) → members_below g (n + 1) ≡ members_below g n ++ cond (has_class g n) (n ∷ []) []
members_below-more g n = passing-more (has_class g) n

pub members_below-zero : (g : Group) → members_below g 0 ≡ []
members_below-zero g = passing-zero (has_class g)

pub length-members_below : (g : Group) (n : ℕ) → length (members_below g n) ≤ n
length-members_below g n = length-passing (has_class g) n
