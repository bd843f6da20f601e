-- Lists that pass the test, which computes, are those of a valid instance. A passing group is tested word by word: no word has a bit of a class past the last.
use Rattle.std.proofs.Common.{◌≡◌, ℕ, zero, suc, ◌*◌, ◌-◌, ◌/◌, ◌%◌, ◌^◌, ◌<◌, List, [], ◌∷◌, length, get_or, refl, sym, ap, ◌∙◌, arith, inl, inr, subst}
use Rattle.std.specs.Prelude.{Bool, true, false, ◌||◌, not, nat_le, nat_lt, nat_eq, slice_index, slice_index_or}
use Rattle.std.specs.List.{list_any, list_all}
use Rattle.std.specs.Int.{bit_at}
use Rattle.std.proofs.lemmas.Bool.{and_parts, leb-true, eqb-true, false≢true, cases_lt}
use Rattle.std.proofs.lemmas.Nat.Bits.{bit_at_above}
use borrow.Author.Tests.{ltb-true}
use Rattle.seq_theory.specs.States.{same}
use Rattle.seq_inst.specs.Checked.{is_told_pair, are_told, is_below, is_cost, is_valid, CheckedHolds}
use Rattle.seq_theory.specs.Problem.{Problem, IsIn, AreTold, count_up, weight_of, all_classes}
use Rattle.seq_theory.proofs.LeastLaws.{IsIn-count_up, count_up-IsIn}
use Rattle.seq_inst.specs.declared.group.Group.{Group}
use Rattle.seq_inst.specs.Members.{has_class}
use Rattle.seq_inst.specs.Valid.{problem_from, no_class, IsValid}

all-at : (f : ℕ → Bool) (xs : List ℕ) → list_all f xs ≡ true → (k : ℕ) → k < length xs → f (get_or xs k 0) ≡ true
all-at f [] e k lt = absurd (let bad : ⊥ = omega arith in bad)
all-at f (x ∷ xs) e zero lt = (and_parts (f x) (list_all f xs) e).0
all-at f (x ∷ xs) e (suc k) lt = all-at f xs (and_parts (f x) (list_all f xs) e).1 k (omega arith)

all-in : (f : ℕ → Bool) (xs : List ℕ) → list_all f xs ≡ true → (c : ℕ) → IsIn c xs → f c ≡ true
all-in f [] e c i = absurd i
all-in f (x ∷ xs) e c (inl s) = sym (ap f s) ∙ (and_parts (f x) (list_all f xs) e).0
all-in f (x ∷ xs) e c (inr i) = all-in f xs (and_parts (f x) (list_all f xs) e).1 c i

all-below : (f : ℕ → Bool) (n : ℕ) → list_all f (count_up 0 n) ≡ true → (c : ℕ) → c < n → f c ≡ true
all-below f n e c lt = all-in f (count_up 0 n) e c (IsIn-count_up c 0 n (omega arith) (omega arith))

same-itself : (a : Bool) → same a a ≡ true
same-itself true = refl
same-itself false = refl

none-differ : (p : Problem) (a b : ℕ) (xs : List ℕ) → ((t : ℕ) → IsIn t xs → p.passes t a ≡ p.passes t b) → list_any (λ t. not (same (p.passes t a) (p.passes t b))) xs ≡ false
none-differ p a b [] h = refl
none-differ p a b (x ∷ xs) h =
    let e : same (p.passes x a) (p.passes x b) ≡ true = ap (λ v. same v (p.passes x b)) (h x (inl refl)) ∙ same-itself (p.passes x b) in
    rw e (none-differ p a b xs (λ t i. h t (inr i)))

or-first : (a b : Bool) → (a || b) ≡ true → b ≡ false → a ≡ true
or-first true b e f = refl
or-first false b e f = absurd (false≢true (sym f ∙ e))

told-from : (p : Problem) → are_told p ≡ true → AreTold p
told-from p e a b la lb same =
    let row = all-below (λ a. list_all (λ b. is_told_pair p a b) (count_up 0 p.classes)) p.classes e a la in
    let pair = all-below (λ b. is_told_pair p a b) p.classes row b lb in
    eqb-true a b (or-first (nat_eq a b) _ pair (none-differ p a b (count_up 0 p.tests) (λ t i. let w = count_up-IsIn t 0 p.tests i in same t (omega arith))))

below-from : (n : ℕ) (g : Group) → is_below n g ≡ true → (c : ℕ) → c < 512 → has_class g c ≡ true → c < n
below-from n g e c lt has = elim (cases_lt c n) [
  | inl below ↦ below
  | inr past ↦
      (let word = ltb-true (get_or g.0 (c / 64) 0) (2 ^ (n - 64 * (c / 64))) (all-below (λ k. nat_lt (slice_index g.0 k) (2 ^ (n - 64 * k))) 8 e (c / 64) (omega arith)) in
      let clear = bit_at_above (get_or g.0 (c / 64) 0) (n - 64 * (c / 64)) (c % 64) word (omega arith) in
      let set = eqb-true (bit_at (get_or g.0 (c / 64) 0) (c % 64)) 1 has in
      absurd (let bad : ⊥ = omega arith in bad))
]

pub IsValid-from_test : (ws cs : List ℕ) (ps : List Group) → is_valid ws cs ps ≡ true → IsValid ws cs ps
IsValid-from_test ws cs ps e =
    let p = problem_from ws cs ps in
    let a = and_parts (nat_le 1 (length ws)) _ e in
    let b = and_parts (nat_le (length ws) 512) _ a.1 in
    let c = and_parts (list_all (nat_le 1) ws) _ b.1 in
    let d = and_parts (nat_le (weight_of p (all_classes p)) 4097000000) _ c.1 in
    let f = and_parts (nat_le (length cs) 256) _ d.1 in
    let g = and_parts (list_all is_cost cs) _ f.1 in
    let h = and_parts (nat_eq (length ps) (length cs)) _ g.1 in
    let i = and_parts (list_all (λ t. is_below (length ws) (slice_index_or ps t no_class)) (count_up 0 (length ps))) _ h.1 in
    record {
      some = leb-true 1 (length ws) a.0;
      few = leb-true (length ws) 512 b.0;
      positive = λ k lt. leb-true 1 (get_or ws k 0) (all-at (nat_le 1) ws c.0 k lt);
      total = leb-true (weight_of p (all_classes p)) 4097000000 d.0;
      tests = leb-true (length cs) 256 f.0;
      costs = λ t lt.
          let both = and_parts (nat_le 1 (get_or cs t 0)) _ (all-at is_cost cs g.0 t lt) in
          (leb-true 1 (get_or cs t 0) both.0, leb-true (get_or cs t 0) 1000000 both.1);
      as_many = eqb-true (length ps) (length cs) h.0;
      within = λ t k lt few has. below-from (length ws) (slice_index_or ps t no_class) (all-below (λ t. is_below (length ws) (slice_index_or ps t no_class)) (length ps) i.0 t lt) k few has;
      told = told-from p i.1;
    }

-- the same for lists that a program has made
pub IsValid-of : CheckedHolds
IsValid-of weights ws costs cs passes ps e1 e2 e3 t =
    subst (λ w. IsValid w costs passes) (sym e1) (subst (λ c. IsValid ws c passes) (sym e2) (subst (λ q. IsValid ws cs q) (sym e3) (IsValid-from_test ws cs ps t)))
