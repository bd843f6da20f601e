-- A group of the right size has only classes that are there.
use Rattle.std.proofs.Common.{◌≡◌, ℕ, ◌<◌, List, [], ◌∷◌, length, refl, arith, inl, inr, ◌∙◌, sym}
use Rattle.std.specs.Prelude.{Bool, true, false, not, ◌&&◌, nat_eq, nat_lt}
use Rattle.std.specs.List.{list_all}
use Rattle.std.proofs.lemmas.Bool.{and_parts, cases_Bool, cases_lt, lt-ltb, false≢true}
use Rattle.std.proofs.lemmas.Bool.Decides.{nat_tests}
use Rattle.seq_theory.specs.Problem.{Problem, IsIn, IsWithin, is_end}
use Rattle.seq_inst.specs.Members.{members, has_class, IsFirstFrom, HasNoneFrom}
use Rattle.seq_inst.specs.declared.group.Group.{Group}
use Rattle.seq_theory.proofs.BelowLaws.{IsIn-passing, passing-passes, passing-below}
use Rattle.seq_check.specs.GroupLooks.{is_sized}

all-in : (f : ℕ → Bool) (xs : List ℕ) → list_all f xs ≡ true → (c : ℕ) → IsIn c xs → f c ≡ true
all-in f [] e c i = absurd i
all-in f (x ∷ xs) e c (inl same) = let a = (and_parts (f x) (list_all f xs) e).0 in cc
all-in f (x ∷ xs) e c (inr i) = all-in f xs (and_parts (f x) (list_all f xs) e).1 c i

all-from : (f : ℕ → Bool) (xs : List ℕ) → ((c : ℕ) → IsIn c xs → f c ≡ true) → list_all f xs ≡ true
all-from f [] h = refl
all-from f (x ∷ xs) h = rw (h x (inl refl)) (all-from f xs (λ c i. h c (inr i)))

below : (a b : ℕ) → nat_lt a b ≡ true → a < b
below a b e = grind (arith, nat_tests)

pub all-within : (p : Problem) (group : List ℕ) → list_all (λ c. nat_lt c p.classes) group ≡ true → IsWithin p group
all-within p group e c i = below c p.classes (all-in (λ c. nat_lt c p.classes) group e c i)

-- where the size is right, the group is within the classes
pub sized_within : (p : Problem) (size : ℕ) (g : Group) → is_sized p size g ≡ true → IsWithin p (members g)
sized_within p size g e =
    let s = and_parts (nat_eq size (length (members g))) (not (is_end p (members g)) && list_all (λ c. nat_lt c p.classes) (members g)) e in
    all-within p (members g) (and_parts (not (is_end p (members g))) (list_all (λ c. nat_lt c p.classes) (members g)) s.1).1

-- and has two goals or more
pub sized_more : (p : Problem) (size : ℕ) (g : Group) → is_sized p size g ≡ true → is_end p (members g) ≡ false
sized_more p size g e =
    let s = and_parts (nat_eq size (length (members g))) (not (is_end p (members g)) && list_all (λ c. nat_lt c p.classes) (members g)) e in
    open-end (is_end p (members g)) (and_parts (not (is_end p (members g))) (list_all (λ c. nat_lt c p.classes) (members g)) s.1).0
  where
    open-end : (b : Bool) → not b ≡ true → b ≡ false
    open-end true e = absurd (false≢true e)
    open-end false e = refl

-- no class from n on is in the group
pub none_from : (g : Group) (n : ℕ) → HasNoneFrom g n → true ≡ list_all (λ c. nat_lt c n) (members g)
none_from g n none = sym (all-from (λ c. nat_lt c n) (members g) (λ c i. elim (cases_lt c n) [
  | inl lt ↦ lt-ltb c n lt
  | inr ge ↦ absurd (false≢true (sym (none c ge (passing-below (has_class g) c 512 i)) ∙ passing-passes (has_class g) c 512 i))
]))

-- some class from n on is
pub some_from : (g : Group) (n c : ℕ) → IsFirstFrom g n c → false ≡ list_all (λ c. nat_lt c n) (members g)
some_from g n c first = elim (cases_Bool (list_all (λ c. nat_lt c n) (members g))) [
  | inl y ↦ (let lt = below c n (all-in (λ c. nat_lt c n) (members g) y c (IsIn-passing (has_class g) c 512 first.in_range first.in_group)) in let le = first.from_there in absurd (let bad : ⊥ = omega arith in bad))
  | inr other ↦ sym other
]
