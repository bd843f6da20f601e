-- What the calls on groups owe.
use Rattle.std.proofs.Common.{◌≡◌, ◌≢◌, ℕ, zero, suc, ◌+◌, ◌-◌, ◌<◌, ◌≤◌, List, [], ◌∷◌, ◌++◌, length, refl, sym, ap, ◌∙◌, arith, inl, inr, length-append, subst}
use Rattle.std.specs.Prelude.{Bool, true, false, not, filter, nat_le, Option, Some, None}
use Rattle.std.specs.Option.{is_some}
use Rattle.std.proofs.lemmas.Bool.{cases_Bool, ne_eqb, le-leb, lt-leb}
use Rattle.seq_theory.specs.Problem.{Problem, fails, pass_part, fail_part, splits, count_up, IsIn, IsWithin, weight_of, is_end, all_classes}
use Rattle.seq_theory.proofs.LeastLaws.{count_up-IsIn}
use Rattle.seq_theory.specs.Below.{passing_below}
use Rattle.seq_theory.proofs.BelowLaws.{weight-passing, weight-more, passing-within, class-within as within-class}
use Rattle.seq_theory.proofs.GreedyLaws.{part-within}
use Rattle.seq_theory.proofs.GroupLaws.{pass_part_smaller, fail_part_smaller, filter-IsIn}
use Rattle.seq_inst.specs.declared.group.Group.{Group}
use Rattle.seq_inst.specs.declared.instance.Instance.{Instance}
use Rattle.seq_inst.specs.Members.{has_class, members_below, members, IsFirstFrom, HasNoneFrom, reached}
use Rattle.seq_inst.proofs.WordLaws.{members_below-split}
use Rattle.seq_inst.specs.Instances.{problem_of}
use Rattle.seq_inst.specs.Valid.{problem_from}
use Rattle.seq_inst.proofs.MembersLaws.{members_below-in}
use Rattle.seq_inst.proofs.FirstLaws.{IsFound, first-members, next-members}

-- two classes of a group differ
second_differs : (f : ℕ → Bool) (from n x y : ℕ) (rest : List ℕ) → filter f (count_up from n) ≡ x ∷ y ∷ rest → x ≢ y
second_differs f from zero x y rest e = (λ s. let h : ⊥ = cc in h)
second_differs f from (suc n) x y rest e = elim (cases_Bool (f from)) [
  | inl yes' ↦
      (let e' = rw yes' at e in
      let heads : from ≡ x = cc in
      let tails : filter f (count_up (suc from) n) ≡ y ∷ rest = cc in
      λ s.
      let i : IsIn y (filter f (count_up (suc from) n)) = rw tails (inl refl) in
      let w = count_up-IsIn y (suc from) n (filter-IsIn f y (count_up (suc from) n) i) in
      let h : ⊥ = omega arith in h)
  | inr no' ↦ second_differs f (suc from) n x y rest (rw no' at e)
]

pub is_end-length : (ws cs : List ℕ) (ps : List Group) (g : Group) → nat_le (length (members g)) 1 ≡ is_end (problem_from ws cs ps) (members g)
unfolding passing_below
is_end-length ws cs ps g = go (members g) refl
  where
    go : (xs : List ℕ) → members g ≡ xs → nat_le (length xs) 1 ≡ is_end (problem_from ws cs ps) xs
    go [] e = le-leb 0 1 (omega arith)
    go (x ∷ []) e = le-leb 1 1 (omega arith)
    go (x ∷ y ∷ rest) e =
        lt-leb (suc (suc (length rest))) 1 (omega arith) ∙ sym (rw (ne_eqb y x (λ s. second_differs (has_class g) 0 512 x y rest e (sym s))) refl)

longer : (g : Group) (n : ℕ) → n ≤ 512 → length (members_below g n) ≤ length (members g)
longer g n le =
    let e : 512 ≡ n + (512 - n) = omega arith in
    let whole = ap length (ap (members_below g) e ∙ members_below-split g n (512 - n)) in
    let both = length-append (members_below g n) (filter (has_class g) (count_up n (512 - n))) in
    omega arith

first-alone : (g : Group) (first : ℕ) (second : Option ℕ) → IsFirstFrom g 0 first → IsFound g (first + 1) second → length (members_below g (reached second)) ≡ 1
first-alone g first second f s = ap length (next-members g first second f.in_range f.in_group s ∙ ap (λ l. l ++ first ∷ []) (first-members g (Some first) f))

pub not-back : (a b : Bool) → a ≡ not b → b ≡ not a
not-back a true e = sym (ap not e)
not-back a false e = sym (ap not e)

-- a group is an end where it has no class, or no second one
pub is_end-none : (inst : Instance) (g : Group) → HasNoneFrom g 0 → true ≡ is_end (problem_of inst) (members g)
is_end-none inst g none =
    let empty = ap length (first-members g None none) in
    sym (le-leb (length (members g)) 1 (omega arith)) ∙ inst.stands.ends g

pub is_end-first : (inst : Instance) (g : Group) (first : ℕ) (second : Option ℕ) → IsFirstFrom g 0 first → IsFound g (first + 1) second → not (is_some second) ≡ is_end (problem_of inst) (members g)
is_end-first inst g first None f s =
    let one = first-alone g first None f s in
    sym (le-leb (length (members g)) 1 (omega arith)) ∙ inst.stands.ends g
is_end-first inst g first (Some c) f s =
    let one = first-alone g first (Some c) f s in
    let low = s.in_range in
    let two = ap length (members_below-in g c s.in_group) in
    let both = length-append (members_below g c) (c ∷ []) in
    let long = longer g (c + 1) (omega arith) in
    sym (lt-leb (length (members g)) 1 (omega arith)) ∙ inst.stands.ends g

module _ (p : Problem) where
  pub weight-members_below : (g : Group) (n : ℕ) → n ≤ p.classes → weight_of p (members_below g n) ≤ weight_of p (all_classes p)
  weight-members_below g n le = weight-passing p (has_class g) n le

  pub weight-members_below-in : (g : Group) (n : ℕ) → has_class g n ≡ true → weight_of p (members_below g (n + 1)) ≡ weight_of p (members_below g n) + p.weight n
  weight-members_below-in g n e = weight-more p (has_class g) n e

-- a group within the classes has no class past the last
pub members-within : (p : Problem) (g : Group) → p.classes ≤ 512 → IsWithin p (members g) → members_below g p.classes ≡ members g
members-within p g le within = passing-within p (has_class g) 512 le within

-- a class of a group within the classes is one of them
pub class-within : (p : Problem) (g : Group) (c : ℕ) → IsWithin p (members g) → c < 512 → has_class g c ≡ true → c < p.classes
class-within p g c within lt has = within-class p (has_class g) c 512 within lt has

-- one class more of a weight
pub weight-next : (p : Problem) (g : Group) (c : ℕ) (next : Option ℕ) → c < 512 → has_class g c ≡ true → IsFound g (c + 1) next → weight_of p (members_below g (reached next)) ≡ weight_of p (members_below g c) + p.weight c
weight-next p g c next lt has found = ap (weight_of p) (next-members g c next lt has found ∙ sym (members_below-in g c has)) ∙ weight-members_below-in p g c has

-- what a part is: the classes that pass or fail, within the classes where the group is, and fewer where the test splits it
module _ (p : Problem) (t : ℕ) (group part : List ℕ) where
  pub pass-parts : part ≡ pass_part p t group → record {
    classes : part ≡ pass_part p t group;
    within : IsWithin p group → IsWithin p part;
    smaller : splits p group t ≡ true → length part < length group;
  }
  pass-parts is = record {
    classes = is;
    within = λ within. subst (IsWithin p) (sym is) (part-within p (p.passes t) group within);
    smaller = λ s. let l = ap length is in omega (arith, pass_part_smaller p t group s);
  }

  pub fail-parts : part ≡ fail_part p t group → record {
    classes : part ≡ fail_part p t group;
    within : IsWithin p group → IsWithin p part;
    smaller : splits p group t ≡ true → length part < length group;
  }
  fail-parts is = record {
    classes = is;
    within = λ within. subst (IsWithin p) (sym is) (part-within p (fails p t) group within);
    smaller = λ s. let l = ap length is in omega (arith, fail_part_smaller p t group s);
  }
