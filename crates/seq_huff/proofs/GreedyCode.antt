-- What the greedy calls owe.
use Rattle.std.proofs.Common.{◌≡◌, ℕ, ◌≤◌, List, [], ◌∷◌, ◌++◌, refl, sym, ap, ◌∙◌, subst, Option, Some, None}
use Rattle.std.specs.Prelude.{Bool, true, false, cond, nat_le}
use Rattle.seq_theory.specs.Problem.{Problem, IsIn, IsWithin, AreTold, is_end, splitting, pass_part, fail_part}
use Rattle.seq_theory.specs.Tree.{leaf, ask}
use Rattle.seq_theory.specs.Recursions.{RecursionsHold}
use Rattle.seq_theory.specs.Bound.{bound, step_sum}
use Rattle.seq_theory.specs.Greedy.{first_least, greedy_test, greedy, greedy_cost}
use Rattle.seq_theory.proofs.LeastOfLaws.{first_least-last}
pub use Rattle.seq_theory.proofs.GreedyParts.{cost-end, GreedyParts, greedy_there, greedy_parts}
use Rattle.seq_theory.proofs.GreedyLaws.{greedy_test_splits}
use Rattle.seq_inst.specs.declared.group.Group.{Group}
use Rattle.seq_inst.specs.declared.instance.Instance.{Instance}
use Rattle.seq_inst.specs.Members.{members}
use Rattle.seq_inst.specs.Instances.{problem_of}
use Rattle.seq_huff.specs.declared.choice.Chosen.{Chosen}
use Rattle.seq_huff.specs.Choice.{lesser_choice}

-- the choice so far: the first of the list at which f is least, and f of it
pub record IsChoice (f : ℕ → ℕ) (x : ℕ) (xs : List ℕ) (o : Option Chosen) : Type 0 where
  pub chosen : Chosen
  pub is : o ≡ Some chosen
  pub test_is : chosen.test ≡ first_least f (x ∷ xs)
  pub sum_is : chosen.sum ≡ f chosen.test

abbrev pub ChosenSoFar : (ℕ → ℕ) → List ℕ → Option Chosen → Type 0
ChosenSoFar f [] o = o ≡ None
ChosenSoFar f (x ∷ xs) o = IsChoice f x xs o

pub chosen-more : (f : ℕ → ℕ) (xs more : List ℕ) (t n : ℕ) (o : Option Chosen) → ChosenSoFar f xs o → more ≡ xs ++ t ∷ [] → n ≡ f t → ChosenSoFar f more (Some (lesser_choice o t n))
chosen-more f [] more t n o s e v = subst (λ l. ChosenSoFar f l (Some (lesser_choice o t n))) (sym e)
    (record { chosen = record { test = t; sum = n }; is = ap (λ p. Some (lesser_choice p t n)) s; test_is = refl; sum_is = v })
chosen-more f (x ∷ xs) more t n o s e v = subst (λ l. ChosenSoFar f l (Some (lesser_choice o t n))) (sym e)
    (record {
      chosen = lesser_choice (Some s.chosen) t n;
      is = ap (λ p. Some (lesser_choice p t n)) s.is;
      test_is = tests (nat_le (s.chosen).sum n) ∙ ap (λ b. cond b (first_least f (x ∷ xs)) t) same ∙ sym (first_least-last f x t xs);
      sum_is = sums (nat_le (s.chosen).sum n);
    })
  where
    same : nat_le (s.chosen).sum n ≡ nat_le (f (first_least f (x ∷ xs))) (f t)
    same = ap (λ a. nat_le a n) (s.sum_is ∙ ap f s.test_is) ∙ ap (nat_le (f (first_least f (x ∷ xs)))) v

    tests : (b : Bool) → (let c : Chosen = cond b s.chosen (record { test = t; sum = n }) in c.test) ≡ cond b (first_least f (x ∷ xs)) t
    tests true = s.test_is
    tests false = refl

    sums : (b : Bool) → (let c : Chosen = cond b s.chosen (record { test = t; sum = n }) in c.sum) ≡ f (let c : Chosen = cond b s.chosen (record { test = t; sum = n }) in c.test)
    sums true = s.sum_is
    sums false = v

-- at the end it is the greedy test
pub chosen-greedy : (p : Problem) (group : List ℕ) (c : Chosen) → ChosenSoFar (step_sum p (bound p) group) (splitting p group) (Some c) → c.test ≡ greedy_test p group
unfolding greedy_test
chosen-greedy p group c s = go (splitting p group) s
  where
    go : (xs : List ℕ) → ChosenSoFar (step_sum p (bound p) group) xs (Some c) → c.test ≡ first_least (step_sum p (bound p) group) xs
    go [] s = absurd (let bad : ⊥ = cc in bad)
    go (x ∷ xs) s = (let e : c ≡ s.chosen = some_same c s.chosen s.is in ap (λ (z : Chosen). z.test) e ∙ s.test_is)
      where
        some_same : (a b : Chosen) → Some a ≡ Some b → a ≡ b
        some_same a b e = cc

pub chosen-some : (p : Problem) (group : List ℕ) → AreTold p → IsWithin p group → is_end p group ≡ false → ChosenSoFar (step_sum p (bound p) group) (splitting p group) None → ⊥
chosen-some p group told within e s = go (splitting p group) (greedy_test_splits p group told within e) s
  where
    go : (xs : List ℕ) → IsIn (greedy_test p group) xs → ChosenSoFar (step_sum p (bound p) group) xs None → ⊥
    go [] i s = i
    go (x ∷ xs) i s = none_some s.chosen s.is
      where
        none_some : (c : Chosen) → None ≡ Some c → ⊥
        none_some c e = cc

pub greedy-small : (inst : Instance) (g : Group) → IsWithin (problem_of inst) (members g) → greedy_cost (problem_of inst) (members g) ≤ 2097664000000000000
greedy-small inst g within = inst.stands.greedy_fits g within

-- greedy's tree, by its recursion: a leaf for one goal, else the greedy test and greedy in both parts
pub greedy-leaf : RecursionsHold → (p : Problem) (group : List ℕ) → AreTold p → IsWithin p group → is_end p group ≡ true → greedy p group ≡ leaf
greedy-leaf law p group told within e = (law p group told within).greedy_recurs ∙ ap (λ b. cond b leaf (ask (greedy_test p group) (greedy p (pass_part p (greedy_test p group) group)) (greedy p (fail_part p (greedy_test p group) group)))) e

pub greedy-asks : RecursionsHold → (p : Problem) (group pass fail : List ℕ) (t : ℕ) → AreTold p → IsWithin p group → is_end p group ≡ false → t ≡ greedy_test p group → pass ≡ pass_part p t group → fail ≡ fail_part p t group → greedy p group ≡ ask t (greedy p pass) (greedy p fail)
greedy-asks law p group pass fail t told within e test_is pass_is fail_is =
    (law p group told within).greedy_recurs
    ∙ ap (λ b. cond b leaf (ask (greedy_test p group) (greedy p (pass_part p (greedy_test p group) group)) (greedy p (fail_part p (greedy_test p group) group)))) e
    ∙ ap (λ u. ask u (greedy p (pass_part p u group)) (greedy p (fail_part p u group))) (sym test_is)
    ∙ ap (λ x. ask t (greedy p x) (greedy p (fail_part p t group))) (sym pass_is)
    ∙ ap (λ x. ask t (greedy p pass) (greedy p x)) (sym fail_is)
