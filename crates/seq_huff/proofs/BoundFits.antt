-- The sums and products of a bound fit a word: a group weighs at most 4,097,000,000, and all costs are at most
-- 256,000,000 together.
use Rattle.std.proofs.Common.{◌≡◌, ℕ, zero, suc, ◌+◌, ◌<◌, ◌≤◌, List, [], ◌∷◌, length, refl, sym, ap, ◌∙◌, arith, inl, inr, ◌*◌, ◌^◌, ◌/◌, ◌%◌, get_or, add-one}
pub use Rattle.seq_theory.proofs.BelowLaws.{product-le}
use Rattle.std.proofs.lemmas.List.Sums.{sum_by-cons}
use Rattle.std.specs.Prelude.{true, false, map, min, sum}
use Rattle.std.proofs.lemmas.Bool.{cases_lt}
use Rattle.seq_theory.specs.Problem.{Problem, IsIn, IsWithin, weight_of, is_end, splits, splitting, least_of}
use Rattle.seq_theory.specs.Huffman.{upward, huff}
use Rattle.seq_theory.proofs.BoundLeast.{weight-positive, some_class}
use Rattle.seq_huff.proofs.SumLaws.{sum-upward}
use Rattle.seq_theory.specs.Bound.{goal_weights, sum_first, next_after, bound_from, splitting_costs, bound, step_sum}
use Rattle.seq_theory.specs.Greedy.{one_step}
use Rattle.std.specs.Prelude.{max}
use Rattle.seq_theory.proofs.PartsRecursion.{splitting-there}
use Rattle.seq_theory.proofs.BelowLaws.{length-passing, passing-all}
use Rattle.seq_inst.specs.declared.group.Group.{Group}
use Rattle.seq_inst.specs.declared.instance.Instance.{Instance}
use Rattle.seq_inst.specs.Members.{members, has_class}
use Rattle.seq_inst.specs.Instances.{problem_of}

pub sum-weights : (p : Problem) (xs : List ℕ) → sum (map p.weight xs) ≡ weight_of p xs
sum-weights p [] = refl
sum-weights p (x ∷ xs) = sum_by-cons (λ n. n) (p.weight x) (map p.weight xs) ∙ ap (λ n. p.weight x + n) (sum-weights p xs)

length-map : (f : ℕ → ℕ) (xs : List ℕ) → length (map f xs) ≡ length xs
length-map f [] = refl
length-map f (x ∷ xs) = ap suc (length-map f xs)

pub weights-fit : (inst : Instance) (g : Group) (out : List ℕ) → IsWithin (problem_of inst) (members g) → out ≡ map (problem_of inst).weight (members g) → length out * sum out < 2 ^ 64
weights-fit inst g out within e =
    let p = problem_of inst in
    let l1 = ap length e ∙ length-map p.weight (members g) in
    let l2 = length-passing (has_class g) 512 in
    let s1 = ap sum e ∙ sum-weights p (members g) in
    let s2 = inst.stands.light g within in
    let f = product-le (length out) (sum out) 512 4097000000 (omega arith) (omega arith) in
    omega arith

first_le : (k : ℕ) (xs : List ℕ) → sum_first k xs ≤ sum xs
first_le zero xs = omega arith
first_le (suc k) [] = omega arith
first_le (suc k) (x ∷ xs) = omega (arith, first_le k xs, sum_by-cons (λ n. n) x xs)

first_suc : (k : ℕ) (xs : List ℕ) → k < length xs → sum_first (suc k) xs ≡ sum_first k xs + get_or xs k 0
first_suc k [] lt = absurd (let bad : ⊥ = omega arith in bad)
first_suc zero (x ∷ xs) lt = omega arith
first_suc (suc k) (x ∷ xs) lt = omega (arith, first_suc k xs (omega arith))

pub first_more : (k : ℕ) (xs : List ℕ) → k < length xs → sum_first k xs + get_or xs k 0 ≡ sum_first (k + 1) xs
first_more k xs lt = sym (ap (λ n. sum_first n xs) (add-one k) ∙ first_suc k xs lt)

first_all : (k : ℕ) (xs : List ℕ) → length xs ≤ k → sum_first (length xs) xs ≡ sum_first k xs
first_all zero [] le = refl
first_all (suc k) [] le = refl
first_all zero (x ∷ xs) le = absurd (let bad : ⊥ = omega arith in bad)
first_all (suc k) (x ∷ xs) le = ap (λ n. x + n) (first_all k xs (omega arith))

pub first_there : (end k : ℕ) (xs : List ℕ) → end ≡ min (length xs) k → sum_first end xs ≡ sum_first k xs
first_there end k xs e = elim (cases_lt k (length xs)) [
  | inl lt ↦ ap (λ n. sum_first n xs) (let is : end ≡ k = omega arith in is)
  | inr ge ↦ ap (λ n. sum_first n xs) (let is : end ≡ length xs = omega arith in is) ∙ first_all k xs ge
]

pub next_read : (k : ℕ) (xs : List ℕ) → get_or xs k 0 ≡ next_after k xs
next_read zero [] = refl
next_read (suc k) [] = refl
next_read zero (x ∷ xs) = refl
next_read (suc k) (x ∷ xs) = next_read k xs

pub sum_first-le : (k : ℕ) (xs : List ℕ) → sum_first k xs ≤ sum xs
sum_first-le k xs = first_le k xs

next-le : (k : ℕ) (xs : List ℕ) → next_after k xs ≤ sum xs
next-le zero [] = omega arith
next-le (suc k) [] = omega arith
next-le zero (x ∷ xs) = omega (arith, sum_by-cons (λ n. n) x xs)
next-le (suc k) (x ∷ xs) = omega (arith, sum_by-cons (λ n. n) x xs, next-le k xs)

pub sum-map-le : (f : ℕ → ℕ) (most : ℕ) (xs : List ℕ) → ((t : ℕ) → IsIn t xs → f t ≤ most) → sum (map f xs) ≤ length xs * most
sum-map-le f most [] h = omega arith
sum-map-le f most (x ∷ xs) h =
    let a = h x (inl refl) in
    let b = sum-map-le f most xs (λ t i. h t (inr i)) in
    omega (arith, sum_by-cons (λ n. n) (f x) (map f xs))

-- what the numbers of a bound fit into
pub record BoundFits (p : Problem) (xs costs : List ℕ) : Type 0 where
  pub positive : 1 ≤ weight_of p xs
  pub light : weight_of p xs ≤ 4097000000
  pub costs_small : sum costs ≤ 256000000
  pub first : (k : ℕ) → sum_first k costs ≤ 256000000
  pub next : (k : ℕ) → next_after k costs ≤ 256000000
  pub product : (k : ℕ) → weight_of p xs * sum_first k costs ≤ 1048832000000000000
  pub rest : (r k : ℕ) → r < weight_of p xs → r * next_after k costs ≤ 1048832000000000000

pub bound-fits : (inst : Instance) (g : Group) (costs : List ℕ) → IsWithin (problem_of inst) (members g) → is_end (problem_of inst) (members g) ≡ false → costs ≡ upward (map (problem_of inst).cost (splitting (problem_of inst) (members g))) → BoundFits (problem_of inst) (members g) costs
bound-fits inst g costs within e is =
    let p = problem_of inst in
    let ts = splitting p (members g) in
    let w = inst.stands.light g within in
    let s1 = ap sum is ∙ sum-upward (map p.cost ts) in
    let s2 = sum-map-le p.cost 1000000 ts (λ t i. (inst.valid.costs t (splitting-there p (members g) t i)).1) in
    let l1 = length-passing (splits p (members g)) p.tests in
    let l2 = ap length (passing-all (splits p (members g)) p.tests) in
    let few = inst.valid.tests in
    let all : sum costs ≤ 256000000 = omega arith in
    record {
      positive = weight-positive p (members g) (record { positive = inst.valid.positive; goals = λ c lt. lt }) within (some_class p (members g) e);
      light = w;
      costs_small = all;
      first = λ k. let f = first_le k costs in omega arith;
      next = λ k. let f = next-le k costs in omega arith;
      product = λ k. let f = first_le k costs in let m = product-le (weight_of p (members g)) (sum_first k costs) 4097000000 256000000 w (omega arith) in omega arith;
      rest = λ r k lt. let f = next-le k costs in let m = product-le r (next_after k costs) 4097000000 256000000 (omega arith) (omega arith) in omega arith;
    }

-- the two products of a bound, in the words of the code
pub record Products (w s r n : ℕ) : Type 0 where
  pub first : w * s ≤ 1048832000000000000
  pub second : r * n ≤ 1048832000000000000

pub products-fit : (p : Problem) (xs costs : List ℕ) (h w s n : ℕ) → BoundFits p xs costs → w ≡ weight_of p xs → s ≡ sum_first (h / w) costs → n ≡ next_after (h / w) costs → Products w s (h % w) n
products-fit p xs costs h w s n f we se ne =
    let a = f.product (h / w) in
    let b = f.positive in
    let lt : h % w < weight_of p xs = omega arith in
    let c = f.rest (h % w) (h / w) lt in
    let e1 : w * s ≡ weight_of p xs * sum_first (h / w) costs = ap (λ x. x * s) we ∙ ap (λ x. weight_of p xs * x) se in
    let e2 : h % w * n ≡ h % w * next_after (h / w) costs = ap (λ x. h % w * x) ne in
    record { first = omega arith; second = omega arith }

pub bound-is : (p : Problem) (xs costs : List ℕ) (h w s n : ℕ) → is_end p xs ≡ false → costs ≡ splitting_costs p xs → h ≡ huff (goal_weights p xs) → w ≡ weight_of p xs → s ≡ sum_first (h / w) costs → n ≡ next_after (h / w) costs → w * s + h % w * n ≡ bound p xs
unfolding bound
bound-is p xs costs h w s n e ce he we se ne =
    ap (λ x. w * x + h % w * n) se ∙ ap (λ x. w * sum_first (h / w) costs + h % w * x) ne
    ∙ ap (λ c. bound_from w h c) ce ∙ ap (λ x. bound_from x h (splitting_costs p xs)) we ∙ ap (λ x. bound_from (weight_of p xs) x (splitting_costs p xs)) he
    ∙ sym (rw e refl)

pub bound-end : (p : Problem) (xs : List ℕ) → is_end p xs ≡ true → 0 ≡ bound p xs
unfolding bound
bound-end p xs e = rw e refl

-- a bound is small
pub bound-small : (inst : Instance) (g : Group) → IsWithin (problem_of inst) (members g) → bound (problem_of inst) (members g) ≤ 2097664000000000000
bound-small inst g within = inst.stands.bound_fits g within

-- the sum of a test and the bounds of its parts fits
pub step-fits : (inst : Instance) (g pass fail : Group) (cost weight a b test : ℕ) → IsWithin (problem_of inst) (members g) → IsWithin (problem_of inst) (members pass) → IsWithin (problem_of inst) (members fail) → test < (problem_of inst).tests → cost ≡ (problem_of inst).cost test → weight ≡ weight_of (problem_of inst) (members g) → a ≡ bound (problem_of inst) (members pass) → b ≡ bound (problem_of inst) (members fail) → (cost * weight ≤ 4097000000000000) × (a ≤ 2097664000000000000) × (b ≤ 2097664000000000000)
step-fits inst g pass fail cost weight a b test within wp wf there ce we ae be =
    let f1 = bound-small inst pass wp in
    let f2 = bound-small inst fail wf in
    let l = inst.stands.light g within in
    let c = (inst.valid.costs test there).1 in
    let m = product-le cost weight 1000000 4097000000 (omega arith) (omega arith) in
    (omega arith, omega arith, omega arith)

pub one_step-end : (p : Problem) (xs : List ℕ) → is_end p xs ≡ true → 0 ≡ one_step p xs
unfolding one_step
one_step-end p xs e = rw e refl

pub one_step-is : (p : Problem) (xs : List ℕ) (low least : ℕ) → is_end p xs ≡ false → low ≡ bound p xs → least ≡ least_of (map (step_sum p (bound p) xs) (splitting p xs)) → max low least ≡ one_step p xs
unfolding one_step
one_step-is p xs low least e le se = ap (λ x. max x least) le ∙ ap (max (bound p xs)) se ∙ sym (rw e refl)
