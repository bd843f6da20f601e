-- The tests that split a part of a group split the group, and the test that makes the part is not among them. So a bound that
-- is made from the cheapest tests of the group without that one, and from a lower cost of Huffman's, is at most the bound of
-- the part.
use Rattle.std.proofs.Common.{◌≡◌, ℕ, zero, suc, ◌+◌, ◌-◌, ◌*◌, ◌/◌, ◌%◌, ◌<◌, ◌≤◌, List, [], ◌∷◌, length, refl, sym, ap, ◌∙◌, arith, inl, inr, subst, add-one}
use Rattle.std.specs.Prelude.{Bool, true, false, filter, map, nat_eq, ◌||◌}
use Rattle.std.specs.List.{list_any}
use Rattle.std.proofs.Math.Nat.{mul-le-mul_left, div-add-mod}
use Rattle.std.proofs.lemmas.Bool.{cases_Bool, cases_lt, and_parts, and_from, eqb-true}
use Rattle.seq_theory.specs.Problem.{Problem, IsIn, IsWithin, IsWeighed, count_up, fails, pass_part, fail_part, splits, splitting, weight_of, is_end}
use Rattle.seq_theory.specs.Huffman.{place_in, huff}
use Rattle.seq_theory.specs.Bound.{goal_weights, sum_first, next_after, bound_from, splitting_costs, bound, step_sum}
use Rattle.seq_theory.proofs.BoundLeast.{weight-positive}
use Rattle.seq_theory.proofs.GroupLaws.{filter-IsIn, list_any-found, weight_of-parts}
use Rattle.seq_theory.proofs.HuffmanLaws.{length-place, length-upward}
use Rattle.seq_inst.specs.declared.group.Group.{Group}
use Rattle.seq_inst.specs.declared.instance.Instance.{Instance}
use Rattle.seq_inst.specs.Members.{members}
use Rattle.seq_inst.specs.Instances.{problem_of}
use Rattle.seq_huff.specs.declared.mass.Mass.{Mass}
use Rattle.seq_huff.specs.declared.estimate.Estimate.{Estimate}
use Rattle.seq_huff.specs.Potential.{potentials}
use Rattle.seq_huff.specs.Estimates.{IsMassOf, AreSums, IsEstimateOf, sum_without, bound_without}
use Rattle.seq_huff.proofs.BoundFits.{bound-small, product-le}
use Rattle.seq_huff.proofs.LeastBounds.{weighed}
use Rattle.seq_huff.proofs.CheaperLaws.{Cheaper, more-cheaper, cheaper-sum, cheaper-length, with-test, sum_first-place, sum_first-suc, bound_from-raises}
use Rattle.seq_huff.proofs.HuffmanCount.{huff-count, huff-end}
use Rattle.seq_huff.proofs.MassLaws.{length-parts, potentials-parts}
use Rattle.seq_huff.proofs.SumsLaws.{costs-few}

-- ---- the tests that split a part ----

module _ (p : Problem) where
  splits-filter : (f : ℕ → Bool) (t : ℕ) (xs : List ℕ) → splits p (filter f xs) t ≡ true → splits p xs t ≡ true
  splits-filter f t xs e =
      let s = and_parts (list_any (p.passes t) (filter f xs)) (list_any (fails p t) (filter f xs)) e in
      and_from _ _ (any-filter (p.passes t) xs s.0) (any-filter (fails p t) xs s.1)
    where
      any-filter : (g : ℕ → Bool) (xs : List ℕ) → list_any g (filter f xs) ≡ true → list_any g xs ≡ true
      any-filter g [] e = e
      any-filter g (x ∷ xs) e = elim (cases_Bool (f x)) [
        | inl y ↦ elim (cases_Bool (g x)) [
          | inl gy ↦ rw gy refl
          | inr gn ↦ rw gn (any-filter g xs (rw (y, gn) at e))
        ]
        | inr n ↦ elim (cases_Bool (g x)) [
          | inl gy ↦ rw gy refl
          | inr gn ↦ rw gn (any-filter g xs (rw n at e))
        ]
      ]

  -- a test splits no part of its own
  pub not_again-pass : (t : ℕ) (xs : List ℕ) → splits p (pass_part p t xs) t ≡ false
  not_again-pass t [] = refl
  not_again-pass t (x ∷ xs) = elim (cases_Bool (p.passes t x)) [
    | inl y ↦ rw (y, y) (all_pass t xs)
    | inr n ↦ rw n (not_again-pass t xs)
  ]
    where
      all_pass : (t : ℕ) (xs : List ℕ) → list_any (fails p t) (pass_part p t xs) ≡ false
      all_pass t [] = refl
      all_pass t (x ∷ xs) = elim (cases_Bool (p.passes t x)) [
        | inl y ↦ rw (y, y) (all_pass t xs)
        | inr n ↦ rw n (all_pass t xs)
      ]

  pub not_again-fail : (t : ℕ) (xs : List ℕ) → splits p (fail_part p t xs) t ≡ false
  not_again-fail t xs = rw (none_pass t xs) refl
    where
      none_pass : (t : ℕ) (xs : List ℕ) → list_any (p.passes t) (fail_part p t xs) ≡ false
      none_pass t [] = refl
      none_pass t (x ∷ xs) = elim (cases_Bool (p.passes t x)) [
        | inl y ↦ rw y (none_pass t xs)
        | inr n ↦ rw (n, n) (none_pass t xs)
      ]

  -- the costs of a part's tests, and the cost of the test that makes the part, are no cheaper than the group's
  module _ (group : List ℕ) (t : ℕ) (f : ℕ → Bool) (there : t < p.tests) (inside : splits p group t ≡ true) (outside : splits p (filter f group) t ≡ false) where
    cheaper-part : Cheaper (splitting_costs p group) (splitting_costs p (filter f group))
    cheaper-part = more-cheaper p.cost (splits p group) (splits p (filter f group)) (count_up 0 p.tests) (λ u e. splits-filter f u group e)

    with-asked : (u : ℕ) → (splits p (filter f group) u || nat_eq u t) ≡ true → splits p group u ≡ true
    with-asked u e = elim (cases_Bool (splits p (filter f group) u)) [
      | inl y ↦ splits-filter f u group y
      | inr n ↦ ap (splits p group) (eqb-true u t (rw n at e)) ∙ inside
    ]

    cheaper-asked : Cheaper (splitting_costs p group) (place_in (p.cost t) (splitting_costs p (filter f group)))
    cheaper-asked =
        subst (Cheaper (splitting_costs p group)) (with-test p.cost (splits p (filter f group)) t 0 p.tests outside (omega arith) (omega arith))
        (more-cheaper p.cost (splits p group) (λ u. splits p (filter f group) u || nat_eq u t) (count_up 0 p.tests) with-asked)

    fewer-part : suc (length (splitting_costs p (filter f group))) ≤ length (splitting_costs p group)
    fewer-part =
        let c = cheaper-length (splitting_costs p group) (place_in (p.cost t) (splitting_costs p (filter f group))) cheaper-asked in
        let l = length-place (p.cost t) (splitting_costs p (filter f group)) in
        omega arith

    without-part : (sums : List ℕ) → AreSums (splitting_costs p group) sums 258 → length (splitting_costs p group) ≤ 256 → (q : ℕ) → q ≤ length (splitting_costs p (filter f group)) → sum_without sums (p.cost t) q ≤ sum_first q (splitting_costs p (filter f group))
    without-part sums are few q le =
        let all : List ℕ = splitting_costs p group in
        let own : List ℕ = splitting_costs p (filter f group) in
        let l = length-place (p.cost t) own in
        let n = fewer-part in
        let a = cheaper-sum q all own le cheaper-part in
        let b = cheaper-sum (suc q) all (place_in (p.cost t) own) (omega arith) cheaper-asked in
        let d = sum_first-place q (p.cost t) own in
        let e1 = are q (omega arith) in
        let e2 = are (q + 1) (omega arith) ∙ ap (λ n. sum_first n all) (add-one q) in
        omega arith

-- ---- the bound that is made from sums ----

-- over plain numbers
mixed : (w r a b s n : ℕ) → r ≤ w → a ≤ s → (1 ≤ r → b ≤ s + n) → (w - r) * a + r * b ≤ w * s + r * n
mixed w zero a b s n le h1 h2 = let f = mul-le-mul_left w h1 in let e : w - 0 ≡ w = omega arith in let g = ap (λ x. x * a) e in omega arith
mixed w (suc r) a b s n le h1 h2 =
    let k : ℕ = w - suc r in
    let e : w ≡ k + suc r = omega arith in
    let f = mul-le-mul_left k h1 in
    let g = mul-le-mul_left (suc r) (h2 (omega arith)) in
    let m = ap (λ x. x * s) e in
    omega arith

pub few-whole : (w low most q r : ℕ) → w * q + r ≡ low → low ≤ w * most → 1 ≤ w → q ≤ most
few-whole w low most q r e le h = elim (cases_lt most q) [
  | inl lt ↦ (let f : w * suc most ≤ w * q = mul-le-mul_left w lt in absurd (let bad : ⊥ = omega arith in bad))
  | inr ge ↦ ge
]

fewer-whole : (w low most q r : ℕ) → w * q + r ≡ low → low ≤ w * most → 1 ≤ r → q + 1 ≤ most
fewer-whole w low most q r e le h = elim (cases_lt q most) [
  | inl lt ↦ omega arith
  | inr ge ↦ (let f : w * most ≤ w * q = mul-le-mul_left w ge in absurd (let bad : ⊥ = omega arith in bad))
]

bound_without-le : (w high low cost : ℕ) (sums costs : List ℕ) → 1 ≤ w → low ≤ high → high ≤ w * length costs → ((q : ℕ) → q ≤ length costs → sum_without sums cost q ≤ sum_first q costs) → bound_without sums cost w low ≤ bound_from w high costs
bound_without-le w high low cost sums costs h le few each =
    let d = div-add-mod low w in
    let small : low % w < w = omega arith in
    let a = each (low / w) (few-whole w low (length costs) (low / w) (low % w) d (omega arith) h) in
    let m = mixed w (low % w) (sum_without sums cost (low / w)) (sum_without sums cost (low / w + 1)) (sum_first (low / w) costs) (next_after (low / w) costs) (omega arith) a
    (λ more.
    let b = each (low / w + 1) (fewer-whole w low (length costs) (low / w) (low % w) d (omega arith) more) in
    let s = ap (λ n. sum_first n costs) (add-one (low / w)) ∙ sum_first-suc (low / w) costs in
    omega arith) in
    let r = bound_from-raises w low high costs h le in
    omega arith

-- the bound of a group, an end or not
bound_from-bound : (p : Problem) (xs : List ℕ) → IsWeighed p → IsWithin p xs → 1 ≤ length xs → bound_from (weight_of p xs) (huff (goal_weights p xs)) (splitting_costs p xs) ≤ bound p xs
unfolding bound
bound_from-bound p xs w within some = elim (cases_Bool (is_end p xs)) [
  | inl e ↦
      (let none = huff-end p xs w within some e in
      let positive = weight-positive p xs w within some in
      let f = ap (λ h. bound_from (weight_of p xs) h (splitting_costs p xs)) none in
      let z = nothing (weight_of p xs) (splitting_costs p xs) positive in
      rw e (omega arith))
  | inr e ↦ rw e (omega arith)
]
  where
    nothing : (w : ℕ) (costs : List ℕ) → 1 ≤ w → bound_from w 0 costs ≡ 0
    nothing w costs h =
        let q : 0 / w ≡ 0 = omega arith in
        let r : 0 % w ≡ 0 = omega arith in
        let a = ap (λ n. w * sum_first n costs) q in
        let b = ap (λ n. n * next_after (0 / w) costs) r in
        omega arith

-- ---- one part of a group ----

-- the part has a class and weighs little; Huffman's cost is at most 255 times its weight; and the bound that is made is at
-- most its bound
pub record PartLeast (inst : Instance) (part : Group) (sums : List ℕ) (cost weight huffman : ℕ) : Type 0 where
  pub few : huffman ≤ weight * 255
  pub low : bound_without sums cost weight huffman ≤ bound (problem_of inst) (members part)
  pub small : bound_without sums cost weight huffman ≤ 2097664000000000000

pub record PartMass (inst : Instance) (part : Group) (m : Mass) : Type 0 where
  pub some : 1 ≤ m.weight
  pub light : m.weight ≤ 4097000000

-- a part of a group, by the classes that pass a condition
module _ (inst : Instance) (g part : Group) (f : ℕ → Bool) (within : IsWithin (problem_of inst) (members g)) (is : members part ≡ filter f (members g)) (any : list_any f (members g) ≡ true) where
  part-within : IsWithin (problem_of inst) (members part)
  part-within c i = within c (filter-IsIn f c (members g) (subst (IsIn c) is i))

  part-some : 1 ≤ length (members part)
  part-some = let l = ap length is in let h = list_any-found f (members g) any in omega arith

  pub part-mass : (m : Mass) → IsMassOf (problem_of inst) (members part) m → PartMass inst part m
  part-mass m mass =
      let w = weight-positive (problem_of inst) (members part) (weighed inst) part-within part-some in
      let l = inst.stands.light part part-within in
      let e = mass.weight in
      record { some = omega arith; light = omega arith }

  pub part-least : (e : Estimate) (m : Mass) (t cost huffman : ℕ) → IsEstimateOf (problem_of inst) (members g) e → t < (problem_of inst).tests → splits (problem_of inst) (members g) t ≡ true → splits (problem_of inst) (filter f (members g)) t ≡ false → cost ≡ (problem_of inst).cost t
      → IsMassOf (problem_of inst) (members part) m → huffman ≤ huff (goal_weights (problem_of inst) (members part)) → PartLeast inst part e.sums cost m.weight huffman
  part-least e m t cost huffman estimate there inside outside ce mass least =
      let p = problem_of inst in
      let w = weight-positive p (members part) (weighed inst) part-within part-some in
      let high : ℕ = huff (goal_weights p (members part)) in
      let we = mass.weight in
      let low : huffman ≤ high = least in
      let count = huff-count p (members part) (weighed inst) inst.valid.told part-within part-some in
      let lengths = long p.cost (splitting p (members part)) in
      let up = length-upward (map p.cost (splitting p (members part))) in
      let many = ap (λ n. weight_of p (members part) * n) (let q : length (splitting p (members part)) ≡ length (splitting_costs p (members part)) = omega arith in q) in
      let all = costs-few inst g in
      let fewer : suc (length (splitting_costs p (members part))) ≤ length (splitting_costs p (members g)) = subst (λ l. suc (length (splitting_costs p l)) ≤ length (splitting_costs p (members g))) (sym is) (fewer-part p (members g) t f there inside outside) in
      let each : (q : ℕ) → q ≤ length (splitting_costs p (members part)) → sum_without e.sums (p.cost t) q ≤ sum_first q (splitting_costs p (members part)) =
      subst (λ l. (q : ℕ) → q ≤ length (splitting_costs p l) → sum_without e.sums (p.cost t) q ≤ sum_first q (splitting_costs p l)) (sym is) (without-part p (members g) t f there inside outside e.sums estimate.sums all) in
      let b1 = bound_without-le (weight_of p (members part)) high huffman (p.cost t) e.sums (splitting_costs p (members part)) w low (omega arith) each in
      let b2 = bound_from-bound p (members part) (weighed inst) part-within part-some in
      let b3 = ap (λ c. bound_without e.sums c m.weight huffman) ce ∙ ap (λ n. bound_without e.sums (p.cost t) n huffman) we in
      let b4 = bound-small inst part part-within in
      let m255 : weight_of p (members part) * length (splitting_costs p (members part)) ≤ weight_of p (members part) * 255 = mul-le-mul_left (weight_of p (members part)) (let q : length (splitting_costs p (members part)) ≤ 255 = omega arith in q) in
      let mw = ap (λ n. n * 255) we in
      record { few = omega arith; low = omega arith; small = omega arith }
    where
      long : (f : ℕ → ℕ) (xs : List ℕ) → length (map f xs) ≡ length xs
      long f [] = refl
      long f (x ∷ xs) = ap suc (long f xs)

-- the two parts that a test makes
module _ (inst : Instance) (g part : Group) (t : ℕ) (within : IsWithin (problem_of inst) (members g)) (there : t < (problem_of inst).tests) (inside : splits (problem_of inst) (members g) t ≡ true) where
  passing : list_any ((problem_of inst).passes t) (members g) ≡ true
  passing = (and_parts (list_any ((problem_of inst).passes t) (members g)) (list_any (fails (problem_of inst) t) (members g)) inside).0

  failing : list_any (fails (problem_of inst) t) (members g) ≡ true
  failing = (and_parts (list_any ((problem_of inst).passes t) (members g)) (list_any (fails (problem_of inst) t) (members g)) inside).1

  pub pass-mass : members part ≡ pass_part (problem_of inst) t (members g) → (m : Mass) → IsMassOf (problem_of inst) (members part) m → PartMass inst part m
  pass-mass is m mass = part-mass inst g part ((problem_of inst).passes t) within is passing m mass

  pub fail-mass : members part ≡ fail_part (problem_of inst) t (members g) → (m : Mass) → IsMassOf (problem_of inst) (members part) m → PartMass inst part m
  fail-mass is m mass = part-mass inst g part (fails (problem_of inst) t) within is failing m mass

  pub pass-least : members part ≡ pass_part (problem_of inst) t (members g) → (e : Estimate) (m : Mass) (cost huffman : ℕ) → IsEstimateOf (problem_of inst) (members g) e → cost ≡ (problem_of inst).cost t
      → IsMassOf (problem_of inst) (members part) m → huffman ≤ huff (goal_weights (problem_of inst) (members part)) → PartLeast inst part e.sums cost m.weight huffman
  pass-least is e m cost huffman estimate ce mass least = part-least inst g part ((problem_of inst).passes t) within is passing e m t cost huffman estimate there inside (not_again-pass (problem_of inst) t (members g)) ce mass least

  pub fail-least : members part ≡ fail_part (problem_of inst) t (members g) → (e : Estimate) (m : Mass) (cost huffman : ℕ) → IsEstimateOf (problem_of inst) (members g) e → cost ≡ (problem_of inst).cost t
      → IsMassOf (problem_of inst) (members part) m → huffman ≤ huff (goal_weights (problem_of inst) (members part)) → PartLeast inst part e.sums cost m.weight huffman
  fail-least is e m cost huffman estimate ce mass least = part-least inst g part (fails (problem_of inst) t) within is failing e m t cost huffman estimate there inside (not_again-fail (problem_of inst) t (members g)) ce mass least

-- the mass of the group is the masses of its parts together
pub mass-parts : (inst : Instance) (g pass fail : Group) (t : ℕ) (m : Mass) → IsMassOf (problem_of inst) (members g) m → members pass ≡ pass_part (problem_of inst) t (members g) → members fail ≡ fail_part (problem_of inst) t (members g)
    → (m.classes ≡ length (members pass) + length (members fail)) × (m.weight ≡ weight_of (problem_of inst) (members pass) + weight_of (problem_of inst) (members fail)) × (m.potential ≡ potentials (problem_of inst) (members pass) + potentials (problem_of inst) (members fail))
mass-parts inst g pass fail t m mass pe fe =
    let p = problem_of inst in
    let w = mass.weight in
    let v = mass.potential in
    let a = weight_of-parts p t (members g) in
    let b = potentials-parts p t (members g) in
    let c1 = ap (weight_of p) pe in
    let c2 = ap (weight_of p) fe in
    let d1 = ap (potentials p) pe in
    let d2 = ap (potentials p) fe in
    let n = mass.classes in
    let e0 = length-parts p t (members g) in
    let e1 = ap length pe in
    let e2 = ap length fe in
    (omega arith, omega arith, omega arith)

-- the sum of a test fits, and is at most the sum over the bounds of its parts
pub record LeastSum (inst : Instance) (g : Group) (test cost weight pass fail : ℕ) : Type 0 where
  pub product : cost * weight ≤ 4097000000000000
  pub low : cost * weight + (pass + fail) ≤ step_sum (problem_of inst) (bound (problem_of inst)) (members g) test

pub least-sum : (inst : Instance) (g pass_group fail_group : Group) (test cost weight pass fail : ℕ) → IsWithin (problem_of inst) (members g) → test < (problem_of inst).tests → cost ≡ (problem_of inst).cost test → weight ≡ weight_of (problem_of inst) (members g)
    → members pass_group ≡ pass_part (problem_of inst) test (members g) → members fail_group ≡ fail_part (problem_of inst) test (members g) → pass ≤ bound (problem_of inst) (members pass_group) → fail ≤ bound (problem_of inst) (members fail_group) → LeastSum inst g test cost weight pass fail
least-sum inst g pass_group fail_group test cost weight pass fail within there ce we pe fe ple fle =
    let p = problem_of inst in
    let l = inst.stands.light g within in
    let c = (inst.valid.costs test there).1 in
    let m = product-le cost weight 1000000 4097000000 (omega arith) (omega arith) in
    let e = ap (λ n. n * weight) ce ∙ ap (λ n. p.cost test * n) we in
    let a = ap (bound p) pe in
    let b = ap (bound p) fe in
    record { product = omega arith; low = omega arith }
