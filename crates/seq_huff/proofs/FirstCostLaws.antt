-- The costs of the splitting tests, in an order in which the costs of all tests are upwards, are those costs upwards: a
-- filter keeps the order, and what is summed over the tests that pass it does not depend on the order.
use Rattle.std.proofs.Common.{◌≡◌, ℕ, zero, suc, ◌+◌, ◌-◌, ◌<◌, ◌≤◌, List, [], ◌∷◌, length, get_or, drop, refl, sym, ap, ◌∙◌, arith, inl, inr}
use Rattle.std.specs.Prelude.{Bool, true, false, cond, filter, map, IsPermutation}
use Rattle.std.proofs.lemmas.Bool.{cases_Bool}
use Rattle.std.proofs.lemmas.List.{drop_more, drop_all, get_or_read}
use Rattle.std.proofs.lemmas.List.Kept.{IsNonDecreasingBy-filter}
use Rattle.seq_theory.specs.Problem.{Problem, IsWithin, is_end, count_up, splits, splitting}
use Rattle.seq_theory.specs.Huffman.{upward}
use Rattle.seq_theory.specs.Bound.{sum_first, next_after, splitting_costs}
use Rattle.seq_theory.proofs.UpwardLaws.{IsUp-upward}
use Rattle.seq_theory.proofs.HuffmanLaws.{total, total-upward, same_upward, upward-IsPermutation}
use Rattle.seq_inst.specs.declared.group.Group.{Group}
use Rattle.seq_inst.specs.declared.instance.Instance.{Instance}
use Rattle.seq_inst.specs.Members.{members}
use Rattle.seq_inst.specs.Instances.{problem_of}
use Rattle.seq_huff.specs.Orders.{IsUpwardBy}
use Rattle.seq_huff.proofs.BoundFits.{bound-fits}
use Rattle.seq_huff.proofs.CountedLaws.{counted-length, counted-below}
use Rattle.seq_huff.proofs.SortLaws.{IsUp-values}

-- the costs of those of the tests that split the group
abbrev pub costs_among : Problem → List ℕ → List ℕ → List ℕ
costs_among p group tests = map p.cost (filter (splits p group) tests)

total-passing : (f v : ℕ → ℕ) (h : ℕ → Bool) (xs : List ℕ) → total f (map v (filter h xs)) ≡ total (λ x. cond (h x) (f (v x)) 0) xs
total-passing f v h [] = refl
total-passing f v h (x ∷ xs) = elim (cases_Bool (h x)) [
  | inl y ↦ rw y (ap (λ n. f (v x) + n) (total-passing f v h xs))
  | inr n ↦ rw n (let e = total-passing f v h xs in omega arith)
]

total-order : (f : ℕ → ℕ) (xs ys : List ℕ) → IsPermutation xs ys → total f ys ≡ total f xs
total-order f xs ys same = sym (total-upward f ys) ∙ ap (total f) (sym (upward-IsPermutation xs ys same)) ∙ total-upward f xs

pub costs-upward : (p : Problem) (group tests : List ℕ) → IsUpwardBy p.tests p.cost tests → costs_among p group tests ≡ splitting_costs p group
costs-upward p group tests order =
    let h : ℕ → Bool = splits p group in
    let costs : List ℕ = map p.cost (splitting p group) in
    same_upward (costs_among p group tests) (upward costs)
    (IsUp-values p.cost (filter h tests) (IsNonDecreasingBy-filter p.cost h tests order.rising))
    (IsUp-upward costs)
    (λ f.
    let one : ℕ → ℕ = λ t. cond (h t) (f (p.cost t)) 0 in
    total-passing f p.cost h tests ∙ total-order one (count_up 0 p.tests) tests order.each_once
    ∙ sym (total-upward f costs ∙ total-passing f p.cost h (count_up 0 p.tests)))

-- a walk over the tests: what the first costs sum to, and which is next, is what was summed and what the tests from here on
-- give
pub record Counted (p : Problem) (group tests : List ℕ) (count place summed left : ℕ) : Type 0 where
  pub sums : sum_first count (costs_among p group tests) ≡ summed + sum_first left (costs_among p group (drop place tests))
  pub next : next_after count (costs_among p group tests) ≡ next_after left (costs_among p group (drop place tests))

pub counted-none : (p : Problem) (group tests : List ℕ) (count : ℕ) → Counted p group tests count 0 0 count
counted-none p group tests count = record { sums = omega arith; next = refl }

module _ (p : Problem) (group tests : List ℕ) (count place summed left : ℕ) (c : Counted p group tests count place summed left) where
  rest_out : place < length tests → splits p group (get_or tests place 0) ≡ false → costs_among p group (drop place tests) ≡ costs_among p group (drop (place + 1) tests)
  rest_out lt out = ap (costs_among p group) (drop_more tests place 0 lt) ∙ rw out refl

  rest_in : place < length tests → splits p group (get_or tests place 0) ≡ true → costs_among p group (drop place tests) ≡ p.cost (get_or tests place 0) ∷ costs_among p group (drop (place + 1) tests)
  rest_in lt inside = ap (costs_among p group) (drop_more tests place 0 lt) ∙ rw inside refl

  -- a test that doesn't split
  pub counted-out : place < length tests → splits p group (get_or tests place 0) ≡ false → Counted p group tests count (place + 1) summed left
  counted-out lt out = record {
    sums = c.sums ∙ ap (λ l. summed + sum_first left l) (rest_out lt out);
    next = c.next ∙ ap (next_after left) (rest_out lt out);
  }

  -- a test that splits, and its cost counts
  pub counted-in : (cost : ℕ) → place < length tests → splits p group (get_or tests place 0) ≡ true → cost ≡ p.cost (get_or tests place 0) → 0 < left → Counted p group tests count (place + 1) (summed + cost) (left - 1)
  counted-in cost lt inside is some =
      let more : left ≡ suc (left - 1) = omega arith in
      let s = c.sums ∙ ap (λ l. summed + sum_first left l) (rest_in lt inside) ∙ ap (λ n. summed + sum_first n (p.cost (get_or tests place 0) ∷ costs_among p group (drop (place + 1) tests))) more in
      record {
        sums = omega arith;
        next = c.next ∙ ap (next_after left) (rest_in lt inside) ∙ ap (λ n. next_after n (p.cost (get_or tests place 0) ∷ costs_among p group (drop (place + 1) tests))) more;
      }

  -- a test that splits, after all that count
  pub counted-now : (cost : ℕ) → place < length tests → splits p group (get_or tests place 0) ≡ true → cost ≡ p.cost (get_or tests place 0) → left ≡ 0 → (summed ≡ sum_first count (costs_among p group tests)) × (cost ≡ next_after count (costs_among p group tests))
  counted-now cost lt inside is none =
      let s = c.sums ∙ ap (λ n. summed + sum_first n (costs_among p group (drop place tests))) none in (
        omega arith,
        is ∙ sym (c.next ∙ ap (λ n. next_after n (costs_among p group (drop place tests))) none ∙ ap (next_after 0) (rest_in lt inside)),
      )

  -- no test is left
  pub counted-all : length tests ≤ place → (summed ≡ sum_first count (costs_among p group tests)) × (0 ≡ next_after count (costs_among p group tests))
  counted-all le =
      let none = ap (costs_among p group) (drop_all place tests le) in
      let s = c.sums ∙ ap (λ l. summed + sum_first left l) none in
      let z = sum_none left in
      (omega arith, sym (c.next ∙ ap (next_after left) none ∙ next_none left))
    where
      sum_none : (n : ℕ) → sum_first n [] ≡ 0
      sum_none zero = refl
      sum_none (suc n) = refl

      next_none : (n : ℕ) → next_after n [] ≡ 0
      next_none zero = refl
      next_none (suc n) = refl

-- the test that the walk reads
pub record TestAt (p : Problem) (tests : List ℕ) (place test : ℕ) : Type 0 where
  pub here : place < length tests
  pub is : test ≡ get_or tests place 0
  pub there : test < p.tests

pub test-at : (p : Problem) (tests : List ℕ) (place test : ℕ) → IsUpwardBy p.tests p.cost tests → place < length tests → test ≡ get_or tests place test → TestAt p tests place test
test-at p tests place test order lt read =
    let long = counted-length p.tests tests order.each_once in
    let below = counted-below p.tests tests order.each_once place (omega arith) in
    let is = get_or_read tests place test lt read 0 in
    record { here = lt; is = is; there = omega arith }

-- what the walk has summed is small
pub counted-small : (inst : Instance) (g : Group) (tests : List ℕ) (count place summed left : ℕ) → IsWithin (problem_of inst) (members g) → is_end (problem_of inst) (members g) ≡ false → IsUpwardBy (problem_of inst).tests (problem_of inst).cost tests → Counted (problem_of inst) (members g) tests count place summed left → summed ≤ 256000000
counted-small inst g tests count place summed left within more order c =
    let p = problem_of inst in
    let f = (bound-fits inst g (splitting_costs p (members g)) within more refl).first count in
    let e = ap (sum_first count) (costs-upward p (members g) tests order) in
    let s = c.sums in
    omega arith
