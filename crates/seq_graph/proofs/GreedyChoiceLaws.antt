-- Greedy's test is found by few sums: a test whose estimate is above a sum that is known comes later than that sum's test. And
-- what that test and greedy's costs of its parts add up to.
use Rattle.std.proofs.Common.{◌≡◌, ℕ, zero, suc, ◌+◌, ◌*◌, ◌<◌, ◌≤◌, ◌≢◌, List, [], ◌∷◌, length, set, refl, sym, ap, ◌∙◌, arith, subst, inl, inr, Option, Some, None}
use Rattle.std.specs.Prelude.{⊤, ◌⊎◌, Bool, true, false, cond, filter, nat_le, slice_index}
use Rattle.std.proofs.Math.ListN.{length-set}
use Rattle.std.proofs.lemmas.Bool.{cases_Bool, cases_lt, le-leb, lt-leb, true≢false}
use Rattle.std.proofs.lemmas.List.{get_or-set_same, get_or-set_other}
use Rattle.seq_theory.specs.Problem.{Problem, IsIn, IsWithin, AreTold, count_up, splits, splitting, weight_of, is_end, pass_part, fail_part}
use Rattle.seq_theory.specs.Bound.{bound, step_sum}
use Rattle.seq_theory.specs.Greedy.{first_least, greedy_test, greedy_cost}
use Rattle.seq_theory.proofs.GroupLaws.{filter-IsIn, IsIn-filter}
use Rattle.seq_theory.proofs.LeastLaws.{IsIn-count_up, count_up-IsIn}
use Rattle.seq_theory.proofs.GreedyLaws.{greedy_test_splits}
use Rattle.seq_theory.proofs.PartsRecursion.{splitting-splits, splitting-there}
use Rattle.seq_inst.specs.declared.group.Group.{Group}
use Rattle.seq_inst.specs.declared.instance.Instance.{Instance}
use Rattle.seq_inst.specs.Members.{members}
use Rattle.seq_inst.specs.Instances.{problem_of}
use Rattle.seq_huff.specs.Bounds.{greatest_cost}
use Rattle.seq_theory.proofs.BelowLaws.{product-le}
use Rattle.seq_theory.proofs.GreedyParts.{greedy_parts}
use Rattle.seq_graph.specs.declared.greedy.Chosen.{Chosen}
use Rattle.seq_graph.specs.GreedyChoice.{IsNoLater, IsTestWithSum, evaluated}
use Rattle.seq_graph.specs.Numbered.{Numbered, KeepsNumberRoom, AreNumbers, KeepsNumbers}

-- ---- which comes first ----

pub no_later-both : (a b c : Chosen) → IsNoLater a b → IsNoLater b c → IsNoLater a c
no_later-both a b c ab bc = record {
  least = (let l = ab.least in let m = bc.least in omega arith);
  lowest = λ e. (let l = ab.least in let m = bc.least in let t = ab.lowest (omega arith) in let u = bc.lowest (omega arith) in omega arith);
}

-- each number of the list is below all later ones
abbrev IsUpward : List ℕ → Type 0
IsUpward [] = ⊤
IsUpward (x ∷ xs) = ((t : ℕ) → IsIn t xs → x < t) × IsUpward xs

upward-filter : (f : ℕ → Bool) (from n : ℕ) → IsUpward (filter f (count_up from n))
upward-filter f from zero = tt
upward-filter f from (suc n) = elim (cases_Bool (f from)) [
  | inl y ↦ rw y ((λ t i. let w = (count_up-IsIn t (suc from) n (filter-IsIn f t (count_up (suc from) n) i)).0 in omega arith), upward-filter f (suc from) n)
  | inr m ↦ rw m (upward-filter f (suc from) n)
]

either-in : (b : Bool) (x m : ℕ) (xs : List ℕ) → IsIn m xs → IsIn (cond b x m) (x ∷ xs)
either-in true x m xs i = inl refl
either-in false x m xs i = inr i

first-in : (f : ℕ → ℕ) (x : ℕ) (xs : List ℕ) → IsIn (first_least f (x ∷ xs)) (x ∷ xs)
first-in f x [] = inl refl
first-in f x (y ∷ rest) = either-in (nat_le (f x) (f (first_least f (y ∷ rest)))) x (first_least f (y ∷ rest)) (y ∷ rest) (first-in f y rest)

abbrev chosen_at : (ℕ → ℕ) → ℕ → Chosen
chosen_at f t = record { test = t; sum = f t }

less : (a b c t : ℕ) → a ≤ b → (a ≡ b → c ≤ t) → t < c → a < b
less a b c t le tie lt = elim (cases_lt a b) [
  | inl l ↦ l
  | inr ge ↦ absurd (let k = tie (omega arith) in let bad : ⊥ = omega arith in bad)
]

-- in a list upwards the first of least value is the one that comes no later than any
first-pick : (f : ℕ → ℕ) (xs : List ℕ) (c : ℕ) → IsIn c xs → IsUpward xs → ((t : ℕ) → IsIn t xs → IsNoLater (chosen_at f c) (chosen_at f t)) → c ≡ first_least f xs
first-pick f [] c i up all = absurd i
first-pick f (x ∷ []) c i up all = elim i [ inl e ↦ sym e | inr bad ↦ absurd bad ]
first-pick f (x ∷ y ∷ rest) c i up all = elim i [
  | inl e ↦
      (let m = first_least f (y ∷ rest) in
      let l : f c ≤ f m = (all m (inr (first-in f y rest))).least in
      let le : f x ≤ f m = subst (λ k. f k ≤ f m) (sym e) l in
      sym e ∙ sym (ap (λ b. cond b x m) (le-leb (f x) (f m) le)))
  | inr later ↦
      (let m = first_least f (y ∷ rest) in
      let same : c ≡ m = first-pick f (y ∷ rest) c later up.1 (λ t j. all t (inr j)) in
      let h = all x (inl refl) in
      let lt : f c < f x = less (f c) (f x) c x h.least h.lowest (up.0 c later) in
      let under : f m < f x = subst (λ k. f k < f x) same lt in
      same ∙ sym (ap (λ b. cond b x m) (lt-leb (f x) (f m) under)))
]

-- so it is with the tests that split a group
pub first-pick-up : (p : Problem) (group : List ℕ) (f : ℕ → ℕ) (c : ℕ) → IsIn c (splitting p group) → ((t : ℕ) → IsIn t (splitting p group) → IsNoLater (record { test = c; sum = f c }) (record { test = t; sum = f t })) → c ≡ first_least f (splitting p group)
first-pick-up p group f c i all = first-pick f (splitting p group) c i (upward-filter (splits p group) 0 p.tests) all

pub splitting-in : (p : Problem) (group : List ℕ) (t : ℕ) → t < p.tests → splits p group t ≡ true → IsIn t (splitting p group)
splitting-in p group t there e = IsIn-filter (splits p group) t (count_up 0 p.tests) (IsIn-count_up t 0 p.tests (omega arith) (omega arith)) e

pub chosen-greedy : (p : Problem) (group : List ℕ) (c : Chosen) → IsTestWithSum p group c → ((t : ℕ) → t < p.tests → splits p group t ≡ true → IsNoLater c (evaluated p group t)) → c.test ≡ greedy_test p group
unfolding greedy_test
chosen-greedy p group c is all = first-pick (step_sum p (bound p) group) (splitting p group) c.test is.test (upward-filter (splits p group) 0 p.tests)
    (λ t i. (let h = all t (splitting-there p group t i) (splitting-splits p group t i) in record {
      least = (let l = h.least in let s = is.sum in omega arith);
      lowest = λ e. h.lowest (is.sum ∙ e);
    }))

-- ---- the loop over the estimates ----

abbrev pub LeastIn : Problem → List ℕ → ℕ → Option Chosen → Type 0
LeastIn p group k None = (t : ℕ) → t < k → splits p group t ≡ true → ⊥
LeastIn p group k (Some c) = IsIn c.test (splitting p group)

-- the tests below a number have estimates, and the least so far is that of a splitting test, if there is one
pub record EstimatedSoFar (p : Problem) (group : List ℕ) (k : ℕ) (of_tests : List ℕ) (least : Option Chosen) : Type 0 where
  pub many : length of_tests ≡ 256
  pub low : (t : ℕ) → t < k → splits p group t ≡ true → slice_index of_tests t ≤ step_sum p (bound p) group t
  pub is_least : LeastIn p group k least

module _ (p : Problem) (group : List ℕ) where
  pub estimated-none : (of_tests : List ℕ) → length of_tests ≡ 256 → EstimatedSoFar p group 0 of_tests None
  estimated-none of_tests many = record {
    many = many;
    low = λ t lt. absurd (let bad : ⊥ = omega arith in bad);
    is_least = λ t lt e. (let bad : ⊥ = omega arith in bad);
  }

  pub estimated-more : (k n : ℕ) (of_tests more : List ℕ) (least : Option Chosen) (c : Chosen) → EstimatedSoFar p group k of_tests least → k < length of_tests → k < p.tests → splits p group k ≡ true → n ≤ step_sum p (bound p) group k
      → more ≡ set of_tests k n → (least ≡ Some c) ⊎ (c ≡ record { test = k; sum = n }) → EstimatedSoFar p group (k + 1) more (Some c)
  estimated-more k n of_tests more least c i room there split low e either = record {
    many = ap length e ∙ length-set of_tests k n ∙ i.many;
    low = λ t lt s. subst (λ l. slice_index l t ≤ step_sum p (bound p) group t) (sym e) (elim (cases_lt t k) [
      | inl l ↦ (let ne : t ≢ k = omega arith in subst (λ m. m ≤ step_sum p (bound p) group t) (sym (get_or-set_other of_tests k t n 0 ne)) (i.low t l s))
      | inr ge ↦
          (let same : t ≡ k = omega arith in
          subst (λ u. slice_index (set of_tests k n) u ≤ step_sum p (bound p) group u) (sym same) (subst (λ m. m ≤ step_sum p (bound p) group k) (sym (get_or-set_same of_tests k n 0 room)) low))
    ]);
    is_least = elim either [
      | inl old ↦ subst (LeastIn p group k) old i.is_least
      | inr new ↦ subst (λ (d : Chosen). IsIn d.test (splitting p group)) (sym new) (splitting-in p group k there split)
    ];
  }

  pub estimated-same : (k : ℕ) (of_tests more : List ℕ) (least after : Option Chosen) → EstimatedSoFar p group k of_tests least → splits p group k ≡ false → more ≡ of_tests → after ≡ least → EstimatedSoFar p group (k + 1) more after
  estimated-same k of_tests more least after i other e f = subst (λ l. EstimatedSoFar p group (k + 1) l after) (sym e) (subst (EstimatedSoFar p group (k + 1) of_tests) (sym f) (record {
    many = i.many;
    low = λ t lt s. i.low t (below t lt s) s;
    is_least = still least i.is_least;
  }))
    where
      below : (t : ℕ) → t < k + 1 → splits p group t ≡ true → t < k
      below t lt s = elim (cases_lt t k) [
        | inl l ↦ l
        | inr ge ↦ absurd (let same : t ≡ k = omega arith in true≢false (sym s ∙ ap (splits p group) same ∙ other))
      ]

      still : (o : Option Chosen) → LeastIn p group k o → LeastIn p group (k + 1) o
      still None h = λ t lt s. h t (below t lt s) s
      still (Some c) h = h

  -- some test splits a group of two goals or more, so there is a least
  pub estimated-some : (k : ℕ) (of_tests : List ℕ) → AreTold p → IsWithin p group → is_end p group ≡ false → k ≡ p.tests → EstimatedSoFar p group k of_tests None → ⊥
  estimated-some k of_tests told within more e i =
      let s = greedy_test_splits p group told within more in
      let there = splitting-there p group (greedy_test p group) s in
      i.is_least (greedy_test p group) (omega arith) (splitting-splits p group (greedy_test p group) s)

-- ---- the loop over the tests ----

pub number_room-both : (a b c : Numbered) → KeepsNumberRoom a b → KeepsNumberRoom b c → KeepsNumberRoom a c
number_room-both a b c ab bc = record { all = bc.all ∙ ab.all; held = bc.held ∙ ab.held }

-- what is chosen comes no later than the tests below a number
pub record FirstSoFar (p : Problem) (group : List ℕ) (before v : Numbered) (k : ℕ) (c : Chosen) : Type 0 where
  pub numbers : AreNumbers p v
  pub keeps : KeepsNumbers before v
  pub room : KeepsNumberRoom before v
  pub is : IsTestWithSum p group c
  pub each : (t : ℕ) → t < k → splits p group t ≡ true → IsNoLater c (evaluated p group t)

pub first-none : (p : Problem) (group : List ℕ) (v : Numbered) (c : Chosen) → AreNumbers p v → IsTestWithSum p group c → FirstSoFar p group v v 0 c
first-none p group v c are is = record {
  numbers = are;
  keeps = λ g n e. e;
  room = record { all = refl; held = refl };
  is = is;
  each = λ t lt. absurd (let bad : ⊥ = omega arith in bad);
}

pub first-more : (p : Problem) (group : List ℕ) (before old new : Numbered) (k : ℕ) (c d : Chosen) → FirstSoFar p group before old k c → AreNumbers p new → KeepsNumbers old new → KeepsNumberRoom old new → IsTestWithSum p group d → IsNoLater d c
    → (splits p group k ≡ true → IsNoLater d (evaluated p group k)) → FirstSoFar p group before new (k + 1) d
first-more p group before old new k c d i are keeps same is dc last = record {
  numbers = are;
  keeps = λ g n e. keeps g n (i.keeps g n e);
  room = number_room-both before old new i.room same;
  is = is;
  each = λ t lt s. elim (cases_lt t k) [
    | inl l ↦ no_later-both d c (evaluated p group t) dc (i.each t l s)
    | inr ge ↦
        (let it : t ≡ k = omega arith in
        subst (λ u. IsNoLater d (evaluated p group u)) (sym it) (last (sym (ap (splits p group) it) ∙ s)))
  ];
}

-- one of two that were evaluated was evaluated
pub either-evaluated : (p : Problem) (group : List ℕ) (c d r : Chosen) → (r ≡ c) ⊎ (r ≡ d) → IsTestWithSum p group c → IsTestWithSum p group d → IsTestWithSum p group r
either-evaluated p group c d r either ic id = elim either [
  | inl e ↦ subst (IsTestWithSum p group) (sym e) ic
  | inr e ↦ subst (IsTestWithSum p group) (sym e) id
]

-- ---- sums ----

pub sum-fits : (inst : Instance) (g : Group) (cost weight test : ℕ) → IsWithin (problem_of inst) (members g) → test < (problem_of inst).tests → cost ≡ (problem_of inst).cost test → weight ≡ weight_of (problem_of inst) (members g) → cost * weight ≤ 4097000000000000
sum-fits inst g cost weight test within there c w =
    let most = (inst.valid.costs test there).1 in
    let l = inst.stands.light g within in
    product-le cost weight 1000000 4097000000 (omega arith) (omega arith)

-- what greedy's first test and its costs of both parts add up to
pub record GreedyStep (inst : Instance) (g : Group) (cost weight rest : ℕ) : Type 0 where
  pub product : cost * weight ≤ 4097000000000000
  pub value : cost * weight + rest ≡ greedy_cost (problem_of inst) (members g)
  pub small : cost * weight + rest ≤ greatest_cost

pub greedy-step : (inst : Instance) (g pass fail : Group) (test cost weight a b : ℕ) → IsWithin (problem_of inst) (members g) → is_end (problem_of inst) (members g) ≡ false → test ≡ greedy_test (problem_of inst) (members g)
    → members pass ≡ pass_part (problem_of inst) test (members g) → members fail ≡ fail_part (problem_of inst) test (members g) → cost ≡ (problem_of inst).cost test → weight ≡ weight_of (problem_of inst) (members g)
    → a ≡ greedy_cost (problem_of inst) (members pass) → b ≡ greedy_cost (problem_of inst) (members fail) → GreedyStep inst g cost weight (a + b)
greedy-step inst g pass fail test cost weight a b within more is pe fe c w ea eb =
    let p = problem_of inst in
    let parts = greedy_parts p (members g) (members pass) (members fail) test inst.valid.told within more is pe fe in
    let product = ap (λ x. x * weight) c ∙ ap (λ x. p.cost test * x) w in
    let total = parts.cost in
    let value : cost * weight + (a + b) ≡ greedy_cost p (members g) = omega arith in
    let s = inst.stands.greedy_fits g within in
    record {
      product = sum-fits inst g cost weight test within parts.there c w;
      value = value;
      small = subst (λ n. n ≤ greatest_cost) (sym value) s;
    }
