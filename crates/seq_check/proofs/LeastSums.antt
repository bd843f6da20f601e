-- The least sum over the splitting tests, test by test.
use Rattle.std.proofs.Common.{◌≡◌, ℕ, ◌+◌, ◌*◌, ◌<◌, ◌≤◌, List, [], ◌∷◌, map, refl, sym, ap, subst, ◌∙◌, arith, inl, inr, ◌⊎◌}
use Rattle.std.specs.Prelude.{Bool, true, false, cond, nat_le, filter, unwrap_or, Option}
use Rattle.std.proofs.lemmas.Bool.{cases_lt, false≢true, true≢false, leb-true, leb-false}
use Rattle.std.proofs.lemmas.Bool.Decides.{nat_tests}
use Rattle.seq_theory.specs.Problem.{Problem, IsIn, count_up, pass_part, fail_part, weight_of, is_end, splits, splitting, least_of}
use Rattle.seq_theory.specs.Bound.{bound, step_sum}
use Rattle.seq_theory.specs.Claims.{Claim, claim_of, claimed}
use Rattle.seq_theory.proofs.GroupLaws.{IsIn-filter, filter-IsIn, filter_passes}
use Rattle.seq_theory.proofs.LeastLaws.{IsIn-count_up, count_up-IsIn, least_of-le, least_of-found}
use Rattle.seq_check.specs.GroupLooks.{most_claimed}

-- of the tests below n: each that splits has at least this sum; and whether some test splits
pub record Sums (p : Problem) (l : List ℕ → ℕ) (group : List ℕ) (low n : ℕ) (some : Bool) : Type 0 where
  pub each : (t : ℕ) → t < n → splits p group t ≡ true → low ≤ step_sum p l group t
  pub there : some ≡ true → (t : ℕ) × (t < p.tests) × (splits p group t ≡ true)
  pub none : some ≡ false → (t : ℕ) → t < n → splits p group t ≡ false

at_least : (f : ℕ → ℕ) (low : ℕ) (xs : List ℕ) (x : ℕ) → IsIn x xs → ((y : ℕ) → IsIn y xs → low ≤ f y) → low ≤ least_of (map f xs)
at_least f low [] x i h = absurd i
at_least f low (y ∷ ys) x i h = let r = least_of-found f y ys in let g = h r.0 r.1 in let e = r.2 in omega arith

is_in_splitting : (p : Problem) (group : List ℕ) (t : ℕ) → t < p.tests → splits p group t ≡ true → IsIn t (splitting p group)
is_in_splitting p group t lt s = IsIn-filter (splits p group) t (count_up 0 p.tests) (IsIn-count_up t 0 p.tests (omega arith) (omega arith)) s

le-true : (a b : ℕ) → a ≤ b → true ≡ nat_le a b
le-true a b le = grind (arith, nat_tests)

lt-false : (a b : ℕ) → b < a → false ≡ nat_le a b
lt-false a b lt = grind (arith, nat_tests)

no_tests : (f : ℕ → Bool) (xs : List ℕ) → ((t : ℕ) → IsIn t xs → f t ≡ false) → filter f xs ≡ []
no_tests f [] h = refl
no_tests f (x ∷ xs) h = rw (h x (inl refl)) (no_tests f xs (λ t i. h t (inr i)))

module _ (p : Problem) (claims : List Claim) (group : List ℕ) (low : ℕ) where
  pub by_bound : low ≤ bound p group → true ≡ nat_le low (most_claimed p claims group)
  by_bound le = le-true low (most_claimed p claims group) (omega arith)

  pub some_below : (t : ℕ) → bound p group < low → t < p.tests → splits p group t ≡ true → nat_le low (step_sum p (claimed p claims) group t) ≡ false → false ≡ nat_le low (most_claimed p claims group)
  some_below t above there s below =
      let lt : step_sum p (claimed p claims) group t < low = leb-false low (step_sum p (claimed p claims) group t) below in
      let l = least_of-le (step_sum p (claimed p claims) group) t (splitting p group) (is_in_splitting p group t there s) in
      lt-false low (most_claimed p claims group) (omega arith)

  pub in_the_end : (n : ℕ) (some : Bool) → bound p group < low → p.tests ≤ n → Sums p (claimed p claims) group low n some → some ≡ nat_le low (most_claimed p claims group)
  in_the_end n true above le s =
      let t = s.there refl in
      let each : low ≤ least_of (map (step_sum p (claimed p claims) group) (splitting p group)) =
      at_least (step_sum p (claimed p claims) group) low (splitting p group) t.0 (is_in_splitting p group t.0 t.1 t.2)
      (λ y i. s.each y (let r = count_up-IsIn y 0 p.tests (filter-IsIn (splits p group) y (count_up 0 p.tests) i) in let lt = r.1 in omega arith) (filter_passes (splits p group) y (count_up 0 p.tests) i)) in
      le-true low (most_claimed p claims group) (omega arith)
  in_the_end n false above le s =
      let e : splitting p group ≡ [] = no_tests (splits p group) (count_up 0 p.tests) (λ t i. let r = count_up-IsIn t 0 p.tests i in let lt = r.1 in s.none refl t (omega arith)) in
      let z : least_of (map (step_sum p (claimed p claims) group) (splitting p group)) ≡ 0 = ap (λ xs. least_of (map (step_sum p (claimed p claims) group) xs)) e in
      lt-false low (most_claimed p claims group) (omega arith)

module _ (p : Problem) (l : List ℕ → ℕ) (group : List ℕ) (low : ℕ) where
  pub sums_none : Sums p l group low 0 false
  sums_none = record { each = λ t lt s. absurd (let bad : ⊥ = omega arith in bad); there = λ e. absurd (false≢true e); none = λ e t lt. absurd (let bad : ⊥ = omega arith in bad) }

  pub sums_more : (n : ℕ) (some : Bool) → n < p.tests → splits p group n ≡ true → nat_le low (step_sum p l group n) ≡ true → Sums p l group low n some → Sums p l group low (n + 1) true
  sums_more n some lt s reached so_far = record {
    each = λ t below st. elim (at_or_below t n below) [ inl e ↦ subst (λ k. low ≤ step_sum p l group k) e (leb-true low (step_sum p l group n) reached) | inr b ↦ so_far.each t b st ];
    there = λ e. (n, lt, s);
    none = λ e. absurd (true≢false e);
  }
    where
      at_or_below : (t n : ℕ) → t < n + 1 → (n ≡ t) ⊎ (t < n)
      at_or_below t n lt = elim (cases_lt t n) [ inl below ↦ inr below | inr ge ↦ (let e : n ≡ t = omega arith in inl e) ]

  pub sums_same : (n : ℕ) (some : Bool) → splits p group n ≡ false → Sums p l group low n some → Sums p l group low (n + 1) some
  sums_same n some s so_far = record {
    each = λ t below st. elim (at_or_below t n below) [ inl e ↦ absurd (true≢false (sym st ∙ (sym (ap (splits p group) e) ∙ s))) | inr b ↦ so_far.each t b st ];
    there = so_far.there;
    none = λ e t below. elim (at_or_below t n below) [ inl e' ↦ (sym (ap (splits p group) e') ∙ s) | inr b ↦ so_far.none e t b ];
  }
    where
      at_or_below : (t n : ℕ) → t < n + 1 → (n ≡ t) ⊎ (t < n)
      at_or_below t n lt = elim (cases_lt t n) [ inl below ↦ inr below | inr ge ↦ (let e : n ≡ t = omega arith in inl e) ]

-- where both parts of a test count at least their bounds, a low that is at most the sum over the bounds is reached
pub bounds_reach : (p : Problem) (claims : List Claim) (group pass fail : List ℕ) (t low : ℕ) → pass ≡ pass_part p t group → fail ≡ fail_part p t group
    → bound p pass ≤ claimed p claims pass → bound p fail ≤ claimed p claims fail → low ≤ step_sum p (bound p) group t → true ≡ nat_le low (step_sum p (claimed p claims) group t)
bounds_reach p claims group pass fail t low pe fe a b le =
    let first : bound p (pass_part p t group) ≤ claimed p claims (pass_part p t group) = subst (λ (l : List ℕ). bound p l ≤ claimed p claims l) pe a in
    let second : bound p (fail_part p t group) ≤ claimed p claims (fail_part p t group) = subst (λ (l : List ℕ). bound p l ≤ claimed p claims l) fe b in
    le-true low (step_sum p (claimed p claims) group t) (omega arith)

-- the sum of a test by what its parts count
pub counted_sum : (p : Problem) (claims : List Claim) (group pass fail : List ℕ) (t low cost weight a b : ℕ) (x y : Option ℕ) → pass ≡ pass_part p t group → fail ≡ fail_part p t group → x ≡ claim_of claims pass → y ≡ claim_of claims fail
    → a ≡ cond (is_end p pass) 0 (unwrap_or x (bound p pass)) → b ≡ cond (is_end p fail) 0 (unwrap_or y (bound p fail)) → cost ≡ p.cost t → weight ≡ weight_of p group
    → nat_le low (cost * weight + (a + b)) ≡ nat_le low (step_sum p (claimed p claims) group t)
counted_sum p claims group pass fail t low cost weight a b x y pe fe xe ye ae be ce we =
    let product : cost * weight ≡ p.cost t * weight_of p group = ap (λ n. n * weight) ce ∙ ap (λ n. p.cost t * n) we in
    let first : a ≡ claimed p claims (pass_part p t group) = ae ∙ ap (λ (o : Option ℕ). cond (is_end p pass) 0 (unwrap_or o (bound p pass))) xe ∙ ap (claimed p claims) pe in
    let second : b ≡ claimed p claims (fail_part p t group) = be ∙ ap (λ (o : Option ℕ). cond (is_end p fail) 0 (unwrap_or o (bound p fail))) ye ∙ ap (claimed p claims) fe in
    ap (nat_le low) (let e : cost * weight + (a + b) ≡ step_sum p (claimed p claims) group t = omega arith in e)
