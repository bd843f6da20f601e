-- Ambiguity groups gather the states of a system.
--
-- A state is the first of its row exactly where it is the first state alike to itself; groups are numbered by counting
-- these, so two states have one number exactly where they have one first state, and that is where their rows are equal.
use Rattle.std.proofs.Common.{◌≡◌, ℕ, zero, suc, ◌+◌, ◌-◌, ◌<◌, ◌≤◌, List, [], ◌∷◌, ◌++◌, length, refl, sym, ap, ◌∙◌, arith, inl, inr, subst, length-append}
use Rattle.std.specs.Prelude.{Bool, true, false, not, cond, filter, map}
use Rattle.std.specs.List.{list_all}
use Rattle.std.proofs.lemmas.Bool.{cases_Bool, cases_lt, true≢false, false≢true, eqb-true, eq-eqb, and_parts, and_from}
use Rattle.std.proofs.lemmas.List.Elements.{filter-append}
use Rattle.seq_theory.specs.Problem.{Problem, IsIn, count_up}
use Rattle.seq_theory.specs.Graph.{first_where}
use Rattle.seq_theory.proofs.LeastLaws.{IsIn-count_up, count_up-IsIn}
use Rattle.seq_theory.specs.Gathered.{IsGathered}
use Rattle.seq_theory.specs.States.{System, row, same, same_row, first_alike, is_first, firsts, class_of, state_problem, IsOfClasses}

same-from_eq : (a b : Bool) → a ≡ b → same a b ≡ true
same-from_eq true b e = sym e
same-from_eq false b e = ap not (sym e)

eq-from_same : (a b : Bool) → same a b ≡ true → a ≡ b
eq-from_same true b e = sym e
eq-from_same false true e = absurd (false≢true e)
eq-from_same false false e = refl

-- of the first that passes
module _ (f : ℕ → Bool) where
  pub first_where-passes : (x : ℕ) (xs : List ℕ) → IsIn x xs → f x ≡ true → f (first_where f xs) ≡ true
  first_where-passes x [] i e = absurd i
  first_where-passes x (y ∷ ys) i e = elim (cases_Bool (f y)) [
    | inl p ↦ rw p p
    | inr n ↦ rw n (elim i [
      | inl s ↦ absurd (true≢false (sym e ∙ sym (ap f s) ∙ n))
      | inr j ↦ first_where-passes x ys j e
    ])
  ]

  pub first_where-IsIn : (x : ℕ) (xs : List ℕ) → IsIn x xs → f x ≡ true → IsIn (first_where f xs) xs
  first_where-IsIn x [] i e = absurd i
  first_where-IsIn x (y ∷ ys) i e = go (f y) refl i (λ j. first_where-IsIn x ys j e)
    where
      go : (b : Bool) → f y ≡ b → IsIn x (y ∷ ys) → (IsIn x ys → IsIn (first_where f ys) ys) → IsIn (cond b y (first_where f ys)) (y ∷ ys)
      go true p i rec = inl refl
      go false n (inl s) rec = absurd (true≢false (sym e ∙ sym (ap f s) ∙ n))
      go false n (inr j) rec = inr (rec j)

pub first_where-agree : (f g : ℕ → Bool) → ((x : ℕ) → f x ≡ g x) → (xs : List ℕ) → first_where f xs ≡ first_where g xs
first_where-agree f g h [] = refl
first_where-agree f g h (x ∷ xs) = elim (cases_Bool (g x)) [
  | inl y ↦ (let y' : f x ≡ true = h x ∙ y in rw (y, y') refl)
  | inr n ↦ (let n' : f x ≡ false = h x ∙ n in rw (n, n') (first_where-agree f g h xs))
]

pub count_up-last : (from n : ℕ) → count_up from (suc n) ≡ count_up from n ++ (from + n) ∷ []
count_up-last from zero = let e : from ≡ from + 0 = omega arith in ap (λ k. k ∷ []) e
count_up-last from (suc n) =
    let e : suc from + n ≡ from + suc n = omega arith in
    ap (λ l. from ∷ l) (count_up-last (suc from) n) ∙ ap (λ k. from ∷ (count_up (suc from) n ++ k ∷ [])) e

module _ (sys : System) where
  rows-from_same : (a b : ℕ) (ts : List ℕ) → list_all (λ t. same (sys.fails a t) (sys.fails b t)) ts ≡ true → map (sys.fails a) ts ≡ map (sys.fails b) ts
  rows-from_same a b [] e = refl
  rows-from_same a b (t ∷ ts) e =
      let p = and_parts (same (sys.fails a t) (sys.fails b t)) (list_all (λ t. same (sys.fails a t) (sys.fails b t)) ts) e in
      let h = eq-from_same (sys.fails a t) (sys.fails b t) p.0 in
      let r = rows-from_same a b ts p.1 in
      cc

  same-from_rows : (a b : ℕ) (ts : List ℕ) → map (sys.fails a) ts ≡ map (sys.fails b) ts → list_all (λ t. same (sys.fails a t) (sys.fails b t)) ts ≡ true
  same-from_rows a b [] e = refl
  same-from_rows a b (t ∷ ts) e =
      and_from (same (sys.fails a t) (sys.fails b t)) (list_all (λ t. same (sys.fails a t) (sys.fails b t)) ts)
      (same-from_eq (sys.fails a t) (sys.fails b t) (heads e)) (same-from_rows a b ts (tails e))
    where
      heads : {a b : Bool} {xs ys : List Bool} → a ∷ xs ≡ b ∷ ys → a ≡ b
      heads e = cc

      tails : {a b : Bool} {xs ys : List Bool} → a ∷ xs ≡ b ∷ ys → xs ≡ ys
      tails e = cc

  pub row-from_same : (a b : ℕ) → same_row sys a b ≡ true → row sys a ≡ row sys b
  row-from_same a b e = rows-from_same a b (count_up 0 sys.tests) e

  pub same-from_row : (a b : ℕ) → row sys a ≡ row sys b → same_row sys a b ≡ true
  same-from_row a b e = same-from_rows a b (count_up 0 sys.tests) e

  same_bool : (x y : Bool) → (x ≡ true → y ≡ true) → (y ≡ true → x ≡ true) → x ≡ y
  same_bool true y h k = sym (h refl)
  same_bool false true h k = k refl
  same_bool false false h k = refl

  -- states with equal rows are alike to the same states
  same_row-along : (a b x : ℕ) → row sys a ≡ row sys b → same_row sys x a ≡ same_row sys x b
  same_row-along a b x e = same_bool (same_row sys x a) (same_row sys x b)
      (λ h. same-from_row x b (row-from_same x a h ∙ e))
      (λ h. same-from_row x a (row-from_same x b h ∙ sym e))

  pub first_alike-same : (a b : ℕ) → row sys a ≡ row sys b → first_alike sys a ≡ first_alike sys b
  first_alike-same a b e = first_where-agree (λ r. same_row sys r a) (λ r. same_row sys r b) (λ x. same_row-along a b x e) (count_up 0 sys.states)

  pub first_alike-row : (s : ℕ) → s < sys.states → row sys (first_alike sys s) ≡ row sys s
  first_alike-row s lt = row-from_same (first_alike sys s) s (first_where-passes (λ r. same_row sys r s) s (count_up 0 sys.states) (IsIn-count_up s 0 sys.states (omega arith) (omega arith)) (same-from_row s s refl))

  pub first_alike-there : (s : ℕ) → s < sys.states → first_alike sys s < sys.states
  first_alike-there s lt = let h = count_up-IsIn (first_alike sys s) 0 sys.states (first_where-IsIn (λ r. same_row sys r s) s (count_up 0 sys.states) (IsIn-count_up s 0 sys.states (omega arith) (omega arith)) (same-from_row s s refl)) in omega arith

  -- two states have one first state exactly where their rows are equal
  pub first_alike-tells : (a b : ℕ) → a < sys.states → b < sys.states → first_alike sys a ≡ first_alike sys b → row sys a ≡ row sys b
  first_alike-tells a b la lb e = sym (first_alike-row a la) ∙ ap (row sys) e ∙ first_alike-row b lb

  pub first_alike-is_first : (s : ℕ) → s < sys.states → is_first sys (first_alike sys s) ≡ true
  first_alike-is_first s lt = eq-eqb (first_alike sys (first_alike sys s)) (first_alike sys s) (first_alike-same (first_alike sys s) s (first_alike-row s lt))

  -- how many groups begin before a state
  abbrev pub begun : ℕ → ℕ
  begun n = length (filter (is_first sys) (count_up 0 n))

  pub begun-more : (n : ℕ) → begun (suc n) ≡ begun n + cond (is_first sys n) 1 0
  begun-more n =
      ap (λ l. length (filter (is_first sys) l)) (count_up-last 0 n)
      ∙ ap length (filter-append (is_first sys) (count_up 0 n) ((0 + n) ∷ []))
      ∙ length-append (filter (is_first sys) (count_up 0 n)) (filter (is_first sys) ((0 + n) ∷ []))
      ∙ ap (λ k. begun n + k) (last n)
    where
      last : (n : ℕ) → length (filter (is_first sys) ((0 + n) ∷ [])) ≡ cond (is_first sys n) 1 0
      last n = let e : 0 + n ≡ n = omega arith in rw e (elim (cases_Bool (is_first sys n)) [ inl y ↦ rw y refl | inr ne ↦ rw ne refl ])

  pub begun-yes : (n : ℕ) → is_first sys n ≡ true → begun (suc n) ≡ suc (begun n)
  begun-yes n e = begun-more n ∙ rw e (omega arith)

  pub begun-no : (n : ℕ) → is_first sys n ≡ false → begun (suc n) ≡ begun n
  begun-no n e = begun-more n ∙ rw e (omega arith)

  pub begun-up : (a more : ℕ) → begun a ≤ begun (a + more)
  begun-up a zero = let e : a + 0 ≡ a = omega arith in rw e (omega arith)
  begun-up a (suc more) =
      let e : a + suc more ≡ suc (a + more) = omega arith in
      let h = begun-up a more in
      rw e (elim (cases_Bool (is_first sys (a + more))) [
        | inl y ↦ (let f = begun-yes (a + more) y in omega arith)
        | inr n ↦ (let f = begun-no (a + more) n in omega arith)
      ])

  pub begun-below : (a b : ℕ) → a < b → is_first sys a ≡ true → begun a < begun b
  begun-below a b lt y =
      let h = begun-up (suc a) (b - suc a) in
      let e : suc a + (b - suc a) ≡ b = omega arith in
      let h' : begun (suc a) ≤ begun b = subst (λ k. begun (suc a) ≤ begun k) e h in
      let f = begun-yes a y in
      omega arith

  pub begun-found : (c n : ℕ) → c < begun n → (s : ℕ) × (s < n) × (is_first sys s ≡ true) × (begun s ≡ c)
  begun-found c zero lt = absurd (let h : ⊥ = omega arith in h)
  begun-found c (suc n) lt = elim (cases_Bool (is_first sys n)) [
    | inl y ↦
        (let f = begun-yes n y in
        elim (cases_lt c (begun n)) [
          | inl below ↦ (let r = begun-found c n below in (r.0, let l = r.1 in omega arith, r.2, r.3))
          | inr at ↦ (n, omega arith, y, omega arith)
        ])
    | inr no_first ↦
        (let f = begun-no n no_first in
        let r = begun-found c n (omega arith) in
        (r.0, let l = r.1 in omega arith, r.2, r.3))
  ]

  pub class_of-begun : (s : ℕ) → class_of sys s ≡ begun (first_alike sys s)
  unfolding class_of
  class_of-begun s = refl

  pub class_of-there : (s : ℕ) → s < sys.states → class_of sys s < length (firsts sys)
  class_of-there s lt =
      let e = class_of-begun s in
      let h = begun-below (first_alike sys s) sys.states (first_alike-there s lt) (first_alike-is_first s lt) in
      omega arith

  pub class_of-found : (c : ℕ) → c < length (firsts sys) → (s : ℕ) × (s < sys.states) × (class_of sys s ≡ c)
  class_of-found c lt =
      let r = begun-found c sys.states lt in
      (r.0, r.1, class_of-begun r.0 ∙ ap (λ k. begun k) (eqb-true (first_alike sys r.0) r.0 r.2) ∙ r.3)

  same_first : (a b : ℕ) → is_first sys a ≡ true → is_first sys b ≡ true → begun a ≡ begun b → a ≡ b
  same_first a b ya yb e = elim (cases_lt a b) [
    | inl lt ↦ (let h = begun-below a b lt ya in absurd (omega arith))
    | inr ge ↦ elim (cases_lt b a) [
      | inl lt ↦ (let h = begun-below b a lt yb in absurd (omega arith))
      | inr le ↦ omega arith
    ]
  ]

  -- two states have one number exactly where they have one first state
  pub class_of-tells : (a b : ℕ) → a < sys.states → b < sys.states → class_of sys a ≡ class_of sys b → first_alike sys a ≡ first_alike sys b
  class_of-tells a b la lb e =
      same_first (first_alike sys a) (first_alike sys b) (first_alike-is_first a la) (first_alike-is_first b lb) (sym (class_of-begun a) ∙ e ∙ class_of-begun b)

  pub class_of-same : (a b : ℕ) → first_alike sys a ≡ first_alike sys b → class_of sys a ≡ class_of sys b
  class_of-same a b e = class_of-begun a ∙ ap (λ k. begun k) e ∙ sym (class_of-begun b)

  pub gathers : (p : Problem) → IsOfClasses sys p → IsGathered (state_problem sys) p (class_of sys)
  gathers p h = record {
    tests = sym h.tests;
    cost = λ t lt. sym (h.cost t (let e = h.tests in omega arith));
    goes = λ s lt. there s lt;
    has = λ c lt. class_of-found c (let e = h.classes in omega arith);
    passes = λ t s lt ls. sym (h.passes t s lt ls);
    weight = λ c lt. h.weight c lt;
    goals = λ a b la lb. (
      (λ e. h.goal (class_of sys a) (there a la) ∙ class_of-same a b e ∙ sym (h.goal (class_of sys b) (there b lb))),
      (λ e. class_of-tells a b la lb (sym (h.goal (class_of sys a) (there a la)) ∙ e ∙ h.goal (class_of sys b) (there b lb))),
    );
  }
    where
      there : (s : ℕ) → s < sys.states → class_of sys s < p.classes
      there s lt = let f = class_of-there s lt in let e = h.classes in omega arith
