-- The tests of a group of which some are evaluated and some wait. They stay covered while sums rise and the up falls, and where
-- tests are left out of which the sum or the number is above the up. Where each number is above the least sum of the evaluated
-- tests, the lowest test of this sum is the first of least sum of all tests that split the group.
use Rattle.std.proofs.Common.{◌≡◌, ℕ, zero, suc, ◌<◌, ◌≤◌, min, List, [], ◌∷◌, length, get_or, map, refl, sym, ap, ◌∙◌, arith, inl, inr, subst}
use Rattle.std.specs.Prelude.{Bool, true, false, nat_le, All, filter}
use Rattle.std.proofs.lemmas.Bool.{cases_Bool, leb-false}
use Rattle.std.proofs.lemmas.List.Elements.{All-filter, All-head, All-tail, All-contains}
use Rattle.seq_theory.specs.Problem.{Problem, IsIn, count_up, splits, splitting}
use Rattle.seq_theory.specs.Greedy.{first_least}
use Rattle.seq_theory.proofs.GroupLaws.{IsIn-filter, filter-IsIn}
use Rattle.seq_theory.proofs.LeastLaws.{least_of-le, count_up-IsIn}
use Rattle.seq_graph.specs.declared.node.Split.{Split}
use Rattle.seq_graph.specs.declared.node.Waiting.{Waiting}
use Rattle.seq_graph.specs.KeptOf.{HasParts, Waits, AreTestsOf}
use Rattle.seq_graph.specs.Numbered.{Numbered, KeepsNumbers}
use Rattle.seq_graph.proofs.KeptLaws.{all-waits, parts-kept}
use Rattle.seq_graph.specs.declared.choice.Chosen.{Chosen}
use Rattle.seq_graph.specs.Choice.{IsBefore, IsLeastOf}
use Rattle.seq_graph.proofs.ChoiceLaws.{IsFirst}

-- ---- the tests stay covered ----

module _ (p : Problem) (group : List ℕ) (listed : List Split) (waiting : List Waiting) where
  -- while sums rise and the up falls
  pub tests-rise : (v : Numbered) (sum more : ℕ → ℕ) (up down : ℕ) → AreTestsOf p v group sum up listed waiting → ((t : ℕ) → sum t ≤ more t) → down ≤ up → AreTestsOf p v group more down listed waiting
  tests-rise v sum more up down h rises falls = record {
    covers = λ t i. elim (h.covers t i) [
      | inl l ↦ inl l
      | inr (inl b) ↦ inr (inl (record { entry = b.entry; waits = b.waits; test_is = b.test_is; least = (let a = b.least in let r = rises t in omega arith) }))
      | inr (inr above) ↦ inr (inr (let r = rises t in omega arith))
    ];
    parts = h.parts;
    splits_are = h.splits_are;
    waiting_are = h.waiting_are;
  }

  -- while groups get numbers
  pub tests-keep : (old new : Numbered) (sum : ℕ → ℕ) (up : ℕ) → KeepsNumbers old new → AreTestsOf p old group sum up listed waiting → AreTestsOf p new group sum up listed waiting
  tests-keep old new sum up keeps h = record {
    covers = h.covers;
    parts = λ i d lt. parts-kept p group old new keeps (get_or listed i d) (h.parts i d lt);
    splits_are = h.splits_are;
    waiting_are = h.waiting_are;
  }

-- an entry that passes stays
waits-filter : (q : Waiting → Bool) (w : Waiting) (xs : List Waiting) → Waits w xs → q w ≡ true → Waits w (filter q xs)
waits-filter q w [] i y = absurd i
waits-filter q w (x ∷ xs) (inl e) y = (let there : q x ≡ true = ap q e ∙ y in rw there (inl e))
waits-filter q w (x ∷ xs) (inr i) y = elim (cases_Bool (q x)) [
  | inl z ↦ rw z (inr (waits-filter q w xs i y))
  | inr n ↦ rw n (waits-filter q w xs i y)
]

-- the tests of those that stay
tests-filter : (q : Split → Bool) (h : ℕ → Bool) (xs : List Split) → ((i : ℕ) (d : Split) → i < length xs → q (get_or xs i d) ≡ h (get_or xs i d).test) → map (λ s. s.test) (filter q xs) ≡ filter h (map (λ s. s.test) xs)
tests-filter q h [] same = refl
tests-filter q h (x ∷ xs) same =
    let e = same 0 x (omega arith) in
    let rest = tests-filter q h xs (λ i d lt. same (suc i) d (omega arith)) in
    elim (cases_Bool (h x.test)) [
      | inl y ↦ (let z : q x ≡ true = e ∙ y in rw (y, z) (ap (λ l. x.test ∷ l) rest))
      | inr n ↦ (let z : q x ≡ false = e ∙ n in rw (n, z) rest)
    ]

-- where those are left out of which the sum or the number is above the up
pub tests-left : (p : Problem) (v : Numbered) (group : List ℕ) (sum : ℕ → ℕ) (most up : ℕ) (listed now : List Split) (waiting left : List Waiting) (q : Split → Bool) → AreTestsOf p v group sum (min up most) listed waiting
    → ((i : ℕ) (d : Split) → i < length listed → q (get_or listed i d) ≡ nat_le (sum (get_or listed i d).test) up) → now ≡ filter q listed → left ≡ filter (λ w. nat_le w.least up) waiting → AreTestsOf p v group sum (min up most) now left
tests-left p v group sum most up listed now waiting left q h same now_is left_is =
    subst (λ l. AreTestsOf p v group sum (min up most) l left) (sym now_is) (subst (AreTestsOf p v group sum (min up most) (filter q listed)) (sym left_is) (record {
      covers = λ t i. elim (h.covers t i) [
        | inl l ↦ elim (cases_Bool (nat_le (sum t) up)) [
          | inl y ↦ inl (subst (IsIn t) (sym (tests-filter q (λ u. nat_le (sum u) up) listed same)) (IsIn-filter (λ u. nat_le (sum u) up) t (map (λ (s : Split). s.test) listed) l y))
          | inr n ↦ inr (inr (let above = leb-false (sum t) up n in omega arith))
        ]
        | inr (inl b) ↦ elim (cases_Bool (nat_le (b.entry).least up)) [
          | inl y ↦ inr (inl (record { entry = b.entry; waits = waits-filter (λ w. nat_le w.least up) b.entry waiting b.waits y; test_is = b.test_is; least = b.least }))
          | inr n ↦ inr (inr (let a = leb-false (b.entry).least up n in let l = b.least in omega arith))
        ]
        | inr (inr above) ↦ inr (inr above)
      ];
      parts = All-filter q (HasParts p v group) listed h.parts;
      splits_are = All-filter q (λ (s : Split). IsIn s.test (splitting p group)) listed h.splits_are;
      waiting_are = All-filter (λ (w : Waiting). nat_le w.least up) (λ (w : Waiting). IsIn w.test (splitting p group)) waiting h.waiting_are;
    }))

-- ---- the first of least sum ----

-- it is no higher than any other at which f is no more
lowest-cons : (f : ℕ → ℕ) (x t : ℕ) (xs : List ℕ) → ((u : ℕ) → IsIn u xs → x ≤ u) → (IsIn t xs → f t ≤ f (first_least f xs) → first_least f xs ≤ t) → IsIn t (x ∷ xs) → f t ≤ f (first_least f (x ∷ xs)) → first_least f (x ∷ xs) ≤ t
lowest-cons f x t [] above rest (inl e) le = omega arith
lowest-cons f x t [] above rest (inr i) le = absurd i
lowest-cons f x t (y ∷ ys) above rest i le = elim (cases_Bool (nat_le (f x) (f (first_least f (y ∷ ys))))) [
  | inl b ↦ rw b (front i)
  | inr b ↦ rw b (behind (leb-false (f x) (f (first_least f (y ∷ ys))) b) (rw b at le) i)
]
  where
    front : IsIn t (x ∷ y ∷ ys) → x ≤ t
    front (inl e) = omega arith
    front (inr j) = above t j

    behind : f (first_least f (y ∷ ys)) < f x → f t ≤ f (first_least f (y ∷ ys)) → IsIn t (x ∷ y ∷ ys) → first_least f (y ∷ ys) ≤ t
    behind lt le (inl e) = absurd (let s = ap f e in let bad : ⊥ = omega arith in bad)
    behind lt le (inr j) = rest j le

lowest-filter : (f : ℕ → ℕ) (q : ℕ → Bool) (from n t : ℕ) → IsIn t (filter q (count_up from n)) → f t ≤ f (first_least f (filter q (count_up from n))) → first_least f (filter q (count_up from n)) ≤ t
lowest-filter f q from zero t i le = absurd i
lowest-filter f q from (suc n) t i le = elim (cases_Bool (q from)) [
  | inl y ↦ rw y (lowest-cons f from t (filter q (count_up (suc from) n)) above (lowest-filter f q (suc from) n t) (rw y at i) (rw y at le))
  | inr o ↦ rw o (lowest-filter f q (suc from) n t (rw o at i) (rw o at le))
]
  where
    above : (u : ℕ) → IsIn u (filter q (count_up (suc from) n)) → from ≤ u
    above u j = let c = count_up-IsIn u (suc from) n (filter-IsIn q u (count_up (suc from) n) j) in let a = c.0 in omega arith

-- one of the evaluated tests is this one
pub record HasTest (P : Split → Type 0) (t : ℕ) : Type 0 where
  pub split : Split
  pub test_is : split.test ≡ t
  pub holds : P split

pub test-listed : (P : Split → Type 0) (xs : List Split) (t : ℕ) → All P xs → IsIn t (map (λ s. s.test) xs) → HasTest P t
test-listed P [] t all i = absurd i
test-listed P (x ∷ xs) t all (inl e) = record { split = x; test_is = e; holds = All-head P x xs all }
test-listed P (x ∷ xs) t all (inr i) = test-listed P xs t (All-tail P x xs all) i

module _ (p : Problem) (v : Numbered) (group : List ℕ) (f : ℕ → ℕ) (up most : ℕ) (listed : List Split) (waiting : List Waiting) (tests : AreTestsOf p v group f (min up most) listed waiting) (first : IsFirst f (splitting p group) (first_least f (splitting p group)))
    (low : f (first_least f (splitting p group)) ≤ up) where
  -- where each number is above the least sum, and all tests up to this sum are listed, the lowest test of this sum is the first
  pub certain-first : (c : Chosen) → IsLeastOf f listed c → All (λ w. c.sum < w.least) waiting → c.sum ≤ most → c.split.test ≡ first_least f (splitting p group)
  certain-first c is above within =
      let here : IsIn c.split.test (splitting p group) = All-contains (λ (s : Split). IsIn s.test (splitting p group)) listed c.split tests.splits_are is.among in
      let le = least_of-le f c.split.test (splitting p group) here in
      let least = first.least in
      let sum = is.sum in
      elim (tests.covers (first_least f (splitting p group)) first.among) [
        | inl l ↦ before here (omega arith) (test-listed (IsBefore f c) listed (first_least f (splitting p group)) is.least l)
        | inr (inl b) ↦ absurd (let a = all-waits (λ (w : Waiting). c.sum < w.least) b.entry waiting above b.waits in let n = b.least in let bad : ⊥ = omega arith in bad)
        | inr (inr gone) ↦ absurd (let bad : ⊥ = omega arith in bad)
      ]
    where
      before : IsIn c.split.test (splitting p group) → f (first_least f (splitting p group)) ≤ c.sum → HasTest (IsBefore f c) (first_least f (splitting p group)) → c.split.test ≡ first_least f (splitting p group)
      before here le h = elim h.holds [
        | inl lt ↦ absurd (let e = ap f h.test_is in let bad : ⊥ = omega arith in bad)
        | inr same ↦
            (let e = ap f h.test_is in
            let t = h.test_is in
            let s0 = same.0 in
            let s1 = same.1 in
            let sum = is.sum in
            let lowest = lowest-filter f (splits p group) 0 p.tests c.split.test here (omega arith) in
            omega arith)
      ]
