-- Sums of tests the plain way. A group without a number has no row, so it counts its bound for a low. The loop over the tests
-- keeps the lowest of least sum, and the least of what they give over ups.
use Rattle.std.proofs.Common.{◌≡◌, ◌⊎◌, ℕ, ◌+◌, ◌<◌, ◌≤◌, min, List, refl, sym, ap, ◌∙◌, arith, inl, inr, Option, Some, None}
use Rattle.std.specs.Prelude.{true, false, nat_le, ◌≢◌}
use Rattle.std.specs.List.{filter_map}
use Rattle.std.proofs.lemmas.Bool.{cases_Bool, cases_lt, true≢false, leb-true, leb-false}
use Rattle.seq_theory.specs.Problem.{Problem, IsIn, IsWithin, AreTold, splits, splitting, is_end}
use Rattle.seq_theory.specs.Bound.{bound}
use Rattle.seq_theory.specs.Graph.{is_entered, step_value, sum_with}
use Rattle.seq_theory.specs.Greedy.{first_least, greedy_test}
use Rattle.seq_theory.specs.Rows.{no_value, known_low, known_up}
use Rattle.seq_theory.proofs.GreedyLaws.{bound-end, greedy_test_splits}
use Rattle.seq_theory.proofs.PartsRecursion.{splitting-splits, splitting-there}
use Rattle.seq_theory.proofs.ValLaws.{least_of-first, least_of-values-le, IsLeastValue, is_first, is_at, least_value}
use Rattle.seq_huff.specs.Bounds.{greatest_cost}
use Rattle.seq_inst.specs.declared.outcome.Row.{Row}
use Rattle.seq_inst.specs.Members.{members}
use Rattle.seq_core.specs.RowsOf.{rows_of as rows_from}
use Rattle.seq_core.specs.Settled.{value_or}
use Rattle.seq_graph.specs.declared.node.Node.{Node}
use Rattle.seq_graph.specs.declared.graph.Count.{Count}
use Rattle.seq_graph.specs.declared.plain.Plain.{Plain}
use Rattle.seq_graph.specs.Numbered.{Numbered}
use Rattle.seq_graph.specs.Choice.{lesser_plain, LeastBelow}
use Rattle.seq_graph.specs.Settling.{up_by, IsLeastUp, UpBelow}
use Rattle.seq_graph.specs.Known.{AreKnown, group_at}
use Rattle.seq_graph.proofs.GreedyChoiceLaws.{splitting-in, first-pick-up}
use Rattle.seq_graph.proofs.LookLaws.{no-number}

-- ---- a group without a number ----

module _ (p : Problem) (v : Numbered) (rows : List Row) (kept : List Node) (counts : List Count) (known : AreKnown p v rows kept counts) (g : List ℕ) (none : is_entered v.groups g ≡ false) where
  pub low-without : known_low p (rows_from rows) g ≡ bound p g
  low-without = elim (cases_Bool (is_end p g)) [
    | inl y ↦ rw y (sym (bound-end p g y))
    | inr n ↦ rw (n, no-number p v rows kept counts known g none) refl
  ]

  pub up-without-end : is_end p g ≡ true → value_or (known_up p (rows_from rows) g) ≡ 0
  up-without-end y = rw y refl

  pub up-without : is_end p g ≡ false → value_or (known_up p (rows_from rows) g) ≡ no_value
  up-without n = rw (n, no-number p v rows kept counts known g none) refl

  pub closed-without : is_end p g ≡ true → known_up p (rows_from rows) g ≡ Some (known_low p (rows_from rows) g)
  closed-without y = rw y refl

-- ---- the loop over the tests ----

module _ (p : Problem) (group : List ℕ) (f : ℕ → ℕ) where
  below-or : (k t : ℕ) → t < k + 1 → (t < k) ⊎ (t ≡ k)
  below-or k t lt = elim (cases_lt t k) [ inl l ↦ inl l | inr ge ↦ inr (omega arith) ]

  pub least-none : LeastBelow p group f 0 None
  least-none t lt s = let bad : ⊥ = omega arith in bad

  new-least : (k sum : ℕ) → IsIn k (splitting p group) → sum ≡ f k → ((t : ℕ) → t < k → splits p group t ≡ true → sum < f t) → LeastBelow p group f (k + 1) (Some (record { test = k; sum = sum }))
  new-least k sum there is before = (
    there,
    is,
    omega arith,
    λ t lt s. elim (below-or k t lt) [
      | inl l ↦ inl (before t l s)
      | inr e ↦ inr (is ∙ ap f (sym e), omega arith)
    ],
  )

  pub least-more : (k sum : ℕ) (o : Option Plain) → k < p.tests → splits p group k ≡ true → sum ≡ f k → LeastBelow p group f k o → LeastBelow p group f (k + 1) (Some (lesser_plain o k sum))
  least-more k sum None there split is below = new-least k sum (splitting-in p group k there split) is (λ t lt s. absurd (below t lt s))
  least-more k sum (Some c) there split is below = elim (cases_Bool (nat_le c.sum sum)) [
    | inl y ↦ rw y (let le = leb-true c.sum sum y in (
      below.0,
      below.1,
      (let q = below.2 in omega arith),
      λ t lt s. elim (below-or k t lt) [
        | inl l ↦ below.3 t l s
        | inr e ↦ (let same = ap f e in elim (cases_lt c.sum (f t)) [ inl less ↦ inl less | inr ge ↦ inr ((let eq : c.sum ≡ f t = omega arith in eq), (let q = below.2 in omega arith)) ])
      ],
    ))
    | inr n ↦ rw n (let lt = leb-false c.sum sum n in new-least k sum (splitting-in p group k there split) is (λ t l s. elim (below.3 t l s) [
      | inl less ↦ omega arith
      | inr same ↦ (let e = same.0 in omega arith)
    ]))
  ]

  pub least-same : (k : ℕ) (o : Option Plain) → splits p group k ≡ false → LeastBelow p group f k o → LeastBelow p group f (k + 1) o
  least-same k None other below = λ t lt s. elim (below-or k t lt) [
    | inl l ↦ below t l s
    | inr e ↦ true≢false (sym s ∙ ap (splits p group) e ∙ other)
  ]
  least-same k (Some c) other below = (
    below.0,
    below.1,
    (let q = below.2 in omega arith),
    λ t lt s. elim (below-or k t lt) [
      | inl l ↦ below.3 t l s
      | inr e ↦ absurd (true≢false (sym s ∙ ap (splits p group) e ∙ other))
    ],
  )

  pub least-all : (k : ℕ) (c : Plain) → k ≡ p.tests → LeastBelow p group f k (Some c) → c.test ≡ first_least f (splitting p group)
  least-all k c all below = first-pick-up p group f c.test below.0 (λ t i.
      let sum = below.1 in
      elim (below.3 t (let lt = splitting-there p group t i in omega arith) (splitting-splits p group t i)) [
        | inl less ↦ record { least = omega arith; lowest = λ e. absurd (let bad : ⊥ = omega arith in bad) }
        | inr same ↦ record { least = (let e = same.0 in omega arith); lowest = λ e. same.1 }
      ])

  pub least-some : AreTold p → IsWithin p group → is_end p group ≡ false → (k : ℕ) → k ≡ p.tests → LeastBelow p group f k None → ⊥
  least-some told within more k all below =
      let s = greedy_test_splits p group told within more in
      below (greedy_test p group) (let lt = splitting-there p group (greedy_test p group) s in omega arith) (splitting-splits p group (greedy_test p group) s)

-- ---- sums over ups ----

module _ (n : ℕ) where
  pub sum-none-pass : (a : ℕ) (x y : Option ℕ) → a ≡ value_or x → ((u : ℕ) → x ≡ Some u → u ≤ greatest_cost) → a ≡ no_value → no_value ≡ value_or (sum_with n x y)
  sum-none-pass a None y is small e = refl
  sum-none-pass a (Some u) y is small e = absurd (let s = small u refl in let bad : ⊥ = omega arith in bad)

  pub sum-none-fail : (b : ℕ) (x y : Option ℕ) → b ≡ value_or y → ((u : ℕ) → y ≡ Some u → u ≤ greatest_cost) → b ≡ no_value → no_value ≡ value_or (sum_with n x y)
  sum-none-fail b None y is small e = refl
  sum-none-fail b (Some u) None is small e = refl
  sum-none-fail b (Some u) (Some w) is small e = absurd (let s = small w refl in let bad : ⊥ = omega arith in bad)

  pub sum-both : (a b : ℕ) (x y : Option ℕ) → a ≡ value_or x → b ≡ value_or y → a ≢ no_value → b ≢ no_value → n + (a + b) ≡ value_or (sum_with n x y)
  sum-both a b None y ea eb na nb = absurd (na ea)
  sum-both a b (Some u) None ea eb na nb = absurd (nb eb)
  sum-both a b (Some u) (Some w) ea eb na nb = omega arith

pub value-small : (a : ℕ) (x : Option ℕ) → a ≡ value_or x → ((u : ℕ) → x ≡ Some u → u ≤ greatest_cost) → a ≢ no_value → a ≤ greatest_cost
value-small a None is small ne = absurd (ne is)
value-small a (Some u) is small ne = let s = small u refl in omega arith

module _ (p : Problem) (rows : List Row) (place : ℕ) where
  pub up-none : UpBelow p rows place 0 no_value
  up-none = record {
    no_less = least_of-first no_value (filter_map (step_value p (known_up p (rows_from rows)) (members (group_at rows place))) (splitting p (members (group_at rows place))));
    word = omega arith;
    each = λ t n lt. absurd (let bad : ⊥ = omega arith in bad);
  }

  pub up-more : (k least now u : ℕ) → UpBelow p rows place k least → k < p.tests → splits p (members (group_at rows place)) k ≡ true
      → u ≡ value_or (step_value p (known_up p (rows_from rows)) (members (group_at rows place)) k) → now ≡ min least u → UpBelow p rows place (k + 1) now
  up-more k least now u i there split is e = record {
    no_less = (let a = i.no_less in let b = above (step_value p (known_up p (rows_from rows)) (members (group_at rows place)) k) refl in omega arith);
    word = (let w = i.word in omega arith);
    each = λ t n lt s v. elim (cases_lt t k) [
      | inl l ↦ (let a = i.each t n l s v in omega arith)
      | inr ge ↦ (let same : t ≡ k = omega arith in let at = is ∙ ap (λ m. value_or (step_value p (known_up p (rows_from rows)) (members (group_at rows place)) m)) (sym same) ∙ ap value_or v in omega arith)
    ];
  }
    where
      above : (o : Option ℕ) → step_value p (known_up p (rows_from rows)) (members (group_at rows place)) k ≡ o → up_by p rows (members (group_at rows place)) (splitting p (members (group_at rows place))) ≤ u
      above None at = let a = i.no_less in let w = i.word in let z = is ∙ ap value_or at in omega arith
      above (Some n) at =
          let a = least_of-values-le no_value (step_value p (known_up p (rows_from rows)) (members (group_at rows place))) k n (splitting p (members (group_at rows place))) (splitting-in p (members (group_at rows place)) k there split) at in
          let z = is ∙ ap value_or at in
          omega arith

  pub up-same : (k least : ℕ) → UpBelow p rows place k least → splits p (members (group_at rows place)) k ≡ false → UpBelow p rows place (k + 1) least
  up-same k least i other = record {
    no_less = i.no_less;
    word = i.word;
    each = λ t n lt s v. elim (cases_lt t k) [
      | inl l ↦ i.each t n l s v
      | inr ge ↦ absurd (let same : t ≡ k = omega arith in true≢false (sym s ∙ ap (splits p (members (group_at rows place))) same ∙ other))
    ];
  }

  pub up-all : (k least : ℕ) → k ≡ p.tests → UpBelow p rows place k least → IsLeastUp p rows place least
  up-all k least all i =
      let g = members (group_at rows place) in
      let le = go (up_by p rows g (splitting p g)) (least_value no_value (step_value p (known_up p (rows_from rows)) g) (splitting p g)) in
      let ge = i.no_less in
      omega arith
    where
      go : (n : ℕ) → IsLeastValue no_value (step_value p (known_up p (rows_from rows)) (members (group_at rows place))) (splitting p (members (group_at rows place))) n → least ≤ n
      go n (is_first e) = let w = i.word in omega arith
      go n (is_at t j e) = i.each t n (let lt = splitting-there p (members (group_at rows place)) t j in omega arith) (splitting-splits p (members (group_at rows place)) t j) e
