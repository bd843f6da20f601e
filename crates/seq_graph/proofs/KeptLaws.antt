-- The tests of a group of which some are evaluated and some wait. A test that is evaluated leaves the list of those that wait
-- and goes to the evaluated ones, and none other is touched: so each that was covered is covered still, whatever its sum.
use Rattle.std.proofs.Common.{◌≡◌, ◌⊎◌, ℕ, zero, suc, ◌+◌, ◌<◌, ◌≤◌, Bool, filter, nat_le, cond, List, [], ◌∷◌, ◌++◌, length, get_or, inl, inr, refl, sym, ap, ◌∙◌, subst, arith, true, false, All, Contains, map, Some, slice_get, swap_remove, IsPermutation}
use Rattle.std.proofs.lemmas.Bool.{cases_lt, cases_Bool, true≢false, le-leb, lt-leb}
use Rattle.std.proofs.lemmas.List.{map-append}
use Rattle.std.proofs.lemmas.List.Elements.{All-head, All-tail, All-nil, All-push, All-weaker, All-filter}
use Rattle.std.proofs.lemmas.List.Sorted.{IsPermutation-swap_remove, All-permutation, Contains-permutation}
use Rattle.std.proofs.lemmas.Option.{slice_get-get_or, slice_get_within}
use Rattle.seq_theory.specs.Problem.{Problem, IsIn, splits, splitting, pass_part, fail_part, count_up, weight_of, IsWithin}
use Rattle.seq_theory.specs.Bound.{step_sum}
use Rattle.seq_theory.specs.Greedy.{first_least}
use Rattle.seq_theory.proofs.GroupLaws.{IsIn-filter, filter-IsIn, filter_passes, pass_part_smaller}
use Rattle.seq_theory.proofs.LeastLaws.{IsIn-count_up, count_up-IsIn}
use Rattle.seq_theory.proofs.BelowLaws.{product-le}
use Rattle.seq_inst.specs.declared.instance.Instance.{Instance}
use Rattle.seq_inst.specs.Instances.{problem_of}
use Rattle.seq_graph.specs.declared.node.Node.{Node}
use Rattle.seq_graph.specs.declared.node.Split.{Split}
use Rattle.seq_graph.specs.declared.node.Waiting.{Waiting}
use Rattle.seq_graph.specs.Numbered.{Numbered, KeepsNumbers}
use Rattle.seq_graph.specs.KeptOf.{HasParts, Waits, IsBelow, IsCovered, AreTestsOf, EvaluatesAt, KeepsTests, WaitingSoFar}

-- ---- entries of a list ----

pub waits-before : (w : Waiting) (xs ys : List Waiting) → Waits w xs → Waits w (xs ++ ys)
waits-before w [] ys h = absurd h
waits-before w (x ∷ xs) ys (inl e) = inl e
waits-before w (x ∷ xs) ys (inr h) = inr (waits-before w xs ys h)

pub waits-last : (w : Waiting) (xs : List Waiting) → Waits w (xs ++ w ∷ [])
waits-last w [] = inl refl
waits-last w (x ∷ xs) = inr (waits-last w xs)

-- what holds of all holds of each entry
pub all-waits : (P : Waiting → Type 0) (w : Waiting) (xs : List Waiting) → All P xs → Waits w xs → P w
all-waits P w [] h i = absurd i
all-waits P w (x ∷ xs) h (inl e) = subst P e (All-head P x xs h)
all-waits P w (x ∷ xs) h (inr i) = all-waits P w xs (All-tail P x xs h) i

pub waits-contains : (w : Waiting) (xs : List Waiting) → Waits w xs → Contains xs w
waits-contains w [] h = absurd h
waits-contains w (x ∷ xs) (inl e) = (0, omega arith, e)
waits-contains w (x ∷ xs) (inr h) = let c = waits-contains w xs h in let lt = c.1 in (suc c.0, omega arith, c.2)

pub contains-waits : (w : Waiting) (xs : List Waiting) (k : ℕ) → k < length xs → get_or xs k w ≡ w → Waits w xs
contains-waits w [] k lt e = absurd (let bad : ⊥ = omega arith in bad)
contains-waits w (x ∷ xs) zero lt e = inl e
contains-waits w (x ∷ xs) (suc k) lt e = inr (contains-waits w xs k (omega arith) e)

some-same : (a b : Waiting) → Some a ≡ Some b → a ≡ b
some-same a b e = cc

-- the list is the entry at a place and what is left without it
taken-is : (entry : Waiting) (xs : List Waiting) (at : ℕ) → slice_get xs at ≡ Some entry → IsPermutation xs (entry ∷ swap_remove xs at entry)
taken-is entry xs at is =
    let lt = slice_get_within xs at entry is in
    IsPermutation-swap_remove xs at entry lt (some-same entry (get_or xs at entry) (sym is ∙ slice_get-get_or xs at entry lt))

-- an entry stays, but for the one that is taken out
pub waits-taken : (w entry : Waiting) (xs : List Waiting) (at : ℕ) → slice_get xs at ≡ Some entry → Waits w xs → (entry ≡ w) ⊎ Waits w (swap_remove xs at entry)
waits-taken w entry xs at is h =
    let c = Contains-permutation xs (entry ∷ swap_remove xs at entry) w (taken-is entry xs at is) (waits-contains w xs h) in
    contains-waits w (entry ∷ swap_remove xs at entry) c.0 c.1 c.2

pub listed-before : (t : ℕ) (xs ys : List ℕ) → IsIn t xs → IsIn t (xs ++ ys)
listed-before t [] ys h = absurd h
listed-before t (x ∷ xs) ys (inl e) = inl e
listed-before t (x ∷ xs) ys (inr h) = inr (listed-before t xs ys h)

pub listed-last : (t : ℕ) (xs : List ℕ) → IsIn t (xs ++ t ∷ [])
listed-last t [] = inl refl
listed-last t (x ∷ xs) = inr (listed-last t xs)

-- ---- the loop over the tests ----

module _ (p : Problem) (group : List ℕ) (sum : ℕ → ℕ) (up : ℕ) where
  pub waiting-none : (found : List Waiting) → found ≡ [] → WaitingSoFar p group sum up 0 found
  waiting-none found e = record {
    covers = λ t lt s. absurd (let bad : ⊥ = omega arith in bad);
    are = subst (All (λ w. (w.test < 0) × (splits p group w.test ≡ true))) (sym e) (All-nil (λ w. (w.test < 0) × (splits p group w.test ≡ true)));
  }

  below-more : (w : Waiting) (found : List Waiting) (t : ℕ) → IsBelow sum found t → IsBelow sum (found ++ w ∷ []) t
  below-more w found t b = record { entry = b.entry; waits = waits-before b.entry found (w ∷ []) b.waits; test_is = b.test_is; least = b.least }

  more-are : (test : ℕ) (found : List Waiting) → All (λ w. (w.test < test) × (splits p group w.test ≡ true)) found → All (λ w. (w.test < test + 1) × (splits p group w.test ≡ true)) found
  more-are test found h = All-weaker (λ w. (w.test < test) × (splits p group w.test ≡ true)) (λ w. (w.test < test + 1) × (splits p group w.test ≡ true)) (λ w i. let lt = i.0 in (omega arith, i.1)) found h

  pub waiting-more : (test : ℕ) (found more : List Waiting) (w : Waiting) → WaitingSoFar p group sum up test found → splits p group test ≡ true → w.test ≡ test → w.least ≤ sum test → more ≡ found ++ w ∷ []
      → WaitingSoFar p group sum up (test + 1) more
  waiting-more test found more w i there is least e = subst (WaitingSoFar p group sum up (test + 1)) (sym e) (record {
    covers = λ t lt s. elim (cases_lt t test) [
      | inl earlier ↦ elim (i.covers t earlier s) [
        | inl b ↦ inl (below-more w found t b)
        | inr above ↦ inr above
      ]
      | inr later ↦
          (let same : test ≡ t = omega arith in
          inl (record { entry = w; waits = waits-last w found; test_is = is ∙ same; least = subst (λ n. w.least ≤ sum n) same least }))
    ];
    are = All-push (λ w. (w.test < test + 1) × (splits p group w.test ≡ true)) found w (more-are test found i.are) (omega arith, ap (splits p group) is ∙ there);
  })

  pub waiting-above : (test least : ℕ) (found more : List Waiting) → WaitingSoFar p group sum up test found → least ≤ sum test → up < least → more ≡ found → WaitingSoFar p group sum up (test + 1) more
  waiting-above test least found more i le lt e = subst (WaitingSoFar p group sum up (test + 1)) (sym e) (record {
    covers = λ t below s. elim (cases_lt t test) [
      | inl earlier ↦ i.covers t earlier s
      | inr later ↦ (let same : test ≡ t = omega arith in inr (subst (λ n. up < sum n) same (omega arith)))
    ];
    are = more-are test found i.are;
  })

  -- a test that is left out, as its sum is above the up
  pub waiting-left : (test : ℕ) (found more : List Waiting) → WaitingSoFar p group sum up test found → up < sum test → more ≡ found → WaitingSoFar p group sum up (test + 1) more
  waiting-left test found more i above e = subst (WaitingSoFar p group sum up (test + 1)) (sym e) (record {
    covers = λ t below s. elim (cases_lt t test) [
      | inl earlier ↦ i.covers t earlier s
      | inr later ↦ (let same : test ≡ t = omega arith in inr (subst (λ n. up < sum n) same above))
    ];
    are = more-are test found i.are;
  })

  -- where the up falls
  pub waiting-lower : (down test : ℕ) (found : List Waiting) → down ≤ up → WaitingSoFar p group sum up test found → WaitingSoFar p group sum down test found
  waiting-lower down test found falls i = record {
    covers = λ t lt s. elim (i.covers t lt s) [ inl b ↦ inl b | inr above ↦ inr (omega arith) ];
    are = i.are;
  }

  pub waiting-same : (test : ℕ) (found more : List Waiting) → WaitingSoFar p group sum up test found → splits p group test ≡ false → more ≡ found → WaitingSoFar p group sum up (test + 1) more
  waiting-same test found more i other e = subst (WaitingSoFar p group sum up (test + 1)) (sym e) (record {
    covers = λ t below s. elim (cases_lt t test) [
      | inl earlier ↦ i.covers t earlier s
      | inr later ↦ (let same : t ≡ test = omega arith in absurd (true≢false (sym s ∙ ap (splits p group) same ∙ other)))
    ];
    are = more-are test found i.are;
  })

  pub waiting-all : (v : Numbered) (test : ℕ) (found : List Waiting) → WaitingSoFar p group sum up test found → test ≡ p.tests → AreTestsOf p v group sum up [] found
  waiting-all v test found i e = record {
    covers = λ t h. (let lt = (count_up-IsIn t 0 p.tests (filter-IsIn (splits p group) t (count_up 0 p.tests) h)).1 in inr (i.covers t (omega arith) (filter_passes (splits p group) t (count_up 0 p.tests) h)));
    parts = All-nil (HasParts p v group);
    splits_are = All-nil (λ (s : Split). IsIn s.test (splitting p group));
    waiting_are = All-weaker (λ w. (w.test < test) × (splits p group w.test ≡ true)) (λ w. IsIn w.test (splitting p group))
        (λ w h. let lt = h.0 in IsIn-filter (splits p group) w.test (count_up 0 p.tests) (IsIn-count_up w.test 0 p.tests (omega arith) (omega arith)) h.1) found i.are;
  }

-- ---- a test is evaluated ----

module _ (p : Problem) (group : List ℕ) (before after : Numbered) (keeps : KeepsNumbers before after) where
  pub parts-kept : (s : Split) → HasParts p before group s → HasParts p after group s
  parts-kept s h = record { passing = keeps (pass_part p s.test group) s.pass h.passing; failing = keeps (fail_part p s.test group) s.fail h.failing }

  pub evaluated-keeps : (at : ℕ) (old new : Node) → EvaluatesAt p after group at old new → KeepsTests p before after group old new
  evaluated-keeps at old new e sum up h =
      subst (λ l. AreTestsOf p after group sum up l new.waiting.items) (sym e.splits) (subst (AreTestsOf p after group sum up (old.splits.items ++ e.split ∷ [])) (sym e.waiting) (record {
        covers = λ t i. elim (h.covers t i) [
          | inl listed ↦ inl (subst (IsIn t) (sym tests) (listed-before t (map (λ (s : Split). s.test) old.splits.items) (e.split.test ∷ []) listed))
          | inr (inl b) ↦ moved t b
          | inr (inr above) ↦ inr (inr above)
        ];
        parts = All-push (HasParts p after group) old.splits.items e.split (All-weaker (HasParts p before group) (HasParts p after group) parts-kept old.splits.items h.parts) e.parts;
        splits_are = All-push (λ (s : Split). IsIn s.test (splitting p group)) old.splits.items e.split h.splits_are (subst (λ n. IsIn n (splitting p group)) (sym e.test_is) (All-head (λ (w : Waiting). IsIn w.test (splitting p group)) e.entry (swap_remove old.waiting.items at e.entry) both));
        waiting_are = All-tail (λ (w : Waiting). IsIn w.test (splitting p group)) e.entry (swap_remove old.waiting.items at e.entry) both;
      }))
    where
      tests : map (λ (s : Split). s.test) (old.splits.items ++ e.split ∷ []) ≡ map (λ (s : Split). s.test) old.splits.items ++ e.split.test ∷ []
      tests = map-append (λ (s : Split). s.test) old.splits.items (e.split ∷ [])

      both : All (λ (w : Waiting). IsIn w.test (splitting p group)) (e.entry ∷ swap_remove old.waiting.items at e.entry)
      both = All-permutation (λ (w : Waiting). IsIn w.test (splitting p group)) old.waiting.items (e.entry ∷ swap_remove old.waiting.items at e.entry) (taken-is e.entry old.waiting.items at e.waited) h.waiting_are

      moved : (t : ℕ) → IsBelow sum old.waiting.items t → IsCovered sum up (old.splits.items ++ e.split ∷ []) (swap_remove old.waiting.items at e.entry) t
      moved t b = elim (waits-taken b.entry e.entry old.waiting.items at e.waited b.waits) [
        | inl same ↦ inl (subst (IsIn t) (sym tests) (subst (λ n. IsIn n (map (λ (s : Split). s.test) old.splits.items ++ e.split.test ∷ [])) (e.test_is ∙ ap (λ (w : Waiting). w.test) same ∙ b.test_is) (listed-last e.split.test (map (λ (s : Split). s.test) old.splits.items))))
        | inr stays ↦ inr (inl (record { entry = b.entry; waits = stays; test_is = b.test_is; least = b.least }))
      ]

-- ---- what is known of the tests stays known ----

-- what holds of the test of each evaluated one
all-tests : (P : ℕ → Type 0) (t : ℕ) (listed : List Split) → All (λ s. P s.test) listed → IsIn t (map (λ s. s.test) listed) → P t
all-tests P t [] h i = absurd i
all-tests P t (s ∷ rest) h (inl e) = subst P e (All-head (λ (s : Split). P s.test) s rest h)
all-tests P t (s ∷ rest) h (inr i) = all-tests P t rest (All-tail (λ (s : Split). P s.test) s rest h) i

-- the test of the evaluated one at a place is listed
pub listed-at : (listed : List Split) (k : ℕ) (s : Split) → slice_get listed k ≡ Some s → IsIn s.test (map (λ s. s.test) listed)
listed-at [] k s e = absurd (let bad : ⊥ = cc in bad)
listed-at (x ∷ rest) zero s e = inl (let same : x ≡ s = cc in ap (λ (s : Split). s.test) same)
listed-at (x ∷ rest) (suc k) s e = inr (listed-at rest k s e)

-- an evaluated test stays, or its sum is above the up
stays-listed : (sum : ℕ → ℕ) (up : ℕ) (keep : Split → Bool) (t : ℕ) (listed : List Split) → All (λ s. keep s ≡ false → up < sum s.test) listed → IsIn t (map (λ s. s.test) listed)
    → IsIn t (map (λ s. s.test) (filter keep listed)) ⊎ (up < sum t)
stays-listed sum up keep t [] h i = absurd i
stays-listed sum up keep t (s ∷ rest) h i = elim (cases_Bool (keep s)) [
  | inl y ↦ rw y (first (λ j. stays-listed sum up keep t rest (All-tail (λ (s : Split). keep s ≡ false → up < sum s.test) s rest h) j) i)
  | inr n ↦ rw n (out n (λ j. stays-listed sum up keep t rest (All-tail (λ (s : Split). keep s ≡ false → up < sum s.test) s rest h) j) i)
]
  where
    first : (IsIn t (map (λ (s : Split). s.test) rest) → IsIn t (map (λ (s : Split). s.test) (filter keep rest)) ⊎ (up < sum t)) → IsIn t (s.test ∷ map (λ (s : Split). s.test) rest)
        → IsIn t (s.test ∷ map (λ (s : Split). s.test) (filter keep rest)) ⊎ (up < sum t)
    first later (inl e) = inl (inl e)
    first later (inr j) = elim (later j) [ inl l ↦ inl (inr l) | inr above ↦ inr above ]

    out : keep s ≡ false → (IsIn t (map (λ (s : Split). s.test) rest) → IsIn t (map (λ (s : Split). s.test) (filter keep rest)) ⊎ (up < sum t)) → IsIn t (s.test ∷ map (λ (s : Split). s.test) rest)
        → IsIn t (map (λ (s : Split). s.test) (filter keep rest)) ⊎ (up < sum t)
    out n later (inl e) = inr (subst (λ m. up < sum m) e (All-head (λ (s : Split). keep s ≡ false → up < sum s.test) s rest h n))
    out n later (inr j) = later j

-- an entry stays, or its number is above the up
stays-waiting : (up : ℕ) (keep : Waiting → Bool) (w : Waiting) (waiting : List Waiting) → All (λ w. keep w ≡ false → up < w.least) waiting → Waits w waiting → Waits w (filter keep waiting) ⊎ (up < w.least)
stays-waiting up keep w [] h i = absurd i
stays-waiting up keep w (x ∷ rest) h i = elim (cases_Bool (keep x)) [
  | inl y ↦ rw y (first (λ j. stays-waiting up keep w rest (All-tail (λ (w : Waiting). keep w ≡ false → up < w.least) x rest h) j) i)
  | inr n ↦ rw n (out n (λ j. stays-waiting up keep w rest (All-tail (λ (w : Waiting). keep w ≡ false → up < w.least) x rest h) j) i)
]
  where
    first : (Waits w rest → Waits w (filter keep rest) ⊎ (up < w.least)) → Waits w (x ∷ rest) → Waits w (x ∷ filter keep rest) ⊎ (up < w.least)
    first later (inl e) = inl (inl e)
    first later (inr j) = elim (later j) [ inl l ↦ inl (inr l) | inr above ↦ inr above ]

    out : keep x ≡ false → (Waits w rest → Waits w (filter keep rest) ⊎ (up < w.least)) → Waits w (x ∷ rest) → Waits w (filter keep rest) ⊎ (up < w.least)
    out n later (inl e) = inr (subst (λ (w : Waiting). up < w.least) e (All-head (λ (w : Waiting). keep w ≡ false → up < w.least) x rest h n))
    out n later (inr j) = later j

module _ (p : Problem) (group : List ℕ) where
  -- where more groups have numbers
  pub tests-numbered : (before after : Numbered) (sum : ℕ → ℕ) (up : ℕ) (listed : List Split) (waiting : List Waiting) → KeepsNumbers before after
      → AreTestsOf p before group sum up listed waiting → AreTestsOf p after group sum up listed waiting
  tests-numbered before after sum up listed waiting keeps h = record {
    covers = h.covers;
    parts = All-weaker (HasParts p before group) (HasParts p after group) (parts-kept p group before after keeps) listed h.parts;
    splits_are = h.splits_are;
    waiting_are = h.waiting_are;
  }

  -- where nothing but the numbers changes
  pub same-keeps : (before after : Numbered) (old new : Node) → KeepsNumbers before after → new.splits.items ≡ old.splits.items → new.waiting.items ≡ old.waiting.items → KeepsTests p before after group old new
  same-keeps before after old new keeps splits_are waiting_are sum up h =
      subst (λ l. AreTestsOf p after group sum up l new.waiting.items) (sym splits_are) (subst (AreTestsOf p after group sum up old.splits.items) (sym waiting_are) (tests-numbered before after sum up old.splits.items old.waiting.items keeps h))

  -- where the sums rise and the up falls
  pub tests-risen : (v : Numbered) (sum more : ℕ → ℕ) (up down : ℕ) (listed : List Split) (waiting : List Waiting) → ((t : ℕ) → sum t ≤ more t) → down ≤ up
      → AreTestsOf p v group sum up listed waiting → AreTestsOf p v group more down listed waiting
  tests-risen v sum more up down listed waiting rises falls h = record {
    covers = λ t i. elim (h.covers t i) [
      | inl l ↦ inl l
      | inr (inl b) ↦ (let below = b.least in let r = rises t in inr (inl (record { entry = b.entry; waits = b.waits; test_is = b.test_is; least = omega arith })))
      | inr (inr above) ↦ (let r = rises t in inr (inr (omega arith)))
    ];
    parts = h.parts;
    splits_are = h.splits_are;
    waiting_are = h.waiting_are;
  }

  -- where evaluated tests of which the sums are above the up are left out
  pub tests-fewer_listed : (v : Numbered) (sum : ℕ → ℕ) (up : ℕ) (keep : Split → Bool) (listed fewer : List Split) (waiting : List Waiting) → fewer ≡ filter keep listed
      → All (λ s. keep s ≡ false → up < sum s.test) listed → AreTestsOf p v group sum up listed waiting → AreTestsOf p v group sum up fewer waiting
  tests-fewer_listed v sum up keep listed fewer waiting e others h = subst (λ l. AreTestsOf p v group sum up l waiting) (sym e) (record {
    covers = λ t i. elim (h.covers t i) [
      | inl l ↦ elim (stays-listed sum up keep t listed others l) [ inl there ↦ inl there | inr above ↦ inr (inr above) ]
      | inr other ↦ inr other
    ];
    parts = All-filter keep (HasParts p v group) listed h.parts;
    splits_are = All-filter keep (λ (s : Split). IsIn s.test (splitting p group)) listed h.splits_are;
    waiting_are = h.waiting_are;
  })

  -- where waiting tests of which the numbers are above the up are left out
  pub tests-fewer_waiting : (v : Numbered) (sum : ℕ → ℕ) (up : ℕ) (keep : Waiting → Bool) (listed : List Split) (waiting fewer : List Waiting) → fewer ≡ filter keep waiting
      → All (λ w. keep w ≡ false → up < w.least) waiting → AreTestsOf p v group sum up listed waiting → AreTestsOf p v group sum up listed fewer
  tests-fewer_waiting v sum up keep listed waiting fewer e others h = subst (AreTestsOf p v group sum up listed) (sym e) (record {
    covers = λ t i. elim (h.covers t i) [
      | inl l ↦ inl l
      | inr (inl b) ↦ elim (stays-waiting up keep b.entry waiting others b.waits) [
        | inl there ↦ inr (inl (record { entry = b.entry; waits = there; test_is = b.test_is; least = b.least }))
        | inr above ↦ (let below = b.least in inr (inr (omega arith)))
      ]
      | inr (inr above) ↦ inr (inr above)
    ];
    parts = h.parts;
    splits_are = h.splits_are;
    waiting_are = All-filter keep (λ (w : Waiting). IsIn w.test (splitting p group)) waiting h.waiting_are;
  })

-- ---- the test of least sum ----

-- each number is below all that come after it
abbrev AreUpward : List ℕ → Type 0
AreUpward [] = Unit {0}
AreUpward (x ∷ rest) = ((t : ℕ) → IsIn t rest → x < t) × AreUpward rest

upward-count_up : (from n : ℕ) → AreUpward (count_up from n)
upward-count_up from zero = tt
upward-count_up from (suc n) = (λ t i. (let b = (count_up-IsIn t (suc from) n i).0 in omega arith), upward-count_up (suc from) n)

upward-filter : (f : ℕ → Bool) (xs : List ℕ) → AreUpward xs → AreUpward (filter f xs)
upward-filter f [] u = tt
upward-filter f (x ∷ xs) u = elim (cases_Bool (f x)) [
  | inl y ↦ rw y ((λ t i. u.0 t (filter-IsIn f t xs i)), upward-filter f xs u.1)
  | inr n ↦ rw n (upward-filter f xs u.1)
]

first_least-in : (f : ℕ → ℕ) (x : ℕ) (xs : List ℕ) → IsIn (first_least f (x ∷ xs)) (x ∷ xs)
first_least-in f x [] = inl refl
first_least-in f x (y ∷ rest) = go (nat_le (f x) (f (first_least f (y ∷ rest)))) (first_least-in f y rest)
  where
    go : (b : Bool) → IsIn (first_least f (y ∷ rest)) (y ∷ rest) → IsIn (cond b x (first_least f (y ∷ rest))) (x ∷ y ∷ rest)
    go true i = inl refl
    go false i = inr i

-- the lowest of those at which f is least is the first of them
first-upward : (f : ℕ → ℕ) (u : ℕ) (xs : List ℕ) → AreUpward xs → IsIn u xs → ((t : ℕ) → IsIn t xs → f u ≤ f t) → ((t : ℕ) → IsIn t xs → f t ≡ f u → u ≤ t) → u ≡ first_least f xs
first-upward f u [] upward i low ties = absurd i
first-upward f u (x ∷ []) upward (inl e) low ties = sym e
first-upward f u (x ∷ []) upward (inr i) low ties = absurd i
first-upward f u (x ∷ y ∷ rest) upward (inl e) low ties =
    let le = low (first_least f (y ∷ rest)) (inr (first_least-in f y rest)) in
    let same = ap f e in
    rw (le-leb (f x) (f (first_least f (y ∷ rest))) (omega arith)) (sym e)
first-upward f u (x ∷ y ∷ rest) upward (inr i) low ties =
    let later = first-upward f u (y ∷ rest) upward.1 i (λ t j. low t (inr j)) (λ t j. ties t (inr j)) in
    let same = ap f later in
    let after = upward.0 u i in
    let le = low x (inl refl) in
    elim (cases_lt (f u) (f x)) [
      | inl lt ↦ rw (lt-leb (f x) (f (first_least f (y ∷ rest))) (omega arith)) later
      | inr ge ↦ absurd (let equal : f x ≡ f u = omega arith in let behind = ties x (inl refl) equal in let bad : ⊥ = omega arith in bad)
    ]

module _ (p : Problem) (v : Numbered) (group : List ℕ) (sum : ℕ → ℕ) (up : ℕ) (listed : List Split) (waiting : List Waiting) (h : AreTestsOf p v group sum up listed waiting) (u : ℕ) where
  -- a sum that is at most each evaluated one, each number that a test waits with, and the up, is at most that of each test that
  -- splits the group
  pub tests-least : All (λ s. sum u ≤ sum s.test) listed → All (λ w. sum u ≤ w.least) waiting → sum u ≤ up → (t : ℕ) → IsIn t (splitting p group) → sum u ≤ sum t
  tests-least lists waits le t i = elim (h.covers t i) [
    | inl l ↦ all-tests (λ n. sum u ≤ sum n) t listed lists l
    | inr (inl b) ↦ (let a = all-waits (λ w. sum u ≤ w.least) b.entry waiting waits b.waits in let below = b.least in omega arith)
    | inr (inr above) ↦ omega arith
  ]

  -- of the evaluated ones of least sum the lowest is the first of least sum of all, where each that waits has a greater sum
  pub tests-first : IsIn u (map (λ s. s.test) listed) → All (λ s. sum u ≤ sum s.test) listed → All (λ s. sum s.test ≡ sum u → u ≤ s.test) listed → All (λ w. sum u < w.least) waiting → sum u ≤ up
      → u ≡ first_least sum (splitting p group)
  tests-first there lists ties waits le =
      first-upward sum u (splitting p group) (upward-filter (splits p group) (count_up 0 p.tests) (upward-count_up 0 p.tests)) (all-tests (λ n. IsIn n (splitting p group)) u listed h.splits_are there)
      (tests-least lists (All-weaker (λ (w : Waiting). sum u < w.least) (λ (w : Waiting). sum u ≤ w.least) (λ w lt. omega arith) waiting waits) le)
      (λ t i e. elim (h.covers t i) [
        | inl l ↦ all-tests (λ n. sum n ≡ sum u → u ≤ n) t listed ties l e
        | inr (inl b) ↦ absurd (let a = all-waits (λ w. sum u < w.least) b.entry waiting waits b.waits in let below = b.least in let bad : ⊥ = omega arith in bad)
        | inr (inr above) ↦ absurd (let bad : ⊥ = omega arith in bad)
      ])

-- each sum of a test that splits a group is more than 0, as costs and weights are
pub sum-positive : (inst : Instance) (l : List ℕ → ℕ) (group : List ℕ) (t : ℕ) → IsWithin (problem_of inst) group → t < (problem_of inst).tests → splits (problem_of inst) group t ≡ true → 0 < step_sum (problem_of inst) l group t
sum-positive inst l [] t within there split = absurd (let lt = pass_part_smaller (problem_of inst) t [] split in let bad : ⊥ = omega arith in bad)
sum-positive inst l (c ∷ rest) t within there split =
    let p = problem_of inst in
    let weight = inst.stands.weighed.positive c (within c (inl refl)) in
    let cost = (inst.valid.costs t there).0 in
    let product = product-le 1 1 (p.cost t) (weight_of p (c ∷ rest)) cost (omega arith) in
    omega arith

-- so where no test is listed each has a sum above 0
pub tests-unlisted : (inst : Instance) (l : List ℕ → ℕ) (group : List ℕ) (v : Numbered) → IsWithin (problem_of inst) group → (listed : List Split) (waiting : List Waiting) → listed ≡ [] → waiting ≡ []
    → AreTestsOf (problem_of inst) v group (step_sum (problem_of inst) l group) 0 listed waiting
tests-unlisted inst l group v within listed waiting none none_wait =
    let p = problem_of inst in
    record {
      covers = λ t h.
          let lt = (count_up-IsIn t 0 p.tests (filter-IsIn (splits p group) t (count_up 0 p.tests) h)).1 in
          inr (inr (sum-positive inst l group t within (omega arith) (filter_passes (splits p group) t (count_up 0 p.tests) h)));
      parts = subst (All (HasParts p v group)) (sym none) (All-nil (HasParts p v group));
      splits_are = subst (All (λ (s : Split). IsIn s.test (splitting p group))) (sym none) (All-nil (λ (s : Split). IsIn s.test (splitting p group)));
      waiting_are = subst (All (λ (w : Waiting). IsIn w.test (splitting p group))) (sym none_wait) (All-nil (λ (w : Waiting). IsIn w.test (splitting p group)));
    }
