-- The evaluated test of least sum, the lowest of these; when it is certain; and the lesser of a number and a value.
use Rattle.std.specs.Prelude.{◌≡◌, ◌⊎◌, true, ℕ, ◌<◌, ◌≤◌, cond, nat_le, nat_lt, nat_eq, ◌&&◌, ◌||◌, min, length, slice_index_or, All, Contains, List, [], Option, Some, None}
use Rattle.seq_theory.specs.Problem.{Problem, IsIn, splits, splitting}
use Rattle.seq_graph.specs.declared.node.Split.{Split}
use Rattle.seq_graph.specs.declared.node.Waiting.{Waiting}
use Rattle.seq_graph.specs.declared.choice.Chosen.{Chosen}
use Rattle.seq_graph.specs.declared.plain.Plain.{Plain}

-- the earlier choice, unless the new sum is less, or no more and its test lower
abbrev pub lesser_split : Option Chosen → Split → ℕ → Chosen
lesser_split None s sum = record { split = s; sum = sum }
lesser_split (Some c) s sum = cond (nat_lt c.sum sum || (nat_eq c.sum sum && nat_le c.split.test s.test)) c (record { split = s; sum = sum })

-- the choice has a sum that is less than the test's, or no more and a test that is no higher
abbrev pub IsBefore : (ℕ → ℕ) → Chosen → Split → Type 0
IsBefore f c s = (c.sum < f s.test) ⊎ ((c.sum ≡ f s.test) × (c.split.test ≤ s.test))

-- it is one of these tests, and before each of them
pub record IsLeastOf (f : ℕ → ℕ) (splits : List Split) (c : Chosen) : Type 0 where
  pub among : Contains splits c.split
  pub sum : c.sum ≡ f c.split.test
  pub least : All (IsBefore f c) splits

-- there is one where there are any tests
abbrev pub IsChoice : (ℕ → ℕ) → List Split → Option Chosen → Type 0
IsChoice f splits None = splits ≡ []
IsChoice f splits (Some c) = IsLeastOf f splits c

-- each test that waits has a greater sum, as it waits with a greater number
abbrev pub IsCertain : Option Chosen → List Waiting → Type 0
IsCertain None waiting = waiting ≡ []
IsCertain (Some c) waiting = All (λ w. c.sum < w.least) waiting

abbrev pub no_waiting : Waiting
no_waiting = record { test = 0; least = 0 }

-- at this place waits a test with the least of the numbers
pub record IsLeastWaiting (waiting : List Waiting) (at : ℕ) : Type 0 where
  pub there : at < length waiting
  pub least : All (λ w. (slice_index_or waiting at no_waiting).least ≤ w.least) waiting

-- the lesser of a number and a value, if there is one
abbrev pub lesser_value : ℕ → Option ℕ → ℕ
lesser_value n None = n
lesser_value n (Some v) = min n v

-- the earlier choice, unless the sum of a later test is less
abbrev pub lesser_plain : Option Plain → (test sum : ℕ) → Plain
lesser_plain None test sum = record { test = test; sum = sum }
lesser_plain (Some c) test sum = cond (nat_le c.sum sum) c (record { test = test; sum = sum })

-- the first of least sum of the splitting tests below a number, if there are any
abbrev pub LeastBelow : Problem → List ℕ → (ℕ → ℕ) → ℕ → Option Plain → Type 0
LeastBelow p group f k None = (t : ℕ) → t < k → splits p group t ≡ true → ⊥
LeastBelow p group f k (Some c) = IsIn c.test (splitting p group) × (c.sum ≡ f c.test) × (c.test < k) × ((t : ℕ) → t < k → splits p group t ≡ true → (c.sum < f t) ⊎ ((c.sum ≡ f t) × (c.test ≤ t)))
