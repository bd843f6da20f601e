-- Two queues of numbers in upward order, as van Leeuwen's way to Huffman's cost has them.
use Rattle.std.specs.Prelude.{◌≡◌, ◌⊎◌, ◌≤◌, ℕ, List, ◌∷◌, get_or}

-- the number is the first of one queue, and at most the first of the other, if there is one; its own queue goes on
-- without it
abbrev pub TakesLeast : (weights sums : List ℕ) → ℕ → (weights_left sums_left : List ℕ) → Type 0
TakesLeast weights sums n weights_left sums_left =
    ((weights ≡ n ∷ weights_left) × (sums ≡ sums_left) × (n ≤ get_or sums 0 n))
    ⊎ ((sums ≡ n ∷ sums_left) × (weights ≡ weights_left) × (n ≤ get_or weights 0 n))
