-- Counts of faults and of calls. A count is a u64, which can't rise past its last value: it stays there.
use Rattle.std.specs.Prelude.{ℕ, ◌+◌, ◌-◌, ◌^◌, ◌≤◌, min}

-- the count after one more, which stays at its type's last value
abbrev pub one_more : ℕ → ℕ
one_more count = min (count + 1) (2 ^ 64 - 1)

-- the count is greater than before, or stands at its type's last value
abbrev pub Rose : ℕ → ℕ → Type 0
Rose before now = one_more before ≤ now
