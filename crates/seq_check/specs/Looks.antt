-- What a checker looks at, line by line.
use Rattle.std.specs.Prelude.{◌≡◌, ℕ, Bool, true, cond, List, [], ◌∷◌, Option, Some, None, is_none}
use Rattle.seq_cert.specs.declared.fault.BadCode.{BadCode}
use Rattle.seq_cert.specs.declared.fault.BadLine.{BadLine}

-- a line, a code, and whether the line is good by it
pub record Look : Type 0 where
  pub line : ℕ
  pub code : BadCode
  pub good : Bool

abbrev pub look : ℕ → BadCode → Bool → Look
look line code good = record { line = line; code = code; good = good }

-- the first look that is not good
abbrev pub first_bad : List Look → Option BadLine
first_bad [] = None
first_bad (l ∷ looks) = cond l.good (first_bad looks) (Some (record { line = l.line; code = l.code }))

-- whether no look is bad
abbrev pub all_good : List Look → Bool
all_good looks = is_none (first_bad looks)

-- every look is good
abbrev pub AreGood : List Look → Type 0
AreGood [] = Unit {0}
AreGood (l ∷ looks) = (l.good ≡ true) × AreGood looks
