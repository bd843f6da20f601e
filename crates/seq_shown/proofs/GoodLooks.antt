-- Looks that are all good: none is bad, and so are those of two lists together.
use Rattle.std.proofs.Common.{◌≡◌, List, [], ◌∷◌, ◌++◌, refl, ap, None}
use Rattle.std.specs.Prelude.{true, is_none}
use Rattle.seq_check.specs.Looks.{Look, first_bad, all_good, AreGood}

pub none-bad : (xs : List Look) → AreGood xs → first_bad xs ≡ None
none-bad [] g = refl
none-bad (l ∷ xs) g = rw (g.0) (none-bad xs g.1)

pub all-good : (xs : List Look) → AreGood xs → all_good xs ≡ true
all-good xs g = ap is_none (none-bad xs g)

pub good-both : (xs ys : List Look) → AreGood xs → AreGood ys → AreGood (xs ++ ys)
good-both [] ys g h = h
good-both (l ∷ xs) ys g h = (g.0, good-both xs ys g.1 h)
