-- A change of one row that keeps its group keeps the places and the fitness of the rows; in the theory's
-- rows it is the theory's change.
use Rattle.std.proofs.Common.{◌≡◌, ℕ, zero, suc, ◌<◌, max, min, List, [], ◌∷◌, length, get_or, set, refl, ap, arith, inl, inr, subst}
use Rattle.seq_theory.specs.Problem.{Problem}
use Rattle.seq_theory.specs.Rows.{Row as TheoryRow, change_at}
use Rattle.seq_inst.specs.declared.outcome.Row.{Row}
use Rattle.seq_inst.specs.Members.{members}
use Rattle.seq_core.specs.Mapping.{Placed}
use Rattle.seq_core.specs.RowsOf.{row_of, rows_of, IsFit, AreFit}
use Rattle.seq_core.specs.Tables.{placed_groups}
use Rattle.seq_core.specs.Changes.{change_row, raised, capped}
use Rattle.seq_core.proofs.TableLaws.{no_row}

pub set-change : (rows : List Row) (k : ℕ) (f : Row → Row) → k < length rows → set rows k (f (get_or rows k no_row)) ≡ change_row rows k f
set-change [] k f lt = absurd (let bad : ⊥ = omega arith in bad)
set-change (r ∷ rest) zero f lt = refl
set-change (r ∷ rest) (suc k) f lt = ap (λ l. r ∷ l) (set-change rest k f (omega arith))

pub length-change : (rows : List Row) (k : ℕ) (f : Row → Row) → length (change_row rows k f) ≡ length rows
length-change [] k f = refl
length-change (r ∷ rest) zero f = refl
length-change (r ∷ rest) (suc k) f = ap suc (length-change rest k f)

pub numbered-change : (n : ℕ) (rows : List Row) (k : ℕ) (f : Row → Row) → ((r : Row) → (f r).group ≡ r.group) → placed_groups n (change_row rows k f) ≡ placed_groups n rows
numbered-change n [] k f same = refl
numbered-change n (r ∷ rest) zero f same = ap (λ (g : List ℕ). record { group = g; place = n } ∷ placed_groups (suc n) rest) (ap members (same r))
numbered-change n (r ∷ rest) (suc k) f same = ap (λ (l : List Placed). record { group = members r.group; place = n } ∷ l) (numbered-change (suc n) rest k f same)

pub raised-rows : (rows : List Row) (k to : ℕ) → rows_of (change_row rows k (raised to)) ≡ change_at (rows_of rows) k (λ r. record { group = r.group; low = max r.low to; up = r.up })
raised-rows [] k to = refl
raised-rows (r ∷ rest) zero to = refl
raised-rows (r ∷ rest) (suc k) to = ap (λ (l : List TheoryRow). row_of r ∷ l) (raised-rows rest k to)

pub capped-rows : (rows : List Row) (k to : ℕ) → rows_of (change_row rows k (capped to)) ≡ change_at (rows_of rows) k (λ r. record { group = r.group; low = r.low; up = min r.up to })
capped-rows [] k to = refl
capped-rows (r ∷ rest) zero to = refl
capped-rows (r ∷ rest) (suc k) to = ap (λ (l : List TheoryRow). row_of r ∷ l) (capped-rows rest k to)

-- the rows fit after the change where the changed row fits
pub fit-change : (p : Problem) (rows : List Row) (k : ℕ) (f : Row → Row) → IsFit p (row_of (f (get_or rows k no_row))) → AreFit p (rows_of rows) → AreFit p (rows_of (change_row rows k f))
fit-change p [] k f one a x i = absurd i
fit-change p (r ∷ rest) zero f one a x (inl e) = subst (IsFit p) e one
fit-change p (r ∷ rest) zero f one a x (inr i) = a x (inr i)
fit-change p (r ∷ rest) (suc k) f one a x (inl e) = a x (inl e)
fit-change p (r ∷ rest) (suc k) f one a x (inr i) = fit-change p rest k f one (λ y j. a y (inr j)) x i
