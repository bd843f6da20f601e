-- One row settled after another, by size: each smaller group had its turn, so the row whose turn it is gets its low and its
-- value, and the others stay as they were.
use Rattle.std.proofs.Common.{◌≡◌, ◌≢◌, ◌⊎◌, ℕ, zero, suc, ◌+◌, ◌<◌, ◌≤◌, max, min, List, [], ◌∷◌, length, refl, sym, ap, ◌∙◌, arith, inl, inr, subst, Option, Some}
use Rattle.std.specs.Prelude.{false, map, slice_index}
use Rattle.std.proofs.lemmas.Bool.{cases_lt}
use Rattle.std.proofs.lemmas.List.{get_or-map}
use Rattle.seq_theory.specs.Problem.{Problem, IsWithin, is_end}
use Rattle.seq_theory.specs.Graph.{low, val}
use Rattle.seq_theory.specs.Rows.{Row as TheoryRow, IsRow, most_low, least_up}
use Rattle.seq_theory.proofs.LowLaws.{low-le-least}
use Rattle.seq_theory.proofs.GreedyLaws.{least-le-greedy}
use Rattle.seq_inst.specs.declared.group.Group.{Group}
use Rattle.seq_inst.specs.declared.instance.Instance.{Instance}
use Rattle.seq_inst.specs.declared.outcome.Row.{Row}
use Rattle.seq_inst.specs.Members.{members}
use Rattle.seq_inst.specs.Instances.{problem_of}
use Rattle.seq_huff.specs.Bounds.{greatest_cost}
use Rattle.seq_theory.proofs.CountedLaws.{counted-length, counted-there, counted-below}
use Rattle.seq_core.specs.RowsOf.{row_of, rows_of, IsFit, AreFit}
use Rattle.seq_core.specs.Changes.{new_row, change_row, raised, capped}
use Rattle.seq_core.specs.Allowed.{IsMostLow, IsLeastUp, tight_row, tightened}
use Rattle.seq_core.specs.Settled.{groups_in, value_or, AreGroups, settled_row, settled_rows, first_row, row_at, size_at, sizes_of, AreDoneBelow, IsAmongFirst, IsSettledTo, IsBySize}
use Rattle.seq_core.proofs.TableLaws.{get-row, row-among}
use Rattle.seq_core.proofs.ChangeLaws.{fit-change, length-change}
use Rattle.seq_core.proofs.SettleLaws.{HasValue, group-at, value-at, raised-settled, capped-settled, settled-more, settled-all, fresh-settling}

change-same : (rows : List Row) (k : ℕ) (f : Row → Row) → k < length rows → row_at (change_row rows k f) k ≡ f (row_at rows k)
change-same [] k f lt = absurd (let bad : ⊥ = omega arith in bad)
change-same (r ∷ rest) zero f lt = refl
change-same (r ∷ rest) (suc k) f lt = change-same rest k f (omega arith)

change-other : (rows : List Row) (k j : ℕ) (f : Row → Row) → j ≢ k → row_at (change_row rows k f) j ≡ row_at rows j
change-other [] k j f ne = refl
change-other (r ∷ rest) zero zero f ne = absurd (ne refl)
change-other (r ∷ rest) zero (suc j) f ne = refl
change-other (r ∷ rest) (suc k) zero f ne = refl
change-other (r ∷ rest) (suc k) (suc j) f ne = change-other rest k j f (λ e. ne (ap suc e))

-- only what a change makes of the row at the place counts
change-agree : (rows : List Row) (k : ℕ) (f g : Row → Row) → f (row_at rows k) ≡ g (row_at rows k) → change_row rows k f ≡ change_row rows k g
change-agree [] k f g e = refl
change-agree (r ∷ rest) zero f g e = ap (λ (x : Row). x ∷ rest) e
change-agree (r ∷ rest) (suc k) f g e = ap (λ l. r ∷ l) (change-agree rest k f g e)

change-twice : (rows : List Row) (k : ℕ) (f g : Row → Row) → change_row (change_row rows k f) k g ≡ change_row rows k (λ r. g (f r))
change-twice [] k f g = refl
change-twice (r ∷ rest) zero f g = refl
change-twice (r ∷ rest) (suc k) f g = ap (λ l. r ∷ l) (change-twice rest k f g)

-- raised to the most and capped to the least
pub tightened-is : (p : Problem) (rows : List Row) (k n m : ℕ) → k < length rows → IsMostLow p rows k n → IsLeastUp p rows k m → change_row (change_row rows k (raised n)) k (capped m) ≡ tightened p rows k
tightened-is p rows k n m there low_is up_is =
    let r = row_at rows k in
    let l = low_is _ (get-row rows k there) in
    let u = up_is _ (get-row rows k there) in
    change-twice rows k (raised n) (capped m)
    ∙ change-agree rows k (λ r. capped m (raised n r)) (tight_row p rows)
    (ap (λ x. record { group = r.group; low = max r.low x; up = min r.up m }) l
    ∙ ap (λ x. record { group = r.group; low = max r.low (most_low p (rows_of rows) (members r.group)); up = min r.up x }) u)

-- the low of a group fits
low-fits : (inst : Instance) (entered : List (List ℕ)) (g : Group) → IsWithin (problem_of inst) (members g) → low (problem_of inst) entered (members g) ≤ greatest_cost
low-fits inst entered g within =
    let a = low-le-least (problem_of inst) entered (members g) inst.stands.weighed inst.valid.told within in
    let b = least-le-greedy (problem_of inst) (members g) inst.valid.told within in
    let c = inst.stands.greedy_fits g within in
    omega arith

size-read : (rows : List Row) (k : ℕ) → k < length rows → slice_index (sizes_of rows) k ≡ size_at rows k
size-read rows k lt = get_or-map (λ (r : Row). length (members r.group)) rows k first_row 0 lt

-- what is smaller than the group whose turn it is had its turn
pub turns-below : (rows : List Row) (order : List ℕ) (n : ℕ) → IsBySize rows order → n < length order → AreDoneBelow rows (IsAmongFirst order n) (size_at rows (slice_index order n))
turns-below rows order n by lt j there less =
    let many = counted-length (length rows) order by.each_once in
    let at = counted-there (length rows) order by.each_once j there in
    let stands = at.1 in
    elim (cases_lt at.0 n) [
      | inl before ↦ (at.0, before, at.2)
      | inr after ↦ absurd (
          let up = by.rising n at.0 0 after (omega arith) in
          let k = slice_index order n in
          let a = size-read rows k (counted-below (length rows) order by.each_once n (omega arith)) in
          let b = size-read rows j there in
          let c = ap (slice_index (sizes_of rows)) at.2 in
          let bad : ⊥ = omega arith in bad)
    ]

-- after one more turn
pub turns-next : (order : List ℕ) (n j : ℕ) → IsAmongFirst order (n + 1) j → IsAmongFirst order n j ⊎ (j ≡ slice_index order n)
turns-next order n j d = elim (cases_lt d.0 n) [
  | inl before ↦ inl (d.0, before, d.2)
  | inr after ↦ (let l = d.1 in let e : d.0 ≡ n = omega arith in inr (sym d.2 ∙ ap (slice_index order) e))
]

-- at the end all had theirs
pub turns-all : (rows : List Row) (order : List ℕ) (n : ℕ) → IsBySize rows order → n ≡ length order → (k : ℕ) → k < length rows → IsAmongFirst order n k
turns-all rows order n by e k lt =
    let many = counted-length (length rows) order by.each_once in
    let at = counted-there (length rows) order by.each_once k lt in
    let l = at.1 in
    (at.0, omega arith, at.2)

-- rows of which nothing is known fit
fresh-fit : (p : Problem) (rows : List Row) → ((r : TheoryRow) → IsRow r (rows_of rows) → IsWithin p r.group) → ((r : TheoryRow) → IsRow r (rows_of rows) → is_end p r.group ≡ false) → AreFit p (rows_of (map (λ r. new_row r.group) rows))
fresh-fit p [] within goals x i = absurd i
fresh-fit p (r ∷ rest) within goals x (inl e) = subst (IsFit p) e (record { within = within (row_of r) (inl refl); goals = goals (row_of r) (inl refl); small = omega arith })
fresh-fit p (r ∷ rest) within goals x (inr i) = fresh-fit p rest (λ y j. within y (inr j)) (λ y j. goals y (inr j)) x i

pub settled-next : (inst : Instance) (rows now : List Row) (order : List ℕ) (n : ℕ) → IsBySize rows order → n < length order → IsSettledTo (problem_of inst) rows now order n
    → IsSettledTo (problem_of inst) rows (tightened (problem_of inst) now (slice_index order n)) order (n + 1)
settled-next inst rows now order n by lt s =
    let p = problem_of inst in
    let entered = groups_in rows in
    let k = slice_index order n in
    let many = counted-length (length rows) order by.each_once in
    let there : k < length rows = counted-below (length rows) order by.each_once n (omega arith) in
    let long = s.settling.many in
    let lt_now : k < length now = omega arith in
    let below = turns-below rows order n by lt in
    let same = (s.settling.each k there).group in
    let g = members (row_at rows k).group in
    let at = group-at p rows k s.settling.groups there in
    let r = row_at now k in
    let low_is : max r.low (most_low p (rows_of now) (members r.group)) ≡ low p entered g =
    ap (λ (x : Group). max r.low (most_low p (rows_of now) (members x))) same ∙ raised-settled inst rows now (IsAmongFirst order n) s.settling k there below in
    let up_is : min r.up (least_up p (rows_of now) (members r.group)) ≡ value_or (val p entered g) =
    ap (λ (x : Group). min r.up (least_up p (rows_of now) (members x))) same ∙ capped-settled inst rows now (IsAmongFirst order n) s.settling k there below in
    let settled : tight_row p now r ≡ settled_row p entered (row_at rows k) =
    ap (λ (x : Group). record { group = x; low = max r.low (most_low p (rows_of now) (members r.group)); up = min r.up (least_up p (rows_of now) (members r.group)) }) same
    ∙ ap (λ x. record { group = (row_at rows k).group; low = x; up = min r.up (least_up p (rows_of now) (members r.group)) }) low_is
    ∙ ap (λ x. record { group = (row_at rows k).group; low = low p entered g; up = x }) up_is in
    let fits = low-fits inst entered (row_at rows k).group at.within in
    let fit = s.fit (row_of r) (row-among now k lt_now) in
    record {
      fit = fit-change p now k (tight_row p now) (record { within = fit.within; goals = fit.goals; small = omega arith }) s.fit;
      settling = settled-more p rows now (tightened p now k) (IsAmongFirst order n) (IsAmongFirst order (n + 1)) k s.settling (length-change now k (tight_row p now))
          (change-same now k (tight_row p now) lt_now ∙ settled)
          (λ j ne. change-other now k j (tight_row p now) ne)
          (turns-next order n);
    }

pub settled-none : (inst : Instance) (rows now : List Row) (order : List ℕ) → AreGroups (problem_of inst) rows → now ≡ map (λ r. new_row r.group) rows → IsSettledTo (problem_of inst) rows now order 0
settled-none inst rows now order groups is =
    let start = fresh-settling inst rows now groups is in
    record {
      fit = subst (λ l. AreFit (problem_of inst) (rows_of l)) (sym is) (fresh-fit (problem_of inst) rows groups.within groups.goals);
      settling = record {
        groups = groups;
        many = start.many;
        each = start.each;
        done = λ k lt d. absurd (let l = d.1 in let bad : ⊥ = omega arith in bad);
      };
    }

pub settled-end : (p : Problem) (rows now : List Row) (order : List ℕ) (n : ℕ) → IsBySize rows order → n ≡ length order → IsSettledTo p rows now order n → now ≡ settled_rows p rows
settled-end p rows now order n by e s = settled-all p rows now (IsAmongFirst order n) s.settling (turns-all rows order n by e)

-- the lows and the ups of settled rows
lows-of : (p : Problem) (entered : List (List ℕ)) (rows : List Row) → map (λ (r : Row). r.low) (map (settled_row p entered) rows) ≡ map (low p entered) (groups_in rows)
lows-of p entered [] = refl
lows-of p entered (r ∷ rest) = ap (λ (l : List ℕ). low p entered (members r.group) ∷ l) (lows-of p entered rest)

pub lows-settled : (p : Problem) (rows settled : List Row) → settled ≡ settled_rows p rows → map (λ (r : Row). r.low) settled ≡ map (low p (groups_in rows)) (groups_in rows)
lows-settled p rows settled e = ap (map (λ (r : Row). r.low)) e ∙ lows-of p (groups_in rows) rows

-- each group of the rows has a value
ups-of : (p : Problem) (entered : List (List ℕ)) (rows : List Row) → ((k : ℕ) → k < length rows → HasValue p entered (members (row_at rows k).group)) → map (λ n. Some n) (map (λ (r : Row). r.up) (map (settled_row p entered) rows)) ≡ map (val p entered) (groups_in rows)
ups-of p entered [] has = refl
ups-of p entered (r ∷ rest) has =
    let v = has 0 (omega arith) in
    ap (λ (o : Option ℕ). Some (value_or o) ∷ map (λ n. Some n) (map (λ (x : Row). x.up) (map (settled_row p entered) rest))) v.is
    ∙ ap (λ (l : List (Option ℕ)). Some v.value ∷ l) (ups-of p entered rest (λ k lt. has (suc k) (omega arith)))
    ∙ ap (λ (o : Option ℕ). o ∷ map (val p entered) (groups_in rest)) (sym v.is)

pub ups-settled : (inst : Instance) (rows settled : List Row) → AreGroups (problem_of inst) rows → settled ≡ settled_rows (problem_of inst) rows
    → map (λ n. Some n) (map (λ (r : Row). r.up) settled) ≡ map (val (problem_of inst) (groups_in rows)) (groups_in rows)
ups-settled inst rows settled groups e =
    let p = problem_of inst in
    ap (λ l. map (λ n. Some n) (map (λ (r : Row). r.up) l)) e ∙ ups-of p (groups_in rows) rows (λ k lt. value-at inst rows k groups lt)
