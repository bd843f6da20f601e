-- What a search ends with. Where low and up of the group of all classes meet, the low over the entered groups and their value
-- meet between them, for both lie on the far sides of the least cost.
use Rattle.std.proofs.Common.{◌≡◌, ◌≢◌, ℕ, suc, ◌<◌, ◌≤◌, List, [], ◌∷◌, ◌++◌, length, get_or, refl, sym, ap, ◌∙◌, arith, inl, inr, subst, Option, Some, None}
use Rattle.std.specs.Prelude.{true, false}
use Rattle.std.proofs.lemmas.List.{get_or_read}
use Rattle.seq_theory.specs.Problem.{Problem, all_classes, is_end}
use Rattle.seq_theory.specs.Graph.{is_entered, low, val, IsWanted, root, IsReal}
use Rattle.seq_theory.specs.Rows.{no_value, groups_of, IsSound}
use Rattle.seq_theory.proofs.LowLaws.{low-end, low-le-least}
use Rattle.seq_theory.proofs.ValLaws.{val-end, val-entered, least-le-val}
use Rattle.seq_theory.proofs.RowLaws.{none-sound, wanted-within}
use Rattle.seq_inst.specs.declared.group.Group.{Group}
use Rattle.seq_inst.specs.declared.instance.Instance.{Instance}
use Rattle.seq_inst.specs.declared.outcome.Row.{Row}
use Rattle.seq_inst.specs.Members.{members}
use Rattle.seq_inst.specs.Instances.{problem_of}
use Rattle.seq_core.specs.RowsOf.{row_of as row_from, rows_of as rows_from}
use Rattle.seq_core.specs.Settled.{groups_in}
use Rattle.seq_core.specs.Entered.{MayStop}
use Rattle.seq_solo.proofs.RowLaws.{length-Narrows, group-Narrows, row-among, row-entered}
use Rattle.seq_graph.specs.Known.{AreSound, no_row, row_at, group_at, Narrows, IsClosedAt}
use Rattle.seq_graph.specs.Walks.{HasMoved, IsStopped, HasTurned}
use Rattle.seq_solo.specs.Found.{BeginsWithAll, IsSolved, StoppedAtLimit, HasEnded}

-- a walk under way: the rows are sound, the first is that of all classes, and there are no more than the limit allows
pub record IsWalking (p : Problem) (limit : ℕ) (rows : List Row) : Type 0 where
  pub sound : AreSound p rows
  pub few : length rows ≤ limit
  pub some : 1 ≤ length rows
  pub first : members (group_at rows 0) ≡ all_classes p

-- ---- beginning ----

pub root-real : (p : Problem) (g : Group) → members g ≡ all_classes p → is_end p (members g) ≡ false → IsReal p (members g)
root-real p g e goals = record { wanted = subst (IsWanted p) (sym e) root; goals = goals }

pub begun : (p : Problem) (limit : ℕ) (g : Group) (rows new : List Row) → 1 ≤ limit → members g ≡ all_classes p → rows ≡ [] → AreSound p new → Narrows (rows ++ record { group = g; low = 0; up = no_value } ∷ []) new → IsWalking p limit new
begun p limit g rows new some e none sound n =
    let row : Row = record { group = g; low = 0; up = no_value } in
    let n1 : Narrows (row ∷ []) new = subst (λ l. Narrows (l ++ row ∷ []) new) none n in
    let long = length-Narrows (row ∷ []) new n1 in
    record {
      sound = sound;
      few = omega arith;
      some = omega arith;
      first = ap members (group-Narrows (row ∷ []) new 0 n1 (omega arith)) ∙ e;
    }

-- ---- going on ----

pub goes-on : (p : Problem) (limit : ℕ) (old new : List Row) → IsWalking p limit old → AreSound p new → HasMoved p limit old new → IsWalking p limit new
goes-on p limit old new w sound m =
    let some = w.some in
    let k = m.keeps 0 (omega arith) in
    let k0 = k.0 in
    record {
      sound = sound;
      few = m.few;
      some = omega arith;
      first = ap members k.1 ∙ w.first;
    }

-- ---- ending ----

pub sound-more : (p : Problem) (limit : ℕ) (rows : List Row) → AreSound p rows → length rows ≤ limit → IsSound p limit (rows_from rows)
sound-more p limit rows s le = let few = s.few in record { few = omega arith; distinct = s.distinct; real = s.real; lows = s.lows; ups = s.ups }

-- and under their own number
pub sound-long : (p : Problem) (limit : ℕ) (rows : List Row) → IsSound p limit (rows_from rows) → AreSound p rows
sound-long p limit rows s = record { few = (let l = length-from rows in omega arith); distinct = s.distinct; real = s.real; lows = s.lows; ups = s.ups }
  where
    length-from : (l : List Row) → length (rows_from l) ≡ length l
    length-from [] = refl
    length-from (r ∷ rest) = ap suc (length-from rest)

pub walking-sound : (p : Problem) (limit : ℕ) (rows : List Row) → IsWalking p limit rows → IsSound p limit (rows_from rows)
walking-sound p limit rows w = sound-more p limit rows w.sound w.few

pub walking-begins : (p : Problem) (limit : ℕ) (rows : List Row) → is_end p (all_classes p) ≡ false → IsWalking p limit rows → BeginsWithAll p rows
walking-begins p limit rows more w = record {
  some = λ e. w.some;
  first = λ e. w.first;
  none = λ e. absurd (let bad : false ≡ true = sym more ∙ e in let b : ⊥ = cc in b);
}

closed-enough : (inst : Instance) (rows : List Row) → AreSound (problem_of inst) rows → (k : ℕ) → k < length rows → IsClosedAt rows k
    → val (problem_of inst) (groups_of (rows_from rows)) (members (group_at rows k)) ≡ Some (low (problem_of inst) (groups_of (rows_from rows)) (members (group_at rows k)))
closed-enough inst rows sound k lt closed =
    let p = problem_of inst in
    let g = members (group_at rows k) in
    let entered = groups_of (rows_from rows) in
    let real = sound.real _ (row-among rows k no_row lt) in
    let within = wanted-within p g real.wanted in
    let value = val-entered p entered g real.goals (row-entered rows k no_row lt) in
    let below = sound.lows (row_from (row_at rows k)) (row-among rows k no_row lt) in
    let above = sound.ups (row_from (row_at rows k)) (row-among rows k no_row lt) _ value in
    let left = low-le-least p entered g inst.stands.weighed inst.valid.told within in
    let right = least-le-val p entered g _ inst.valid.told within value in
    value ∙ ap (λ n. Some n) (omega arith)

pub solved : (inst : Instance) (limit : ℕ) (rows : List Row) → IsWalking (problem_of inst) limit rows → (row_at rows 0).low ≡ (row_at rows 0).up → IsSolved (problem_of inst) rows
solved inst limit rows w closed =
    let p = problem_of inst in
    let some = w.some in
    record {
      closed = λ e. closed;
      enough = subst (λ g. val p (groups_of (rows_from rows)) g ≡ Some (low p (groups_of (rows_from rows)) g)) w.first (closed-enough inst rows w.sound 0 (omega arith) closed);
    }

pub full : (p : Problem) (limit : ℕ) (old rows : List Row) (missed : Group) → (row_at old 0).low ≢ (row_at old 0).up → IsStopped p limit old rows missed → StoppedAtLimit p limit rows missed
full p limit old rows missed apart s = record {
  many = s.many;
  apart = subst (λ l. (row_at l 0).low ≡ (row_at l 0).up → ⊥) (sym s.same) apart;
  real = s.missed_is.real;
  absent = s.missed_is.absent;
}

pub nothing-solved : (p : Problem) (rows : List Row) → is_end p (all_classes p) ≡ true → IsSolved p rows
nothing-solved p rows e = record {
  closed = λ n. absurd (let bad : false ≡ true = sym n ∙ e in let b : ⊥ = cc in b);
  enough = val-end p (groups_of (rows_from rows)) (all_classes p) e ∙ ap (λ n. Some n) (sym (low-end p (groups_of (rows_from rows)) (all_classes p) e));
}

pub nothing-sound : (p : Problem) (limit : ℕ) (rows : List Row) → rows ≡ [] → IsSound p limit (rows_from rows)
nothing-sound p limit rows e = subst (λ l. IsSound p limit (rows_from l)) (sym e) (none-sound p limit)

pub nothing-begins : (p : Problem) (rows : List Row) → is_end p (all_classes p) ≡ true → rows ≡ [] → BeginsWithAll p rows
nothing-begins p rows e none = record {
  some = λ n. absurd (let bad : false ≡ true = sym n ∙ e in let b : ⊥ = cc in b);
  first = λ n. absurd (let bad : false ≡ true = sym n ∙ e in let b : ⊥ = cc in b);
  none = λ n. none;
}

-- ---- what the making of an outcome asks ----

pub root-entered : (p : Problem) (rows : List Row) → BeginsWithAll p rows → is_end p (all_classes p) ≡ false → is_entered (groups_in rows) (all_classes p) ≡ true
root-entered p rows b more = let some = b.some more in subst (λ g. is_entered (groups_in rows) g ≡ true) (b.first more) (row-entered rows 0 no_row (omega arith))

long-entered : (rows : List Row) → length (groups_in rows) ≡ length rows
long-entered [] = refl
long-entered (r ∷ rest) = ap suc (long-entered rest)

pub may-stop : (p : Problem) (limit : ℕ) (rows : List Row) (missed : Option Group) → HasEnded p limit rows missed → MayStop p limit (groups_in rows) missed
may-stop p limit rows None h = inl h.enough
may-stop p limit rows (Some g) h = inr (record { many = long-entered rows ∙ h.many; missed_is = (h.real, h.absent) })

-- the first row, read twice
pub closed-read : (rows : List Row) (a b : Row) → 1 ≤ length rows → a ≡ get_or rows 0 a → b ≡ get_or rows 0 b → a.low ≡ b.up → (row_at rows 0).low ≡ (row_at rows 0).up
closed-read rows a b some ea eb e =
    let fa : a ≡ row_at rows 0 = get_or_read rows 0 a some ea no_row in
    let fb : b ≡ row_at rows 0 = get_or_read rows 0 b some eb no_row in
    sym (ap (λ (r : Row). r.low) fa) ∙ e ∙ ap (λ (r : Row). r.up) fb

-- a turn that stopped left the rows as they were
pub stopped-same : (p : Problem) (limit : ℕ) (old new : List Row) (o : Option Group) (missed : Group) → HasTurned p limit old new o → o ≡ Some missed → new ≡ old
stopped-same p limit old new o missed t e = let s : IsStopped p limit old new missed = subst (HasTurned p limit old new) e t in s.same
