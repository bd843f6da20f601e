-- What is left to do falls. A row that is closed stays closed while rows narrow, since a low never passes an up; so the open
-- rows grow by entering alone, by one, and fall where a row closes.
use Rattle.std.proofs.Common.{◌≢◌, ℕ, zero, suc, ◌+◌, ◌-◌, ◌*◌, ◌<◌, ◌≤◌, List, [], ◌∷◌, ◌++◌, length, ap, arith, inl, inr, length-append}
use Rattle.std.specs.Prelude.{cond, nat_eq}
use Rattle.std.proofs.lemmas.Bool.{cases_Bool, eqb-true, eq-eqb, ne_eqb}
use Rattle.seq_inst.specs.declared.instance.Instance.{Instance}
use Rattle.seq_inst.specs.declared.outcome.Row.{Row}
use Rattle.seq_inst.specs.Instances.{problem_of}
use Rattle.seq_graph.specs.Known.{AreRows, row_at, Narrows, IsClosedAt}
use Rattle.seq_graph.specs.Walks.{open_rows, left}
use Rattle.seq_graph.proofs.KnownLaws.{row-bounds}
use Rattle.seq_graph.proofs.EventLaws.{length-Narrows}

-- no low is above its up
abbrev pub AreBetween : List Row → Type 0
AreBetween rows = (k : ℕ) → k < length rows → (row_at rows k).low ≤ (row_at rows k).up

pub known-between : (inst : Instance) (rows : List Row) → AreRows (problem_of inst) rows → AreBetween rows
known-between inst rows known k lt =
    let b = row-bounds (problem_of inst) rows known inst.stands.weighed inst.valid.told k lt in
    let b0 = b.0 in
    let b1 = b.1 in
    omega arith

open-first : (r s : Row) → r.low ≤ s.low → s.up ≤ r.up → s.low ≤ s.up → cond (nat_eq s.low s.up) 0 1 ≤ cond (nat_eq r.low r.up) 0 1
open-first r s l u b = elim (cases_Bool (nat_eq r.low r.up)) [
  | inl y ↦ (let e = eqb-true r.low r.up y in rw (y, eq-eqb s.low s.up (omega arith)) (omega arith))
  | inr n ↦ rw n (one s)
]
  where
    one : (s : Row) → cond (nat_eq s.low s.up) 0 1 ≤ 1
    one s = elim (cases_Bool (nat_eq s.low s.up)) [ inl y ↦ rw y (omega arith) | inr n ↦ rw n (omega arith) ]

pub open-Narrows : (a b : List Row) → Narrows a b → AreBetween b → open_rows b ≤ open_rows a
open-Narrows [] [] h bt = omega arith
open-Narrows [] (s ∷ ss) h bt = absurd h
open-Narrows (r ∷ rs) [] h bt = absurd h
open-Narrows (r ∷ rs) (s ∷ ss) h bt =
    let rest = open-Narrows rs ss h.3 (λ k lt. bt (suc k) (omega arith)) in
    let first = open-first r s h.1 h.2 (bt 0 (omega arith)) in
    omega arith

pub open-closes : (a b : List Row) (k : ℕ) → Narrows a b → AreBetween b → k < length a → (row_at a k).low ≢ (row_at a k).up → IsClosedAt b k → open_rows b < open_rows a
open-closes [] b k h bt lt ne c = absurd (let bad : ⊥ = omega arith in bad)
open-closes (r ∷ rs) [] k h bt lt ne c = absurd h
open-closes (r ∷ rs) (s ∷ ss) zero h bt lt ne c =
    let rest = open-Narrows rs ss h.3 (λ k lt. bt (suc k) (omega arith)) in
    rw (ne_eqb r.low r.up ne, eq-eqb s.low s.up c) (omega arith)
open-closes (r ∷ rs) (s ∷ ss) (suc k) h bt lt ne c =
    let rest = open-closes rs ss k h.3 (λ k lt. bt (suc k) (omega arith)) (omega arith) ne c in
    let first = open-first r s h.1 h.2 (bt 0 (omega arith)) in
    omega arith

pub open-last : (rows : List Row) (r : Row) → open_rows (rows ++ r ∷ []) ≤ open_rows rows + 1
open-last [] r = elim (cases_Bool (nat_eq r.low r.up)) [ inl y ↦ rw y (omega arith) | inr n ↦ rw n (omega arith) ]
open-last (s ∷ rest) r = let l = open-last rest r in omega arith

-- entering a group leaves less to do
pub left-entered : (limit : ℕ) (rows : List Row) (r : Row) (new : List Row) → length rows < limit → Narrows (rows ++ r ∷ []) new → AreBetween new → left limit new < left limit rows
left-entered limit rows r new lt h bt =
    let l = length-Narrows (rows ++ r ∷ []) new h in
    let m = length-append rows (r ∷ []) in
    let o = open-Narrows (rows ++ r ∷ []) new h bt in
    let p = open-last rows r in
    omega arith

pub left-narrows : (limit : ℕ) (a b : List Row) → Narrows a b → AreBetween b → left limit b ≤ left limit a
left-narrows limit a b h bt =
    let l = length-Narrows a b h in
    let o = open-Narrows a b h bt in
    let e = ap (λ n. 2 * (limit - n)) l in
    omega arith

pub left-closes : (limit : ℕ) (a b : List Row) (k : ℕ) → Narrows a b → AreBetween b → k < length a → (row_at a k).low ≢ (row_at a k).up → IsClosedAt b k → left limit b < left limit a
left-closes limit a b k h bt lt ne c =
    let l = length-Narrows a b h in
    let o = open-closes a b k h bt lt ne c in
    let e = ap (λ n. 2 * (limit - n)) l in
    omega arith
