-- A worker's run: what it knew it knows still; the group of all classes keeps the first row; and what is left to do is bounded from the
-- start.
use Rattle.std.proofs.Common.{◌≡◌, ℕ, ◌≤◌, List, [], ◌∷◌, length, get_or, refl, ap, ◌∙◌, arith, inl, inr}
use Rattle.std.specs.Prelude.{nat_eq, slice_index}
use Rattle.std.proofs.lemmas.Bool.{cases_Bool}
use Rattle.std.proofs.lemmas.List.{get_or_read}
use Rattle.seq_theory.specs.Problem.{all_classes}
use Rattle.seq_inst.specs.declared.instance.Instance.{Instance}
use Rattle.seq_inst.specs.declared.outcome.Row.{Row}
use Rattle.seq_inst.specs.Members.{members}
use Rattle.seq_inst.specs.Instances.{problem_of}
use Rattle.seq_graph.specs.Known.{Narrows, no_row, group_at}
use Rattle.seq_graph.specs.Walks.{open_rows, left}
use Rattle.seq_words.specs.declared.view.View.{View}
use Rattle.seq_words.specs.Knowledge.{Covers}
use Rattle.seq_words.specs.Seats.{Wording, Sitting}
use Rattle.seq_work.specs.declared.local.Local.{Local}
use Rattle.seq_work.specs.Works.{Ready}
use Rattle.seq_work.specs.Ends.{IsClosedFor}
use Rattle.seq_work.proofs.BackingLaws.{stands}

pub covers-itself : (v : View) → Covers v v
covers-itself v q = record { there = λ t. t; bits = λ e. refl; low = omega arith; up = omega arith }

pub covers-on : (u v w : View) → Covers w v → Covers v u → Covers w u
covers-on u v w b a q =
    let x = a q in
    let y = b q in
    record {
      there = λ t. y.there (x.there t);
      bits = λ e. y.bits (ap (λ (l : List ℕ). length l) (x.bits e) ∙ e) ∙ x.bits e;
      low = (let m = x.low in let n = y.low in omega arith);
      up = (let m = x.up in let n = y.up in omega arith);
    }

pub first-group : (r : Row) (rest new : List Row) → Narrows (r ∷ rest) new → group_at new 0 ≡ r.group
first-group r rest [] n = absurd n
first-group r rest (s ∷ ss) n = n.0

open-few : (rows : List Row) → open_rows rows ≤ length rows
open-few [] = omega arith
open-few (r ∷ rest) = let l = open-few rest in elim (cases_Bool (nat_eq r.low r.up)) [ inl y ↦ rw y (omega arith) | inr n ↦ rw n (omega arith) ]

pub left-few : (limit : ℕ) (rows : List Row) → limit ≤ 32768 → length rows ≤ limit → left limit rows ≤ 98304
left-few limit rows small few = let o = open-few rows in omega arith

-- where the first row is closed, its place is known closed
pub closed-known : (inst : Instance) (words : Wording) (seat : Sitting) (l : Local) → Ready inst words seat l → 1 ≤ length l.graph.rows.items → members (group_at l.graph.rows.items 0) ≡ all_classes (problem_of inst)
    → (a b : Row) → a ≡ get_or l.graph.rows.items 0 a → b ≡ get_or l.graph.rows.items 0 b → a.low ≡ b.up → IsClosedFor (problem_of inst) seat.view
closed-known inst words seat l r some first a b ea eb e =
    let s = stands inst words seat l r 0 (omega arith) in
    let fa = ap (λ (x : Row). x.low) (get_or_read l.graph.rows.items 0 a (omega arith) ea no_row) in
    let fb = ap (λ (x : Row). x.up) (get_or_read l.graph.rows.items 0 b (omega arith) eb no_row) in
    let low = s.low in
    let up = s.up in
    record {
      place = slice_index l.places.items 0;
      known = s.known;
      group = s.group ∙ first;
      closed = omega arith;
    }
