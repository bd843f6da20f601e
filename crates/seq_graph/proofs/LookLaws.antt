-- Whether a group has an up, found by its number: a group without a number has no row, and so an up only where it has one goal.
-- And the tests that wait, of which the looked at ones stand first.
use Rattle.std.proofs.Common.{◌≡◌, ◌⊎◌, ℕ, List, refl, sym, ap, ◌∙◌, arith, inl, inr, Option, Some, None}
use Rattle.std.specs.Prelude.{Bool, false, is_some, ◌&&◌}
use Rattle.std.proofs.lemmas.Bool.{cases_Bool, true≢false}
use Rattle.seq_theory.specs.Problem.{Problem, is_end}
use Rattle.seq_theory.specs.Graph.{is_entered, sum_with}
use Rattle.seq_theory.specs.Rows.{row_for, up_or, known_up}
use Rattle.seq_inst.specs.declared.outcome.Row.{Row}
use Rattle.seq_inst.specs.Members.{members}
use Rattle.seq_graph.specs.declared.node.Node.{Node}
use Rattle.seq_graph.specs.Numbered.{Numbered}
use Rattle.seq_core.specs.RowsOf.{rows_of as rows_from, place_of_group}
use Rattle.seq_graph.specs.declared.graph.Count.{Count}
use Rattle.seq_graph.specs.Known.{AreKnown, group_at}
use Rattle.seq_graph.proofs.NumberLaws.{number-entered}
use Rattle.seq_graph.proofs.PlaceLaws.{place-found, place-none}
use Rattle.seq_graph.proofs.SplitLaws.{kept-there}

cases_place : (o : Option ℕ) → (o ≡ None) ⊎ ((k : ℕ) × (o ≡ Some k))
cases_place None = inl refl
cases_place (Some k) = inr (k, refl)

module _ (p : Problem) (v : Numbered) (rows : List Row) (kept : List Node) (counts : List Count) (known : AreKnown p v rows kept counts) where
  pub no-number : (g : List ℕ) → is_entered v.groups g ≡ false → row_for (rows_from rows) g ≡ None
  no-number g none = elim (cases_place (place_of_group (rows_from rows) g)) [
    | inl absent ↦ place-none rows g absent
    | inr found ↦
        (let f = place-found rows g found.0 found.1 in
        let there = f.in_range in
        let long = known.kept_are.as_many in
        let k = kept-there kept found.0 (omega arith) in
        let of = known.kept_are.each found.0 k.0 k.1 in
        absurd (true≢false (sym (number-entered v.groups (k.0).number (members (group_at rows found.0)) of.number) ∙ sym (ap (is_entered v.groups) f.same) ∙ none)))
  ]

  pub end-up : (g : List ℕ) → is_entered v.groups g ≡ false → is_end p g ≡ is_some (known_up p (rows_from rows) g)
  end-up g none = elim (cases_Bool (is_end p g)) [
    | inl y ↦ rw y refl
    | inr n ↦ rw n (sym (ap (λ o. is_some (up_or o)) (no-number g none)))
  ]

-- both parts have one where their sum does
pub both-ups : (n : ℕ) (a b : Option ℕ) (x y : Bool) → x ≡ is_some a → y ≡ is_some b → (x && y) ≡ is_some (sum_with n a b)
both-ups n None b x y ea eb = rw ea refl
both-ups n (Some u) None x y ea eb = rw (ea, eb) refl
both-ups n (Some u) (Some w) x y ea eb = rw (ea, eb) refl

pub no-value : (o : Option ℕ) → false ≡ is_some o → o ≡ None
no-value None e = refl
no-value (Some n) e = absurd (true≢false (sym e))
