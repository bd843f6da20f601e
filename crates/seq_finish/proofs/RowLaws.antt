-- What settled rows say of a group: the bounds in its row are its low and its value, and a group without a row was not
-- entered.
use Rattle.std.proofs.Common.{◌≡◌, ℕ, List, [], ◌∷◌, refl, sym, ap, ◌∙◌, Option, Some, None}
use Rattle.std.specs.Prelude.{Bool, true, false, cond, All}
use Rattle.std.specs.Option.{option_map}
use Rattle.std.proofs.lemmas.List.Elements.{All-head, All-tail}
use Rattle.seq_theory.specs.Problem.{Problem, is_end}
use Rattle.seq_theory.specs.Graph.{same_group, is_entered, low, val}
use Rattle.seq_theory.specs.Rows.{Row as PlainRow, groups_of, row_for}
use Rattle.seq_theory.proofs.RowLaws.{same_group-true}
use Rattle.seq_theory.proofs.ValLaws.{val-other}
use Rattle.seq_inst.specs.declared.outcome.Row.{Row}
use Rattle.seq_inst.specs.Members.{members}
use Rattle.seq_core.specs.RowsOf.{row_of as row_from, rows_of as rows_from}
use Rattle.seq_core.specs.Settled.{groups_in}
use Rattle.seq_finish.specs.Outcomes.{IsSettled}

-- the bounds in a row are those of the group
pub record Says (p : Problem) (entered : List (List ℕ)) (group : List ℕ) (r : PlainRow) : Type 0 where
  pub low_is : r.low ≡ low p entered group
  pub up_is : val p entered group ≡ Some r.up

some_same : (a b : PlainRow) → Some a ≡ Some b → a ≡ b
some_same a b e = cc

pub row-says : (p : Problem) (entered : List (List ℕ)) (rows : List Row) (group : List ℕ) (r : PlainRow) → All (IsSettled p entered) rows → row_for (rows_from rows) group ≡ Some r → Says p entered group r
row-says p entered [] group r all e = absurd (let bad : ⊥ = cc in bad)
row-says p entered (s ∷ rest) group r all e = go (same_group group (members s.group)) refl e (row-says p entered rest group r (All-tail (IsSettled p entered) s rest all))
  where
    go : (b : Bool) → same_group group (members s.group) ≡ b → cond b (Some (row_from s)) (row_for (rows_from rest) group) ≡ Some r → (row_for (rows_from rest) group ≡ Some r → Says p entered group r) → Says p entered group r
    go true y e later =
        let h = All-head (IsSettled p entered) s rest all in
        let same = same_group-true group (members s.group) y in
        let is = some_same (row_from s) r e in
        record {
          low_is = sym (ap (λ (x : PlainRow). x.low) is) ∙ h.low_is ∙ ap (low p entered) (sym same);
          up_is = ap (val p entered) same ∙ h.up_is ∙ ap (λ (x : PlainRow). Some x.up) is;
        }
    go false n e later = later e

pub row-none : (rows : List PlainRow) (group : List ℕ) → row_for rows group ≡ None → is_entered (groups_of rows) group ≡ false
row-none [] group e = refl
row-none (s ∷ rest) group e = go (same_group group s.group) refl e (row-none rest group)
  where
    go : (b : Bool) → same_group group s.group ≡ b → cond b (Some s) (row_for rest group) ≡ None → (row_for rest group ≡ None → is_entered (groups_of rest) group ≡ false) → is_entered (groups_of (s ∷ rest)) group ≡ false
    go true y e later = absurd (let bad : ⊥ = cc in bad)
    go false n e later = rw n (later e)

-- what the code's look-up gives
pub found-says : (p : Problem) (rows : List Row) (group : List ℕ) (found : Option Row) (r : Row) → All (IsSettled p (groups_in rows)) rows → option_map row_from found ≡ row_for (rows_from rows) group → found ≡ Some r → Says p (groups_in rows) group (row_from r)
found-says p rows group found r all e is = row-says p (groups_in rows) rows group (row_from r) all (sym e ∙ ap (option_map row_from) is)

pub none-value : (p : Problem) (rows : List Row) (group : List ℕ) (found : Option Row) → is_end p group ≡ false → option_map row_from found ≡ row_for (rows_from rows) group → found ≡ None → val p (groups_in rows) group ≡ None
none-value p rows group found more e is = val-other p (groups_in rows) group more (row-none (rows_from rows) group (sym e ∙ ap (option_map row_from) is))
