-- The group lines of a right outcome. Each is the line of a row, so it has its group's size and low; the groups are distinct,
-- so no two lines have one number; and a group is listed exactly where it was entered.
use Rattle.std.proofs.Common.{◌≡◌, ℕ, List, [], ◌∷◌, length, map, refl, sym, ap, ◌∙◌}
use Rattle.std.specs.Prelude.{false, ◌||◌}
use Rattle.std.specs.List.{AllByRecursion, list_any}
use Rattle.std.proofs.lemmas.Bool.{or_parts, true≢false}
use Rattle.seq_theory.specs.Problem.{Problem}
use Rattle.seq_theory.specs.Graph.{same_group, is_entered, low, IsReal}
use Rattle.seq_theory.specs.Rows.{AreDistinct}
use Rattle.seq_theory.proofs.RowLaws.{same_group-refl}
use Rattle.seq_inst.specs.declared.group.Group.{Group}
use Rattle.seq_inst.specs.declared.outcome.Row.{Row}
use Rattle.seq_inst.specs.Members.{members}
use Rattle.seq_core.specs.Settled.{groups_in}
use Rattle.seq_finish.specs.Outcomes.{IsSettled}
use Rattle.sig_lines.specs.Hex.{number_of_words}
use Rattle.sig_lines.specs.Numbers.{words_of}
use Rattle.seq_cert.specs.declared.report.GroupLine.{GroupLine}
use Rattle.seq_cert.specs.OutcomeReport.{row_line}
use Rattle.seq_cert.specs.ReportForm.{IsGroup, IsGroupLine}
use Rattle.seq_shown.proofs.LineOrder.{Apart, AreApart}

-- the line of a real group, with its size and its low over the entered groups
pub record IsLineOf (p : Problem) (entered : List (List ℕ)) (line : GroupLine) : Type 0 where
  pub size_is : line.size ≡ length (members line.group)
  pub low_is : line.low ≡ low p entered (members line.group)
  pub real : IsReal p (members line.group)

pub row-lines : (p : Problem) (entered : List (List ℕ)) (rows : List Row) → AllByRecursion (λ (r : Row). IsReal p (members r.group)) rows → AllByRecursion (IsSettled p entered) rows → AllByRecursion (IsLineOf p entered) (map row_line rows)
row-lines p entered [] real settled = tt
row-lines p entered (r ∷ rows) real settled = (record { size_is = refl; low_is = settled.0.low_is; real = real.0 }, row-lines p entered rows real.1 settled.1)

-- groups of one number have the same classes
group_from : List ℕ → Group
group_from words = record { 0 = words }

same-number : (a b : Group) → IsGroup a → IsGroup b → number_of_words a.0 ≡ number_of_words b.0 → members a ≡ members b
unfolding group_from
same-number a b wa wb e =
    let words : a.0 ≡ b.0 = sym wa.words ∙ ap (words_of 8) e ∙ wb.words in
    let whole : a ≡ b = ap group_from words in
    ap members whole

apart-from : (x : Row) (rows : List Row) → is_entered (groups_in rows) (members x.group) ≡ false → IsGroup x.group → AllByRecursion IsGroupLine (map row_line rows) → AllByRecursion (Apart (row_line x)) (map row_line rows)
apart-from x [] new g words = tt
apart-from x (y ∷ rows) new g words =
    let s = or_parts (same_group (members x.group) (members y.group)) (is_entered (groups_in rows) (members x.group)) new in (
      λ e. true≢false (sym (same_group-refl (members x.group)) ∙ ap (same_group (members x.group)) (same-number x.group y.group g (words.0).group e) ∙ s.0),
      apart-from x rows s.1 g words.1,
    )

pub rows-apart : (rows : List Row) → AreDistinct (groups_in rows) → AllByRecursion IsGroupLine (map row_line rows) → AreApart (map row_line rows)
rows-apart [] distinct words = tt
rows-apart (x ∷ rows) distinct words = (apart-from x rows distinct.0 (words.0).group words.1, rows-apart rows distinct.1 words.1)

-- a group is one of the lines' exactly where it is one of the rows'
pub rows-listed : (rows : List Row) (group : List ℕ) → list_any (λ (line : GroupLine). same_group group (members line.group)) (map row_line rows) ≡ is_entered (groups_in rows) group
rows-listed [] group = refl
rows-listed (r ∷ rows) group = ap (λ b. same_group group (members r.group) || b) (rows-listed rows group)
