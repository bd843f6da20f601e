-- No two places that a view knows have the same group: each is that of its row in the core, and there no group stands twice.
use Rattle.std.proofs.Common.{◌≡◌, ◌≢◌, inl, inr, ℕ, zero, suc, ◌+◌, ◌*◌, ◌<◌, Bool, true, false, cond, List, [], ◌∷◌, length, get_or, refl, sym, ap, ◌∙◌, subst, arith}
use Rattle.std.proofs.lemmas.Bool.{true≢false}
use mathlib.Core.Logic.{dite}
use native.Mathlib.Decide.{dec_le}
use Rattle.atomic_table.specs.Table.{State}
use Rattle.seq_theory.specs.Graph.{same_group, is_entered}
use Rattle.seq_theory.specs.Rows.{groups_of, IsRow, AreDistinct}
use Rattle.seq_theory.specs.Rows.{Row as TheoryRow}
use Rattle.seq_theory.proofs.RowLaws.{same_group-true, same_group-refl, or-left, or-right}
use Rattle.seq_inst.specs.declared.instance.Instance.{Instance}
use Rattle.seq_inst.specs.declared.outcome.Row.{Row}
use Rattle.seq_inst.specs.Members.{members}
use Rattle.seq_words.specs.declared.view.Known.{Known}
use Rattle.seq_words.specs.declared.view.View.{View}
use Rattle.seq_core.specs.RowsOf.{rows_of}
use Rattle.seq_core.specs.Settled.{row_at}
use Rattle.seq_core.specs.Words.{classes_of}
use Rattle.seq_words.specs.Layout.{span, row_held, core_of}
use Rattle.seq_words.specs.Knowledge.{unknown, known, is_whole, seen_row, known_rows, AreAlone}
use Rattle.seq_words.specs.Rule.{Stands, Kept}
use Rattle.seq_words.proofs.Core.{same_list, span_at, length-core, core_at}
use Rattle.seq_words.proofs.Views.{known_row, whole_parts}

entered-at : (rows : List Row) (j : ℕ) → j < length rows → is_entered (groups_of (rows_of rows)) (members (row_at rows j).group) ≡ true
entered-at [] j lt = absurd (omega arith)
entered-at (r ∷ rest) zero lt = or-left _ _ (same_group-refl (members r.group))
entered-at (r ∷ rest) (suc j) lt = or-right (same_group (members (row_at rest j).group) (members r.group)) _ (entered-at rest j (omega arith))

-- two rows of a list without repeats have two groups
apart-rows : (rows : List Row) (i j : ℕ) → AreDistinct (groups_of (rows_of rows)) → i < j → j < length rows → members (row_at rows i).group ≢ members (row_at rows j).group
apart-rows [] i j d lt there e = absurd (omega arith)
apart-rows (r ∷ rest) zero zero d lt there e = absurd (omega arith)
apart-rows (r ∷ rest) zero (suc j) d lt there e = true≢false (sym (subst (λ g. is_entered (groups_of (rows_of rest)) g ≡ true) (sym e) (entered-at rest j (omega arith))) ∙ d.0)
apart-rows (r ∷ rest) (suc i) zero d lt there e = absurd (omega arith)
apart-rows (r ∷ rest) (suc i) (suc j) d lt there e = apart-rows rest i j d.1 (omega arith) (omega arith) e

-- a group that no row has is not entered
absent-all : (rows : List TheoryRow) (g : List ℕ) → ((x : TheoryRow) → IsRow x rows → g ≢ x.group) → is_entered (groups_of rows) g ≡ false
absent-all [] g none = refl
absent-all (r ∷ rest) g none = go (same_group g r.group) refl (absent-all rest g (λ x i. none x (inr i)))
  where
    go : (b : Bool) → same_group g r.group ≡ b → is_entered (groups_of rest) g ≡ false → is_entered (groups_of (r ∷ rest)) g ≡ false
    go true y later = absurd (none r (inl refl) (same_group-true g r.group y))
    go false n later = rw n later

module _ (inst : Instance) (limit : ℕ) (s : State (Unit {0}) View) (r : Kept inst limit s) where
  held : (p : ℕ) (k : Known) → Stands s.words p k → length k.bits ≡ 8 → (row_held s.words p).group.0 ≡ k.bits
  held p k st e = same_list (span s.words (11 * p + 2) 8) k.bits 0 (sym e)
      (λ j h. let b : j < 8 = h in span_at s.words (11 * p + 2) 8 j b ∙ (ap (λ i. get_or s.words i 0) (omega arith) ∙ st.bits j (omega arith)))

  below : (p : ℕ) (k : Known) → Stands s.words p k → k.there ≡ true → p < r.count
  below p k st t = dite (dec_le r.count p) (λ h. let z = r.unpublished p h in let o = st.there t in absurd (omega arith)) (λ n. omega arith)

  core-group : (p : ℕ) (k : Known) → Stands s.words p k → is_whole k ≡ true → members (row_at (core_of s.words r.count) p).group ≡ classes_of k.bits
  core-group p k st w =
      let parts = whole_parts k w in
      ap (λ (z : Row). classes_of z.group.0) (core_at s.words r.count p (below p k st parts.0)) ∙ ap classes_of (held p k st parts.1)

  apart : (p q : ℕ) (k m : Known) → p < q → Stands s.words p k → Stands s.words q m → is_whole k ≡ true → is_whole m ≡ true → classes_of k.bits ≢ classes_of m.bits
  apart p q k m lt sk sm wk wm e =
      let len = length-core s.words r.count in
      let there = below q m sm (whole_parts m wm).0 in
      apart-rows (core_of s.words r.count) p q r.sound.distinct lt (omega arith) (core-group p k sk wk ∙ e ∙ sym (core-group q m sm wm))

  pub known-alone : (ks : List Known) (base : ℕ) → ((q : ℕ) → q < length ks → Stands s.words (base + q) (get_or ks q unknown)) → AreDistinct (groups_of (known_rows ks))
  known-alone [] base stands = tt
  known-alone (k ∷ rest) base stands = go (is_whole k) refl (known-alone rest (suc base) (λ q lt. subst (λ n. Stands s.words n (get_or rest q unknown)) (omega arith) (stands (suc q) (omega arith))))
    where
      go : (b : Bool) → is_whole k ≡ b → AreDistinct (groups_of (known_rows rest)) → AreDistinct (groups_of (cond b (seen_row k ∷ known_rows rest) (known_rows rest)))
      go true w later = (
        absent-all (known_rows rest) (classes_of k.bits) (λ x i e.
            let f = known_row rest x i in
            let here = subst (λ n. Stands s.words n k) (omega arith) (stands 0 (omega arith)) in
            apart base (base + suc f.0) k (get_or rest f.0 unknown) (omega arith) here (stands (suc f.0) (let l = f.1 in omega arith)) w f.2 (e ∙ sym (ap (λ (z : TheoryRow). z.group) f.3))),
        later,
      )
      go false n later = later

  pub view-alone : (v : View) → ((q : ℕ) → Stands s.words q (known v q)) → AreAlone v
  view-alone v stands = known-alone v.known 0 (λ q lt. let same : q ≡ 0 + q = omega arith in subst (λ n. Stands s.words n (known v q)) same (stands q))
