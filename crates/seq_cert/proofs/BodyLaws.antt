-- What follows the first lines, and the whole report, both ways.
use Rattle.std.proofs.Common.{◌≡◌, ℕ, zero, suc, ◌+◌, ◌-◌, ◌^◌, ◌<◌, ◌≤◌, List, [], ◌∷◌, ◌++◌, length, map, refl, sym, ap, subst, ◌∙◌, append_assoc, append-nil, arith, inl, inr, Option, Some, None, Ok, Err}
use Rattle.std.specs.Prelude.{Bool, true, false, cond, nat_eq, codes}
use Rattle.std.specs.List.{AllByRecursion}
use Rattle.std.proofs.lemmas.Bool.{cases_Bool, eqb-true, and_parts}
use Rattle.std.proofs.lemmas.List.{map-append, nil_from_length}
use Rattle.sig_lines.specs.Pieces.{words_in, spaced, ended, lines_in, tail_in, test_words}
use Rattle.sig_lines.specs.Reading.{Cursor, cursor, Reading, ◌>>=◌, line_at, ◌then◌, pair}
use Rattle.sig_lines.specs.declared.labels.TestLabel.{TestLabel}
use Rattle.sig_lines.specs.Laws.{LinesHold, AreLines}
use Rattle.seq_inst.specs.declared.outcome.Verdict.{Verdict}
use Rattle.seq_inst.specs.declared.outcome.Verdict.TheVariants.{Optimal, Bounded}
use Rattle.seq_cert.specs.declared.head_reader.Head.{Head}
use Rattle.seq_cert.specs.declared.report.Report.{Report}
use Rattle.seq_cert.specs.declared.report.ClassLine.{ClassLine}
use Rattle.seq_cert.specs.declared.report.StateLine.{StateLine}
use Rattle.seq_cert.specs.declared.report.TreeLine.{TreeLine}
use Rattle.seq_cert.specs.declared.report.TreeLine.TheVariants.{Ask, Leaf}
use Rattle.seq_cert.specs.declared.report.GroupLine.{GroupLine}
use Rattle.seq_cert.specs.declared.report.MissedLine.{MissedLine}
use Rattle.seq_cert.specs.LineForms.{class_in, test_in, is_tree_line, tree_line_in, group_in, missed_in, end_in}
use Rattle.seq_cert.specs.Text.{class_words, state_words, tree_words, group_words, missed_words, class_lines, test_lines, missed_lines, report_lines, report_bytes}
use Rattle.seq_cert.specs.Places.{asks_after, with_asks}
use Rattle.seq_cert.specs.Reading.{head_at, states_at, class_line_of, class_at, classes_at, lines_at, and_more, tree_lines_at, read_tree, read_missed, body_at, report_with, whole_at, is_nothing, only, report_at}
use Rattle.seq_cert.specs.ReportForm.{head_of_report, IsHead, AreStates, IsClassLine, IsClass, AreClasses, IsTest, AreTreeLines, IsGroupLine, IsMissedLine, IsMissing, IsReport}
use Rattle.seq_cert.proofs.Spells.{AreLines-append, Took, Rereads, Spells, Took-then, ok_is, bind_ok, line_spells, pair_spells, then_spells, as_spells, fits_as, numbered_lines, many_spells}
use Rattle.seq_cert.proofs.FormLaws.{class_form, test_form, IsTreeLine, tree_form, group_form, missed_form, end_form}
use Rattle.seq_cert.proofs.HeadLaws.{head_words, head_spells, states_spells}

pub nothing_left : (lines : List (List ℕ)) (tail : List ℕ) → is_nothing lines tail ≡ true → (lines ≡ []) × (tail ≡ [])
nothing_left lines tail e =
    let s = and_parts (nat_eq (length lines) 0) (nat_eq (length tail) 0) e in
    (nil_from_length lines (eqb-true _ _ s.0), nil_from_length tail (eqb-true _ _ s.1))

module _ (hold : LinesHold) where
  -- ---- classes

  class_back : ClassLine → (ℕ × ℕ) × List StateLine
  class_back c = ((c.weight, length c.states), c.states)

  pub class_spells : (room k : ℕ) → k < 2 ^ 64 → Spells (class_at room k) (λ c. class_words k c.weight (length c.states) ∷ map state_words c.states) (IsClass room)
  unfolding class_at class_back
  class_spells room k small = fits_as (class_at room k) (λ c. class_words k c.weight (length c.states) ∷ map state_words c.states) _ (IsClass room)
      (λ c f. record { line = f.0; states = f.1 }) (λ c f. (f.line, f.states))
      (as_spells class_line_of class_back (pair (line_at (class_in k)) (λ x. states_at room x.1)) _ (λ (x : (ℕ × ℕ) × List StateLine). IsClassLine x.0 × AreStates room x.0.1 x.1)
      (λ a f. ap (λ (n : ℕ). ((a.0.0, n), a.1)) f.1.0) (λ b. refl)
      (pair_spells (line_at (class_in k)) (λ x. class_words k x.0 x.1 ∷ []) IsClassLine (λ x. states_at room x.1) (λ x. map state_words) (λ x. AreStates room x.1)
      (line_spells hold (class_in k) (λ x. class_words k x.0 x.1) IsClassLine ((class_form hold) k small)) (λ x f. (states_spells hold) room x.1)))

  classes_takes : (count room k : ℕ) (c : Cursor) (x : List ClassLine × Cursor) → k + count ≤ 2 ^ 64 → classes_at room count k c ≡ Ok x → Took c (class_lines k x.0) x.1 × ((length x.0 ≡ count) × AreClasses room x.0)
  unfolding classes_at
  classes_takes zero room k c x few e =
      let made : List ClassLine × Cursor = ([], c) in
      subst (λ (y : List ClassLine × Cursor). Took c (class_lines k y.0) y.1 × ((length y.0 ≡ 0) × AreClasses room y.0)) (ok_is made x e) (record { lines_are = refl; tail_is = refl }, (refl, tt))
  classes_takes (suc count) room k c x few e =
      let law = class_spells room k (omega arith) in
      let a = bind_ok (class_at room k c) (λ class. classes_at (room - length (class.0).states) count (suc k) class.1 >>= λ more. Ok (class.0 ∷ more.0, more.1)) x e in
      let b = bind_ok (classes_at (room - length (a.0.0).states) count (suc k) a.0.1) (λ more. Ok (a.0.0 ∷ more.0, more.1)) x a.2 in
      let ta = law.takes c a.0 a.1 in
      let tb = classes_takes count (room - length (a.0.0).states) (suc k) a.0.1 b.0 (omega arith) b.1 in
      let made : List ClassLine × Cursor = (a.0.0 ∷ b.0.0, b.0.1) in
      subst (λ (y : List ClassLine × Cursor). Took c (class_lines k y.0) y.1 × ((length y.0 ≡ suc count) × AreClasses room y.0)) (ok_is made x b.2)
      (Took-then c a.0.1 b.0.1 (class_words k (a.0.0).weight (length (a.0.0).states) ∷ map state_words (a.0.0).states) (class_lines (suc k) b.0.0) ta.0 tb.0, (ap suc tb.1.0, (ta.1, tb.1.1)))

  classes_again : (room k n : ℕ) (tail : List ℕ) (rest : List (List ℕ)) (xs : List ClassLine) → k + length xs ≤ 2 ^ 64 → AreClasses room xs → Rereads (classes_at room (length xs) k) n tail (map spaced (class_lines k xs)) rest xs
  unfolding classes_at
  classes_again room k n tail rest [] few fit = record { number = n; is = refl }
  classes_again room k n tail rest (x ∷ xs) few fit =
      let law = class_spells room k (omega arith) in
      let a = law.again n tail (map spaced (class_lines (suc k) xs) ++ rest) x fit.0 in
      let b = classes_again (room - length x.states) (suc k) a.number tail rest xs (omega arith) fit.1 in
      let grouped : map spaced (class_lines k (x ∷ xs)) ++ rest ≡ map spaced (class_words k x.weight (length x.states) ∷ map state_words x.states) ++ (map spaced (class_lines (suc k) xs) ++ rest) =
      ap (λ l. spaced (class_words k x.weight (length x.states)) ∷ (l ++ rest)) (map-append spaced (map state_words x.states) (class_lines (suc k) xs))
      ∙ ap (λ l. spaced (class_words k x.weight (length x.states)) ∷ l) (append_assoc (map spaced (map state_words x.states)) (map spaced (class_lines (suc k) xs)) rest) in
      record {
        number = b.number;
        is = ap (λ l. classes_at room (suc (length xs)) k (record { number = n; lines = l; tail = tail })) grouped
            ∙ ap (λ v. v >>= λ class. classes_at (room - length (class.0).states) (length xs) (suc k) class.1 >>= λ more. Ok (class.0 ∷ more.0, more.1)) a.is ∙ ap (λ v. v >>= λ more. Ok (x ∷ more.0, more.1)) b.is;
      }

  classes_plain : (room k : ℕ) (xs : List ClassLine) → k + length xs ≤ 2 ^ 64 → AreClasses room xs → AreLines (map spaced (class_lines k xs))
  classes_plain room k [] few fit = tt
  classes_plain room k (x ∷ xs) few fit =
      let law = class_spells room k (omega arith) in
      let first = law.plain x fit.0 in
      let rest = classes_plain (room - length x.states) (suc k) xs (omega arith) fit.1 in
      (first.0, subst AreLines (sym (map-append spaced (map state_words x.states) (class_lines (suc k) xs))) (AreLines-append (map spaced (map state_words x.states)) (map spaced (class_lines (suc k) xs)) first.1 rest))

  counted : (room count n : ℕ) (tail : List ℕ) (rest : List (List ℕ)) (xs : List ClassLine) → length xs ≡ count → Rereads (classes_at room (length xs) 0) n tail (map spaced (class_lines 0 xs)) rest xs → Rereads (classes_at room count 0) n tail (map spaced (class_lines 0 xs)) rest xs
  counted room count n tail rest xs e r = subst (λ (m : ℕ). Rereads (classes_at room m 0) n tail (map spaced (class_lines 0 xs)) rest xs) e r

  pub classes_spells : (room count : ℕ) → count ≤ 2 ^ 64 → Spells (classes_at room count 0) (class_lines 0) (λ xs. (length xs ≡ count) × AreClasses room xs)
  classes_spells room count few = record {
    takes = λ c x e. classes_takes count room 0 c x (omega arith) e;
    again = λ n tail rest xs fit. let e = fit.0 in counted room count n tail rest xs fit.0 (classes_again room 0 n tail rest xs (omega arith) fit.1);
    plain = λ xs fit. let e = fit.0 in classes_plain room 0 xs (omega arith) fit.1;
  }

  -- ---- tests and groups

  tests_are : (k : ℕ) (ts : List TestLabel) → numbered_lines test_words k ts ≡ test_lines k ts
  tests_are k [] = refl
  tests_are k (t ∷ ts) = ap (λ l. test_words k t ∷ l) (tests_are (suc k) ts)

  groups_are : (k : ℕ) (gs : List GroupLine) → numbered_lines (λ k. group_words) k gs ≡ map group_words gs
  groups_are k [] = refl
  groups_are k (g ∷ gs) = ap (λ l. group_words g ∷ l) (groups_are (suc k) gs)

  -- the same lines, said in another way
  pub said_as : {A : Type 0} (r : Cursor → Reading A) (s t : A → List (List (List ℕ))) (f : A → Type 0) → ((a : A) → s a ≡ t a) → Spells r s f → Spells r t f
  said_as r s t f same law = record {
    takes = λ c x e. let k = law.takes c x e in (subst (λ l. Took c l x.1) (same x.0) k.0, k.1);
    again = λ n tail rest a fit. subst (λ l. Rereads r n tail (map spaced l) rest a) (same a) (law.again n tail rest a fit);
    plain = λ a fit. subst (λ l. AreLines (map spaced l)) (same a) (law.plain a fit);
  }

  pub tests_spells : (count : ℕ) → count ≤ 2 ^ 64 → Spells (lines_at test_in count 0) (test_lines 0) (λ ts. (length ts ≡ count) × AllByRecursion IsTest ts)
  tests_spells count few = said_as (lines_at test_in count 0) (numbered_lines test_words 0) (test_lines 0) _ (tests_are 0) (many_spells hold test_in test_words IsTest (test_form hold) count 0 (omega arith))

  pub groups_spells : (count : ℕ) → count ≤ 2 ^ 64 → Spells (lines_at (λ k. group_in) count 0) (map group_words) (λ gs. (length gs ≡ count) × AllByRecursion IsGroupLine gs)
  groups_spells count few = said_as (lines_at (λ k. group_in) count 0) (numbered_lines (λ k. group_words) 0) (map group_words) _ (groups_are 0) (many_spells hold (λ k. group_in) (λ k. group_words) IsGroupLine (λ k small. (group_form hold)) count 0 (omega arith))

  -- ---- the last lines

  missed_law : Spells (line_at missed_in) (λ m. missed_words m ∷ []) IsMissedLine
  missed_law = line_spells hold missed_in missed_words IsMissedLine (missed_form hold)

  missed_takes : (v : Verdict) (c : Cursor) (x : Option MissedLine × Cursor) → read_missed v c ≡ Ok x → Took c (missed_lines x.0) x.1 × IsMissing v x.0
  unfolding read_missed
  missed_takes Optimal c x e =
      let made : Option MissedLine × Cursor = (None, c) in
      subst (λ (y : Option MissedLine × Cursor). Took c (missed_lines y.0) y.1 × IsMissing Optimal y.0) (ok_is made x e) (record { lines_are = refl; tail_is = refl }, tt)
  missed_takes Bounded c x e =
      let a = bind_ok (line_at missed_in c) (λ line. Ok (Some line.0, line.1)) x e in
      let t = missed_law.takes c a.0 a.1 in
      let made : Option MissedLine × Cursor = (Some a.0.0, a.0.1) in
      subst (λ (y : Option MissedLine × Cursor). Took c (missed_lines y.0) y.1 × IsMissing Bounded y.0) (ok_is made x a.2) t

  missed_again : (v : Verdict) (n : ℕ) (tail : List ℕ) (rest : List (List ℕ)) (m : Option MissedLine) → IsMissing v m → Rereads (read_missed v) n tail (map spaced (missed_lines m)) rest m
  unfolding read_missed
  missed_again Optimal n tail rest None fit = record { number = n; is = refl }
  missed_again Optimal n tail rest (Some m) fit = absurd fit
  missed_again Bounded n tail rest None fit = absurd fit
  missed_again Bounded n tail rest (Some m) fit =
      let a = missed_law.again n tail rest m fit in
      record { number = a.number; is = ap (λ v. v >>= λ line. Ok (Some line.0, line.1)) a.is }

  missed_plain : (v : Verdict) (m : Option MissedLine) → IsMissing v m → AreLines (map spaced (missed_lines m))
  missed_plain v None fit = tt
  missed_plain Optimal (Some m) fit = absurd fit
  missed_plain Bounded (Some m) fit = missed_law.plain m fit

  pub missed_spells : (v : Verdict) → Spells (read_missed v) missed_lines (IsMissing v)
  missed_spells v = record { takes = missed_takes v; again = missed_again v; plain = missed_plain v }

  pub end_spells : Spells (line_at end_in) (λ t. (codes "end" ∷ []) ∷ []) (λ t. Unit {0})
  end_spells = line_spells hold end_in (λ t. codes "end" ∷ []) (λ t. Unit {0}) (end_form hold)

  -- ---- tree lines, which end before the first line of another kind

  abbrev IsOther : List (List ℕ) → Type 0
  IsOther [] = Unit {0}
  IsOther (l ∷ ls) = is_tree_line (words_in l) ≡ false

  tree_takes : (asks n : ℕ) (tail : List ℕ) (lines : List (List ℕ)) (x : List TreeLine × Cursor) → tree_lines_at asks n tail lines ≡ Ok x → Took (record { number = n; lines = lines; tail = tail }) (map tree_words x.0) x.1 × AreTreeLines asks x.0
  tree_takes asks n tail [] x e =
      let made : List TreeLine × Cursor = ([], record { number = n; lines = []; tail = tail }) in
      subst (λ (y : List TreeLine × Cursor). Took (record { number = n; lines = []; tail = tail }) (map tree_words y.0) y.1 × AreTreeLines asks y.0) (ok_is made x e) (record { lines_are = refl; tail_is = refl }, tt)
  tree_takes asks n tail (l ∷ ls) x e = elim (cases_Bool (is_tree_line (words_in l))) [
    | inr other ↦
        (let e' : Ok ([], record { number = n; lines = l ∷ ls; tail = tail }) ≡ Ok x = rw other at e in
        let made : List TreeLine × Cursor = ([], record { number = n; lines = l ∷ ls; tail = tail }) in
        subst (λ (y : List TreeLine × Cursor). Took (record { number = n; lines = l ∷ ls; tail = tail }) (map tree_words y.0) y.1 × AreTreeLines asks y.0) (ok_is made x e') (record { lines_are = refl; tail_is = refl }, tt))
    | inl y ↦
        (let e' : and_more n (λ left. tree_lines_at left (n + 1) tail ls) (with_asks asks (tree_line_in (words_in l))) ≡ Ok x = rw y at e in
        go (tree_line_in (words_in l)) refl asks e' (λ left x. tree_takes left (n + 1) tail ls x))
  ]
    where
      after : Cursor
      after = record { number = n + 1; lines = ls; tail = tail }

      one : (line : TreeLine) (left : ℕ) → tree_line_in (words_in l) ≡ Some line → (tree_lines_at left (n + 1) tail ls >>= λ rest. Ok (line ∷ rest.0, rest.1)) ≡ Ok x → ((x : List TreeLine × Cursor) → tree_lines_at left (n + 1) tail ls ≡ Ok x → Took (record { number = n + 1; lines = ls; tail = tail }) (map tree_words x.0) x.1 × AreTreeLines left x.0)
          → (asks : ℕ) → ((lines : List TreeLine) → IsTreeLine line → AreTreeLines left lines → AreTreeLines asks (line ∷ lines)) → Took (record { number = n; lines = l ∷ ls; tail = tail }) (map tree_words x.0) x.1 × AreTreeLines asks x.0
      one line left is e below asks join =
          let a = bind_ok (tree_lines_at left (n + 1) tail ls) (λ rest. Ok (line ∷ rest.0, rest.1)) x e in
          let t = below a.0 a.1 in
          let f = (tree_form hold).takes (words_in l) line is in
          let made : List TreeLine × Cursor = (line ∷ a.0.0, a.0.1) in
          let same : l ≡ spaced (tree_words line) = sym (hold.words l) ∙ ap spaced f.0 in
          subst (λ (y : List TreeLine × Cursor). Took (record { number = n; lines = l ∷ ls; tail = tail }) (map tree_words y.0) y.1 × AreTreeLines asks y.0) (ok_is made x a.2)
          (record { lines_are = ap (λ k. k ∷ ls) same ∙ ap (λ k. spaced (tree_words line) ∷ k) t.0.lines_are; tail_is = t.0.tail_is }, join a.0.0 f.1 t.1)

      go : (o : Option TreeLine) → tree_line_in (words_in l) ≡ o → (asks : ℕ) → and_more n (λ left. tree_lines_at left (n + 1) tail ls) (with_asks asks o) ≡ Ok x → ((left : ℕ) (x : List TreeLine × Cursor) → tree_lines_at left (n + 1) tail ls ≡ Ok x → Took (record { number = n + 1; lines = ls; tail = tail }) (map tree_words x.0) x.1 × AreTreeLines left x.0)
          → Took (record { number = n; lines = l ∷ ls; tail = tail }) (map tree_words x.0) x.1 × AreTreeLines asks x.0
      go None is asks e below = absurd (let bad : ⊥ = cc in bad)
      go (Some (Leaf c)) is asks e below = one (Leaf c) asks is e (below asks) asks (λ lines a b. (a, b))
      go (Some (Ask t)) is zero e below = absurd (let bad : ⊥ = cc in bad)
      go (Some (Ask t)) is (suc asks) e below = one (Ask t) asks is e (below asks) (suc asks) (λ lines a b. (a, b))

  tree_stops : (asks n : ℕ) (tail : List ℕ) (rest : List (List ℕ)) → IsOther rest → tree_lines_at asks n tail rest ≡ Ok ([], record { number = n; lines = rest; tail = tail })
  tree_stops asks n tail [] other = refl
  tree_stops asks n tail (l ∷ ls) other = rw other refl

  tree_again : (asks n : ℕ) (tail : List ℕ) (rest : List (List ℕ)) (xs : List TreeLine) → IsOther rest → AreTreeLines asks xs → Rereads (read_tree asks) n tail (map spaced (map tree_words xs)) rest xs
  tree_again asks n tail rest [] other fit = record { number = n; is = tree_stops asks n tail rest other }
  tree_again asks n tail rest (Leaf c ∷ xs) other fit =
      let r = tree_again asks (n + 1) tail rest xs other fit.1 in
      let w : words_in (spaced (tree_words (Leaf c))) ≡ tree_words (Leaf c) = hold.words_again (tree_words (Leaf c)) tt ((tree_form hold).plain (Leaf c) fit.0) in
      let a : tree_line_in (tree_words (Leaf c)) ≡ Some (Leaf c) = (tree_form hold).again (Leaf c) fit.0 in
      record { number = r.number; is = step (spaced (tree_words (Leaf c))) (tree_words (Leaf c)) (Leaf c) asks asks w a refl refl r.is }
    where
      step : (l : List ℕ) (words : List (List ℕ)) (line : TreeLine) (asks left : ℕ) → words_in l ≡ words → tree_line_in words ≡ Some line → is_tree_line words ≡ true → asks_after asks line ≡ Some left → {m : ℕ} → tree_lines_at left (n + 1) tail (map spaced (map tree_words xs) ++ rest) ≡ Ok (xs, record { number = m; lines = rest; tail = tail })
          → tree_lines_at asks n tail (l ∷ (map spaced (map tree_words xs) ++ rest)) ≡ Ok (line ∷ xs, record { number = m; lines = rest; tail = tail })
      step l words line asks left w a y k r = rw (w, y, a, k, r) refl
  tree_again zero n tail rest (Ask t ∷ xs) other fit = absurd fit
  tree_again (suc asks) n tail rest (Ask t ∷ xs) other fit =
      let r = tree_again asks (n + 1) tail rest xs other fit.1 in
      let w : words_in (spaced (tree_words (Ask t))) ≡ tree_words (Ask t) = hold.words_again (tree_words (Ask t)) tt ((tree_form hold).plain (Ask t) fit.0) in
      let a : tree_line_in (tree_words (Ask t)) ≡ Some (Ask t) = (tree_form hold).again (Ask t) fit.0 in
      record { number = r.number; is = step (spaced (tree_words (Ask t))) (tree_words (Ask t)) (Ask t) (suc asks) asks w a refl refl r.is }
    where
      step : (l : List ℕ) (words : List (List ℕ)) (line : TreeLine) (asks left : ℕ) → words_in l ≡ words → tree_line_in words ≡ Some line → is_tree_line words ≡ true → asks_after asks line ≡ Some left → {m : ℕ} → tree_lines_at left (n + 1) tail (map spaced (map tree_words xs) ++ rest) ≡ Ok (xs, record { number = m; lines = rest; tail = tail })
          → tree_lines_at asks n tail (l ∷ (map spaced (map tree_words xs) ++ rest)) ≡ Ok (line ∷ xs, record { number = m; lines = rest; tail = tail })
      step l words line asks left w a y k r = rw (w, y, a, k, r) refl

  tree_plain : (asks : ℕ) (xs : List TreeLine) → AreTreeLines asks xs → AreLines (map spaced (map tree_words xs))
  tree_plain asks [] fit = tt
  tree_plain asks (Leaf c ∷ xs) fit = (hold.one_line (tree_words (Leaf c)) ((tree_form hold).plain (Leaf c) fit.0), tree_plain asks xs fit.1)
  tree_plain zero (Ask t ∷ xs) fit = absurd fit
  tree_plain (suc asks) (Ask t ∷ xs) fit = (hold.one_line (tree_words (Ask t)) ((tree_form hold).plain (Ask t) fit.0), tree_plain asks xs fit.1)

  -- tree lines and then lines that begin with another kind
  module _ {B : Type 0} (asks : ℕ) (q : Cursor → Reading B) (t : B → List (List (List ℕ))) (g : B → Type 0) where
    tree_then_takes : Spells q t g → (c : Cursor) (x : (List TreeLine × B) × Cursor) → (read_tree asks then q) c ≡ Ok x → Took c (map tree_words x.0.0 ++ t x.0.1) x.1 × (AreTreeLines asks x.0.0 × g x.0.1)
    tree_then_takes law c x e =
        let a = bind_ok (read_tree asks c) (λ x. q x.1 >>= λ y. Ok ((x.0, y.0), y.1)) x e in
        let ta = tree_takes asks c.number c.tail c.lines a.0 a.1 in
        let b = bind_ok (q a.0.1) (λ y. Ok ((a.0.0, y.0), y.1)) x a.2 in
        let tb = law.takes a.0.1 b.0 b.1 in
        let made : (List TreeLine × B) × Cursor = ((a.0.0, b.0.0), b.0.1) in
        subst (λ (y : (List TreeLine × B) × Cursor). Took c (map tree_words y.0.0 ++ t y.0.1) y.1 × (AreTreeLines asks y.0.0 × g y.0.1)) (ok_is made x b.2)
        (Took-then c a.0.1 b.0.1 (map tree_words a.0.0) (t b.0.0) ta.0 tb.0, (ta.1, tb.1))

    tree_then_again : Spells q t g → ((b : B) → g b → (rest : List (List ℕ)) → IsOther (map spaced (t b) ++ rest)) → (n : ℕ) (tail : List ℕ) (rest : List (List ℕ)) (x : List TreeLine × B) → AreTreeLines asks x.0 × g x.1 → Rereads (read_tree asks then q) n tail (map spaced (map tree_words x.0 ++ t x.1)) rest x
    tree_then_again law starts n tail rest x fit =
        let a = tree_again asks n tail (map spaced (t x.1) ++ rest) x.0 (starts x.1 fit.1 rest) fit.0 in
        let b = law.again a.number tail rest x.1 fit.1 in
        let grouped : map spaced (map tree_words x.0 ++ t x.1) ++ rest ≡ map spaced (map tree_words x.0) ++ (map spaced (t x.1) ++ rest) =
        ap (λ l. l ++ rest) (map-append spaced (map tree_words x.0) (t x.1)) ∙ append_assoc (map spaced (map tree_words x.0)) (map spaced (t x.1)) rest in
        record {
          number = b.number;
          is = ap (λ l. (read_tree asks then q) (record { number = n; lines = l; tail = tail })) grouped ∙ ap (λ v. v >>= λ x. q x.1 >>= λ y. Ok ((x.0, y.0), y.1)) a.is ∙ ap (λ v. v >>= λ y. Ok ((x.0, y.0), y.1)) b.is;
        }

    tree_spells : Spells q t g → ((b : B) → g b → (rest : List (List ℕ)) → IsOther (map spaced (t b) ++ rest)) → Spells (read_tree asks then q) (λ x. map tree_words x.0 ++ t x.1) (λ x. AreTreeLines asks x.0 × g x.1)
    tree_spells law starts = record {
      takes = tree_then_takes law;
      again = tree_then_again law starts;
      plain = λ x fit. subst AreLines (sym (map-append spaced (map tree_words x.0) (t x.1))) (AreLines-append (map spaced (map tree_words x.0)) (map spaced (t x.1)) (tree_plain asks x.0 fit.0) (law.plain x.1 fit.1));
    }

  -- ---- the whole

  abbrev Last : Type 0
  Last = List GroupLine × (Option MissedLine × Unit {0})

  abbrev last_lines : Last → List (List (List ℕ))
  last_lines x = map group_words x.0 ++ (missed_lines x.1.0 ++ ((codes "end" ∷ []) ∷ []))

  abbrev IsLast : ℕ → Verdict → Last → Type 0
  IsLast count v x = ((length x.0 ≡ count) × AllByRecursion IsGroupLine x.0) × (IsMissing v x.1.0 × Unit {0})

  last_spells : (count : ℕ) (v : Verdict) → count ≤ 2 ^ 64 → Spells (lines_at (λ k. group_in) count 0 then (read_missed v then line_at end_in)) last_lines (IsLast count v)
  last_spells count v few = then_spells (lines_at (λ k. group_in) count 0) (map group_words) (λ gs. (length gs ≡ count) × AllByRecursion IsGroupLine gs) (read_missed v then line_at end_in) (λ x. missed_lines x.0 ++ ((codes "end" ∷ []) ∷ [])) (λ x. IsMissing v x.0 × Unit {0})
      (groups_spells count few) (then_spells (read_missed v) missed_lines (IsMissing v) (line_at end_in) (λ t. (codes "end" ∷ []) ∷ []) (λ t. Unit {0}) (missed_spells v) end_spells)

  last_starts : (count : ℕ) (v : Verdict) (x : Last) → IsLast count v x → (rest : List (List ℕ)) → IsOther (map spaced (last_lines x) ++ rest)
  last_starts count v (g ∷ gs, (m, t)) fit rest = ap is_tree_line (hold.words_again (group_words g) tt ((group_form hold).plain g fit.0.1.0))
  last_starts count v ([], (None, t)) fit rest = refl
  last_starts count Optimal ([], (Some m, t)) fit rest = absurd fit.1.0
  last_starts count Bounded ([], (Some m, t)) fit rest = ap is_tree_line (hold.words_again (missed_words m) tt ((missed_form hold).plain m fit.1.0))

  abbrev Body : Type 0
  Body = List ClassLine × (List TestLabel × (List TreeLine × Last))

  abbrev body_lines : Body → List (List (List ℕ))
  body_lines x = class_lines 0 x.0 ++ (test_lines 0 x.1.0 ++ (map tree_words x.1.1.0 ++ last_lines x.1.1.1))

  abbrev IsBody : Head → Body → Type 0
  IsBody h x = ((length x.0 ≡ h.classes) × AreClasses 4097 x.0) × (((length x.1.0 ≡ h.tests) × AllByRecursion IsTest x.1.0) × (AreTreeLines 511 x.1.1.0 × IsLast h.groups h.verdict x.1.1.1))

  body_spells : (h : Head) → IsHead h → Spells (body_at h) body_lines (IsBody h)
  unfolding body_at
  body_spells h fit =
      let a = fit.classes in
      let b = fit.tests in
      let d = fit.groups in
      let a1 = a.1 in
      let b1 = b.1 in
      let d1 = d.1 in
      then_spells _ _ _ _ _ _ (classes_spells 4097 h.classes (omega arith))
      (then_spells _ _ _ _ _ _ (tests_spells h.tests (omega arith))
      (tree_spells 511 _ _ _ (last_spells h.groups h.verdict (omega arith)) (last_starts h.groups h.verdict)))

  report_back : Report → Head × Body
  report_back r = (head_of_report r, (r.class_lines, (r.test_lines, (r.tree, (r.groups, (r.missed, tt))))))

  with_count : Head → ℕ → Head
  with_count h n = record h { groups = n }

  pub whole_spells : Spells whole_at report_lines IsReport
  unfolding whole_at report_back with_count
  whole_spells = fits_as whole_at report_lines _ IsReport
      (λ r f. record { head = f.0; class_count = f.1.0.0; class_lines = f.1.0.1; test_count = f.1.1.0.0; test_lines = f.1.1.0.1; tree = f.1.1.1.0; groups = f.1.1.1.1.0.1; missed = f.1.1.1.1.1.0 })
      (λ r f. (f.head, ((f.class_count, f.class_lines), ((f.test_count, f.test_lines), (f.tree, ((refl, f.groups), (f.missed, tt)))))))
      (as_spells report_with report_back (pair head_at body_at) (λ (x : Head × Body). head_words x.0 ++ body_lines x.1) (λ (x : Head × Body). IsHead x.0 × IsBody x.0 x.1)
      (λ a f. ap (λ (n : ℕ). (with_count a.0 n, a.1)) f.1.1.1.1.0.0) (λ b. refl)
      (pair_spells head_at head_words IsHead body_at (λ h. body_lines) IsBody (head_spells hold) body_spells))

  only_ok : (x : Report × Cursor) (r : Report) → only x ≡ Ok r → (is_nothing (x.1).lines (x.1).tail ≡ true) × (x.0 ≡ r)
  only_ok x r e = go (is_nothing (x.1).lines (x.1).tail) e
    where
      go : (b : Bool) → cond b (Ok x.0) (Err (x.1).number) ≡ Ok r → (b ≡ true) × (x.0 ≡ r)
      go true e = (refl, ok_is x.0 r e)
      go false e = absurd cc

  -- what is read is the report's text
  pub report_found : (bytes : List ℕ) (r : Report) → report_at bytes ≡ Ok r → IsReport r × (bytes ≡ report_bytes r)
  unfolding report_at
  report_found bytes r e =
      let a = bind_ok (whole_at (cursor 1 bytes)) only r e in
      let t = whole_spells.takes (cursor 1 bytes) a.0 a.1 in
      let o = only_ok a.0 r a.2 in
      let n = nothing_left (a.0.1).lines (a.0.1).tail o.0 in
      let lines : lines_in bytes ≡ map spaced (report_lines a.0.0) = t.0.lines_are ∙ ap (λ l. map spaced (report_lines a.0.0) ++ l) n.0 ∙ append-nil (map spaced (report_lines a.0.0)) in
      let tail : tail_in bytes ≡ [] = t.0.tail_is ∙ n.1 in
      let whole : bytes ≡ report_bytes a.0.0 = sym (hold.lines bytes) ∙ ap (λ l. ended l ++ tail_in bytes) lines ∙ ap (λ l. report_bytes a.0.0 ++ l) tail ∙ append-nil (report_bytes a.0.0) in
      subst (λ (y : Report). IsReport y × (bytes ≡ report_bytes y)) o.1 (t.1, whole)

  -- a report's text is read again
  pub report_again : (r : Report) → IsReport r → report_at (report_bytes r) ≡ Ok r
  unfolding report_at
  report_again r fit =
      let lines : lines_in (report_bytes r) ≡ map spaced (report_lines r) ++ [] = hold.lines_again (map spaced (report_lines r)) (whole_spells.plain r fit) ∙ sym (append-nil (map spaced (report_lines r))) in
      let tail = hold.tail_again (map spaced (report_lines r)) in
      let a = whole_spells.again 1 [] [] r fit in
      let start : cursor 1 (report_bytes r) ≡ record { number = 1; lines = map spaced (report_lines r) ++ []; tail = [] } = ap (λ l. record { number = 1; lines = l; tail = tail_in (report_bytes r) }) lines ∙ ap (λ l. record { number = 1; lines = map spaced (report_lines r) ++ []; tail = l }) tail in
      ap (λ c. whole_at c >>= only) start ∙ ap (λ v. v >>= only) a.is

  -- bytes are the text of at most one report
  pub report_one : (r s : Report) → IsReport r → IsReport s → report_bytes r ≡ report_bytes s → r ≡ s
  report_one r s fr fs same = ok_is r s (sym (report_again r fr) ∙ ap report_at same ∙ report_again s fs)
