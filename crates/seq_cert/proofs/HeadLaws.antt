-- The first twelve lines and the state lines, both ways.
use Rattle.std.proofs.Common.{◌≡◌, ℕ, zero, suc, ◌-◌, ◌^◌, ◌<◌, ◌≤◌, List, [], ◌∷◌, ◌++◌, length, map, refl, sym, ap, subst, ◌∙◌, arith, inl, inr, ◌⊎◌, Result, Ok, Err}
use Rattle.std.specs.Prelude.{true, false, cond, nat_eq, codes}
use Rattle.std.specs.List.{AllByRecursion}
use Rattle.std.proofs.lemmas.Bool.{cases_Bool, eqb-true}
use Rattle.std.proofs.lemmas.Bool.Decides.{nat_tests}
use Rattle.sig_lines.specs.Pieces.{spaced, Words, number_words}
use Rattle.sig_lines.specs.Reading.{Cursor, ◌>>=◌, line_at, ◌then◌}
use Rattle.sig_lines.specs.Laws.{LinesHold, AreLines}
use Rattle.seq_inst.specs.declared.outcome.Verdict.{Verdict}
use Rattle.seq_cert.specs.declared.head_reader.Head.{Head}
use Rattle.seq_cert.specs.declared.report.StateLine.{StateLine}
use Rattle.seq_cert.specs.LineForms.{most_64, is_label, is_mode, numbered, title_in, mode_in, result_in, state_in}
use Rattle.seq_cert.specs.Text.{title_words, mode_words, result_words, state_words}
use Rattle.seq_cert.specs.Reading.{HeadSaid, head_from, head_at, states_at}
use Rattle.seq_cert.specs.ReportForm.{InRange, IsHead, IsState, AreStates}
use Rattle.seq_cert.proofs.Spells.{Took, Rereads, Spells, Took-then, ok_is, bind_ok, line_spells, then_spells, as_spells, fits_as}
use Rattle.seq_cert.proofs.FormLaws.{number_form, mode_form, title_form, result_form, state_form, plain_label}

-- the lines of a head
abbrev pub head_words : Head → List Words
head_words h =
    title_words ∷ mode_words h.mode ∷ number_words (codes "states") h.states ∷ number_words (codes "classes") h.classes ∷ number_words (codes "tests") h.tests
    ∷ number_words (codes "weight") h.weight ∷ result_words h.verdict ∷ number_words (codes "cost") h.cost
    ∷ number_words (codes "low") h.low ∷ number_words (codes "gap") h.gap ∷ number_words (codes "limit") h.limit ∷ number_words (codes "groups") h.groups ∷ []

count_cases : {A : Type 0} (count : ℕ) (here : A) (other : Result A ℕ) (x : A) → cond (nat_eq count 0) (Ok here) other ≡ Ok x → ((count ≡ 0) × (here ≡ x)) ⊎ ((0 < count) × (other ≡ Ok x))
count_cases count here other x e = elim (cases_Bool (nat_eq count 0)) [
  | inl y ↦ (let e' = rw y at e in inl (eqb-true count 0 y, ok_is here x e'))
  | inr n ↦ (let p : 0 < count = grind (arith, nat_tests) in inr (p, rw n at e))
]

stopped : (room count : ℕ) (c : Cursor) (x : List StateLine × Cursor) → count ≡ 0 → ([], c) ≡ x → Took c (map state_words x.0) x.1 × AreStates room count x.0
stopped room count c x z same =
    subst (λ (v : List StateLine × Cursor). Took c (map state_words v.0) v.1 × AreStates room count v.0) same (record { lines_are = refl; tail_is = refl }, (sym z, omega arith, tt))

some_left : (n : ℕ) → nat_eq (suc n) 0 ≡ false
some_left n = grind (arith, nat_tests)

-- the lines are found again as they are written
module _ (hold : LinesHold) where
  number_line : (key : List ℕ) (least most : ℕ) → most < 2 ^ 64 → is_label key ≡ true → Spells (line_at (numbered key least most)) (λ n. number_words key n ∷ []) (InRange least most)
  number_line key least most small k = line_spells hold (numbered key least most) (number_words key) (InRange least most) ((number_form hold) key least most small ((plain_label hold) key k))

  title_line : Spells (line_at title_in) (λ t. title_words ∷ []) (λ t. Unit {0})
  title_line = line_spells hold title_in (λ t. title_words) (λ t. Unit {0}) (title_form hold)

  mode_spells : Spells (line_at mode_in) (λ m. mode_words m ∷ []) (λ m. is_mode m ≡ true)
  mode_spells = line_spells hold mode_in mode_words (λ m. is_mode m ≡ true) (mode_form hold)

  result_spells : Spells (line_at result_in) (λ v. result_words v ∷ []) (λ v. Unit {0})
  result_spells = line_spells hold result_in result_words (λ v. Unit {0}) (result_form hold)

  head_back : Head → HeadSaid
  head_back h = (tt, (h.mode, (h.states, (h.classes, (h.tests, (h.weight, (h.verdict, (h.cost, (h.low, (h.gap, (h.limit, h.groups)))))))))))

  pub head_spells : Spells head_at head_words IsHead
  unfolding head_at head_back
  head_spells = fits_as head_at head_words _ IsHead
      (λ h f. record { mode = f.1.0; states = f.1.1.0; classes = f.1.1.1.0; tests = f.1.1.1.1.0; weight = f.1.1.1.1.1.0; cost = f.1.1.1.1.1.1.1.0; low = f.1.1.1.1.1.1.1.1.0; gap = f.1.1.1.1.1.1.1.1.1.0; limit = f.1.1.1.1.1.1.1.1.1.1.0; groups = f.1.1.1.1.1.1.1.1.1.1.1 })
      (λ h f. (tt, (f.mode, (f.states, (f.classes, (f.tests, (f.weight, (tt, (f.cost, (f.low, (f.gap, (f.limit, f.groups))))))))))))
      (as_spells head_from head_back _ _ _ (λ a f. refl) (λ b. refl)
      (then_spells _ _ _ _ _ _ title_line (then_spells _ _ _ _ _ _ mode_spells
      (then_spells _ _ _ _ _ _ (number_line (codes "states") 1 4097 (omega arith) refl) (then_spells _ _ _ _ _ _ (number_line (codes "classes") 1 512 (omega arith) refl)
      (then_spells _ _ _ _ _ _ (number_line (codes "tests") 0 256 (omega arith) refl) (then_spells _ _ _ _ _ _ (number_line (codes "weight") 0 most_64 (omega arith) refl)
      (then_spells _ _ _ _ _ _ result_spells (then_spells _ _ _ _ _ _ (number_line (codes "cost") 0 most_64 (omega arith) refl)
      (then_spells _ _ _ _ _ _ (number_line (codes "low") 0 most_64 (omega arith) refl) (then_spells _ _ _ _ _ _ (number_line (codes "gap") 0 most_64 (omega arith) refl)
      (then_spells _ _ _ _ _ _ (number_line (codes "limit") 1 32768 (omega arith) refl) (number_line (codes "groups") 0 32768 (omega arith) refl)))))))))))))

  state_spells : Spells (line_at state_in) (λ s. state_words s ∷ []) IsState
  state_spells = line_spells hold state_in state_words IsState (state_form hold)

  states_takes : (room count : ℕ) (c : Cursor) (x : List StateLine × Cursor) → states_at room count c ≡ Ok x → Took c (map state_words x.0) x.1 × AreStates room count x.0
  unfolding states_at
  states_takes zero count c x e = elim (count_cases count (nothing c) (Err c.number) x e) [
    | inl h ↦ stopped 0 count c x h.0 h.1
    | inr h ↦ (let bad : Err c.number ≡ Ok x = h.1 in absurd cc)
  ]
    where
      nothing : Cursor → List StateLine × Cursor
      nothing c = ([], c)
  states_takes (suc room) count c x e = elim (count_cases count (nothing c) (line_at state_in c >>= λ line. states_at room (count - 1) line.1 >>= λ more. Ok (line.0 ∷ more.0, more.1)) x e) [
    | inl h ↦ stopped (suc room) count c x h.0 h.1
    | inr h ↦
        (let a = bind_ok (line_at state_in c) (λ line. states_at room (count - 1) line.1 >>= λ more. Ok (line.0 ∷ more.0, more.1)) x h.1 in
        let b = bind_ok (states_at room (count - 1) a.0.1) (λ more. Ok (a.0.0 ∷ more.0, more.1)) x a.2 in
        let ta = state_spells.takes c a.0 a.1 in
        let tb = states_takes room (count - 1) a.0.1 b.0 b.1 in
        let made : List StateLine × Cursor = (a.0.0 ∷ b.0.0, b.0.1) in
        let n = tb.1.0 in
        let le = tb.1.1 in
        let some = h.0 in
        subst (λ (v : List StateLine × Cursor). Took c (map state_words v.0) v.1 × AreStates (suc room) count v.0) (ok_is made x b.2)
        (Took-then c a.0.1 b.0.1 (state_words a.0.0 ∷ []) (map state_words b.0.0) ta.0 tb.0, (omega arith, omega arith, (ta.1, tb.1.2))))
  ]
    where
      nothing : Cursor → List StateLine × Cursor
      nothing c = ([], c)

  states_again : (room n : ℕ) (tail : List ℕ) (rest : List (List ℕ)) (xs : List StateLine) → length xs ≤ room → AllByRecursion IsState xs → Rereads (states_at room (length xs)) n tail (map spaced (map state_words xs)) rest xs
  unfolding states_at
  states_again zero n tail rest [] le fit = record { number = n; is = refl }
  states_again (suc room) n tail rest [] le fit = record { number = n; is = refl }
  states_again zero n tail rest (x ∷ xs) le fit = absurd (let bad : ⊥ = omega arith in bad)
  states_again (suc room) n tail rest (x ∷ xs) le fit =
      let a = state_spells.again n tail (map spaced (map state_words xs) ++ rest) x fit.0 in
      let b = states_again room a.number tail rest xs (omega arith) fit.1 in
      let more : nat_eq (suc (length xs)) 0 ≡ false = some_left (length xs) in
      let one : suc (length xs) - 1 ≡ length xs = omega arith in
      record {
        number = b.number;
        is = rw (more, one) (ap (λ v. v >>= λ line. states_at room (length xs) line.1 >>= λ more. Ok (line.0 ∷ more.0, more.1)) a.is ∙ ap (λ v. v >>= λ more. Ok (x ∷ more.0, more.1)) b.is);
      }

  states_plain : (xs : List StateLine) → AllByRecursion IsState xs → AreLines (map spaced (map state_words xs))
  states_plain [] fit = tt
  states_plain (x ∷ xs) fit = ((state_spells.plain x fit.0).0, states_plain xs fit.1)

  counted : (room count n : ℕ) (tail : List ℕ) (rest : List (List ℕ)) (xs : List StateLine) → length xs ≡ count → Rereads (states_at room (length xs)) n tail (map spaced (map state_words xs)) rest xs → Rereads (states_at room count) n tail (map spaced (map state_words xs)) rest xs
  counted room count n tail rest xs e r = subst (λ (m : ℕ). Rereads (states_at room m) n tail (map spaced (map state_words xs)) rest xs) e r

  pub states_spells : (room count : ℕ) → Spells (states_at room count) (map state_words) (AreStates room count)
  states_spells room count = record {
    takes = λ c x e. states_takes room count c x e;
    again = λ n tail rest xs fit. let e = fit.0 in let le = fit.1 in counted room count n tail rest xs fit.0 (states_again room n tail rest xs (omega arith) fit.2);
    plain = λ xs fit. states_plain xs fit.2;
  }
