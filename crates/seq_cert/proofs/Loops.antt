-- Lines that are read one after the other, as a loop reads them: what was read before stands in front.
use Rattle.std.proofs.Common.{◌≡◌, ℕ, zero, suc, ◌-◌, ◌+◌, ◌≤◌, ◌<◌, List, [], ◌∷◌, ◌++◌, length, Option, Some, None, Result, Ok, Err, refl, sym, ap, ◌∙◌, append_assoc, append-nil, arith}
use Rattle.std.specs.Prelude.{true, false, nat_eq}
use Rattle.std.proofs.lemmas.Bool.Decides.{nat_tests}
use Rattle.sig_lines.specs.Reading.{Cursor, Reading, ◌>>=◌, line_at}
use Rattle.seq_cert.specs.declared.fault.ReportFault.{ReportFault}
use Rattle.seq_cert.specs.declared.fault.ReportFault.TheVariants.{Bad, OutOfMemory}
use Rattle.seq_cert.specs.declared.report.StateLine.{StateLine}
use Rattle.seq_cert.specs.declared.report.ClassLine.{ClassLine}
use Rattle.seq_cert.specs.declared.report.TreeLine.{TreeLine}
use Rattle.sig_lines.specs.Pieces.{words_in}
use Rattle.seq_cert.specs.LineForms.{state_in, is_tree_line, tree_line_in}
use Rattle.seq_cert.specs.Reading.{Fails, lines_at, states_at, class_at, classes_at, read_tree}
use Rattle.seq_cert.specs.Places.{asks_after, with_asks}

-- what was read before, and what is still read
abbrev pub with_front : {A : Type 0} → List A → Reading (List A) → Reading (List A)
with_front front read = read >>= λ x. Ok (front ++ x.0, x.1)

regroup : {A : Type 0} (front : List A) (a : A) (read : Reading (List A)) → with_front front (read >>= λ x. Ok (a ∷ x.0, x.1)) ≡ with_front (front ++ a ∷ []) read
regroup {A} front a (Ok x) = ap (λ (l : List A). Ok (l, x.1)) (simp append_assoc)
regroup front a (Err n) = refl

pub fails_to : {A B : Type 0} (e : ReportFault) (f : Result A ℕ → Result B ℕ) (read : Result A ℕ) (total : Result B ℕ) → ((n : ℕ) → f (Err n) ≡ Err n) → Fails e read → f read ≡ total → Fails e total
fails_to OutOfMemory f read total passes bad so_far = tt
fails_to (Bad b) f read total passes bad so_far = (bad.0, sym so_far ∙ ap f bad.1 ∙ passes b.line)

module _ {A : Type 0} (form : ℕ → List (List ℕ) → Option A) where
  pub lines_start : (count k : ℕ) (c : Cursor) → with_front [] (lines_at form count k c) ≡ lines_at form count k c
  lines_start count k c = go (lines_at form count k c)
    where
      go : (r : Reading (List A)) → with_front [] r ≡ r
      go (Ok x) = refl
      go (Err n) = refl

  one : (count k : ℕ) (c : Cursor) → 0 < count → lines_at form count k c ≡ (line_at (form k) c >>= λ line. lines_at form (count - 1) (suc k) line.1 >>= λ more. Ok (line.0 ∷ more.0, more.1))
  unfolding lines_at
  one zero k c some = absurd (let bad : ⊥ = omega arith in bad)
  one (suc n) k c some = let e : suc n - 1 ≡ n = omega arith in rw e refl

  pub lines_go_on : (front : List A) (count i : ℕ) (c after : Cursor) (a : A) (total : Reading (List A)) → i < count → line_at (form i) c ≡ Ok (a, after) → with_front front (lines_at form (count - i) i c) ≡ total → with_front (front ++ a ∷ []) (lines_at form (count - (i + 1)) (i + 1) after) ≡ total
  lines_go_on front count i c after a total lt h so_far =
      let some : 0 < count - i = omega arith in
      let k : (count - i) - 1 ≡ count - (i + 1) = omega arith in
      let j : suc i ≡ i + 1 = omega arith in
      let step : with_front front (lines_at form (count - i) i c) ≡ with_front (front ++ a ∷ []) (lines_at form ((count - i) - 1) (suc i) after) =
      ap (with_front front) (one (count - i) i c some ∙ (rw h refl)) ∙ regroup front a (lines_at form ((count - i) - 1) (suc i) after) in
      rw (← k, ← j) (sym step ∙ so_far)

  pub lines_fail : (e : ReportFault) (front : List A) (count i : ℕ) (c : Cursor) (total : Reading (List A)) → i < count → Fails e (line_at (form i) c) → with_front front (lines_at form (count - i) i c) ≡ total → Fails e total
  lines_fail e front count i c total lt bad so_far =
      let some : 0 < count - i = omega arith in
      fails_to e (λ r. with_front front (r >>= λ line. lines_at form ((count - i) - 1) (suc i) line.1 >>= λ more. Ok (line.0 ∷ more.0, more.1))) (line_at (form i) c) total (λ n. refl) bad (sym (ap (with_front front) (one (count - i) i c some)) ∙ so_far)

  none : (front : List A) (i : ℕ) (c : Cursor) → with_front front (lines_at form 0 i c) ≡ Ok (front, c)
  unfolding lines_at
  none front i c = ap (λ (l : List A). Ok (l, c)) (append-nil front)

  pub lines_done : (front : List A) (count i : ℕ) (c : Cursor) (total : Reading (List A)) → count ≤ i → with_front front (lines_at form (count - i) i c) ≡ total → total ≡ Ok (front, c)
  lines_done front count i c total le so_far =
      let k : count - i ≡ 0 = omega arith in
      sym so_far ∙ ap (λ m. with_front front (lines_at form m i c)) k ∙ none front i c

-- state lines
states_one : (room count : ℕ) (c : Cursor) → 0 < room → 0 < count → states_at room count c ≡ (line_at state_in c >>= λ line. states_at (room - 1) (count - 1) line.1 >>= λ more. Ok (line.0 ∷ more.0, more.1))
unfolding states_at
states_one zero count c space some = absurd (let bad : ⊥ = omega arith in bad)
states_one (suc room) count c space some =
    let n : nat_eq count 0 ≡ false = grind (arith, nat_tests) in
    let e : suc room - 1 ≡ room = omega arith in
    rw (n, e) refl

pub states_start : (room count : ℕ) (c : Cursor) → with_front [] (states_at room count c) ≡ states_at room count c
states_start room count c = go (states_at room count c)
  where
    go : (r : Reading (List StateLine)) → with_front [] r ≡ r
    go (Ok x) = refl
    go (Err n) = refl

pub states_go_on : (front : List StateLine) (room count : ℕ) (c after : Cursor) (a : StateLine) (total : Reading (List StateLine)) → 0 < room → 0 < count → line_at state_in c ≡ Ok (a, after) → with_front front (states_at room count c) ≡ total → with_front (front ++ a ∷ []) (states_at (room - 1) (count - 1) after) ≡ total
states_go_on front room count c after a total space some h so_far =
    sym (ap (with_front front) (states_one room count c space some ∙ (rw h refl)) ∙ regroup front a (states_at (room - 1) (count - 1) after)) ∙ so_far

pub states_fail : (e : ReportFault) (front : List StateLine) (room count : ℕ) (c : Cursor) (total : Reading (List StateLine)) → 0 < room → 0 < count → Fails e (line_at state_in c) → with_front front (states_at room count c) ≡ total → Fails e total
states_fail e front room count c total space some bad so_far =
    fails_to e (λ r. with_front front (r >>= λ line. states_at (room - 1) (count - 1) line.1 >>= λ more. Ok (line.0 ∷ more.0, more.1))) (line_at state_in c) total (λ n. refl) bad (sym (ap (with_front front) (states_one room count c space some)) ∙ so_far)

full : (front : List StateLine) (count : ℕ) (c : Cursor) → 0 < count → with_front front (states_at 0 count c) ≡ Err c.number
unfolding states_at
full front count c some = let n : nat_eq count 0 ≡ false = grind (arith, nat_tests) in rw n refl

nothing : (front : List StateLine) (room : ℕ) (c : Cursor) → with_front front (states_at room 0 c) ≡ Ok (front, c)
unfolding states_at
nothing front zero c = ap (λ (l : List StateLine). Ok (l, c)) (append-nil front)
nothing front (suc room) c = ap (λ (l : List StateLine). Ok (l, c)) (append-nil front)

pub states_full : (front : List StateLine) (room count : ℕ) (c : Cursor) (total : Reading (List StateLine)) → room ≡ 0 → 0 < count → with_front front (states_at room count c) ≡ total → total ≡ Err c.number
states_full front room count c total none some so_far = sym so_far ∙ ap (λ m. with_front front (states_at m count c)) none ∙ full front count c some

pub states_done : (front : List StateLine) (room count : ℕ) (c : Cursor) (total : Reading (List StateLine)) → count ≡ 0 → with_front front (states_at room count c) ≡ total → total ≡ Ok (front, c)
states_done front room count c total none so_far = sym so_far ∙ ap (λ m. with_front front (states_at room m c)) none ∙ nothing front room c

-- classes
classes_one : (room count k : ℕ) (c : Cursor) → 0 < count → classes_at room count k c ≡ (class_at room k c >>= λ class. classes_at (room - length (class.0).states) (count - 1) (suc k) class.1 >>= λ more. Ok (class.0 ∷ more.0, more.1))
unfolding classes_at
classes_one room zero k c some = absurd (let bad : ⊥ = omega arith in bad)
classes_one room (suc n) k c some = let e : suc n - 1 ≡ n = omega arith in rw e refl

pub classes_go_on : (front : List ClassLine) (room count i : ℕ) (c after : Cursor) (a : ClassLine) (total : Reading (List ClassLine)) → i < count → class_at room i c ≡ Ok (a, after) → with_front front (classes_at room (count - i) i c) ≡ total → with_front (front ++ a ∷ []) (classes_at (room - length a.states) (count - (i + 1)) (i + 1) after) ≡ total
classes_go_on front room count i c after a total lt h so_far =
    let some : 0 < count - i = omega arith in
    let k : (count - i) - 1 ≡ count - (i + 1) = omega arith in
    let j : suc i ≡ i + 1 = omega arith in
    let step : with_front front (classes_at room (count - i) i c) ≡ with_front (front ++ a ∷ []) (classes_at (room - length a.states) ((count - i) - 1) (suc i) after) =
    ap (with_front front) (classes_one room (count - i) i c some ∙ (rw h refl)) ∙ regroup front a (classes_at (room - length a.states) ((count - i) - 1) (suc i) after) in
    rw (← k, ← j) (sym step ∙ so_far)

pub classes_fail : (e : ReportFault) (front : List ClassLine) (room count i : ℕ) (c : Cursor) (total : Reading (List ClassLine)) → i < count → Fails e (class_at room i c) → with_front front (classes_at room (count - i) i c) ≡ total → Fails e total
classes_fail e front room count i c total lt bad so_far =
    let some : 0 < count - i = omega arith in
    fails_to e (λ r. with_front front (r >>= λ class. classes_at (room - length (class.0).states) ((count - i) - 1) (suc i) class.1 >>= λ more. Ok (class.0 ∷ more.0, more.1))) (class_at room i c) total (λ n. refl) bad (sym (ap (with_front front) (classes_one room (count - i) i c some)) ∙ so_far)

no_classes : (front : List ClassLine) (room i : ℕ) (c : Cursor) → with_front front (classes_at room 0 i c) ≡ Ok (front, c)
unfolding classes_at
no_classes front room i c = ap (λ (l : List ClassLine). Ok (l, c)) (append-nil front)

pub classes_done : (front : List ClassLine) (room count i : ℕ) (c : Cursor) (total : Reading (List ClassLine)) → count ≤ i → with_front front (classes_at room (count - i) i c) ≡ total → total ≡ Ok (front, c)
classes_done front room count i c total le so_far =
    let k : count - i ≡ 0 = omega arith in
    sym so_far ∙ ap (λ m. with_front front (classes_at room m i c)) k ∙ no_classes front room i c

-- tree lines
pub tree_goes_on : (front : List TreeLine) (asks left number : ℕ) (tail l : List ℕ) (ls : List (List ℕ)) (a : TreeLine) (total : Reading (List TreeLine)) → is_tree_line (words_in l) ≡ true → tree_line_in (words_in l) ≡ Some a → asks_after asks a ≡ Some left
    → with_front front (read_tree asks (record { number = number; lines = l ∷ ls; tail = tail })) ≡ total → with_front (front ++ a ∷ []) (read_tree left (record { number = number + 1; lines = ls; tail = tail })) ≡ total
tree_goes_on front asks left number tail l ls a total is some more so_far =
    let step : read_tree asks (record { number = number; lines = l ∷ ls; tail = tail }) ≡ (read_tree left (record { number = number + 1; lines = ls; tail = tail }) >>= λ rest. Ok (a ∷ rest.0, rest.1)) = rw (is, some, more) refl in
    sym (ap (with_front front) step ∙ regroup front a (read_tree left (record { number = number + 1; lines = ls; tail = tail }))) ∙ so_far

pub tree_breaks : (front : List TreeLine) (asks number : ℕ) (tail l : List ℕ) (ls : List (List ℕ)) (total : Reading (List TreeLine)) → is_tree_line (words_in l) ≡ true → with_asks asks (tree_line_in (words_in l)) ≡ None → with_front front (read_tree asks (record { number = number; lines = l ∷ ls; tail = tail })) ≡ total → total ≡ Err number
tree_breaks front asks number tail l ls total is none so_far = sym so_far ∙ rw (is, none) refl

pub tree_ends : (front : List TreeLine) (asks number : ℕ) (tail l : List ℕ) (ls : List (List ℕ)) (total : Reading (List TreeLine)) → is_tree_line (words_in l) ≡ false → with_front front (read_tree asks (record { number = number; lines = l ∷ ls; tail = tail })) ≡ total → total ≡ Ok (front, record { number = number; lines = l ∷ ls; tail = tail })
tree_ends front asks number tail l ls total other so_far = sym so_far ∙ rw other (ap (λ (k : List TreeLine). Ok (k, record { number = number; lines = l ∷ ls; tail = tail })) (append-nil front))

pub tree_runs_out : (front : List TreeLine) (asks number : ℕ) (tail : List ℕ) (total : Reading (List TreeLine)) → with_front front (read_tree asks (record { number = number; lines = []; tail = tail })) ≡ total → total ≡ Ok (front, record { number = number; lines = []; tail = tail })
tree_runs_out front asks number tail total so_far = sym so_far ∙ ap (λ (k : List TreeLine). Ok (k, record { number = number; lines = []; tail = tail })) (append-nil front)
