-- Nothing is left exactly where no byte is left; and what reading tells of a report.
use Rattle.std.proofs.Common.{◌≡◌, ℕ, suc, List, [], ◌∷◌, ◌++◌, ◌≤◌, length, map, length-append, refl, sym, ap, ◌∙◌, arith, inl, inr, Result, Ok, Err}
use Rattle.std.specs.Prelude.{◌⊎◌, false, nat_eq, IfOk, IfErr}
use Rattle.std.proofs.lemmas.Bool.{cases_Bool}
use Rattle.std.proofs.lemmas.Bool.Decides.{nat_tests}
use Rattle.std.proofs.lemmas.List.{length-map}
use Rattle.sig_lines.specs.Pieces.{lines_in, tail_in, spaced, ended}
use Rattle.sig_lines.specs.Laws.{LinesHold}
use Rattle.seq_cert.specs.declared.fault.ReportFault.{ReportFault}
use Rattle.seq_cert.specs.declared.fault.ReportFault.TheVariants.{Bad, OutOfMemory}
use Rattle.seq_cert.specs.declared.report.Report.{Report}
use Rattle.seq_cert.specs.Text.{report_lines, report_bytes}
use Rattle.seq_cert.specs.ReportForm.{IsReport}
use Rattle.seq_cert.specs.Reading.{is_nothing, Gives, report_at}
use Rattle.seq_cert.specs.BothWays.{IsToldOrBad, HasNoBad}
use Rattle.seq_cert.specs.Places.{IsFirstBadLine, TellsFirstBad}
use Rattle.seq_cert.proofs.BodyLaws.{nothing_left, report_found, report_again}
use Rattle.seq_cert.proofs.PlaceLaws.{reading_stops, reading_ends}

some : (n : ℕ) → nat_eq (suc n) 0 ≡ false
some n = grind (arith, nat_tests)

-- each line takes a byte at least
lines-bytes : (ls : List (List ℕ)) → length ls ≤ length (ended ls)
lines-bytes [] = omega arith
lines-bytes (l ∷ ls) = let r = lines-bytes ls in let e = length-append l (10 ∷ ended ls) in omega arith

-- the lines are found again as they are written
module _ (hold : LinesHold) where
  pub nothing_left_is : (xs : List ℕ) → is_nothing (lines_in xs) (tail_in xs) ≡ nat_eq (length xs) 0
  nothing_left_is [] = refl
  nothing_left_is (x ∷ xs) = elim (cases_Bool (is_nothing (lines_in (x ∷ xs)) (tail_in (x ∷ xs)))) [
    | inl y ↦
        (let n = nothing_left (lines_in (x ∷ xs)) (tail_in (x ∷ xs)) y in
        let e : x ∷ xs ≡ [] = sym (hold.lines (x ∷ xs)) ∙ ap (λ l. ended l ++ tail_in (x ∷ xs)) n.0 ∙ n.1 in
        absurd (let bad : ⊥ = cc in bad))
    | inr n ↦ n ∙ sym (some (length xs))
  ]

  pub is_found : (bytes : List ℕ) (r : Result Report ReportFault) → Gives (λ x. x) r (report_at bytes) → IfOk r (λ x. IsReport x × (bytes ≡ report_bytes x))
  is_found bytes (Ok x) given = (report_found hold) bytes x given
  is_found bytes (Err e) given = tt

  pub is_short : (bytes : List ℕ) (r : Result Report ReportFault) → Gives (λ x. x) r (report_at bytes) → IfOk r (λ x. length (report_lines x) ≤ length bytes)
  is_short bytes (Ok x) given =
      let found = (report_found hold) bytes x given in
      let same : length bytes ≡ length (report_bytes x) = ap length found.1 in
      let each = lines-bytes (map spaced (report_lines x)) in
      let count = length-map (report_lines x) spaced in
      omega arith
  is_short bytes (Err e) given = tt

  told_by : (bytes : List ℕ) (x : Result Report ℕ) → report_at bytes ≡ x → ((r : Report) × IsReport r × (bytes ≡ report_bytes r)) ⊎ ((line : ℕ) × IsFirstBadLine bytes line)
  told_by bytes (Ok r) e = let found = (report_found hold) bytes r e in inl (r, found.0, found.1)
  told_by bytes (Err n) e = inr (n, reading_stops bytes n e)

  pub is_told : IsToldOrBad
  is_told bytes = told_by bytes (report_at bytes) refl

  pub has_no_bad : HasNoBad
  has_no_bad r line form bad = reading_ends (report_bytes r) r line ((report_again hold) r form) bad

-- what is refused has a first bad line
pub is_bad : (bytes : List ℕ) (r : Result Report ReportFault) → Gives (λ x. x) r (report_at bytes) → IfErr r (TellsFirstBad bytes)
is_bad bytes (Ok x) given = tt
is_bad bytes (Err OutOfMemory) given = tt
is_bad bytes (Err (Bad bad)) given = (given.0, reading_stops bytes bad.line given.1)
