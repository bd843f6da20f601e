-- One judgement on a certificate: bytes are the text of at most one report, of whose lines one is the first bad one, or none
-- is bad.
use Rattle.std.proofs.Common.{◌≡◌, ◌∙◌, ℕ, List, refl, sym, ap, ap₂, subst, inl, inr}
use Rattle.std.specs.Prelude.{◌⊎◌, Option, Some, None}
use Rattle.seq_theory.specs.Problem.{Problem}
use Rattle.seq_theory.specs.States.{System, problem_of_classes}
use Rattle.sig_lines.specs.declared.labels.Labels.{Labels}
use Rattle.seq_cert.specs.declared.report.Report.{Report}
use Rattle.seq_cert.specs.declared.fault.BadLine.{BadLine}
use Rattle.seq_cert.specs.BothWays.{HasNoBad, HasOneFirst, IsOne}
use Rattle.seq_cert.specs.Places.{IsFirstBadLine}
use Rattle.seq_cert.specs.ReportForm.{IsReport}
use Rattle.seq_cert.specs.Text.{report_bytes}
use Rattle.seq_check.specs.Looks.{first_bad}
use Rattle.seq_check.specs.Lines.{looks}
use Rattle.teams_run.specs.declared.status.Status.{Status}
use Rattle.teams_run.specs.declared.status.Status.TheVariants.{Done, Rejected}
use Rattle.teams_run.specs.Judged.{IsAccepted, IsFirstBad, IsGood, IsJudgement, IsRejected, accepted_line, rejected_line}

some-same : {X : Type 0} (x y : X) (o : Option X) → o ≡ Some x → o ≡ Some y → x ≡ y
some-same x y o e f = cc

none-not-some : {X : Type 0} (x : X) (o : Option X) → o ≡ None → o ≡ Some x → ⊥
none-not-some x o e f = cc

module _ (no_bad : HasNoBad) (first : HasOneFirst) (one : IsOne) (p : Problem) (labels : Labels) (cert : List ℕ) where
  -- a report's text has no line that isn't of its form
  formed : (report : Report) (line : ℕ) → IsReport report → cert ≡ report_bytes report → IsFirstBadLine cert line → ⊥
  formed report line form bytes bad = no_bad report line form (subst (λ (b : List ℕ). IsFirstBadLine b line) bytes bad)

  same-report : (report other : Report) → IsReport report → IsReport other → cert ≡ report_bytes report → cert ≡ report_bytes other → report ≡ other
  same-report report other form form' bytes bytes' = one report other form form' (sym bytes ∙ bytes')

  same-line : (bad other : BadLine) → bad.line ≡ other.line → bad.code ≡ other.code → bad ≡ other
  same-line bad other e f = ap₂ (λ line code. let b : BadLine = record { line = line; code = code } in b) e f

  -- there is one first bad line
  pub one-bad : (bad other : BadLine) → IsFirstBad p labels cert bad → IsFirstBad p labels cert other → bad ≡ other
  one-bad bad other (inl a) (inl b) = same-line bad other (first cert bad.line other.line a.1 b.1) (a.0 ∙ sym b.0)
  one-bad bad other (inl a) (inr (report, form, bytes, b)) = absurd (formed report bad.line form bytes a.1)
  one-bad bad other (inr (report, form, bytes, a)) (inl b) = absurd (formed report other.line form bytes b.1)
  one-bad bad other (inr (report, form, bytes, a)) (inr (report', form', bytes', b)) =
      let same : report ≡ report' = same-report report report' form form' bytes bytes' in
      some-same bad other (first_bad (looks p labels report')) (subst (λ (r : Report). first_bad (looks p labels r) ≡ Some bad) same a) b

  -- a good report has no bad line
  pub good-not-bad : (report : Report) (bad : BadLine) → IsGood p labels cert report → IsFirstBad p labels cert bad → ⊥
  good-not-bad report bad good (inl b) = formed report bad.line good.form good.bytes b.1
  good-not-bad report bad good (inr (report', form', bytes', b)) =
      let same : report' ≡ report = same-report report' report form' good.form bytes' good.bytes in
      none-not-some bad (first_bad (looks p labels report)) good.certified (subst (λ (r : Report). first_bad (looks p labels r) ≡ Some bad) same b)

  -- bytes are one good report
  pub one-good : (report other : Report) → IsGood p labels cert report → IsGood p labels cert other → report ≡ other
  one-good report other a b = same-report report other a.form b.form a.bytes b.bytes

module _ (no_bad : HasNoBad) (first : HasOneFirst) (one : IsOne) (sys : System) (labels : Labels) (cert : List ℕ) where
  one-accepted : (text another : List ℕ) → IsAccepted sys labels cert text → IsAccepted sys labels cert another → text ≡ another
  one-accepted text another a b = a.line ∙ ap accepted_line (one-good no_bad first one (problem_of_classes sys) labels cert a.report b.report a.good b.good) ∙ sym b.line

  one-rejected : (text another : List ℕ) → IsRejected sys labels cert text → IsRejected sys labels cert another → text ≡ another
  one-rejected text another a b = a.line ∙ ap rejected_line (one-bad no_bad first one (problem_of_classes sys) labels cert a.bad b.bad a.first b.first) ∙ sym b.line

  never-both : (text another : List ℕ) → IsAccepted sys labels cert text → IsRejected sys labels cert another → ⊥
  never-both text another a b = good-not-bad no_bad first one (problem_of_classes sys) labels cert a.report b.bad a.good b.first

  -- a judgement is that the certificate is accepted, or that it is rejected
  abbrev IsEither : Status → List ℕ → Type 0
  IsEither status text = ((status ≡ Done) × IsAccepted sys labels cert text) ⊎ ((status ≡ Rejected) × IsRejected sys labels cert text)

  either : (status : Status) (text : List ℕ) → IsJudgement sys labels cert status text → IsEither status text
  either Done text accepted = inl (refl, accepted)
  either Rejected text rejected = inr (refl, rejected)
  either other text none = absurd none

  either-one : (status other : Status) (text another : List ℕ) → IsEither status text → IsEither other another → (status ≡ other) × (text ≡ another)
  either-one status other text another (inl a) (inl b) = (a.0 ∙ sym b.0, one-accepted text another a.1 b.1)
  either-one status other text another (inl a) (inr b) = absurd (never-both text another a.1 b.1)
  either-one status other text another (inr a) (inl b) = absurd (never-both another text b.1 a.1)
  either-one status other text another (inr a) (inr b) = (a.0 ∙ sym b.0, one-rejected text another a.1 b.1)

  -- two judgements are one
  pub one-judgement : (status other : Status) (text another : List ℕ) → IsJudgement sys labels cert status text → IsJudgement sys labels cert other another → (status ≡ other) × (text ≡ another)
  one-judgement status other text another a b = either-one status other text another (either status text a) (either other another b)
