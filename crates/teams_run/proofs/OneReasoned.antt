-- One reasoning over a log: its bytes are a log of one list of findings or have one first bad line, and of what was found either each fault is
-- called one thing or one test is the conflict.
use Rattle.std.proofs.Common.{◌≡◌, ◌∙◌, ℕ, List, refl, sym, ap, subst}
use Rattle.sig_matrix.specs.declared.matrix.Matrix.{Matrix}
use Rattle.sig_reason.specs.declared.found.Finding.{Finding}
use Rattle.sig_reason.specs.declared.found.Label.{Label}
use Rattle.sig_reason.specs.FaultSets.{IsPossible}
use Rattle.sig_reason.specs.Labelling.{AreCalled, IsConflict, case_of}
use Rattle.sig_reason.specs.Laws.{HasOneReasoning}
use Rattle.sig_reason.specs.ReasonText.{reason_bytes}
use Rattle.teams_run.specs.declared.status.Status.{Status}
use Rattle.teams_run.specs.declared.status.Status.TheVariants.{Done, Rejected, Conflict}
use Rattle.teams_run.specs.Reasoned.{IsReasoning, IsLabelled, IsInConflict, IsBadLog, bad_log_line, conflict_line}

-- what a reasoning is, with its status
data Kind (matrix : Matrix) (mode log : List ℕ) (status : Status) (text : List ℕ) : Type 0 where
  labelled : status ≡ Done → IsLabelled matrix mode log text → Kind matrix mode log status text
  conflict : status ≡ Conflict → IsInConflict matrix log text → Kind matrix mode log status text
  bad : status ≡ Rejected → IsBadLog matrix log text → Kind matrix mode log status text

kind : (matrix : Matrix) (mode log : List ℕ) (status : Status) (text : List ℕ) → IsReasoning matrix mode log status text → Kind matrix mode log status text
kind matrix mode log Done text r = labelled refl r
kind matrix mode log Conflict text r = conflict refl r
kind matrix mode log Rejected text r = bad refl r
kind matrix mode log status text r = absurd r

module _ (one : HasOneReasoning) (matrix : Matrix) (mode log : List ℕ) where
  labelled-one : (text another : List ℕ) → IsLabelled matrix mode log text → IsLabelled matrix mode log another → text ≡ another
  labelled-one text another a b =
      let found = one.one_log matrix log b.found a.found b.log_is a.log_is in
      let called = subst (λ (f : List Finding). AreCalled (case_of matrix f) b.labels) found b.called in
      a.text_is ∙ ap (λ (l : List Label). reason_bytes matrix l mode) (one.one_label (case_of matrix a.found) a.labels b.labels a.possible a.called called) ∙ sym b.text_is

  conflict-one : (text another : List ℕ) → IsInConflict matrix log text → IsInConflict matrix log another → text ≡ another
  conflict-one text another a b =
      let found = one.one_log matrix log b.found a.found b.log_is a.log_is in
      let there = subst (λ (f : List Finding). IsConflict (case_of matrix f) b.test) found b.conflict in
      a.line ∙ ap (conflict_line matrix) (one.one_conflict (case_of matrix a.found) a.test b.test a.conflict there) ∙ sym b.line

  bad-one : (text another : List ℕ) → IsBadLog matrix log text → IsBadLog matrix log another → text ≡ another
  bad-one text another a b = a.line ∙ ap bad_log_line (one.one_bad matrix log a.bad b.bad a.first b.first) ∙ sym b.line

  not-both : (text another : List ℕ) → IsLabelled matrix mode log text → IsInConflict matrix log another → ⊥
  not-both text another a b =
      let found = one.one_log matrix log b.found a.found b.log_is a.log_is in
      one.possible_or_conflict (case_of matrix a.found) b.test a.possible (subst (λ (f : List Finding). IsConflict (case_of matrix f) b.test) found b.conflict)

  kinds : (status other : Status) (text another : List ℕ) → Kind matrix mode log status text → Kind matrix mode log other another → (status ≡ other) × (text ≡ another)
  kinds status other text another (labelled s a) (labelled t b) = (s ∙ sym t, labelled-one text another a b)
  kinds status other text another (labelled s a) (conflict t b) = absurd (not-both text another a b)
  kinds status other text another (labelled s a) (bad t b) = absurd (one.log_or_bad matrix log a.found b.bad a.log_is b.first)
  kinds status other text another (conflict s a) (labelled t b) = absurd (not-both another text b a)
  kinds status other text another (conflict s a) (conflict t b) = (s ∙ sym t, conflict-one text another a b)
  kinds status other text another (conflict s a) (bad t b) = absurd (one.log_or_bad matrix log a.found b.bad a.log_is b.first)
  kinds status other text another (bad s a) (labelled t b) = absurd (one.log_or_bad matrix log b.found a.bad b.log_is a.first)
  kinds status other text another (bad s a) (conflict t b) = absurd (one.log_or_bad matrix log b.found a.bad b.log_is a.first)
  kinds status other text another (bad s a) (bad t b) = (s ∙ sym t, bad-one text another a b)

  pub one-reasoned : (status other : Status) (text another : List ℕ) → IsReasoning matrix mode log status text → IsReasoning matrix mode log other another → (status ≡ other) × (text ≡ another)
  one-reasoned status other text another a b = kinds status other text another (kind matrix mode log status text a) (kind matrix mode log other another b)
