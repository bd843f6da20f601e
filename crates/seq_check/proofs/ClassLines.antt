-- Class lines with their state lines, class by class.
use Rattle.std.proofs.Common.{◌≡◌, ℕ, ◌+◌, ◌<◌, ◌≤◌, List, [], ◌∷◌, ◌++◌, drop, get_or, length, refl, sym, ap, ◌∙◌, arith, Option, Some, None}
use Rattle.std.specs.Prelude.{true, false, filter, is_some}
use Rattle.std.proofs.lemmas.Bool.{le-ltb}
use Rattle.std.proofs.lemmas.List.{get_or_default, take_all}
use Rattle.seq_theory.specs.Problem.{Problem}
use Rattle.sig_lines.specs.declared.labels.StateLabel.{StateLabel}
use Rattle.seq_cert.specs.OutcomeReport.{is_of}
use Rattle.seq_cert.specs.ByClass.{ArePicked}
use Rattle.seq_cert.specs.declared.fault.BadLine.{BadLine}
use Rattle.seq_cert.specs.declared.fault.BadCode.TheVariants.{C02}
use Rattle.seq_cert.specs.declared.report.ClassLine.{ClassLine}
use Rattle.seq_check.specs.Looks.{first_bad}
use Rattle.seq_check.specs.ModelLooks.{class_look, class_looks}
use Rattle.seq_check.specs.Lines.{class_length}
use Rattle.seq_check.specs.Picked.{picked}
use Rattle.seq_check.proofs.LookLaws.{stops, passes}
use Rattle.seq_check.proofs.SideLooks.{drop-past, drop-step}

split : (lines : List ClassLine) (i : ℕ) (x : ClassLine) → i < length lines → x ≡ get_or lines i x → drop i lines ≡ x ∷ drop (i + 1) lines
split lines i x lt is = drop-step i lines x lt ∙ ap (λ (y : ClassLine). y ∷ drop (i + 1) lines) (sym is)

pub class_step : (lines : List ClassLine) (i : ℕ) (x : ClassLine) → i < length lines → x ≡ get_or lines i x → class_length (drop i lines) ≡ (1 + length x.states) + class_length (drop (i + 1) lines)
class_step lines i x lt is = ap class_length (split lines i x lt is)

module _ (p : Problem) (states : List StateLabel) (start n i : ℕ) (lines : List ClassLine) where
  abbrev pub SoFar : Type 0
  SoFar = first_bad (class_looks p states start 0 lines) ≡ first_bad (class_looks p states n i (drop i lines))

  module _ (x : ClassLine) (lt : i < length lines) (is : x ≡ get_or lines i x) where
    here : class_looks p states n i (drop i lines) ≡ class_look p states n i x ++ class_looks p states (n + (1 + length x.states)) (i + 1) (drop (i + 1) lines)
    here = ap (class_looks p states n i) (split lines i x lt is)

    pub classes_go_on : (o : Option BadLine) (len : ℕ) → is_some o ≡ false → o ≡ first_bad (class_look p states n i x) → len ≡ length x.states → SoFar
        → first_bad (class_looks p states start 0 lines) ≡ first_bad (class_looks p states (n + (1 + len)) (i + 1) (drop (i + 1) lines))
    classes_go_on o len none found len_is so_far =
        so_far ∙ ap first_bad here ∙ passes (class_look p states n i x) _ o none found ∙ ap (λ k. first_bad (class_looks p states (n + (1 + k)) (i + 1) (drop (i + 1) lines))) (sym len_is)

    pub class_stops : (o : Option BadLine) → is_some o ≡ true → o ≡ first_bad (class_look p states n i x) → SoFar → o ≡ first_bad (class_looks p states start 0 lines)
    class_stops o some found so_far = stops (class_look p states n i x) _ o some found ∙ sym (ap first_bad here) ∙ sym so_far

  -- no such class is there
  pub class_missing : (d : ClassLine) → i < length lines → p.classes ≤ i → SoFar → Some (record { line = n; code = C02 }) ≡ first_bad (class_looks p states start 0 lines)
  unfolding class_look
  class_missing d lt past so_far =
      let l = le-ltb i p.classes past in
      sym (so_far ∙ ap (λ l. first_bad (class_looks p states n i l)) (drop-step i lines d lt) ∙ rw l refl)

  pub classes_end : length lines ≤ i → SoFar → first_bad (class_looks p states start 0 lines) ≡ None
  classes_end le so_far = so_far ∙ ap (λ l. first_bad (class_looks p states n i l)) (drop-past i lines le)

-- the numbers of a class pick its states
pub picks_class : (states : List StateLabel) (classes k : ℕ) (lists : List (List ℕ)) (numbers inner : List ℕ) → ArePicked states classes (length states) lists → k < length lists → numbers ≡ inner → inner ≡ get_or lists k inner → picked states numbers ≡ filter (is_of k) states
picks_class states classes k lists numbers inner are lt same is =
    let count = are.count in
    let at : numbers ≡ get_or lists k [] = same ∙ is ∙ get_or_default lists k inner [] lt in
    ap (picked states) at ∙ (are.picks k (omega arith)).are ∙ ap (filter (is_of k)) (take_all (length states) states (omega arith))

pub no_class_line : ClassLine
no_class_line = record { weight = 0; states = [] }
