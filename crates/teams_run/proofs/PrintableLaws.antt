-- The labels of an accepted model's matrix are printable: its faults' and tests' labels are those of the flat model, which keeps
-- that they are labels, the state without a fault is called `good`, and the mode is one of the flat model's or `-`.
use Rattle.std.proofs.Common.{◌≡◌, ℕ, ◌-◌, ◌<◌, ◌≤◌, List, [], ◌∷◌, ◌++◌, get_or, refl, sym, ◌∙◌, arith, inl, inr, subst}
use Rattle.std.specs.Prelude.{Bool, true, false, codes, not, nat_eq, Option, Some, None}
use Rattle.std.specs.List.{All, AllZip, Contains}
use Rattle.std.specs.Option.{option_to_list}
use Rattle.std.specs.Str.{bytes_eq}
use Rattle.std.proofs.lemmas.Bool.{cases_Bool, cases_lt, or_right, lt-ltb, le-ltb, false≢true}
use Rattle.std.proofs.lemmas.List.{length-map}
use Rattle.std.proofs.lemmas.List.Elements.{All-nil, All-cons, All-head, All-tail, All-filter, Contains-get_or}
use Rattle.std.proofs.lemmas.Slice.Eq.{bytes_eq-Decides}
use Rattle.seq_theory.specs.Problem.{count_up}
use Rattle.sig_types.specs.NameText.{is_name}
use Rattle.sig_types.specs.LabelText.{is_label}
use Rattle.sig_types.specs.declared.refusals.Code.{Code}
use Rattle.sig_types.specs.declared.refusals.Code.TheVariants.{M15}
use Rattle.sig_types.specs.declared.refusals.Place.{Place}
use Rattle.sig_types.specs.declared.refusals.Place.TheVariants.{ModeOption}
use Rattle.sig_types.specs.Breaches.{breach_if, has}
use Rattle.std.specs.Str.{bytes_eq}
use Rattle.sig_lines.specs.declared.labels.StateLabel.{StateLabel}
use Rattle.sig_lines.specs.declared.labels.TestLabel.{TestLabel}
use Rattle.sig_flat.specs.declared.flat.Flat.{Flat}
use Rattle.sig_flat.specs.declared.flat.Fault.{Fault}
use Rattle.sig_flat.specs.declared.flat.FlatTest.{FlatTest}
use Rattle.sig_matrix.specs.declared.matrix.Matrix.{Matrix}
use Rattle.sig_matrix.specs.declared.matrix.FaultRow.{FaultRow}
use Rattle.sig_matrix.specs.Detection.{IsRowOf, IsLabelOf, before_faults, state_count, is_taken, taken, no_row, state_name}
use Rattle.sig_matrix.specs.Valid.{IsValid}
use Rattle.sig_classes.specs.Labels.{labels_from, state_label}
use Rattle.seq_cert.specs.LineForms.{is_mode}
use Rattle.seq_shown.specs.Laws.{ArePrintable}
use Rattle.teams_run.specs.Accepted.{IsMatrixOfText, model_of, mode_number, mode_refusals, text_refusals}
use Rattle.teams_run.specs.Texts.{mode_word}
use Rattle.seq_theory.proofs.BelowLaws.{length-count_up}
use Rattle.teams_run.proofs.LabelLaws.{All-made}
use Rattle.teams_run.proofs.RefusalLaws.{rest-none}

abbrev IsName : List ℕ → Type 0
IsName text = is_name text ≡ true

abbrev IsLabel : List ℕ → Type 0
IsLabel text = is_label text ≡ true

-- what holds of each item holds of all, and of each partner of an item
all-of : {X : Type 0} (P : X → Type 0) (xs : List X) → ((x : X) → Contains xs x → P x) → All P xs
all-of P xs h i d lt = h (get_or xs i d) (Contains-get_or xs i d lt)

All-partners : {X Y : Type 0} (P : X → Type 0) (Q : Y → Type 0) (R : X → Y → Type 0) → ((x : X) (y : Y) → R x y → P x → Q y) → (xs : List X) (ys : List Y) → AllZip R xs ys → All P xs → All Q ys
All-partners P Q R h [] [] zip all = All-nil Q
All-partners P Q R h [] (y ∷ ys) zip all = absurd zip
All-partners P Q R h (x ∷ xs) [] zip all = absurd zip
All-partners P Q R h (x ∷ xs) (y ∷ ys) zip all = All-cons Q y ys (h x y zip.0 (All-head P x xs all)) (All-partners P Q R h xs ys zip.1 (All-tail P x xs all))

kept-rule : (b : Bool) (code : Code) (place : Place) → breach_if (not b) code place ≡ [] → b ≡ true
kept-rule true code place e = refl
kept-rule false code place e = absurd (let no : ⊥ = cc in no)

-- a name that is among names is one
has-name : (names : List (List ℕ)) (name : List ℕ) → All IsName names → has names name ≡ true → IsName name
has-name [] name all e = absurd (false≢true e)
has-name (n ∷ names) name all e = elim (cases_Bool (bytes_eq name n)) [
  | inl same ↦ subst IsName (sym ((bytes_eq-Decides name n).0 same)) (All-head IsName n names all)
  | inr other ↦ has-name names name (All-tail IsName n names all) (let rest : has names name ≡ true = rw other at e in rest)
]

-- the mode's name is one of the model's modes, or it is `-`
mode-label : (modes : List (List ℕ)) (mode : Option (List ℕ)) → All IsName modes → mode_refusals modes mode ≡ [] → is_mode (mode_word mode) ≡ true
mode-label modes None all e = refl
mode-label modes (Some name) all e = or_right (bytes_eq name (codes "-")) (is_name name) (has-name modes name all (kept-rule (has modes name) M15 ModeOption e))

-- a state is called `good`, or by the label of a fault
state-label : (matrix : Matrix) (s : ℕ) → All (λ (f : FaultRow). IsLabel f.label) matrix.faults → s < state_count matrix → IsLabel (state_name matrix s)
state-label matrix s labels there = elim (cases_lt s (before_faults matrix)) [
  | inl before ↦ rw (lt-ltb s (before_faults matrix) before) refl
  | inr past ↦ rw (le-ltb s (before_faults matrix) past) (labels (s - before_faults matrix) no_row (omega (arith, there, past)))
]

-- at most one state comes before the faults
pub few-before : (matrix : Matrix) → before_faults matrix ≤ 1
few-before matrix = elim (cases_Bool (nat_eq matrix.good 0)) [
  | inl none ↦ rw none (omega arith)
  | inr some ↦ rw some (omega arith)
]

pub labels-print : (content : List ℕ) (mode : Option (List ℕ)) (flat : Flat) (matrix : Matrix) → IsMatrixOfText content mode flat matrix → IsValid matrix → ArePrintable (labels_from matrix (mode_word mode))
labels-print content mode flat matrix of_text valid =
    let modes = (model_of content).modes in
    let names : All IsName modes = subst (λ (l : List (List ℕ)). All IsName l) of_text.flat_is.modes (all-of IsName flat.modes flat.valid.mode_names) in
    let faults = All-partners (λ (f : Fault). IsLabel f.label) (λ (f : FaultRow). IsLabel f.label) IsRowOf (λ fault row same label. subst IsLabel (sym same.label) label)
    flat.faults matrix.faults of_text.matrix_is.faults (all-of (λ (f : Fault). IsLabel f.label) flat.faults flat.valid.fault_labels) in
    let taken_tests = All-filter (is_taken (mode_number modes mode)) (λ (t : FlatTest). IsLabel t.label) flat.tests (all-of (λ (t : FlatTest). IsLabel t.label) flat.tests flat.valid.test_labels) in
    let few = valid.faults in
    let before = few-before matrix in
    let long = length-map (count_up 0 (state_count matrix)) (state_label matrix) ∙ length-count_up 0 (state_count matrix) in
    record {
      mode = mode-label modes mode names (rest-none (text_refusals content) (mode_refusals modes mode) of_text.accepted);
      state_labels = All-made (λ (s : StateLabel). IsLabel s.label) (state_label matrix) 0 (state_count matrix) (λ s low lt. state-label matrix s faults (omega (arith, lt)));
      test_labels = All-partners (λ (t : FlatTest). IsLabel t.label) (λ (t : TestLabel). IsLabel t.label) IsLabelOf (λ test column same label. subst IsLabel (sym same.label) label)
          (taken (mode_number modes mode) flat.tests) matrix.tests of_text.matrix_is.tests taken_tests;
      states = omega (arith, few, before, long);
    }
