use Rattle.std.proofs.Common.{◌≡◌, ℕ, ◌+◌, List, [], ◌∷◌, ◌++◌, map, suc, arith, ap, ◌∙◌}
use Rattle.seq_theory.specs.Problem.{count_up}
use Rattle.seq_theory.specs.States.{class_of}
use Rattle.sig_lines.specs.declared.labels.StateLabel.{StateLabel}
use Rattle.sig_matrix.specs.declared.matrix.Matrix.{Matrix}
use Rattle.sig_matrix.specs.Detection.{system_of, state_weight, state_name}
use Rattle.sig_classes.specs.Labels.{state_label}
use Rattle.sig_classes.proofs.ClassesLaws.{class-read}
use Rattle.seq_theory.proofs.ByNumberLaws.{by_number_more}
use Rattle.sig_classes.proofs.labels.state_labels.Goals as goal

-- one more state's label
labels_more : (matrix : Matrix) (n weight class : ℕ) (name : List ℕ) → weight ≡ state_weight matrix n → name ≡ state_name matrix n → class ≡ class_of (system_of matrix) n
    → (before after : List StateLabel) → before ≡ map (state_label matrix) (count_up 0 n)
    → after ≡ before ++ record { weight = weight; label = name; class = class } ∷ [] → after ≡ map (state_label matrix) (count_up 0 (n + 1))
labels_more matrix n weight class name is_weight is_name is_class before after so_far pushed =
    let label : StateLabel = record { weight = weight; label = name; class = class } in
    let same : label ≡ state_label matrix n =
    ap (λ w. record { weight = w; label = name; class = class }) is_weight
    ∙ ap (λ t. record { weight = state_weight matrix n; label = t; class = class }) is_name
    ∙ ap (λ k. record { weight = state_weight matrix n; label = state_name matrix n; class = k }) is_class in
    let next : suc n ≡ n + 1 = omega arith in
    pushed ∙ ap (λ l. l ++ label ∷ []) so_far ∙ ap (λ x. map (state_label matrix) (count_up 0 n) ++ x ∷ []) same
    ∙ by_number_more (state_label matrix) n ∙ ap (λ k. map (state_label matrix) (count_up 0 k)) next

pub index-requires : goal.index-requires
index-requires c = let long = c.requires.classes.states in omega arith

pub loop-state-preserved : goal.loop-state-preserved
loop-state-preserved c =
    let matrix = c.args.matrix.now in
    let n = c.loop-state.state in
    let class = class-read (system_of matrix) c.args.classes.now c.requires.classes n c.index.result.now (omega arith) c.index.ensures in
    labels_more matrix n c.weight.result c.index.result.now c.in_ok-of.field-0 c.weight.ensures (c.in_ok-of.ensures ∙ c.label.ensures) class c.loop-state.states c.push.new.self
    c.loop-state.invariant c.in_ok-push.ensures.ok
