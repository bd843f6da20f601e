use Rattle.std.proofs.Common.{◌≡◌, ℕ, ◌+◌, length, vec_len, arith, sym, ap, subst, ◌∙◌}
use Rattle.std.proofs.lemmas.List.{with_items_is}
use Rattle.seq_theory.proofs.StatesLaws.{class_of-there}
use Rattle.sig_matrix.specs.Detection.{system_of, state_row, in_row}
use Rattle.sig_classes.specs.Passing.{AddsClass}
use Rattle.sig_classes.proofs.ClassesLaws.{class-read}
use Rattle.sig_classes.proofs.PassedLaws.{Passed, passed-new, passed-again}
use Rattle.sig_classes.proofs.GroupingLaws.{begun-le}
use Rattle.sig_classes.proofs.RowWordsLaws.{fails-state_row}
use Rattle.sig_classes.proofs.instance.passes_of.Goals as goal
use Rattle.sig_classes.proofs.instance.passes_of.Goals.{then-index-found, else-index-found}

pub index-requires : goal.index-requires
index-requires c = let long = c.requires.classes.states in omega arith

pub add_class-requires-clause-class : goal.add_class-requires-clause-class
add_class-requires-clause-class c =
    let sys = system_of c.args.matrix.now in
    let n = c.loop-state.state in
    let class = class-read sys c.args.classes.now c.requires.classes n c.index.result.now (omega arith) c.index.ensures in
    let there = class_of-there sys n (omega arith) in
    omega arith

pub overflow_add-found : goal.overflow_add-found
overflow_add-found c =
    let begins = c.loop-state.invariant.begins in
    let le = begun-le (system_of c.args.matrix.now) c.loop-state.state in
    let most = c.requires.valid.many in
    omega arith

pub loop-state-preserved : goal.loop-state-preserved
loop-state-preserved c =
    let matrix = c.args.matrix.now in
    let sys = system_of matrix in
    let n = c.loop-state.state in
    let class = class-read sys c.args.classes.now c.requires.classes n c.index.result.now (omega arith) c.index.ensures in
    elim c.if-index-found.branch [
      | then-index-found w ↦
          (let adds : AddsClass (state_row matrix n) c.loop-state.found c.loop-state.passes.items w.add_class.new.passes =
          subst (λ r. AddsClass r c.loop-state.found c.loop-state.passes.items w.add_class.new.passes) w.row.ensures
          (subst (λ l. AddsClass w.row.result c.loop-state.found l w.add_class.new.passes) w.as_mut_slice.ensures.value w.add_class.ensures) in
          let long = w.as_mut_slice.ensures.len in
          let kept : length w.add_class.new.passes ≡ vec_len c.loop-state.passes = w.add_class.ensures.as_many ∙ long in
          let items = ap (λ v. v.items) w.passes-is ∙ with_items_is c.loop-state.passes w.add_class.new.passes kept in
          let tells : (t : ℕ) → sys.fails n t ≡ in_row (state_row matrix n) t = fails-state_row matrix n in
          let next = passed-new sys n c.loop-state.found c.loop-state.passes.items w.add_class.new.passes (state_row matrix n) (omega arith) c.requires.few tells (sym class ∙ w.if-index-found.true) c.loop-state.invariant adds in
          subst (λ l. Passed sys (n + 1) c.if-index-found.found l) (sym items) (subst (λ k. Passed sys (n + 1) k w.add_class.new.passes) (sym w.found-is) next))
      | else-index-found w ↦
          (let next = passed-again sys n c.loop-state.found c.loop-state.passes.items (omega arith) (λ e. w.if-index-found.false (class ∙ e)) c.loop-state.invariant in
          let items = ap (λ v. v.items) w.passes-is in
          subst (λ l. Passed sys (n + 1) c.if-index-found.found l) (sym items) (subst (λ k. Passed sys (n + 1) k c.loop-state.passes.items) (sym w.found-is) next))
    ]
