use Rattle.std.proofs.Common.{◌∙◌, map, ap, sym, subst}
use Rattle.sig_lines.specs.declared.labels.TestLabel.{TestLabel}
use Rattle.sig_matrix.specs.Detection.{system_of}
use Rattle.sig_classes.specs.Passing.{ArePassing}
use Rattle.sig_classes.proofs.InstanceLaws.{of_classes, is_valid}
use Rattle.sig_classes.proofs.ProblemLaws.{is_problem}
use Rattle.sig_classes.proofs.instance.instance_of_few.Goals as goal

pub new-requires : goal.new-requires
new-requires c =
    is_valid c.args.matrix.now c.requires.valid c.args.classes.now c.requires.classes c.in_ok-weights.weights.items c.in_ok-costs.costs.items c.in_ok-passes.passes.items
    (c.in_ok-weights.ensures.items ∙ c.as_slice.ensures.value) (c.in_ok-costs.ensures ∙ ap (map (λ (t : TestLabel). t.cost)) c.as_slice-2.ensures) c.in_ok-passes.ensures c.classes_hold.ensures c.requires.few

pub returns-clause-instance : goal.returns-clause-instance
returns-clause-instance c =
    of_classes c.args.matrix.now c.requires.valid c.args.classes.now c.requires.classes c.new.result.weights.items c.new.result.costs.items c.new.result.passes.items
    (c.new.ensures.weights ∙ c.in_ok-weights.ensures.items ∙ c.as_slice.ensures.value)
    (c.new.ensures.costs ∙ c.in_ok-costs.ensures ∙ ap (map (λ (t : TestLabel). t.cost)) c.as_slice-2.ensures)
    (subst (ArePassing (system_of c.args.matrix.now)) (sym c.new.ensures.passes) c.in_ok-passes.ensures)

pub returns-clause-problem : goal.returns-clause-problem
returns-clause-problem c =
    is_problem c.args.matrix.now c.args.classes.now c.requires.classes c.new.result.weights.items c.new.result.costs.items c.new.result.passes.items
    (c.new.ensures.weights ∙ c.in_ok-weights.ensures.items ∙ c.as_slice.ensures.value)
    (c.new.ensures.costs ∙ c.in_ok-costs.ensures ∙ ap (map (λ (t : TestLabel). t.cost)) c.as_slice-2.ensures)
    (subst (ArePassing (system_of c.args.matrix.now)) (sym c.new.ensures.passes) c.in_ok-passes.ensures)
