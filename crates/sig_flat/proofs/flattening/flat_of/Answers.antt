use Rattle.std.proofs.Common.{◌≡◌, ◌≤◌, ◌∙◌, ap, arith}
use Rattle.sig_types.specs.declared.model.Model.{Model}
use Rattle.sig_flat.proofs.ModelLaws.{are-valid}
use Rattle.sig_flat.proofs.flattening.flat_of.Goals as goal

pub invariant_of-result : goal.invariant_of-result
invariant_of-result c =
    let items = c.requires.items in
    let good : c.get.result ≡ c.args.valid.now.good = c.get.ensures.value ∙ ap (λ (m : Model). m.good) c.model-model.ensures.same in
    let small : c.args.valid.now.good ≤ 1000000 = (let range = c.get.ensures.range in omega arith) in
    let modes = c.in_ok-modes.ensures.same ∙ c.as_slice.ensures ∙ ap (λ (m : Model). m.modes) c.model-model.ensures.same in
    record {
      valid = are-valid c.args.valid.now c.requires.known c.model-model.ensures.modes c.requires.within
          c.get.result c.in_ok-modes.modes c.args.items.nodes c.args.items.links c.args.items.faults c.args.items.tests
          good modes items.nodes items.links items.faults items.tests
          small items.weights items.costs c.in_ok-modes.ensures.names items.node_labels items.fault_labels items.test_labels;
    }

pub returns : goal.returns
returns c =
    let items = c.requires.items in
    record {
      good = c.get.ensures.value ∙ ap (λ (m : Model). m.good) c.model-model.ensures.same;
      modes = c.in_ok-modes.ensures.same ∙ c.as_slice.ensures ∙ ap (λ (m : Model). m.modes) c.model-model.ensures.same;
      nodes = items.nodes;
      links = items.links;
      faults = items.faults;
      tests = items.tests;
    }
