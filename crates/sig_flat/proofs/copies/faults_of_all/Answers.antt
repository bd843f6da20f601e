use Rattle.std.proofs.Common.{◌<◌, ◌++◌, length, map, take, ap, sym, ◌∙◌, arith, subst}
use Rattle.std.specs.List.{flat_map}
use Rattle.std.proofs.lemmas.List.{get_or_default}
use Rattle.sig_flat.specs.Placed.{fault_copy, fault_copies, no_pattern, FaultsFit}
use Rattle.sig_flat.proofs.WalkLaws.{flat_map-next}
use Rattle.sig_flat.proofs.copies.faults_of_all.Goals as goal

pub bounds-patterns-instance : goal.bounds-patterns-instance
bounds-patterns-instance c =
    let lt : c.loop-instance.instance-index < length c.args.placed.now = omega arith in
    c.requires.there c.instance-item.result (c.loop-instance.instance-index, lt, sym c.instance-item.is)

pub copy_faults-requires-clause-fit : goal.copy_faults-requires-clause-fit
copy_faults-requires-clause-fit c =
    let lt : c.loop-instance.instance-index < length c.args.placed.now = omega arith in
    let there = c.requires.there c.instance-item.result (c.loop-instance.instance-index, lt, sym c.instance-item.is) in
    let row = c.index-patterns-instance.is ∙ get_or_default c.args.patterns.now c.instance-item.result.block c.index-patterns-instance.result no_pattern there in
    subst (FaultsFit c.instance-item.result) (sym (c.as_slice.ensures ∙ ap (λ p. p.faults) row)) (c.requires.fit c.instance-item.result (c.loop-instance.instance-index, lt, sym c.instance-item.is))

pub copy_faults-requires-clause-shown : goal.copy_faults-requires-clause-shown
copy_faults-requires-clause-shown c =
    let lt : c.loop-instance.instance-index < length c.args.placed.now = omega arith in
    c.requires.shown c.instance-item.result (c.loop-instance.instance-index, lt, sym c.instance-item.is)

pub loop-instance-preserved : goal.loop-instance-preserved
loop-instance-preserved c =
    let lt : c.loop-instance.instance-index < length c.args.placed.now = omega arith in
    let there = c.requires.there c.instance-item.result (c.loop-instance.instance-index, lt, sym c.instance-item.is) in
    let row = c.index-patterns-instance.is ∙ get_or_default c.args.patterns.now c.instance-item.result.block c.index-patterns-instance.result no_pattern there in (
      c.in_ok-copy_faults.ensures.faults ∙ ap (λ l. l ++ map (fault_copy c.instance-item.result) c.as_slice.result.now) c.loop-instance.invariant.0
          ∙ ap (λ l. flat_map (fault_copies c.args.patterns.now) (take c.loop-instance.instance-index c.args.placed.now) ++ map (fault_copy c.instance-item.result) l) (c.as_slice.ensures ∙ ap (λ p. p.faults) row)
          ∙ flat_map-next (fault_copies c.args.patterns.now) c.args.placed.now c.loop-instance.instance-index c.instance-item.result c.instance-item.is lt,
      c.in_ok-copy_faults.ensures.weights c.loop-instance.invariant.1,
      c.in_ok-copy_faults.ensures.labels c.loop-instance.invariant.2,
    )
