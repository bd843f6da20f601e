use Rattle.std.proofs.Common.{◌≡◌, ◌<◌, ◌≤◌, true, ◌++◌, [], ◌∷◌, length, ap, sym, ◌∙◌, arith, subst}
use Rattle.sig_types.specs.LabelText.{is_label}
use Rattle.sig_flat.specs.declared.flat.Fault.{Fault}
use Rattle.sig_flat.specs.Placed.{fault_copy, WeightsFit, FaultsLabelled}
use Rattle.sig_flat.proofs.WalkLaws.{map-next, fits-more}
use Rattle.sig_flat.proofs.copies.copy_faults.Goals as goal

pub copy_of_fault-requires-clause-at : goal.copy_of_fault-requires-clause-at
copy_of_fault-requires-clause-at c =
    let lt : c.loop-fault.fault-index < length c.args.patterns.now = omega arith in
    c.requires.fit c.fault-item.result (c.loop-fault.fault-index, lt, sym c.fault-item.is)

pub loop-fault-preserved : goal.loop-fault-preserved
loop-fault-preserved c =
    let lt : c.loop-fault.fault-index < length c.args.patterns.now = omega arith in
    let pushed : c.push.new.self ≡ c.loop-fault.faults ++ c.in_ok-copy_of_fault.field-0 ∷ [] = c.in_ok-push.ensures.ok in (
      pushed ∙ ap (λ f. c.loop-fault.faults ++ f ∷ []) c.in_ok-copy_of_fault.ensures.copy ∙ ap (λ l. l ++ fault_copy c.args.placed.now c.fault-item.result ∷ []) c.loop-fault.invariant.0
          ∙ map-next (fault_copy c.args.placed.now) c.args.faults.now c.args.patterns.now c.loop-fault.fault-index c.fault-item.result c.fault-item.is lt,
      λ old. subst WeightsFit (sym pushed) (fits-more (λ (f : Fault). (1 ≤ f.weight) × (f.weight ≤ 1000000)) c.loop-fault.faults c.in_ok-copy_of_fault.field-0 (c.loop-fault.invariant.1 old) c.in_ok-copy_of_fault.ensures.weight),
      λ old. subst FaultsLabelled (sym pushed) (fits-more (λ (f : Fault). is_label f.label ≡ true) c.loop-fault.faults c.in_ok-copy_of_fault.field-0 (c.loop-fault.invariant.2 old) c.in_ok-copy_of_fault.ensures.label),
    )
