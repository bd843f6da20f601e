use Rattle.std.proofs.Common.{List, ◌≡◌, ◌<◌, ◌+◌, length, get_or, sym, ap, ◌∙◌, subst, arith}
use Rattle.std.specs.Prelude.{IsTrue, ◌↔◌}
use Rattle.std.specs.List.{Contains}
use Rattle.std.proofs.lemmas.Bool.{false≢true}
use Rattle.std.proofs.lemmas.List.{get_or_default}
use Rattle.std.proofs.lemmas.List.Elements.{Contains-get_or}
use Rattle.sig_flat.specs.declared.flat.Flat.{Flat}
use Rattle.sig_flat.specs.declared.flat.Fault.{Fault}
use Rattle.sig_matrix.specs.Detection.{Detects, fault_at, no_fault}
use Rattle.sig_matrix.proofs.FillingLaws.{IsTestAddedBelow, added-pass, added-more}
use Rattle.sig_matrix.proofs.building.add_test.Goals as goal
use Rattle.sig_matrix.proofs.building.add_test.Goals.{then-is_detected, else-is_detected}

pub is_detected-requires-clause-part : goal.is_detected-requires-clause-part
is_detected-requires-clause-part c =
    let faults = c.as_slice-faults.result.now in
    let i = c.loop-fault.fault in
    let fault = c.index-faults-fault.result in
    let same : faults ≡ c.args.flat.now.faults = c.as_slice-faults.ensures in
    let lt : i < length faults = omega arith in
    let at : Contains faults fault = subst (λ (f : Fault). Contains faults f) (sym c.index-faults-fault.is) (Contains-get_or faults i fault lt) in
    let there = (c.args.flat.now.valid.fault_parts fault (subst (λ l. Contains l fault) same at)).0 in
    subst (λ (f : Flat). fault.node < length f.nodes) (sym c.requires.reach) there

pub loop-fault-preserved : goal.loop-fault-preserved
loop-fault-preserved c =
    let flat = c.args.flat.now in
    let faults = c.as_slice-faults.result.now in
    let i = c.loop-fault.fault in
    let fault = c.index-faults-fault.result in
    let same : faults ≡ flat.faults = c.as_slice-faults.ensures in
    let lt : i < length faults = omega arith in
    let many = ap length same in
    let long = c.requires.rows in
    let is : fault ≡ fault_at flat i = c.index-faults-fault.is ∙ get_or_default faults i fault no_fault lt ∙ ap (λ (l : List Fault). get_or l i no_fault) same in
    let exact = subst (λ (f : Fault). IsTrue c.is_detected.result ↔ Detects flat f c.args.test.now) is
    (subst (λ (f : Flat). IsTrue c.is_detected.result ↔ Detects f fault c.args.test.now) c.requires.reach c.is_detected.ensures) in
    elim c.if-is_detected.branch [
      | then-is_detected w ↦
          (let there : i < length c.loop-fault.rows = omega arith in
          subst (λ l. IsTestAddedBelow flat c.args.test.now c.args.column c.args.rows.now l (i + 1)) (sym w.rows-is)
          (added-more flat c.args.test.now c.args.column c.args.rows.now c.loop-fault.rows i w.with_test.result there (exact.0 w.if-is_detected.true) w.with_test.ensures c.loop-fault.invariant))
      | else-is_detected w ↦
          (subst (λ l. IsTestAddedBelow flat c.args.test.now c.args.column c.args.rows.now l (i + 1)) (sym w.rows-is)
          (added-pass flat c.args.test.now c.args.column c.args.rows.now c.loop-fault.rows i (λ d. false≢true (sym w.if-is_detected.false ∙ exact.1 d)) c.loop-fault.invariant))
    ]
