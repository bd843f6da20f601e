use Rattle.std.proofs.Common.{◌≡◌, ◌<◌, length, get_or, sym, ap, ◌∙◌, subst, arith, map, take, ◌+◌}
use Rattle.std.specs.Prelude.{All}
use Rattle.std.specs.List.{AllZip}
use Rattle.std.proofs.lemmas.List.Elements.{All-push}
use Rattle.std.proofs.lemmas.List.{get_or_default}
use Rattle.sig_flat.specs.declared.flat.Fault.{Fault}
use Rattle.sig_matrix.specs.declared.matrix.FaultRow.{FaultRow}
use Rattle.sig_matrix.specs.Detection.{AreFourWords, IsRowOf, no_fault}
use Rattle.sig_matrix.proofs.DetectionLaws.{faults-next}
use Rattle.sig_matrix.proofs.building.faults_with.Goals as goal

pub loop-at-preserved : goal.loop-at-preserved
loop-at-preserved c =
    let faults = c.as_slice-faults.result.now in
    let rows = c.args.rows.now in
    let i = c.loop-at.at in
    let fault = c.index-faults-at.result in
    let lt : i < length faults = omega arith in
    let same = ap length c.as_slice-faults.ensures in
    let lr : i < length rows = omega (arith, c.requires) in
    let is : fault ≡ get_or faults i no_fault = c.index-faults-at.is ∙ get_or_default faults i fault no_fault lt in
    let label = c.in_ok-label.ensures ∙ c.as_str.ensures ∙ ap (λ (f : Fault). f.label) is in
    let weight = ap (λ (f : Fault). f.weight) is in
    let row = c.four_words.ensures.same in
    let four = subst AreFourWords (sym row) c.four_words.ensures.words in
    let next = faults-next faults rows i c.loop-at.list _ lt lr c.loop-at.invariant.0 c.loop-at.invariant.1 (record { weight = weight; label = label }) row in
    subst (λ l. AllZip IsRowOf (take (i + 1) faults) l × (map (λ (f : FaultRow). f.row) l ≡ take (i + 1) rows) × All (λ (f : FaultRow). AreFourWords f.row) l) (sym c.in_ok-push.ensures.ok)
    (next.0, next.1, All-push (λ (f : FaultRow). AreFourWords f.row) c.loop-at.list _ c.loop-at.invariant.2 four)
