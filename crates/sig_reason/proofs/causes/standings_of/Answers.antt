use Rattle.std.proofs.Common.{◌≡◌, ◌∷◌, [], ◌++◌, ◌+◌, ◌<◌, get_or, length, ap, sym, subst, ◌∙◌, arith}
use Rattle.std.proofs.lemmas.List.{get_or_default}
use Rattle.sig_matrix.specs.declared.matrix.FaultRow.{FaultRow}
use Rattle.sig_matrix.specs.Detection.{no_row}
use Rattle.sig_reason.proofs.FindingLaws.{AreFirstStandings, standings-next}
use Rattle.sig_reason.proofs.causes.standings_of.Goals as goal

pub loop-fault-preserved : goal.loop-fault-preserved
loop-fault-preserved c =
    let faults = c.as_slice-faults.result.now in
    let found = get_or faults c.loop-fault.fault c.index-faults-fault.result in
    let n = c.loop-fault.fault in
    let is : found ≡ get_or faults n no_row = get_or_default faults n c.index-faults-fault.result no_row c.loop-fault-test.true in
    let row = ap (λ (f : FaultRow). f.row) (is ∙ ap (λ l. get_or l n no_row) c.as_slice-faults.ensures) in
    let pushed : c.push.new.self.items ≡ c.loop-fault.standings.items ++ c.standing_of.result ∷ [] = c.in_ok-push.ensures.items in
    subst (AreFirstStandings c.args.matrix.now c.args.passed c.args.failed (n + 1)) (sym pushed)
    (standings-next c.args.matrix.now c.args.passed c.args.failed n c.loop-fault.standings.items c.standing_of.result found.row row c.standing_of.ensures c.loop-fault.invariant)
