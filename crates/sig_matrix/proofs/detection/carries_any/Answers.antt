use Rattle.sig_reach.specs.Paths.{HasSignalPath}
use Rattle.sig_matrix.proofs.DetectionLaws.{any-in_common}
use Rattle.sig_matrix.proofs.detection.carries_any.Goals as goal
use Rattle.std.proofs.Common.{arith}

pub returns : goal.returns
returns c =
    let reach = c.args.reach.now in
    any-in_common c.args.signals c.carried.result (λ s. HasSignalPath reach.flat reach.mode s c.args.from c.args.to) (omega arith) c.carried.ensures
