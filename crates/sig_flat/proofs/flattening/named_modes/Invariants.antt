use Rattle.std.proofs.Common.{◌≡◌, take}
use Rattle.sig_flat.specs.Known.{AreNames}
use Rattle.sig_flat.proofs.flattening.named_modes.Given as goal

abbrev pub invariant-loop-mode : goal.invariant-loop-mode
invariant-loop-mode l = (l.kept ≡ take l.mode-index l.modes) × AreNames l.kept
