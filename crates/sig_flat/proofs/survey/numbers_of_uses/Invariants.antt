use Rattle.std.proofs.Common.{◌≡◌, map, take}
use Rattle.sig_types.specs.Breaches.{block_names}
use Rattle.sig_flat.specs.Layouts.{number_of}
use Rattle.sig_flat.proofs.survey.numbers_of_uses.Given as goal

abbrev pub invariant-loop-used : goal.invariant-loop-used
invariant-loop-used l = l.numbers ≡ map (number_of (block_names l.valid)) (take l.used-index l.uses)
