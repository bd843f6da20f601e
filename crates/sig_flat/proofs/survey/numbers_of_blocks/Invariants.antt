use Rattle.std.proofs.Common.{◌≡◌, map, take}
use Rattle.sig_types.specs.Breaches.{block_names}
use Rattle.sig_flat.specs.Layouts.{numbers_of_block}
use Rattle.sig_flat.proofs.survey.numbers_of_blocks.Given as goal

abbrev pub invariant-loop-block : goal.invariant-loop-block
invariant-loop-block l = l.numbers.items ≡ map (numbers_of_block (block_names l.valid)) (take l.block-index l.blocks)
