use Rattle.std.proofs.Common.{arith}
use Rattle.std.specs.Str.{bytes_eq}
use Rattle.std.proofs.lemmas.List.{length-map}
use Rattle.sig_types.specs.declared.model.Block.{Block}
use Rattle.sig_types.specs.Breaches.{block_names}
use Rattle.sig_flat.proofs.PlacesLaws.{place-le-length}
use Rattle.sig_flat.proofs.survey.numbers_of_uses.Goals as goal

pub overflow_cast-block_place : goal.overflow_cast-block_place
overflow_cast-block_place c =
    let le = place-le-length (bytes_eq c.used-item.result.block) (block_names c.args.valid.now) in
    let long = length-map c.args.valid.now.blocks (λ (b : Block). b.name) in
    omega (arith, le, long, c.block_place.ensures, c.requires)
