use Rattle.std.proofs.Common.{◌≡◌, ap, ◌∙◌, arith}
use Rattle.std.proofs.lemmas.List.{length-map}
use Rattle.sig_types.specs.declared.model.Model.{Model}
use Rattle.sig_types.specs.declared.model.Block.{Block}
use Rattle.sig_types.specs.Breaches.{block_names}
use Rattle.sig_flat.specs.Words.{place_among}
use Rattle.sig_flat.specs.Surveys.{top_of}
use Rattle.sig_flat.proofs.survey.top_in.Goals as goal

pub overflow_cast-result : goal.overflow_cast-result
overflow_cast-result c =
    let at : c.block_place.result ≡ top_of c.args.valid.now = c.block_place.ensures ∙ ap (λ (m : Model). place_among (block_names c.args.valid.now) m.top) c.model.ensures.same in
    let top = c.requires.top in
    let long = length-map c.args.valid.now.blocks (λ (b : Block). b.name) in
    let few = c.requires.blocks in
    omega arith

pub returns : goal.returns
returns c = c.block_place.ensures ∙ ap (λ (m : Model). place_among (block_names c.args.valid.now) m.top) c.model.ensures.same
