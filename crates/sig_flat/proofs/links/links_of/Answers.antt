use Rattle.std.proofs.Common.{◌≡◌, ◌<◌, List, length, get_or, ap, sym, ◌∙◌, subst, arith}
use Rattle.std.specs.List.{Contains}
use Rattle.std.proofs.lemmas.List.{get_or_default}
use Rattle.sig_types.specs.declared.model.Model.{Model}
use Rattle.sig_types.specs.declared.model.Block.{Block}
use Rattle.sig_types.specs.declared.model.Link.{Link}
use Rattle.sig_flat.specs.Instances.{no_block}
use Rattle.sig_flat.specs.Resolved.{block_at}
use Rattle.sig_flat.proofs.LinkLaws.{names-use}
use Rattle.sig_flat.proofs.links.links_of.Goals as goal

pub place_of_end-requires-clause-names : goal.place_of_end-requires-clause-names
place_of_end-requires-clause-names c =
    let block : get_or c.as_slice.result.now c.args.block c.index-as_slice-block.result ≡ block_at c.args.valid.now.blocks c.args.block =
    ap (λ (l : List Block). get_or l c.args.block c.index-as_slice-block.result) (c.as_slice.ensures ∙ ap (λ (m : Model). m.blocks) c.model-model.ensures.same)
    ∙ get_or_default c.args.valid.now.blocks c.args.block c.index-as_slice-block.result no_block c.requires.there in
    let links : c.as_slice-link-items.result.now ≡ (block_at c.args.valid.now.blocks c.args.block).links = c.as_slice-link-items.ensures ∙ ap (λ (b : Block). b.links) block in
    let lt : c.loop-link.link-index < length c.as_slice-link-items.result.now = omega arith in
    names-use c.args.valid.now c.requires.known c.args.block c.link-item.result.from.first c.link-item.result.from.second
    ((c.requires.known.block c.args.block c.requires.there).from c.link-item.result (subst (λ (l : List Link). Contains l c.link-item.result) links (c.loop-link.link-index, lt, sym c.link-item.is)))

pub place_of_end-requires-in-loop-link-clause-names : goal.place_of_end-requires-in-loop-link-clause-names
place_of_end-requires-in-loop-link-clause-names c =
    let block : get_or c.as_slice.result.now c.args.block c.index-as_slice-block.result ≡ block_at c.args.valid.now.blocks c.args.block =
    ap (λ (l : List Block). get_or l c.args.block c.index-as_slice-block.result) (c.as_slice.ensures ∙ ap (λ (m : Model). m.blocks) c.model-model.ensures.same)
    ∙ get_or_default c.args.valid.now.blocks c.args.block c.index-as_slice-block.result no_block c.requires.there in
    let links : c.as_slice-link-items.result.now ≡ (block_at c.args.valid.now.blocks c.args.block).links = c.as_slice-link-items.ensures ∙ ap (λ (b : Block). b.links) block in
    let lt : c.loop-link.link-index < length c.as_slice-link-items.result.now = omega arith in
    names-use c.args.valid.now c.requires.known c.args.block c.link-item.result.to.first c.link-item.result.to.second
    ((c.requires.known.block c.args.block c.requires.there).to c.link-item.result (subst (λ (l : List Link). Contains l c.link-item.result) links (c.loop-link.link-index, lt, sym c.link-item.is)))
