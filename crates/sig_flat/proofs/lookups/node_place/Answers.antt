use Rattle.std.proofs.Common.{◌≡◌, List, length, get_or, ap, ◌∙◌, arith}
use Rattle.std.proofs.lemmas.List.{get_or_default}
use Rattle.sig_types.specs.declared.model.Model.{Model}
use Rattle.sig_types.specs.declared.model.Block.{Block}
use Rattle.sig_flat.specs.Instances.{no_block}
use Rattle.sig_flat.specs.Resolved.{block_at}
use Rattle.sig_flat.proofs.ItemLaws.{item-sides, items-counted}
use Rattle.sig_flat.proofs.lookups.node_place.Goals as goal

pub returns-then-first_point-place : goal.returns-then-first_point-place
returns-then-first_point-place c =
    let lt = c.requires in
    let own : c.index-as_slice-block.result ≡ block_at c.args.valid.now.blocks c.args.block =
    c.index-as_slice-block.is ∙ ap (λ (l : List Block). get_or l c.args.block c.index-as_slice-block.result) (c.as_slice.ensures ∙ ap (λ (m : Model). m.blocks) c.model-model.ensures.same)
    ∙ get_or_default c.args.valid.now.blocks c.args.block c.index-as_slice-block.result no_block lt in
    let sides = item-sides c.args.valid.now c.model-model.ensures.sound c.args.block lt c.args.name.now in
    let items = c.item_count-items.ensures ∙ items-counted c.args.valid.now c.args.block lt in
    let points = c.len.ensures ∙ ap (λ (b : Block). length b.points) own in
    let uses = c.len-then-first_point-place.ensures ∙ ap (λ (b : Block). length b.uses) own in
    let at = sides.in_last (omega arith) in
    omega arith

pub returns-then-first_point-len : goal.returns-then-first_point-len
returns-then-first_point-len c =
    let lt = c.requires in
    let own : c.index-as_slice-block.result ≡ block_at c.args.valid.now.blocks c.args.block =
    c.index-as_slice-block.is ∙ ap (λ (l : List Block). get_or l c.args.block c.index-as_slice-block.result) (c.as_slice.ensures ∙ ap (λ (m : Model). m.blocks) c.model-model.ensures.same)
    ∙ get_or_default c.args.valid.now.blocks c.args.block c.index-as_slice-block.result no_block lt in
    let sides = item-sides c.args.valid.now c.model-model.ensures.sound c.args.block lt c.args.name.now in
    let items = c.item_count-items.ensures ∙ items-counted c.args.valid.now c.args.block lt in
    let points = c.len.ensures ∙ ap (λ (b : Block). length b.points) own in
    let uses = c.len-then-first_point-len.ensures ∙ ap (λ (b : Block). length b.uses) own in
    let uses' = c.len-else-first_point-place.ensures ∙ ap (λ (b : Block). length b.uses) own in
    let at = sides.in_middle (omega arith) (omega arith) in
    omega arith

pub returns-else-first_point-len : goal.returns-else-first_point-len
returns-else-first_point-len c =
    let lt = c.requires in
    let own : c.index-as_slice-block.result ≡ block_at c.args.valid.now.blocks c.args.block =
    c.index-as_slice-block.is ∙ ap (λ (l : List Block). get_or l c.args.block c.index-as_slice-block.result) (c.as_slice.ensures ∙ ap (λ (m : Model). m.blocks) c.model-model.ensures.same)
    ∙ get_or_default c.args.valid.now.blocks c.args.block c.index-as_slice-block.result no_block lt in
    let sides = item-sides c.args.valid.now c.model-model.ensures.sound c.args.block lt c.args.name.now in
    let items = c.item_count-items.ensures ∙ items-counted c.args.valid.now c.args.block lt in
    let points = c.len.ensures ∙ ap (λ (b : Block). length b.points) own in
    let uses = c.len-else-first_point-place.ensures ∙ ap (λ (b : Block). length b.uses) own in
    let at = sides.in_first (omega arith) in
    omega arith
