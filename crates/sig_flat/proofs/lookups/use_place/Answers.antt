use Rattle.std.proofs.Common.{◌≡◌, List, length, get_or, ap, ◌∙◌, arith}
use Rattle.std.proofs.lemmas.List.{get_or_default}
use Rattle.sig_types.specs.declared.model.Model.{Model}
use Rattle.sig_types.specs.declared.model.Block.{Block}
use Rattle.sig_flat.specs.Instances.{no_block}
use Rattle.sig_flat.specs.Resolved.{block_at}
use Rattle.sig_flat.proofs.ItemLaws.{item-sides, items-counted}
use Rattle.sig_flat.proofs.lookups.use_place.Goals as goal
use Rattle.sig_flat.proofs.lookups.use_place.Goals.{else-first_use-place-via-then-first_use-place+else-place-first_point, else-first_use-place-via-else-first_use-place}

pub returns-then-place-first_point : goal.returns-then-place-first_point
returns-then-place-first_point c =
    let own : c.index-as_slice-block.result ≡ block_at c.args.valid.now.blocks c.args.block =
    c.index-as_slice-block.is ∙ ap (λ (l : List Block). get_or l c.args.block c.index-as_slice-block.result) (c.as_slice.ensures ∙ ap (λ (m : Model). m.blocks) c.model-model.ensures.same)
    ∙ get_or_default c.args.valid.now.blocks c.args.block c.index-as_slice-block.result no_block c.requires in
    let sides = item-sides c.args.valid.now c.model-model.ensures.sound c.args.block c.requires c.args.name.now in
    let items = c.item_count.ensures ∙ items-counted c.args.valid.now c.args.block c.requires in
    let points = c.len.ensures ∙ ap (λ (b : Block). length b.points) own in
    let uses = c.len-2.ensures ∙ ap (λ (b : Block). length b.uses) own in
    let at = sides.in_middle (omega arith) (omega arith) in
    omega arith

pub returns-else-first_use-place : goal.returns-else-first_use-place
returns-else-first_use-place c =
    let own : c.index-as_slice-block.result ≡ block_at c.args.valid.now.blocks c.args.block =
    c.index-as_slice-block.is ∙ ap (λ (l : List Block). get_or l c.args.block c.index-as_slice-block.result) (c.as_slice.ensures ∙ ap (λ (m : Model). m.blocks) c.model-model.ensures.same)
    ∙ get_or_default c.args.valid.now.blocks c.args.block c.index-as_slice-block.result no_block c.requires in
    let sides = item-sides c.args.valid.now c.model-model.ensures.sound c.args.block c.requires c.args.name.now in
    let items = c.item_count.ensures ∙ items-counted c.args.valid.now c.args.block c.requires in
    let points = c.len.ensures ∙ ap (λ (b : Block). length b.points) own in
    let uses = c.len-2.ensures ∙ ap (λ (b : Block). length b.uses) own in
    let none = c.len-else-first_use-place.ensures ∙ ap (λ (b : Block). length b.uses) own in
    elim c.else-first_use-place.branch [
      | else-first_use-place-via-then-first_use-place+else-place-first_point w ↦ (let at = sides.in_last (omega arith) in omega arith)
      | else-first_use-place-via-else-first_use-place w ↦ (let at = sides.in_first (omega arith) in omega arith)
    ]
