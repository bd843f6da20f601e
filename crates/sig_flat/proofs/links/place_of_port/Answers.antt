use Rattle.std.proofs.Common.{◌≡◌, ◌+◌, [], get_or, map, sym, ap, ◌∙◌}
use Rattle.std.proofs.lemmas.List.{get_or_default}
use Rattle.sig_flat.specs.Instances.{no_block}
use Rattle.sig_flat.specs.Places.{own_names}
use Rattle.sig_flat.specs.Resolved.{block_at}
use Rattle.sig_flat.specs.Sizes.{in_word}
use Rattle.sig_flat.specs.Words.{place_among}
use Rattle.sig_flat.specs.Layouts.{port_place, no_inner}
use Rattle.sig_flat.proofs.KnownLaws.{at-map}
use Rattle.sig_flat.proofs.links.place_of_port.Goals as goal

pub node_place-place-requires : goal.node_place-place-requires
node_place-place-requires c = c.requires.blocks c.index-inners-nth.result (c.args.nth, c.requires.nth, sym c.index-inners-nth.is)

pub returns : goal.returns
unfolding port_place
returns c =
    let lt = c.requires.blocks c.index-inners-nth.result (c.args.nth, c.requires.nth, sym c.index-inners-nth.is) in
    let inner : c.index-inners-nth.result ≡ get_or c.args.inners.now c.args.nth no_inner = c.index-inners-nth.is ∙ get_or_default c.args.inners.now c.args.nth c.index-inners-nth.result no_inner c.requires.nth in
    let names : own_names (block_at c.args.valid.now.blocks c.index-inners-nth.result.block) ≡ get_or (map own_names c.args.valid.now.blocks) c.index-inners-nth.result.block [] = sym (at-map own_names c.args.valid.now.blocks c.index-inners-nth.result.block no_block [] lt) in
    c.saturating_add.ensures
    ∙ ap (λ n. in_word (c.index-inners-nth.result.offset + n)) (c.node_place-place.ensures ∙ ap (λ l. place_among l c.args.port.now) names)
    ∙ ap (λ i. in_word (i.offset + place_among (get_or (map own_names c.args.valid.now.blocks) i.block []) c.args.port.now)) inner
