use Rattle.std.proofs.Common.{◌≡◌, ◌<◌, true, ◌++◌, [], ◌∷◌, length, ap, sym, ◌∙◌, arith, subst}
use Rattle.sig_types.specs.LabelText.{is_label}
use Rattle.sig_flat.specs.declared.flat.Node.{Node}
use Rattle.sig_flat.specs.Placed.{node_copy, NodesLabelled}
use Rattle.sig_flat.proofs.WalkLaws.{map-next, fits-more}
use Rattle.sig_flat.proofs.copies.copy_nodes.Goals as goal

pub loop-node-preserved : goal.loop-node-preserved
loop-node-preserved c =
    let lt : c.loop-node.node-index < length c.args.patterns.now = omega arith in
    let pushed : c.push.new.self ≡ c.loop-node.nodes ++ c.in_ok-copy_of_node.field-0 ∷ [] = c.in_ok-push.ensures.ok in (
      pushed ∙ ap (λ f. c.loop-node.nodes ++ f ∷ []) c.in_ok-copy_of_node.ensures.copy ∙ ap (λ l. l ++ node_copy c.args.placed.now c.node-item.result ∷ []) c.loop-node.invariant.0
          ∙ map-next (node_copy c.args.placed.now) c.args.nodes.now c.args.patterns.now c.loop-node.node-index c.node-item.result c.node-item.is lt,
      λ old. subst NodesLabelled (sym pushed) (fits-more (λ (n : Node). is_label n.path ≡ true) c.loop-node.nodes c.in_ok-copy_of_node.field-0 (c.loop-node.invariant.1 old) c.in_ok-copy_of_node.ensures.label),
    )
