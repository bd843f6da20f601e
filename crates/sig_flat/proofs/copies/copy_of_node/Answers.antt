use Rattle.std.proofs.Common.{rules, ◌≡◌, ◌++◌, true, subst, sym}
use Rattle.sig_types.specs.LabelText.{is_label}
use Rattle.sig_flat.proofs.LabelLaws.{label-after}
use Rattle.sig_flat.proofs.copies.copy_of_node.Goals as goal

pub returns-clause-label : goal.returns-clause-label
returns-clause-label c =
    let path : c.from_string-path.result ≡ c.args.placed.now.prefix ++ c.args.node.now.name = search rules in
    let name : is_label c.args.node.now.name ≡ true = subst (λ t. is_label t ≡ true) c.as_str-name.ensures.value c.as_str-name.ensures.label in
    subst (λ t. is_label t ≡ true) (sym path) (label-after c.args.placed.now.prefix c.args.node.now.name c.requires name)
