use Rattle.std.proofs.Common.{arith, ◌≡◌, true, subst, sym}
use Rattle.std.proofs.lemmas.Grind.{common_steps}
use Rattle.sig_types.specs.LabelText.{is_label}
use Rattle.sig_flat.specs.Placed.{inner_prefix, IsShown}
use Rattle.sig_flat.proofs.LabelLaws.{prefix-shown}
use Rattle.sig_flat.proofs.walk.prefix_of.Goals as goal

pub returns-clause-shown : goal.returns-clause-shown
returns-clause-shown c = λ h.
    let prefix : c.from_string.result ≡ inner_prefix c.args.outer.now c.args.name.now = grind (arith, common_steps) in
    let name : is_label c.args.name.now ≡ true = subst (λ t. is_label t ≡ true) c.as_str-name.ensures.value c.as_str-name.ensures.label in
    subst IsShown (sym prefix) (prefix-shown c.args.outer.now c.args.name.now name h)
