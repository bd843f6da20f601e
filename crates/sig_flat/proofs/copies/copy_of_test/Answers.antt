use Rattle.std.proofs.Common.{arith, ◌≡◌, ◌∷◌, ◌++◌, true, subst, sym}
use Rattle.std.proofs.lemmas.Grind.{common_steps}
use Rattle.sig_types.specs.LabelText.{is_label}
use Rattle.sig_flat.proofs.LabelLaws.{label-after, label-before, label-shown}
use Rattle.sig_flat.proofs.copies.copy_of_test.Goals as goal

pub returns-clause-label : goal.returns-clause-label
returns-clause-label c =
    let label : c.from_string-label.result ≡ c.args.placed.now.prefix ++ c.args.test.now.point ++ 47 ∷ c.args.test.now.name = grind (arith, common_steps) in
    let point : is_label c.args.test.now.point ≡ true = subst (λ t. is_label t ≡ true) c.as_str-point.ensures.value c.as_str-point.ensures.label in
    let name : is_label c.args.test.now.name ≡ true = subst (λ t. is_label t ≡ true) c.as_str-name.ensures.value c.as_str-name.ensures.label in
    subst (λ t. is_label t ≡ true) (sym label)
    (label-before (c.args.placed.now.prefix ++ c.args.test.now.point) (47 ∷ c.args.test.now.name) (label-after c.args.placed.now.prefix c.args.test.now.point c.requires.shown point) (label-shown c.args.test.now.name name))
