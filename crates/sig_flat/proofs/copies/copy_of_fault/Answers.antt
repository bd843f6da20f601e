use Rattle.std.proofs.Common.{arith, ◌≡◌, [], ◌∷◌, ◌++◌, true, cond, subst, sym}
use Rattle.std.proofs.lemmas.Grind.{common_steps}
use Rattle.sig_types.specs.LabelText.{is_label}
use Rattle.sig_flat.proofs.LabelLaws.{label-after, label-before, letter-shown}
use Rattle.sig_flat.proofs.copies.copy_of_fault.Goals as goal

pub returns-clause-label : goal.returns-clause-label
returns-clause-label c =
    let label : c.from_string-label.result ≡ c.args.placed.now.prefix ++ c.args.fault.now.part ++ 46 ∷ cond c.args.fault.now.general 103 102 ∷ [] = grind (arith, common_steps) in
    let part : is_label c.args.fault.now.part ≡ true = subst (λ t. is_label t ≡ true) c.as_str-part.ensures.value c.as_str-part.ensures.label in
    subst (λ t. is_label t ≡ true) (sym label)
    (label-before (c.args.placed.now.prefix ++ c.args.fault.now.part) (46 ∷ cond c.args.fault.now.general 103 102 ∷ []) (label-after c.args.placed.now.prefix c.args.fault.now.part c.requires.shown part) (letter-shown c.args.fault.now.general))
