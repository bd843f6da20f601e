use Rattle.std.proofs.Common.{◌≡◌, ℕ, length, ap, ◌∙◌, arith}
use Rattle.std.specs.Prelude.{nat_lt}
use Rattle.std.specs.List.{list_all}
use Rattle.seq_inst.specs.Members.{members}
use Rattle.seq_check.proofs.SizedGroups.{none_from, some_from}
use Rattle.seq_check.proofs.sized.has_only_classes.Goals as goal

pub returns-in-None : goal.returns-in-None
returns-in-None c =
    let e = c.len-classes.ensures in
    let same : c.len-classes.result ≡ length c.args.inst.now.weights.items = omega arith in
    none_from c.args.group.now c.len-classes.result c.in-None.ensures.none ∙ ap (λ (n : ℕ). list_all (λ c'. nat_lt c' n) (members c.args.group.now)) same

pub returns-in-Some : goal.returns-in-Some
returns-in-Some c =
    let e = c.len-classes.ensures in
    let same : c.len-classes.result ≡ length c.args.inst.now.weights.items = omega arith in
    some_from c.args.group.now c.len-classes.result c.in-Some.field-0 c.in-Some.ensures.found ∙ ap (λ (n : ℕ). list_all (λ c'. nat_lt c' n) (members c.args.group.now)) same
