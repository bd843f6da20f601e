use Rattle.std.proofs.Common.{[], ap, ◌∙◌}
use Rattle.sig_types.specs.Breaches.{has}
use Rattle.sig_types.specs.Lookups.{Numbered}
use Rattle.sig_types.proofs.LookupLaws.{has-insert_all}
use Rattle.sig_types.proofs.check.scope.Scope.has_switch.Goals as goal

pub returns : goal.returns
returns c =
    c.contains.ensures ∙ ap (λ names. has names c.args.name.now) c.self.invariant.1 ∙ has-insert_all [] c.self.inside.block.now.switches c.args.name.now
    ∙ ap (λ (s : Numbered). has s.block.switches c.args.name.now) c.self.view_is
