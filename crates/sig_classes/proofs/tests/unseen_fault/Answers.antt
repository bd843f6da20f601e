use Rattle.std.proofs.Common.{◌∙◌}
use Rattle.sig_classes.proofs.Shown.{IsValid-made}
use Rattle.sig_classes.proofs.tests.unseen_fault.Goals as goal

pub returns : goal.returns
returns c =
    IsValid-made _ _ _ _ _ c.in_ok-seen.ensures c.in_ok-unseen.ensures c.in_ok-label.ensures
    (c.from_vec.ensures ∙ c.in_ok-vec.ensures.items) (c.from_vec-2.ensures ∙ c.in_ok-vec-2.ensures.items)
