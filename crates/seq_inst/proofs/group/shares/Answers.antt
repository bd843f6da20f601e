use Rattle.std.proofs.Common.{ap, ap₂, sym, ◌∙◌}
use Rattle.std.specs.Prelude.{List, ℕ, not, nat_eq, bit_or}
use Rattle.std.specs.Simd.Lanes.{fold_l}
use Rattle.seq_inst.proofs.LaneLaws.{shared_words, any-shared}
use Rattle.seq_inst.proofs.group.shares.Goals as goal

pub returns : goal.returns
returns c =
    ap (λ (ws : List ℕ). not (nat_eq (fold_l bit_or 0 ws) 0)) (ap₂ shared_words c.lanes_of.ensures.lanes c.lanes_of-2.ensures.lanes)
    ∙ sym (any-shared c.args.a.now c.args.b.now c.lanes_of.ensures.words c.lanes_of-2.ensures.words)
