use Rattle.std.proofs.Common.{ap, ap₂, sym, ◌∙◌}
use Rattle.std.specs.Prelude.{List, ℕ, not, nat_eq, bit_or}
use Rattle.std.specs.Simd.Lanes.{fold_l}
use Rattle.seq_inst.proofs.LaneLaws.{lacked_words, any-lacked}
use Rattle.seq_inst.proofs.group.lacks.Goals as goal

pub returns : goal.returns
returns c =
    ap (λ (ws : List ℕ). not (nat_eq (fold_l bit_or 0 ws) 0)) (ap₂ lacked_words c.lanes_of-all.ensures.lanes c.lanes_of.ensures.lanes)
    ∙ sym (any-lacked c.args.a.now c.args.b.now c.lanes_of-all.ensures.words c.lanes_of.ensures.words)
