use Rattle.std.proofs.Common.{◌≡◌, ◌+◌, ◌-◌, ◌*◌, ◌^◌, ◌%◌, ap, ◌∙◌, arith}
use Rattle.std.proofs.Math.Pow.{shl_exact}
use Rattle.seq_huff.proofs.potential.value_at.Goals as goal

pub returns : goal.returns
returns c =
    let s : (c.args.line.now.less * 2 ^ c.args.octave) % 2 ^ 64 ≡ c.args.line.now.less * 2 ^ c.args.octave = shl_exact {a = c.args.line.now.less} 22 c.args.octave 64 c.requires.less (omega arith) in
    c.saturating_sub.ensures
    ∙ ap (λ o. (c.args.line.now.slope + o * 1048576) * c.args.weight - (c.args.line.now.less * 2 ^ c.args.octave) % 2 ^ 64) c.from.ensures
    ∙ ap (λ x. (c.args.line.now.slope + c.args.octave * 1048576) * c.args.weight - x) s
