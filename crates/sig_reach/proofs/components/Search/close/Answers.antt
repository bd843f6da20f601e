use Rattle.std.proofs.Common.{◌≡◌, ◌≤◌, ◌+◌, ◌-◌, length, get_or, take, arith, refl, ap, ◌∙◌}
use Rattle.std.proofs.lemmas.Grind.{get_or_default_zero}
use Rattle.sig_reach.specs.Components.{stage_of}
use Rattle.sig_reach.proofs.CloseLaws.{closed-from}
use Rattle.sig_reach.proofs.components.Search.close.Goals as goal

pub returns : goal.returns
returns c =
    let path = c.args.self.now.path.items in
    let i = c.loop-place.invariant in
    let some = c.requires.some in
    let read = c.index.ensures in
    let zero = get_or_default_zero path (length path - 1) c.index.result.now (omega arith) in
    let len : c.len.result ≡ length path = omega arith in
    let number : c.index.result.now + 1 ≡ get_or path (length path - 1) 0 + 1 = ap (λ n. n + 1) (read ∙ ap (λ n. get_or path (n - 1) c.index.result.now) len ∙ zero) in
    let starts = c.loop-place.self.starts.items in
    let count : c.loop-place.self.starts.len ≡ length starts = omega arith in
    let past : length path ≤ c.loop-place.place = omega arith in
    closed-from (stage_of c.args.self.now) (stage_of c.loop-place.self) _ c.last_start-start.result (c.index.result.now + 1) c.loop-place.place i c.last_start-start.ensures number past refl refl c.truncate.ensures.items (c.pop.ensures.rest ∙ ap (λ n. take (n - 1) starts) count) refl
