use Rattle.std.proofs.Common.{◌≡◌, ◌<◌, ℕ, length, refl, Option, Some, None}
use Rattle.std.specs.Prelude.{IfSome}
use Rattle.seq_inst.specs.Members.{members}
use Rattle.seq_graph.proofs.StepLaws.{placed}
use Rattle.seq_graph.proofs.choosing.open_place.Goals as goal

some-there : (n : ℕ) (o : Option ℕ) → ((k : ℕ) → o ≡ Some k → k < n) → IfSome o (λ k. k < n)
some-there n None h = tt
some-there n (Some k) h = h k refl

pub returns : goal.returns
returns c =
    let s = c.args.graph.now in
    let x = c.index-count.result.now in
    some-there (length s.rows.items) x.place
    (λ k is. (placed c.args.inst.now s.numbers s.rows.items s.nodes.items s.counts.items c.requires.known (members c.args.part.now) c.in_ok-number.number k x c.in_ok-number.ensures.found c.index-count.ensures is).in_range)
