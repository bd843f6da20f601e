use Rattle.std.proofs.Common.{◌∙◌, refl, arith}
use Rattle.sig_edge.proofs.Pieces.{holds_more}
use Rattle.sig_edge.proofs.reading.fetch.Goals as goal

pub loop-buffer-preserved : goal.loop-buffer-preserved
loop-buffer-preserved g c = (
  rw (c.in_ok-read_more.ensures.appended, c.in_ok-read_more.ensures.same) (holds_more (g.D.Shelf.holds c.loop-buffer.shelf) c.args.name.now c.loop-buffer.content.items c.read_more.new.piece _ c.in_ok-read_more.field-0 c.loop-buffer.invariant.0 c.in_ok-read_more.ensures.read refl),
  c.in_ok-read_more.ensures.same ∙ c.loop-buffer.invariant.1,
  omega (arith, c.loop-buffer.invariant.2, c.in_ok-read_more.ensures.faults_later),
  omega (arith, c.loop-buffer.invariant.3, c.in_ok-read_more.ensures.misses_later),
)
