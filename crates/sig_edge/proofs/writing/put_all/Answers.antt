use Rattle.std.proofs.Common.{take, drop, arith}
use Rattle.std.proofs.lemmas.List.{take_rest}
use Rattle.sig_edge.specs.Sink.{Appends}
use Rattle.sig_edge.proofs.Pieces.{appends_more}
use Rattle.sig_edge.proofs.writing.put_all.Goals as goal

pub loop-sent-preserved : goal.loop-sent-preserved
loop-sent-preserved g c =
    let more : Appends (g.K.Sink.wrote c.loop-sent.sink) (g.K.Sink.wrote c.write.new.self) (take c.in-Ok.n (drop c.loop-sent.sent c.args.bytes.now)) =
    rw (← take_rest c.args.bytes.now c.loop-sent.sent) c.in-Ok.ensures.bytes.1 in
    (grind arith, appends_more _ _ _ _ _ _ c.loop-sent.invariant.1 more, grind arith)
