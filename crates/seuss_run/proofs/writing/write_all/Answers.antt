use Rattle.std.proofs.Common.{◌+◌, arith}
use Rattle.seuss_run.proofs.Adding.{piece_added}
use Rattle.seuss_run.proofs.writing.write_all.Goals as goal

-- the piece that was written follows what was written before
pub loop-rest-preserved : goal.loop-rest-preserved
loop-rest-preserved g c =
    let i = c.loop-rest.invariant in
    let more = piece_added (g.W.Sink.written c.args.sink.now) (g.W.Sink.written c.loop-rest.sink)
    (g.W.Sink.written c.write.new.self)
    c.args.bytes.now c.loop-rest.rest.now c.split_at.result.1.now i.0 c.in_ok-n.n
    i.1 i.2 c.in_ok-n.ensures.within c.split_at.ensures.back i.3 c.in_ok-n.ensures.added in
    (i.0 + c.in_ok-n.n, more.0, more.1, more.2, omega (arith, i.4, c.write.ensures.counted))
