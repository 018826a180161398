use Rattle.std.proofs.Common.{arith}
use Rattle.seuss_run.proofs.Taking.{takes_then_within, takes_and_stays, on_err, same_error}
use Rattle.seuss_run.specs.declared.reading.ReadRefusal.TheVariants.{Fault}
use Rattle.seuss_run.specs.declared.reading.TheConstants.{MOST_BYTES, PIECE}
use Rattle.seuss_run.proofs.reading.read_all.Goals as goal

-- the bytes so far were taken, and some of the last piece
pub returns-in_err-read_piece-clause-some : goal.returns-in_err-read_piece-clause-some
returns-in_err-read_piece-clause-some g c =
    on_err c.from_residual.result
    (takes_then_within MOST_BYTES PIECE (g.R.Source.left c.args.source.now)
    (g.R.Source.left c.loop-source.source) (g.R.Source.left c.read_piece.new.source)
    c.loop-source.bytes.items (omega (arith, c.loop-source-test.true, c.len.ensures))
    c.loop-source.invariant.taken c.in_err-read_piece.ensures.some)

-- before a fault the bytes so far were taken, which are within the limit
pub returns-in_err-read_piece-clause-fault : goal.returns-in_err-read_piece-clause-fault
returns-in_err-read_piece-clause-fault g c = λ is.
    let fault = same_error c.from_residual.result c.in_err-read_piece.field-0.0 Fault
    c.from_residual.ensures.1 is in (
      omega (arith, c.loop-source.invariant.counted, c.in_err-read_piece.ensures.fault fault),
      takes_and_stays MOST_BYTES (g.R.Source.left c.args.source.now)
          (g.R.Source.left c.loop-source.source) (g.R.Source.left c.read_piece.new.source)
          c.loop-source.bytes.items (omega (arith, c.loop-source-test.true, c.len.ensures))
          c.loop-source.invariant.taken (c.in_err-read_piece.ensures.kept fault),
    )

-- the bytes so far are too many, by one piece at the most
pub returns-clause-too_long : goal.returns-clause-too_long
returns-clause-too_long g c = λ is. (
  c.loop-source.bytes.items,
  (omega (arith, c.loop-source-test.false, c.len.ensures), omega (arith, c.loop-source.invariant.few)),
  c.loop-source.invariant.taken,
)

-- they are the bytes that were taken
pub returns-clause-some : goal.returns-clause-some
returns-clause-some g c =
    (c.loop-source.bytes.items, omega (arith, c.loop-source.invariant.few), c.loop-source.invariant.taken)
