use Rattle.std.proofs.Common.{take, arith}
use Rattle.std.proofs.lemmas.List.{length-take}
use Rattle.seuss_run.proofs.Taking.{takes_moved, on_err}
use Rattle.seuss_run.proofs.reading.read_piece.Goals as goal

-- the piece was taken before its memory was refused
pub returns-in_err-extend_from_slice-clause-some : goal.returns-in_err-extend_from_slice-clause-some
returns-in_err-extend_from_slice-clause-some g c =
    on_err c.from_residual.result (
      take c.in-Ok.n c.read.new.into,
      omega (arith, length-take c.in-Ok.n c.read.new.into, c.in-Ok.ensures.within),
      takes_moved (g.R.Source.left c.args.source.now)
          (g.R.Source.left c.read.new.self) c.in-Ok.n c.read.new.into c.in-Ok.ensures.moved,
    )
