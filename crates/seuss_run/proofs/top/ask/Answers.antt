use Rattle.std.proofs.Common.{map, string_bytes, sym}
use Rattle.seuss_run.specs.Served.{Knows}
use Rattle.seuss_run.proofs.AskedWords.{absurd_told, asked_known, read_no_usage}
use Rattle.seuss_run.proofs.top.ask.Goals as goal

-- the numbers of the command are within their limits
pub read_for-requires : goal.read_for-requires
read_for-requires g c = rw c.in-Some.is at c.in_ok-command.ensures.within

-- the bytes of a known command were read
pub returns-in-Some-clause-asked : goal.returns-in-Some-clause-asked
returns-in-Some-clause-asked g c =
    asked_known (Knows c.args.served) (map string_bytes c.args.words.now)
    (g.R.Source.left c.args.source.now) (g.R.Source.left c.read_for.new.source)
    c.in-Some.command c.read_for.result (c.is_known.ensures.0 c.if-is_known.true)
    (sym (rw c.in-Some.is at c.in_ok-command.ensures.is)) (rw c.in-Some.is at c.in_ok-command.ensures.within)
    c.read_for.ensures.read

pub returns-in-Some-clause-untouched : goal.returns-in-Some-clause-untouched
returns-in-Some-clause-untouched g c =
    absurd_told _ c.read_for.result (read_no_usage c.in-Some.command (g.R.Source.left c.args.source.now)
    (g.R.Source.left c.read_for.new.source) c.read_for.result c.read_for.ensures.read)
