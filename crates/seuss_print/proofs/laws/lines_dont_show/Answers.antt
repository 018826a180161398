use Rattle.std.proofs.Common.{ap}
use Rattle.seuss_print.specs.Items.{text_of}
use Rattle.seuss_print.proofs.Unlined.{printed-alike}
use Rattle.seuss_print.proofs.laws.lines_dont_show.Goals as goal

pub returns : goal.returns
returns c = λ tree other same. ap text_of (printed-alike tree other same)
