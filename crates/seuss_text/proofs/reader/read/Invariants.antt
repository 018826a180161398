use Rattle.std.proofs.Common.{◌-◌, length}
use Rattle.seuss_text.proofs.ReadLemmas.{IsAt}
use Rattle.seuss_text.proofs.reader.read.Given as goal

abbrev pub invariant-loop-list : goal.invariant-loop-list
invariant-loop-list l = IsAt l.text l.list l.place l.line

abbrev pub decreases-loop-list : goal.decreases-loop-list
decreases-loop-list l = length l.text - l.place
