use Rattle.std.proofs.Common.{◌≡◌, length}
use Rattle.pass_seats.proofs.blank.EngineBlank.new.Given as goal

-- as many boxes as turns
abbrev pub invariant-loop-number : goal.invariant-loop-number
invariant-loop-number l = length l.fresh.items ≡ l._number
