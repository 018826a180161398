use Rattle.std.proofs.Common.{◌≤◌, length}
use Rattle.compat_matrix.specs.Members.{IsOnTheWay}
use Rattle.compat_matrix.proofs.members.members.Given as goal

-- the members before the start are gone through
abbrev pub invariant-loop : goal.invariant-loop
invariant-loop l = record {
  within : l.start ≤ length l.members;
  way : IsOnTheWay l.program l.action l.members l.start (length l.members) l.counter;
}
