use Rattle.std.proofs.Common.{ℕ, ◌≤◌, length}
use Rattle.seuss_program.specs.declared.program.ActionInfo.{ActionInfo}
use Rattle.compat_matrix.specs.Members.{IsOnTheWay}
use Rattle.compat_matrix.proofs.members.add_round.Given as goal

-- the members before this place are gone through
abbrev pub invariant-loop-at : goal.invariant-loop-at
invariant-loop-at l = record {
  longer : length l.initial.members ≤ length l.members;
  way : (a : ActionInfo) (round : ℕ) → IsOnTheWay l.program a l.initial.members l.start l.end round →
      IsOnTheWay l.program a l.members l.at l.end round;
}
