use Rattle.std.proofs.Common.{◌≡◌, take}
use Rattle.seuss_program.proofs.state.State.copy.Given as goal

abbrev pub invariant-loop-vars : goal.invariant-loop-vars
invariant-loop-vars l = l.boxes ≡ take l.vars-index l.vars-items
