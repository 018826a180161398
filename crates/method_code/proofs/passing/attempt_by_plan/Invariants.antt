use Rattle.std.proofs.Common.{◌≡◌, ℕ, ◌+◌}
use Rattle.seuss_program.specs.declared.program.Program.{Program}
use Rattle.method_code.specs.Chains.{beginning, chain}
use Rattle.method_code.specs.Plans.{AreMadeFrom}
use Rattle.method_code.proofs.passing.attempt_by_plan.Given as goal

abbrev pub invariant-loop-made : goal.invariant-loop-made
invariant-loop-made l =
    (p : Program) → AreMadeFrom p l.code l.plan → (m : ℕ) →
    chain p (l.made + m) (beginning p l.action) l.initial.state l.budget ≡ chain p m l.pass l.state l.left
