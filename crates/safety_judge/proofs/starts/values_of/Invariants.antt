use Rattle.std.proofs.Common.{◌≡◌, map, take}
use Rattle.seuss_program.specs.declared.tree.Var.{Var}
use Rattle.safety_judge.proofs.starts.values_of.Given as goal

abbrev pub invariant-loop-var : goal.invariant-loop-var
invariant-loop-var l = l.values ≡ map (λ (v : Var). v.start) (take l.var-index l.vars)
