use Rattle.std.proofs.Common.{subst}
use Rattle.seuss_program.specs.declared.tree.Tree.{Tree}
use Rattle.seuss_program.specs.WellFormed.{IsWellFormed}
use Rattle.box_types.proofs.resolving.Resolved.into_parts.Goals as goal

pub returns-clause-well_formed : goal.returns-clause-well_formed
returns-clause-well_formed c = subst (λ (tree : Tree). IsWellFormed tree) c.self.view_is c.self.invariant.0
