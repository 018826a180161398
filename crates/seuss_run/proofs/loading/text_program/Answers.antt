use Rattle.seuss_run.specs.Stages.{◌>=>◌}
use Rattle.seuss_run.specs.Verdicts.{is_spelled, is_resolved, is_ordered}
use Rattle.std.proofs.Common.{Err}
use Rattle.seuss_program.specs.declared.program.Program.{Program}
use Rattle.seuss_program.specs.declared.tree.Tree.{Tree}
use Rattle.seuss_run.proofs.StageLemmas.{behind, stopped, same_halt}
use Rattle.seuss_run.proofs.loading.text_program.Goals as goal

-- the text spells a tree whose names and types are right, and its order tells
pub returns-clause-meets : goal.returns-clause-meets
returns-clause-meets c = behind is_spelled (is_resolved >=> is_ordered) c.args.text.now c.in_ok-tree.tree
    (λ program. program) c.ordered_program.result
    c.in_ok-tree.ensures.meets
    (behind is_resolved is_ordered c.in_ok-tree.tree c.in_ok-resolved.resolved
    (λ program. program) c.ordered_program.result
    c.in_ok-resolved.ensures c.ordered_program.ensures.meets)

-- what is spelled is well formed
pub resolved_tree-requires : goal.resolved_tree-requires
resolved_tree-requires c = c.in_ok-tree.ensures.printable.formed

-- a check of the tree fails
pub returns-in_err-resolved-clause-meets : goal.returns-in_err-resolved-clause-meets
returns-in_err-resolved-clause-meets c =
    let halt = c.in_err-resolved.field-0.0 in
    let view : Program → Program = λ program. program in
    same_halt (is_spelled >=> is_resolved >=> is_ordered) c.args.text.now view halt
    c.from_residual-in_err-resolved.result
    c.from_residual-in_err-resolved.ensures.1
    (behind is_spelled (is_resolved >=> is_ordered) c.args.text.now c.in_ok-tree.tree view
    (Err halt) c.in_ok-tree.ensures.meets
    (stopped is_resolved is_ordered c.in_ok-tree.tree
    (λ (resolved : Tree). resolved) view halt c.in_err-resolved.ensures))
