use Rattle.seuss_run.specs.Stages.{makes}
use Rattle.seuss_run.specs.Verdicts.{has_tree_alone, Printing}
use Rattle.seuss_run.specs.declared.words.Command.TheVariants as C
use Rattle.seuss_run.proofs.PerformLemmas.{halts, goes}
use Rattle.seuss_run.proofs.commands.print.perform.Goals as goal

-- the bytes are refused
pub returns-in_err-tree : goal.returns-in_err-tree
returns-in_err-tree c =
    halts C.Print has_tree_alone (makes Printing) c.args.bytes.now (λ tree. tree)
    c.in_err-tree.field-0.0 c.from_residual.result c.from_residual.ensures.1 c.in_err-tree.ensures.meets

-- what is spelled can be printed
pub spell-requires : goal.spell-requires
spell-requires c = c.in_ok-tree.ensures.printable

-- the tree is printed
pub returns : goal.returns
returns c =
    goes C.Print has_tree_alone (makes Printing) c.args.bytes.now c.in_ok-tree.tree c.spell.result
    c.in_ok-tree.ensures.meets c.spell.ensures
