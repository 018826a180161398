-- Texts in which the boxes, and the procedures of each cat, have names of their own.
use Rattle.std.specs.Prelude.{◌≢◌, All, AllPairs}
use Rattle.seuss_program.specs.declared.tree.Name.{Name}
use Rattle.seuss_program.specs.declared.tree.Proc.{Proc}
use Rattle.seuss_program.specs.declared.tree.Cat.{Cat}
use Rattle.seuss_program.specs.declared.tree.BoxDecl.{BoxDecl}
use Rattle.seuss_program.specs.declared.tree.Tree.{Tree}

-- no two procedures of a cat have the same name
abbrev pub ProcsDiffer : Cat Name → Type 0
ProcsDiffer c = AllPairs (λ (q r : Proc Name). q.name.text ≢ r.name.text) c.procs

-- no two boxes have the same name, and so for the procedures of each cat
pub record HasOwnNames (tree : Tree) : Type 0 where
  pub boxes : AllPairs (λ (a b : BoxDecl). a.name.text ≢ b.name.text) tree.boxes
  pub procs : All ProcsDiffer tree.cats
