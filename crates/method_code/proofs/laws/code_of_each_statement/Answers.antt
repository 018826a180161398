use Rattle.std.proofs.Common.{refl}
use Rattle.seuss_program.specs.declared.tree.Statement.TheVariants as S
use Rattle.method_code.proofs.CodeLemmas.{code-Let, code-Assign, code-Call, code-If, code-While}
use Rattle.method_code.proofs.laws.code_of_each_statement.Goals as goal

pub returns : goal.returns
returns c = record {
  declares = λ name kind e. code-Let (S.Let name kind e) name kind e refl;
  assigns = λ name e. code-Assign (S.Assign name e) name e refl;
  calls = λ bind call. code-Call (S.Call bind call) bind call refl;
  branches = λ cond holds fails. code-If (S.If cond holds fails) cond holds fails refl;
  loops = λ cond turn. code-While (S.While cond turn) cond turn refl;
}
