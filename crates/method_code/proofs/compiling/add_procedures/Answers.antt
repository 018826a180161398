use Rattle.std.proofs.Common.{arith}
use Rattle.std.proofs.lemmas.Grind.{common_steps, elements}
use Rattle.method_code.proofs.compiling.add_procedures.Goals as goal

pub loop-proc-preserved : goal.loop-proc-preserved
loop-proc-preserved c = record {
  code = grind (arith, common_steps);
  fits = grind (arith, elements);
}
