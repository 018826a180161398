use Rattle.std.proofs.Common.{◌≡◌, ◌++◌, take, map, All}
use Rattle.method_code.specs.Codes.{method_code}
use Rattle.method_code.specs.Fits.{Fits}
use Rattle.method_code.proofs.compiling.add_procedures.Given as goal

abbrev pub invariant-loop-proc : goal.invariant-loop-proc
invariant-loop-proc l = record {
  code : l.methods ≡ l.initial.methods ++ map method_code (take l.proc-index l.procs);
  fits : All Fits l.methods;
}
