use Rattle.std.proofs.Common.{◌≡◌, take, All}
use Rattle.method_code.specs.Codes.{cats_code}
use Rattle.method_code.specs.Fits.{Fits}
use Rattle.method_code.proofs.compiling.compile_cats.Given as goal

abbrev pub invariant-loop-cat : goal.invariant-loop-cat
invariant-loop-cat l = record {
  code : l.methods ≡ cats_code (take l.cat-index l.cats);
  fits : All Fits l.methods;
}
