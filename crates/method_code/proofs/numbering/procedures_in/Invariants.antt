use Rattle.std.proofs.Common.{◌≡◌, ◌+◌, length, drop}
use Rattle.method_code.specs.Codes.{cats_code}
use Rattle.method_code.proofs.numbering.procedures_in.Given as goal

abbrev pub invariant-loop-cat : goal.invariant-loop-cat
invariant-loop-cat l = l.many + length (cats_code (drop l.cat-index l.cats)) ≡ length (cats_code l.cats)
