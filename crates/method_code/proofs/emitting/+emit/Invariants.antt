use Rattle.std.proofs.Common.{◌≡◌, take}
use Rattle.std.specs.List.{flat_map}
use Rattle.method_code.specs.Codes.{code_of}
use Rattle.method_code.proofs.emitting.+emit.Given as goal

abbrev pub invariant-emit_body-loop-statement : goal.invariant-emit_body-loop-statement
invariant-emit_body-loop-statement l = l.code ≡ flat_map code_of (take l.statement-index l.statements)
