use Rattle.std.proofs.Common.{◌≡◌, ◌++◌, take}
use Rattle.std.specs.List.{flat_map}
use Rattle.seuss_program.specs.Attempts.{locals_of}
use Rattle.tight_order.proofs.entry.+locals.Given as goal

abbrev pub invariant-add_locals-loop-statement : goal.invariant-add_locals-loop-statement
invariant-add_locals-loop-statement l = l.slots ≡ l.initial.slots
    ++ flat_map locals_of (take l.statement-index l.statements)
