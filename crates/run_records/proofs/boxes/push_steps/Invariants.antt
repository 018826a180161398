use Rattle.std.proofs.Common.{◌≡◌, ◌++◌, take}
use Rattle.std.specs.List.{flat_map}
use Rattle.run_records.specs.RecordTexts.{step_line}
use Rattle.run_records.proofs.boxes.push_steps.Given as goal

-- the lines of the entries so far
abbrev pub invariant-loop-entry : goal.invariant-loop-entry
invariant-loop-entry l = l.text ≡ l.fn.text ++ flat_map step_line (take l.entry-index l.entries)
