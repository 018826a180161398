use Rattle.std.proofs.Common.{◌≡◌, ◌++◌, drop}
use Rattle.run_records.specs.RecordTexts.{boxes_text}
use Rattle.run_records.proofs.boxes.push_boxes.Given as goal

-- with the boxes that are left the text is that of all of them
abbrev pub invariant-loop-number : goal.invariant-loop-number
invariant-loop-number l = l.text ++ boxes_text l.number (drop l.number l.boxes) ≡ l.fn.text ++ boxes_text 0 l.boxes
