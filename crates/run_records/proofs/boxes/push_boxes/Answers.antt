use Rattle.run_records.proofs.BoxesWritten.{box_written}
use Rattle.run_records.proofs.boxes.push_boxes.Goals as goal

-- one more box
pub loop-number-preserved : goal.loop-number-preserved
loop-number-preserved c =
    box_written c.args.boxes.now c.loop-number.number c.entries_of.result.now c.loop-number.text
    c.push_box.new.text _ c.entries_of.ensures c.in_ok-push_box.ensures c.loop-number.invariant
