-- The loop over all boxes.
use Rattle.std.proofs.Common.{◌≡◌, ◌++◌}
use Rattle.std.specs.Iterator.Adapters.{zip_first, zip_second}
use Rattle.std.specs.Slice.Iter.{iter_rest}
use Rattle.seuss_program.specs.Reports.{box_lines}
use Rattle.report_text.proofs.ends.push_state.Given as goal

-- with the boxes that are left, the text is that of all of them
abbrev pub invariant-loop-info : goal.invariant-loop-info
invariant-loop-info l =
    l.text ++ box_lines l.program.cats (iter_rest (zip_first l.info-iterator))
    (iter_rest (zip_second l.info-iterator))
    ≡ l.fn.text ++ box_lines l.program.cats l.program.boxes l.state.boxes
