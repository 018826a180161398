use Rattle.pass_gather.proofs.laws.a_gathered_run_is_a_loose_record.Goals as goal

pub returns : goal.returns
returns c = record {
  loose = λ names code first last logs cell seats passes named boxes scheduler are ended lists.
      c.parts_are_a_loose_record.ensures names code first last logs cell.journal.log cell.machine seats
      passes
      named are (c.the_boxes_gather.ensures names code first last logs seats named boxes)
      (c.the_scheduler_gathers.ensures.gathers names cell seats scheduler are ended) lists;
  made = λ names code first last logs cell seats passes named boxes scheduler are ended.
      c.the_record_is_the_seats_own.ensures names last logs cell.journal.log cell.machine seats passes are
      (c.the_boxes_gather.ensures names code first last logs seats named boxes)
      (c.the_scheduler_gathers.ensures.gathers names cell seats scheduler are ended);
}
