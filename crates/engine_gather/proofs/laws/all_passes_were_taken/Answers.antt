use Rattle.std.proofs.Common.{length, subst, sum_by, count_by, IsPermutation}
use Rattle.round_ledger.specs.Cells.{log_events}
use Rattle.pass_seats.specs.Seats.{SeatState, is_done}
use Rattle.worker_seats.specs.Marks.{marks_in}
use Rattle.engine_gather.proofs.Takes.{gathered, given_many}
use Rattle.engine_gather.proofs.laws.all_passes_were_taken.Goals as goal

pub returns : goal.returns
returns c =
    let done = λ (s : SeatState). count_by is_done s.passes in
    let law = c.all_passes_are_finished.ensures in record {
      empty = λ setting machine sched items rows seats h all.
          law.empty items rows (length seats) (marks_in sched) (sum_by done seats)
          (gathered setting machine sched items rows seats h
          (c.passes_are_numbered.ensures setting (log_events sched) machine h.run) all);
      taken = λ setting machine sched items rows seats h all.
          subst (λ l. IsPermutation l (marks_in sched)) h.taken
          (law.taken items rows (length seats) (marks_in sched) (sum_by done seats)
          (gathered setting machine sched items rows seats h
          (c.passes_are_numbered.ensures setting (log_events sched) machine h.run) all));
      many = λ setting machine sched items rows seats h all.
          let numbers = c.passes_are_numbered.ensures setting (log_events sched) machine h.run in
          given_many setting machine sched items rows seats h numbers
          (law.taken items rows (length seats) (marks_in sched) (sum_by done seats)
          (gathered setting machine sched items rows seats h numbers all));
    }
