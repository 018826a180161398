-- The passes that the seats were given are those that were started, by the rule of the ready queue.
use Rattle.std.proofs.Common.{◌≡◌, ℕ, ◌<◌, ◌≤◌, List, [], ◌∷◌, map, length, All, ap, ◌∙◌, arith}
use Rattle.std.proofs.Common.{sum_by, count_by, length-append, IsPermutation}
use Rattle.std.specs.List.{range_with_len}
use Rattle.std.proofs.lemmas.List.{length-map}
use Rattle.std.proofs.lemmas.List.FromFn.{length-range_with_len}
use Rattle.std.proofs.lemmas.List.Elements.{All-nil, All-cons, All-head, All-tail}
use Rattle.std.proofs.lemmas.List.Sorted.{length_permutation}
use Rattle.std.proofs.lemmas.List.Sums.{sum_by-cons, count_by-le-length}
use Rattle.compat_scheduler.specs.declared.ticket.Ticket.{Ticket}
use Rattle.compat_scheduler.specs.Settings.{Setting}
use Rattle.compat_scheduler.specs.Machines.{Machine}
use Rattle.compat_scheduler.specs.Runs.{started}
use Rattle.step_journal.specs.Histories.{Log}
use Rattle.loose_records.specs.declared.record.SchedEntry.{SchedEntry}
use Rattle.loose_records.specs.declared.record.SchedEntry.TheVariants.{Start, Finish}
use Rattle.round_ledger.specs.Cells.{IsOwned, log_events}
use Rattle.ready_queue.specs.declared.view.Mark.{Mark}
use Rattle.ready_queue.specs.declared.view.Row.{Row}
use Rattle.ready_queue.specs.Rules.{taken_in}
use Rattle.ready_queue.specs.Gathers.{IsGathered}
use Rattle.pass_seats.specs.Seats.{SeatState, is_done}
use Rattle.pass_gather.specs.Given.{given_of}
use Rattle.worker_seats.specs.Marks.{mark_of, marks_in}
use Rattle.worker_seats.proofs.Marks.{all_passes}
use Rattle.engine_gather.specs.Settled.{HasSettled}

-- each start was made by one of the seats
marks_low : (seats : ℕ) (log : Log SchedEntry) → All (IsOwned seats) log →
    All (λ (m : Mark). m.seat < seats) (marks_in log)
marks_low seats [] owned = All-nil (λ (m : Mark). m.seat < seats)
marks_low seats ((k, Start t stamp) ∷ log) owned =
    All-cons (λ (m : Mark). m.seat < seats) (record { ticket = t; seat = k }) (marks_in log)
    (All-head (IsOwned seats) (k, Start t stamp) log owned)
    (marks_low seats log (All-tail (IsOwned seats) (k, Start t stamp) log owned))
marks_low seats ((k, Finish t end verdict stamp) ∷ log) owned =
    marks_low seats log (All-tail (IsOwned seats) (k, Finish t end verdict stamp) log owned)

-- how many passes the seats have finished
abbrev done_in : SeatState → ℕ
done_in s = count_by is_done s.passes

-- no more than they were given
done_few : (seats : List SeatState) → sum_by done_in seats ≤ length (given_of seats)
done_few [] = omega arith
done_few (s ∷ seats) =
    omega (
      arith,
      sum_by-cons done_in s seats,
      count_by-le-length is_done s.passes,
      length-append s.passes (given_of seats),
      done_few seats,
    )

module _ (setting : Setting) (machine : Machine) (sched : Log SchedEntry) (items : List Mark) (rows : List Row)
    (seats : List SeatState) (h : HasSettled setting machine sched items rows seats)
    (numbers : map (λ (t : Ticket). t.pass) (started (log_events sched)) ≡ range_with_len 0 machine.starts) where
  -- as many passes as the machine has counted
  marks_many : length (marks_in sched) ≡ machine.starts
  marks_many =
      omega (
        arith,
        length-map (marks_in sched) (λ (m : Mark). m.ticket.pass),
        ap length (all_passes sched ∙ numbers),
        length-range_with_len 0 machine.starts,
      )

  -- as many were taken as were given
  taken_many : length (taken_in rows) ≡ length (given_of seats)
  taken_many = ap length h.taken ∙ length-map (given_of seats) mark_of

  -- all seats were joined, and have finished as many passes as were started
  pub gathered : machine.starts ≤ sum_by done_in seats →
      IsGathered items rows (length seats) (marks_in sched) (sum_by done_in seats)
  gathered all = record {
    settled = h.settled;
    pushed = h.pushed;
    by_seats = marks_low (length seats) sched h.owners;
    within = omega (arith, done_few seats, taken_many);
    many = omega (arith, marks_many, all);
  }

  -- so as many were given as were started
  pub given_many : IsPermutation (taken_in rows) (marks_in sched) → length (given_of seats) ≡ machine.starts
  given_many taken =
      omega (arith, taken_many, length_permutation (taken_in rows) (marks_in sched) taken, marks_many)
