use Rattle.std.proofs.Common.{ap, ◌∙◌, rules}
use Rattle.pass_seats.specs.Seats.{SeatState}
use Rattle.worker_seats.specs.Endings.{FinishAllRefused}
use Rattle.worker_seats.proofs.Finishing.{one_refused, start_refused}
use Rattle.worker_seats.proofs.worker_seat.WorkerSeat.finish.Goals as goal

pub returns-in_err-verdict-clause-refused : goal.returns-in_err-verdict-clause-refused
returns-in_err-verdict-clause-refused g c =
    let refusal = c.in_err-verdict.field-0.0 in
    let h : FinishAllRefused c.args.desk.now.cell c.finish_one.new.desk.cell c.args.self.now c.finish_one.new.self
    c.args.slot refusal =
    one_refused c.args.desk.now.cell c.finish_one.new.desk.cell c.args.self.now c.finish_one.new.self c.args.slot
    refusal c.in_err-verdict.ensures.refused in
    search rules

pub start_all-requires-clause-whole : goal.start_all-requires-clause-whole
start_all-requires-clause-whole g c =
    ap (λ (s : SeatState). s.torn) c.in_ok-verdict.ensures.done.finished.after_is ∙ c.requires.whole

pub start_all-requires-clause-working : goal.start_all-requires-clause-working
start_all-requires-clause-working g c = c.in_ok-verdict.ensures.done.finished.finished.whole.1

pub returns-in_err-start_all-clause-refused : goal.returns-in_err-start_all-clause-refused
returns-in_err-start_all-clause-refused g c =
    let refusal = c.in_err-start_all.field-0.0 in
    let h : FinishAllRefused c.args.desk.now.cell c.start_all.new.desk.cell c.args.self.now c.start_all.new.self
    c.args.slot refusal =
    start_refused c.args.desk.now.cell c.finish_one.new.desk.cell c.start_all.new.desk.cell c.args.self.now
    c.finish_one.new.self c.start_all.new.self c.args.slot c.in_ok-verdict.verdict refusal
    c.in_ok-verdict.ensures.done c.in_err-start_all.ensures.refused in
    search rules

pub returns-clause-done : goal.returns-clause-done
returns-clause-done g c = record {
  between = c.finish_one.new.desk.cell;
  seat = c.finish_one.new.self;
  finish = c.in_ok-verdict.ensures.done;
  starts = c.in_ok-start_all.ensures.done;
}
