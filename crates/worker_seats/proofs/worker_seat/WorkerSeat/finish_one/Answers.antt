use Rattle.std.proofs.Common.{ℕ, ap, ◌∙◌, subst, rules}
use Rattle.std.specs.Prelude.{IfOk, MatchResult}
use Rattle.pass_seats.specs.Desks.{SchedDeskState}
use Rattle.pass_seats.specs.Seats.{SeatState}
use Rattle.pass_seats.specs.Finishes.{Finished, FinishRefusedBy}
use Rattle.worker_seats.specs.Endings.{FinishRefused}
use Rattle.worker_seats.proofs.Finishing.{over_seen, ending_made, ending_refused, look_refused}
use Rattle.worker_seats.proofs.worker_seat.WorkerSeat.finish_one.Goals as goal

pub returns-in_err-standing-clause-refused : goal.returns-in_err-standing-clause-refused
returns-in_err-standing-clause-refused g c =
    let refusal = c.in_err-standing.field-0.0 in
    let h : FinishRefused c.args.desk.now.cell c.standing.new.desk.cell c.args.self.now c.standing.new.self
    c.args.slot refusal =
    look_refused c.args.desk.now.cell c.standing.new.desk.cell c.args.self.now c.standing.new.self c.args.slot
    refusal (ap (λ (d : SchedDeskState). d.cell) c.in_err-standing.ensures.desk) c.in_err-standing.ensures.refused in
    search rules

pub finish_seen-requires-clause-whole : goal.finish_seen-requires-clause-whole
finish_seen-requires-clause-whole g c =
    ap (λ (s : SeatState). s.torn) c.in_ok-standing.ensures.told.stands.new_is ∙ c.requires.whole

pub finish_seen-requires-clause-over : goal.finish_seen-requires-clause-over
finish_seen-requires-clause-over g c =
    over_seen c.args.self.now.core c.standing.new.self.core c.args.desk.now.cell.journal.log c.args.slot
    c.in_ok-standing.ensures.told.stands.new_is c.requires.over

pub returns-clause-done : goal.returns-clause-done
returns-clause-done g c =
    let cell = c.args.desk.now.cell in
    let next = c.finish_seen.new.desk.cell in
    let mid = c.standing.new.self in
    let new = c.finish_seen.new.self in
    ending_made cell next c.args.self.now mid new c.args.slot _ c.in_ok-standing.ensures.told c.finish_seen.result
    c.finish_seen.ensures.rest
    (subst (λ (d : SchedDeskState). IfOk c.finish_seen.result (Finished d.cell next mid.core new.core c.args.slot))
    c.in_ok-standing.ensures.desk c.finish_seen.ensures.done)

pub returns-clause-refused : goal.returns-clause-refused
returns-clause-refused g c =
    let cell = c.args.desk.now.cell in
    let next = c.finish_seen.new.desk.cell in
    let mid = c.standing.new.self in
    let new = c.finish_seen.new.self in
    ending_refused cell next c.args.self.now mid new c.args.slot _ c.in_ok-standing.ensures.told c.finish_seen.result
    c.finish_seen.ensures.rest
    (subst (λ (d : SchedDeskState). MatchResult c.finish_seen.result (λ _. ℕ)
    (FinishRefusedBy d.cell next mid.core new.core c.args.slot)) c.in_ok-standing.ensures.desk
    c.finish_seen.ensures.refused)
