use Rattle.std.proofs.Common.{Option, subst, rules}
use Rattle.std.specs.Prelude.{IfSome}
use Rattle.pass_seats.specs.Items.{ItemState}
use Rattle.pass_seats.specs.Starts.{Issued}
use Rattle.pass_engine.specs.Calls.{StartRefusedBy}
use Rattle.pass_engine.proofs.Starting.{issue_refused, start_lost}
use Rattle.pass_engine.proofs.going.start_at.Goals as goal

pub returns-in_err-issued-clause-refused : goal.returns-in_err-issued-clause-refused
returns-in_err-issued-clause-refused g c =
    let refusal = c.in_err-issued.field-0.0 in
    let h : StartRefusedBy c.args.desk.now.cell c.issue.new.self.cell c.args.seat.now c.issue.new.seat
    refusal =
    issue_refused c.args.desk.now.cell c.issue.new.self.cell c.args.seat.now c.issue.new.seat refusal
    c.in_err-issued.ensures.refused in
    search rules

pub returns-in-Err-clause-refused : goal.returns-in-Err-clause-refused
returns-in-Err-clause-refused g c =
    let cell = c.args.desk.now.cell in
    let next = c.issue.new.self.cell in
    let seat = c.args.seat.now in
    let between = c.issue.new.seat in
    let issued : Issued cell next seat between c.in-Some.item =
    subst (λ (r : Option ItemState). IfSome r (Issued cell next seat between)) c.in-Some.is
    c.in_ok-issued.ensures.some in
    start_lost cell next seat between c.take.new.self c.in-Some.item issued c.in-Err.ensures.refused
