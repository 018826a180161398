use Rattle.std.proofs.Common.{suc, ap, ◌∙◌, refl, rules}
use Rattle.worker_seats.specs.Workers.{Ring}
use Rattle.worker_seats.specs.Readies.{StartAllRefused}
use Rattle.worker_seats.proofs.Readies.{readies_same, readies_torn, starts_end, same_more}
use Rattle.worker_seats.proofs.worker_seat.WorkerSeat.start_all.Goals as goal

pub loop-init : goal.loop-init
loop-init g c = record { many = 0; starts = (refl, refl) }

pub ready_one-requires-clause-queue : goal.ready_one-requires-clause-queue
ready_one-requires-clause-queue g c =
    let i = c.loop.invariant in
    ap (λ (r : Ring). r.queue)
    (readies_same i.many c.args.desk.now.cell c.args.self.now c.loop.desk.cell c.loop.self i.starts).ring
    ∙ c.requires.queue

pub ready_one-requires-clause-whole : goal.ready_one-requires-clause-whole
ready_one-requires-clause-whole g c =
    let i = c.loop.invariant in
    readies_torn i.many c.args.desk.now.cell c.args.self.now c.loop.desk.cell c.loop.self i.starts
    ∙ c.requires.whole

pub returns-in_err-ready_one-clause-refused : goal.returns-in_err-ready_one-clause-refused
returns-in_err-ready_one-clause-refused g c =
    let i = c.loop.invariant in
    let refusal = c.in_err-ready_one.field-0.0 in
    let h : StartAllRefused c.args.desk.now.cell c.ready_one.new.desk.cell c.args.self.now c.ready_one.new.self
    refusal =
    starts_end i.many c.args.desk.now.cell c.loop.desk.cell c.ready_one.new.desk.cell c.args.self.now c.loop.self
    c.ready_one.new.self refusal i.starts c.requires.working c.in_err-ready_one.ensures.refused in
    search rules

pub returns-in_err-ready_one-clause-seat : goal.returns-in_err-ready_one-clause-seat
returns-in_err-ready_one-clause-seat g c =
    let i = c.loop.invariant in
    same_more c.args.self.now c.loop.self c.ready_one.new.self
    (readies_same i.many c.args.desk.now.cell c.args.self.now c.loop.desk.cell c.loop.self i.starts)
    c.ready_one.ensures.seat

pub returns-then-not-branch-clause-done : goal.returns-then-not-branch-clause-done
returns-then-not-branch-clause-done g c =
    let i = c.loop.invariant in
    record {
      many = i.many;
      between = c.loop.desk.cell;
      seat = c.loop.self;
      starts = i.starts;
      none = c.in_ok-ready_one.ensures.none c.if-not-branch.true;
    }

pub returns-then-not-branch-clause-seat : goal.returns-then-not-branch-clause-seat
returns-then-not-branch-clause-seat g c =
    let i = c.loop.invariant in
    same_more c.args.self.now c.loop.self c.ready_one.new.self
    (readies_same i.many c.args.desk.now.cell c.args.self.now c.loop.desk.cell c.loop.self i.starts)
    c.ready_one.ensures.seat

pub loop-preserved : goal.loop-preserved
loop-preserved g c =
    let i = c.loop.invariant in
    record {
      many = suc i.many;
      starts = (c.loop.desk.cell, c.loop.self, i.starts, c.in_ok-ready_one.ensures.more c.if-not-branch.false);
    }
