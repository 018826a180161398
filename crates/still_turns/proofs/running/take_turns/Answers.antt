use Rattle.std.proofs.Common.{◌≡◌, ℕ, ◌+◌, ◌-◌, ◌<◌, List, length, Some, slice_get, sym, subst, ap, ◌∙◌, arith}
use Rattle.std.specs.Prelude.{slice_set, ◌^◌}
use Rattle.compat_scheduler.specs.Settings.{Setting}
use Rattle.loose_records.specs.declared.record.Record.{Record}
use Rattle.loose_records.specs.Turns.{IsRecordOfTurns, worker_of}
use Rattle.round_ledger.specs.Cells.{HasEnded}
use Rattle.pass_seats.specs.Seats.{SeatState}
use Rattle.pass_gather.specs.Gathered.{IsGathered}
use Rattle.pass_engine.specs.Engines.{EngineState}
use Rattle.pass_engine.specs.Beginnings.{AreNewWorkers}
use Rattle.still_turns.specs.declared.hand.InHand.{InHand}
use Rattle.still_turns.specs.Workings.{HasWorked}
use Rattle.still_turns.proofs.TurnsTaken.{answer_is, seat_of_engine}
use Rattle.still_turns.proofs.running.take_turns.Goals as goal

pub loop-turn-init : goal.loop-turn-init
loop-turn-init g c =
    let names = g.N.EngineNames.names in
    let a = c.facts.ensures.named in
    let seats = c.into_vec-seats.result.items in
    subst (λ (hs : List InHand). HasWorked names c.args.width c.args.digits.now 0 c.args.engine seats hs)
    (sym c.in_ok-hands.ensures)
    (c.workers_go_on.ensures.begins names c.args.width c.args.digits.now c.args.engine seats
    c.requires.seats.0 a.form (a.boxes ∙ sym a.form.count) c.requires.fresh.0
    (subst (λ (ss : List SeatState). AreNewWorkers c.args.width ss) (sym c.into_vec-seats.ensures)
    c.requires.fresh.1))

pub has_ended-over-requires-clause-going : goal.has_ended-over-requires-clause-going
has_ended-over-requires-clause-going g c =
    let l = c.loop-turn in
    c.workers_made_the_record.ensures.going g.N.EngineNames.names c.args.width c.args.digits.now l.turn l.engine
    l.seats.items l.hands l.invariant

pub has_ended-over-requires-clause-within : goal.has_ended-over-requires-clause-within
has_ended-over-requires-clause-within g c =
    let l = c.loop-turn in
    let many = (c.workers_made_the_record.ensures.workers g.N.EngineNames.names c.args.width c.args.digits.now
    l.turn l.engine l.seats.items l.hands l.invariant).1 in
    let within = c.worker_of-worker.ensures.within in
    omega (arith, many, within)

pub has_ended-over-requires-clause-of : goal.has_ended-over-requires-clause-of
has_ended-over-requires-clause-of g c =
    let l = c.loop-turn in
    let names = g.N.EngineNames.names in
    let are = (c.workers_made_the_record.ensures.workers names c.args.width c.args.digits.now l.turn l.engine
    l.seats.items l.hands l.invariant).0 in
    seat_of_engine names.seats l.engine l.seats.items are c.worker_of-worker.result

pub close-requires-clause-parts : goal.close-requires-clause-parts
close-requires-clause-parts g c = c.requires.seats.1 ∙ sym c.requires.seats.0

pub close-requires-clause-workers : goal.close-requires-clause-workers
close-requires-clause-workers g c =
    let names = g.N.EngineNames.names in
    let l = c.loop-turn in
    let w = c.worker_of-worker.result in
    let call = c.has_ended-over in
    let t = call.ensures.seats in
    let worked : HasWorked names c.args.width c.args.digits.now l.turn call.new.engine call.new.seats.items l.hands =
    subst (λ (ss : List SeatState). HasWorked names c.args.width c.args.digits.now l.turn call.new.engine ss l.hands)
    (sym t.3)
    (subst (λ (e : EngineState). HasWorked names c.args.width c.args.digits.now l.turn e
    (slice_set l.seats.items w t.1) l.hands) (sym call.ensures.engine)
    (c.workers_go_on.ensures.told names c.args.width c.args.digits.now l.turn l.engine l.seats.items l.hands w
    t.0 t.1 l.invariant t.2 t.4)) in
    (c.workers_made_the_record.ensures.workers names c.args.width c.args.digits.now l.turn call.new.engine
    call.new.seats.items l.hands worked).0

pub close-requires-clause-given : goal.close-requires-clause-given
close-requires-clause-given g c =
    let names = g.N.EngineNames.names in
    let l = c.loop-turn in
    let w = c.worker_of-worker.result in
    let call = c.has_ended-over in
    let t = call.ensures.seats in
    let worked : HasWorked names c.args.width c.args.digits.now l.turn call.new.engine call.new.seats.items l.hands =
    subst (λ (ss : List SeatState). HasWorked names c.args.width c.args.digits.now l.turn call.new.engine ss l.hands)
    (sym t.3)
    (subst (λ (e : EngineState). HasWorked names c.args.width c.args.digits.now l.turn e
    (slice_set l.seats.items w t.1) l.hands) (sym call.ensures.engine)
    (c.workers_go_on.ensures.told names c.args.width c.args.digits.now l.turn l.engine l.seats.items l.hands w
    t.0 t.1 l.invariant t.2 t.4)) in
    c.workers_made_the_record.ensures.given names c.args.width c.args.digits.now l.turn call.new.engine
    call.new.seats.items l.hands worked

pub close-requires-clause-ended : goal.close-requires-clause-ended
close-requires-clause-ended g c =
    let names = g.N.EngineNames.names in
    let l = c.loop-turn in
    let call = c.has_ended-over in
    let ended : HasEnded l.engine.sched.setting l.engine.sched.machine =
    call.ensures.ended.0 c.if-over.true in
    subst (λ (e : EngineState). HasEnded names.setting.scheduler e.sched.machine) (sym call.ensures.engine)
    (subst (λ (s : Setting). HasEnded s l.engine.sched.machine)
    (c.workers_made_the_record.ensures.setting names c.args.width c.args.digits.now l.turn l.engine
    l.seats.items l.hands l.invariant) ended)

pub returns-then-over : goal.returns-then-over
returns-then-over g c =
    let names = g.N.EngineNames.names in
    let l = c.loop-turn in
    let w = c.worker_of-worker.result in
    let call = c.has_ended-over in
    let e = call.new.engine in
    let seats = call.new.seats.items in
    let t = call.ensures.seats in
    let worked : HasWorked names c.args.width c.args.digits.now l.turn e seats l.hands =
    subst (λ (ss : List SeatState). HasWorked names c.args.width c.args.digits.now l.turn e ss l.hands)
    (sym t.3)
    (subst (λ (f : EngineState). HasWorked names c.args.width c.args.digits.now l.turn f
    (slice_set l.seats.items w t.1) l.hands) (sym call.ensures.engine)
    (c.workers_go_on.ensures.told names c.args.width c.args.digits.now l.turn l.engine l.seats.items l.hands w
    t.0 t.1 l.invariant t.2 t.4)) in
    let ended : HasEnded e.sched.setting e.sched.machine =
    subst (λ (f : EngineState). HasEnded f.sched.setting f.sched.machine) (sym call.ensures.engine)
    (call.ensures.ended.0 c.if-over.true) in
    answer_is (IsGathered names.first e.boxes e.sched seats)
    (IsRecordOfTurns names.setting names.first c.args.width c.args.digits.now) c.close.result
    (λ (r : Record) (made : IsGathered names.first e.boxes e.sched seats r).
    c.workers_made_the_record.ensures.made names c.args.width c.args.digits.now l.turn e seats l.hands r worked
    ended made) c.close.ensures

pub work_of-requires-clause-going : goal.work_of-requires-clause-going
work_of-requires-clause-going g c =
    let l = c.loop-turn in
    ap (λ (e : EngineState). e.given_up) c.has_ended-over.ensures.engine
    ∙ c.workers_made_the_record.ensures.going g.N.EngineNames.names c.args.width c.args.digits.now l.turn l.engine
    l.seats.items l.hands l.invariant

pub work_of-requires-clause-within : goal.work_of-requires-clause-within
work_of-requires-clause-within g c =
    let names = g.N.EngineNames.names in
    let l = c.loop-turn in
    let w = c.worker_of-worker.result in
    let call = c.has_ended-over in
    let t = call.ensures.seats in
    let worked : HasWorked names c.args.width c.args.digits.now l.turn call.new.engine call.new.seats.items l.hands =
    subst (λ (ss : List SeatState). HasWorked names c.args.width c.args.digits.now l.turn call.new.engine ss l.hands)
    (sym t.3)
    (subst (λ (e : EngineState). HasWorked names c.args.width c.args.digits.now l.turn e
    (slice_set l.seats.items w t.1) l.hands) (sym call.ensures.engine)
    (c.workers_go_on.ensures.told names c.args.width c.args.digits.now l.turn l.engine l.seats.items l.hands w
    t.0 t.1 l.invariant t.2 t.4)) in
    let many = (c.workers_made_the_record.ensures.workers names c.args.width c.args.digits.now l.turn
    call.new.engine call.new.seats.items l.hands worked).1 in
    let held = c.workers_made_the_record.ensures.held names c.args.width c.args.digits.now l.turn
    call.new.engine call.new.seats.items l.hands worked in
    let within = c.worker_of-worker.ensures.within in
    (omega (arith, many, within), omega (arith, held, within))

pub work_of-requires-clause-of : goal.work_of-requires-clause-of
work_of-requires-clause-of g c =
    let names = g.N.EngineNames.names in
    let l = c.loop-turn in
    let w = c.worker_of-worker.result in
    let call = c.has_ended-over in
    let t = call.ensures.seats in
    let worked : HasWorked names c.args.width c.args.digits.now l.turn call.new.engine call.new.seats.items l.hands =
    subst (λ (ss : List SeatState). HasWorked names c.args.width c.args.digits.now l.turn call.new.engine ss l.hands)
    (sym t.3)
    (subst (λ (e : EngineState). HasWorked names c.args.width c.args.digits.now l.turn e
    (slice_set l.seats.items w t.1) l.hands) (sym call.ensures.engine)
    (c.workers_go_on.ensures.told names c.args.width c.args.digits.now l.turn l.engine l.seats.items l.hands w
    t.0 t.1 l.invariant t.2 t.4)) in
    seat_of_engine names.seats call.new.engine call.new.seats.items
    (c.workers_made_the_record.ensures.workers names c.args.width c.args.digits.now l.turn call.new.engine
    call.new.seats.items l.hands worked).0 w

pub work_of-requires-clause-may : goal.work_of-requires-clause-may
work_of-requires-clause-may g c =
    let names = g.N.EngineNames.names in
    let l = c.loop-turn in
    let w = c.worker_of-worker.result in
    let call = c.has_ended-over in
    let t = call.ensures.seats in
    let worked : HasWorked names c.args.width c.args.digits.now l.turn call.new.engine call.new.seats.items l.hands =
    subst (λ (ss : List SeatState). HasWorked names c.args.width c.args.digits.now l.turn call.new.engine ss l.hands)
    (sym t.3)
    (subst (λ (e : EngineState). HasWorked names c.args.width c.args.digits.now l.turn e
    (slice_set l.seats.items w t.1) l.hands) (sym call.ensures.engine)
    (c.workers_go_on.ensures.told names c.args.width c.args.digits.now l.turn l.engine l.seats.items l.hands w
    t.0 t.1 l.invariant t.2 t.4)) in
    λ seat h at_seat at_held.
    c.workers_go_on.ensures.may names c.args.width c.args.digits.now l.turn call.new.engine call.new.seats.items
    l.hands w seat h c.requires.setting c.facts.ensures.named.form worked at_seat at_held

pub loop-turn-preserved : goal.loop-turn-preserved
loop-turn-preserved g c =
    let names = g.N.EngineNames.names in
    let l = c.loop-turn in
    let turn = l.turn in
    let w = c.worker_of-worker.result in
    let call = c.has_ended-over in
    let old = call.new.engine in
    let seats = call.new.seats.items in
    let t = call.ensures.seats in
    let worked : HasWorked names c.args.width c.args.digits.now turn old seats l.hands =
    subst (λ (ss : List SeatState). HasWorked names c.args.width c.args.digits.now turn old ss l.hands)
    (sym t.3)
    (subst (λ (e : EngineState). HasWorked names c.args.width c.args.digits.now turn e
    (slice_set l.seats.items w t.1) l.hands) (sym call.ensures.engine)
    (c.workers_go_on.ensures.told names c.args.width c.args.digits.now turn l.engine l.seats.items l.hands w
    t.0 t.1 l.invariant t.2 t.4)) in
    let new = c.work_of.new in
    let n = c.in_ok-work_of.ensures in
    let value = c.worker_of-worker.ensures.value in
    let wth = worker_of c.args.width c.args.digits.now turn in
    let next = c.workers_go_on.ensures.turn names c.args.width c.args.digits.now turn g.N.CellNames.code
    g.N.CellNames.first old new.engine seats l.hands n.0 n.1 n.2 n.3 c.requires.setting c.requires.workers
    c.facts.ensures.named.form worked
    (λ (over : HasEnded old.sched.setting old.sched.machine).
    let was = subst (λ (e : EngineState). HasEnded e.sched.setting e.sched.machine) call.ensures.engine over in
    let a = call.ensures.ended.1 was in
    let b = c.if-over.false in
    cc (a, b))
    c.facts.ensures.named.code_is
    (subst (λ (k : ℕ). slice_get seats k ≡ Some n.0) value n.4)
    (subst (λ (k : ℕ). slice_get l.hands k ≡ Some n.2) value n.5)
    n.8 in
    subst (λ (ss : List SeatState). HasWorked names c.args.width c.args.digits.now (turn + 1) new.engine ss
    new.hands) (sym (n.6 ∙ ap (λ (k : ℕ). slice_set seats k n.1) value))
    (subst (λ (hs : List InHand). HasWorked names c.args.width c.args.digits.now (turn + 1) new.engine
    (slice_set seats wth n.1) hs) (sym (n.7 ∙ ap (λ (k : ℕ). slice_set l.hands k n.3) value)) next)

pub unreachable-requires : goal.unreachable-requires
unreachable-requires g c =
    let l = c.loop-turn in
    let short : length c.args.digits.now < 2 ^ 63 = omega arith in
    let low : l.turn < 2 ^ 64 - 1 = c.workers_go_on.ensures.end g.N.EngineNames.names c.args.width
    c.args.digits.now l.turn l.engine l.seats.items l.hands c.requires.setting c.requires.narrow short
    l.invariant in
    let past = c.loop-turn-test.false in
    omega (arith, low, past)
