use Rattle.std.proofs.Common.{◌≡◌, ℕ, sym, ap, ◌∙◌, refl, subst, Option}
use Rattle.pass_seats.specs.Seats.{SeatState}
use Rattle.pass_engine.specs.Engines.{EngineState, engine_of, IsEngine, StaysGivenUp}
use Rattle.pass_engine.specs.Calls.{GaveUp, first_to}
use Rattle.pass_engine.proofs.Workers.{torn_worker}
use Rattle.pass_engine.proofs.Keeping.{with_sched, told, first_given, gave_up_kept, gave_up_stays}
use Rattle.pass_engine.proofs.Keeping.{seat_of_given_up}
use Rattle.pass_engine.proofs.still.StillEngine.give_up.Goals as goal

pub invariant_of-self : goal.invariant_of-self
invariant_of-self g c =
    let k = c.self.inside in
    let old = engine_of k.boxes.items k.sched k.given_up in
    let core = c.seat.inside.core in
    let after = c.give_up.new.self in
    let by_is : first_to old.given_up core.number ≡ c.first_of-self-inside.result =
    ap (λ (n : ℕ). first_to old.given_up n) (sym c.number-number.ensures)
    ∙ sym c.first_of-self-inside.ensures in (
      c.self.invariant.0,
      subst (λ (h : Option ℕ). IsEngine g.N.EngineNames.names (with_sched old old.sched h)) by_is
          (gave_up_kept g.N.EngineNames.names old core.number c.self.invariant.1),
    )

pub invariant_of-seat : goal.invariant_of-seat
invariant_of-seat g c = torn_worker c.seat.inside.core c.give_up.new.self c.give_up.ensures.torn

pub returns-clause-gave : goal.returns-clause-gave
returns-clause-gave g c =
    let k = c.self.inside in
    let old = engine_of k.boxes.items k.sched k.given_up in
    let core = c.seat.inside.core in
    let after = c.give_up.new.self in
    let by_is : first_to old.given_up core.number ≡ c.first_of-self-inside.result =
    ap (λ (n : ℕ). first_to old.given_up n) (sym c.number-number.ensures)
    ∙ sym c.first_of-self-inside.ensures in
    let next = with_sched old old.sched (first_to old.given_up core.number) in
    let gave : GaveUp old next core after = record {
      new_is = refl;
      tears = c.give_up.ensures.torn;
      passes = c.give_up.ensures.same.0;
      places = c.give_up.ensures.same.1;
      note = c.give_up.ensures.same.2;
    } in
    told (λ (e f : EngineState) (s : SeatState). GaveUp e f s after)
    (λ (h : Option ℕ). with_sched old old.sched h) old
    c.args.self.now core c.args.seat.now
    (first_to old.given_up core.number) c.first_of-self-inside.result c.self.view_is
    c.seat.view_is by_is gave

pub returns-clause-seat : goal.returns-clause-seat
returns-clause-seat g c =
    let k = c.self.inside in
    let old = engine_of k.boxes.items k.sched k.given_up in
    let core = c.seat.inside.core in
    let after = c.give_up.new.self in
    let by_is : first_to old.given_up core.number ≡ c.first_of-self-inside.result =
    ap (λ (n : ℕ). first_to old.given_up n) (sym c.number-number.ensures)
    ∙ sym c.first_of-self-inside.ensures in
    let first = first_given old.given_up core.number in
    seat_of_given_up (with_sched old old.sched c.first_of-self-inside.result) after
    (first.0, sym by_is ∙ first.1)

pub returns-clause-others : goal.returns-clause-others
returns-clause-others g c =
    let k = c.self.inside in
    let old = engine_of k.boxes.items k.sched k.given_up in
    let core = c.seat.inside.core in
    let after = c.give_up.new.self in
    let by_is : first_to old.given_up core.number ≡ c.first_of-self-inside.result =
    ap (λ (n : ℕ). first_to old.given_up n) (sym c.number-number.ensures)
    ∙ sym c.first_of-self-inside.ensures in
    told (λ (e f : EngineState) (s : SeatState). StaysGivenUp e f)
    (λ (h : Option ℕ). with_sched old old.sched h) old
    c.args.self.now core c.args.seat.now
    (first_to old.given_up core.number) c.first_of-self-inside.result c.self.view_is
    c.seat.view_is by_is (gave_up_stays old core.number)
