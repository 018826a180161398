use Rattle.std.proofs.Common.{◌≡◌, ℕ, ◌+◌, List, [], ◌∷◌, ◌++◌, length, ap, sym, ◌∙◌, subst, arith, append_assoc, length-append}
use Rattle.std.specs.Vec.Iter.{into_iter_items}
use Rattle.box_turn.specs.Seats as T
use Rattle.ready_queue.specs.Seats as Q
use Rattle.pass_seats.specs.Seats.{SeatState}
use Rattle.shared_engine.specs.Rings.{AreTurns, ring_with}
use Rattle.shared_engine.specs.Beginnings.{AreNewSeats, IsNewSeat}
use Rattle.shared_engine.proofs.Seating.{next_at, none_left, own_fresh, seats_push}
use Rattle.shared_engine.proofs.making.seat_all.Goals as goal

pub seat_one-requires-clause-core : goal.seat_one-requires-clause-core
seat_one-requires-clause-core g c =
    let ys = c.loop-core.yielded in
    let x = c.in-Some.core in
    let i = c.loop-core.invariant in
    let here = next_at ys (into_iter_items c.loop-core.core-iterator) (into_iter_items c.next.new.self)
    c.args.cores.items x i.rest c.in-Some.ensures.steps.0 in
    own_fresh (length ys) x (c.requires.cores.each (length ys) x here)

pub seat_one-requires-clause-turns : goal.seat_one-requires-clause-turns
seat_one-requires-clause-turns g c =
    subst (AreTurns g.N.EngineNames.names) (sym c.loop-core.invariant.turns) c.requires.turns

pub seat_one-requires-clause-many : goal.seat_one-requires-clause-many
seat_one-requires-clause-many g c =
    ap length c.loop-core.invariant.turns ∙ c.requires.many

pub seat_one-requires-clause-queue : goal.seat_one-requires-clause-queue
seat_one-requires-clause-queue g c = ap (λ (q : Q.FirstState). q.queue) c.loop-core.invariant.line

pub seat_one-requires-clause-number : goal.seat_one-requires-clause-number
seat_one-requires-clause-number g c =
    let ys = c.loop-core.yielded in
    let x = c.in-Some.core in
    let i = c.loop-core.invariant in
    let here = next_at ys (into_iter_items c.loop-core.core-iterator) (into_iter_items c.next.new.self)
    c.args.cores.items x i.rest c.in-Some.ensures.steps.0 in
    (c.requires.cores.each (length ys) x here).number_is ∙ sym (ap (λ (q : Q.FirstState). q.given) i.line)

pub loop-core-preserved : goal.loop-core-preserved
loop-core-preserved g c =
    let ys = c.loop-core.yielded in
    let x = c.in-Some.core in
    let rest = into_iter_items c.next.new.self in
    let i = c.loop-core.invariant in
    let s = c.in_ok-seat_one.field-0 in
    let all : ys ++ x ∷ rest ≡ c.args.cores.items =
    sym (ap (λ (l : List SeatState). ys ++ l) c.in-Some.ensures.steps.0) ∙ i.rest in
    let here = next_at ys (into_iter_items c.loop-core.core-iterator) rest c.args.cores.items x i.rest
    c.in-Some.ensures.steps.0 in
    let len : length ys + 1 ≡ length (ys ++ x ∷ []) = omega (arith, length-append ys (x ∷ [])) in
    let one_more : Q.FirstState → Q.FirstState = λ q. record q { given = q.given + 1 } in
    let view : ℕ → Q.FirstState = λ n. record { queue = c.args.queue.now; rows = []; given = n } in
    let ring = ring_with c.args.turns.now.items c.args.queue.now in
    let number : x.number ≡ length c.loop-core.seats.items =
    (c.requires.cores.each (length ys) x here).number_is ∙ sym i.many in
    let at : IsNewSeat ring x.number s =
    subst (λ (l : List (T.TurnState ℕ)). IsNewSeat (ring_with l c.args.queue.now) x.number s) i.turns
    c.in_ok-seat_one.ensures.seat in
    let new : IsNewSeat ring (length c.loop-core.seats.items) s =
    subst (λ (n : ℕ). IsNewSeat ring n s) number at in
    record {
      rest = append_assoc ys (x ∷ []) rest ∙ all;
      count = omega (arith, i.count, ap length c.in-Some.ensures.steps.0, c.in-Some.ensures.steps.1);
      turns = c.in_ok-seat_one.ensures.turns ∙ i.turns;
      line = c.in_ok-seat_one.ensures.line ∙ ap one_more i.line ∙ ap view len;
      seats = subst (AreNewSeats ring) (sym c.in_ok-push.ensures.items)
          (seats_push ring c.loop-core.seats.items s i.seats new);
      many = ap length c.in_ok-push.ensures.items ∙ omega (
        arith,
        length-append c.loop-core.seats.items (s ∷ []),
        i.many,
        len,
      );
    }

pub returns : goal.returns
returns g c =
    let i = c.loop-core.invariant in
    let ys = c.loop-core.yielded in
    let rest = into_iter_items c.loop-core.core-iterator in
    let none : length rest ≡ 0 = sym i.count ∙ c.in-None.ensures.steps.0 in
    let view : ℕ → Q.FirstState = λ n. record { queue = c.args.queue.now; rows = []; given = n } in
    let len : length ys ≡ length c.args.cores.items =
    ap length (none_left ys rest c.args.cores.items i.rest none) in
    record {
      turns = i.turns;
      line = i.line ∙ ap view len;
      seats = i.seats;
      many = i.many ∙ len;
    }
