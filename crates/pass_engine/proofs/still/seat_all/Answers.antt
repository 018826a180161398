use Rattle.std.proofs.Common.{◌≡◌, List, [], ◌∷◌, ◌++◌, length, ap, sym, ◌∙◌, arith}
use Rattle.std.proofs.Common.{append_assoc}
use Rattle.std.specs.Vec.Iter.{into_iter_items}
use Rattle.pass_seats.specs.Seats.{SeatState}
use Rattle.pass_engine.proofs.Beginning.{next_fresh, none_left}
use Rattle.pass_engine.proofs.still.seat_all.Goals as goal

pub seat_over-requires : goal.seat_over-requires
seat_over-requires g c =
    let ys = c.loop-core.yielded in
    let rest = into_iter_items c.next.new.self in
    let all : ys ++ c.in-Some.core ∷ rest ≡ c.args.cores.items =
    sym (ap (λ (l : List SeatState). ys ++ l) c.in-Some.ensures.steps.0) ∙ c.loop-core.invariant.rest in
    next_fresh ys rest c.args.cores.items c.in-Some.core all c.requires

pub loop-core-preserved : goal.loop-core-preserved
loop-core-preserved g c =
    let ys = c.loop-core.yielded in
    let x = c.in-Some.core in
    let rest = into_iter_items c.next.new.self in
    let i = c.loop-core.invariant in
    let all : ys ++ x ∷ rest ≡ c.args.cores.items =
    sym (ap (λ (l : List SeatState). ys ++ l) c.in-Some.ensures.steps.0) ∙ i.rest in
    record {
      rest = append_assoc ys (x ∷ []) rest ∙ all;
      count = omega (arith, i.count, ap length c.in-Some.ensures.steps.0, c.in-Some.ensures.steps.1);
      seats = c.in_ok-push.ensures.ok
          ∙ ap (λ (s : SeatState). c.loop-core.seats ++ s ∷ []) c.seat_over.ensures
          ∙ ap (λ (l : List SeatState). l ++ x ∷ []) i.seats;
    }

pub returns : goal.returns
returns g c =
    let i = c.loop-core.invariant in
    let rest = into_iter_items c.loop-core.core-iterator in
    i.seats ∙ none_left c.loop-core.yielded rest c.args.cores.items i.rest
    (sym i.count ∙ c.in-None.ensures.steps.0)
