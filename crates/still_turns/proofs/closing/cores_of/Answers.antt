use Rattle.std.proofs.Common.{List, [], ◌∷◌, ◌++◌, ap, ◌∙◌}
use Rattle.std.proofs.lemmas.List.Elements.{All-push}
use Rattle.pass_seats.specs.Seats.{IsSeat, SeatState}
use Rattle.still_turns.proofs.closing.cores_of.Goals as goal

pub loop-seat-preserved : goal.loop-seat-preserved
loop-seat-preserved g c =
    let i = c.loop-seat.invariant in
    let ys = c.loop-seat.yielded in
    let s = c.in-Some.seat in
    let made = c.core_of in
    record {
      cores = c.in_ok-push.ensures.items
          ∙ ap (λ (l : List SeatState). l ++ made.result ∷ []) i.cores
          ∙ ap (λ (t : SeatState). ys ++ t ∷ []) made.ensures.core;
      seats = All-push (IsSeat g.N.EngineNames.names) ys s i.seats made.ensures.seat;
    }
