use Rattle.std.proofs.Common.{◌≡◌, List, [], ◌∷◌, ◌++◌, ap, sym, ◌∙◌, subst, map}
use Rattle.std.proofs.lemmas.List.{map-append}
use Rattle.std.proofs.lemmas.List.Elements.{All-push}
use Rattle.pass_seats.specs.Desks.{SchedDeskState}
use Rattle.pass_seats.specs.Seats.{SeatState}
use Rattle.pass_seats.specs.Starts.{sees_sched}
use Rattle.pass_engine.specs.Gathering.{SeesAll, seen_with}
use Rattle.pass_engine.proofs.gathering.see_all.Goals as goal

pub loop-seat-preserved : goal.loop-seat-preserved
loop-seat-preserved g c =
    let i = c.loop-seat.invariant in
    let ys = c.loop-seat.yielded in
    let s = c.in-Some.seat in
    let log = c.args.desk.now.cell.journal.log in
    let made = c.see_list in
    let core_is : made.result ≡ sees_sched s log =
    made.ensures.core ∙ ap (λ (d : SchedDeskState). sees_sched s d.cell.journal.log) i.desk in
    record {
      desk = made.ensures.desk ∙ i.desk;
      cores = c.in_ok-push.ensures.items
          ∙ ap (λ (l : List SeatState). l ++ made.result ∷ []) i.cores
          ∙ ap (λ (t : SeatState). map (seen_with log) ys ++ t ∷ []) core_is
          ∙ sym (map-append (seen_with log) ys (s ∷ []));
      sees = All-push (SeesAll g.N.EngineNames.names log) ys s i.sees
          (subst (λ (d : SchedDeskState). SeesAll g.N.EngineNames.names d.cell.journal.log s) i.desk
          made.ensures.sees);
    }
