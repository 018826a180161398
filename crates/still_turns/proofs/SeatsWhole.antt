-- The seats of workers, with their cores, as all seats of an engine.
use Rattle.std.proofs.Common.{◌≡◌, List, All, true, false, subst, sym, ◌∙◌}
use Rattle.std.proofs.lemmas.Option.{slice_get_within, get_or_from_slice_get}
use Rattle.pass_seats.specs.Names.{Names}
use Rattle.pass_seats.specs.Seats.{SeatState, IsSeat}
use Rattle.pass_gather.specs.Given.{AreSeats}
use Rattle.pass_engine.specs.Engines.{EngineState, IsSeatOf}
use Rattle.still_turns.specs.Shown.{AreWorkers}

-- workers' seats are all seats of their engine
pub seats_are : (names : Names) (seats : List SeatState) → All (IsSeat names) seats →
    AreWorkers names.seats seats → AreSeats names seats
seats_are names seats are workers = record {
  many = workers.all;
  each = λ w s at.
      let is : IsSeat names s = subst (IsSeat names) (get_or_from_slice_get seats w s s at)
      (are w s (slice_get_within seats w s at)) in
      let worker = workers.each w s at in
      record {
        number_is = worker.0;
        seat = is;
        untorn = worker.1;
        unmarked = is.unmarked worker.1;
      };
}

-- a seat that isn't torn is one of any engine
pub untorn_of : (e : EngineState) (s : SeatState) → s.torn ≡ false → IsSeatOf e s
untorn_of e s whole = record { torn = λ torn. let both : true ≡ false = sym torn ∙ whole in absurd (cc both) }
