-- What a worker was told of the end of the run.
use Rattle.std.proofs.Common.{true, false, refl, ap}
use Rattle.std.specs.Prelude.{◌↔◌, IsTrue}
use Rattle.round_ledger.specs.declared.standing.Standing.TheVariants as V
use Rattle.round_ledger.specs.declared.standing.Standing.{Standing}
use Rattle.round_ledger.specs.Cells.{HasEnded}
use Rattle.pass_seats.specs.Seats.{SeatState}
use Rattle.pass_engine.specs.Engines.{EngineState}
use Rattle.pass_engine.specs.Calls.{StandingTold}
use Rattle.still_turns.specs.WorkerTurns.{IsSameWorker}

module _ (e : EngineState) (seat after : SeatState) where
  -- the worker's seat has the same passes
  pub same_worker : (answer : Standing) → StandingTold e seat after answer → IsSameWorker seat after
  same_worker answer told =
      let is = told.stands.new_is in
      record {
        number = ap (λ (s : SeatState). s.number) is;
        torn = ap (λ (s : SeatState). s.torn) is;
        passes = ap (λ (s : SeatState). s.passes) is;
      }

  -- it was told that the run has ended
  pub told_ended : StandingTold e seat after V.Ended → IsTrue true ↔ HasEnded e.sched.setting e.sched.machine
  told_ended told = ((λ yes. told.stands.stands), (λ over. refl))

  -- it was told that the run goes on
  pub told_going : StandingTold e seat after V.Going → IsTrue false ↔ HasEnded e.sched.setting e.sched.machine
  told_going told = ((λ yes. absurd (cc yes)), (λ over. absurd (told.stands.stands over)))
