-- Turns of workers at an engine, one after another.
use Rattle.std.specs.Prelude.{◌≡◌, ℕ, List, Option}
use Rattle.pass_seats.specs.Names.{Names}
use Rattle.pass_seats.specs.Seats.{SeatState}
use Rattle.pass_engine.specs.Engines.{EngineState}
use Rattle.turn_runs.specs.declared.hand.Hand.{Hand}
use Rattle.turn_runs.specs.declared.run.Run.{Run}
use Rattle.turn_runs.specs.RunStates.{HasTurned}
use Rattle.still_turns.specs.declared.hand.InHand.{InHand}
use Rattle.still_turns.specs.Shown.{Shows}

-- After so many turns of so many workers the engine shows a run by these turns.
pub record HasWorked (names : Names) (width : ℕ) (digits : List ℕ) (turns : ℕ) (e : EngineState)
    (seats : List SeatState) (held : List InHand) : Type 0 where
  pub workers : names.seats ≡ width
  pub run : Run
  pub hands : List (Option Hand)
  pub turned : HasTurned names.setting names.first width digits turns run hands
  pub shows : Shows names e seats held run hands
