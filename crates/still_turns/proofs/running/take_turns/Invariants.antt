use Rattle.still_turns.specs.Workings.{HasWorked}
use Rattle.still_turns.proofs.running.take_turns.Given as goal

abbrev pub invariant-loop-turn : goal.invariant-loop-turn
invariant-loop-turn g l =
    HasWorked g.N.EngineNames.names l.width l.digits l.turn l.engine l.seats.items l.hands
