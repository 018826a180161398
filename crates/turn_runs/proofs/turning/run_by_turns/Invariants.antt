use Rattle.turn_runs.specs.RunStates.{HasTurned}
use Rattle.loose_records.specs.Settings.{setting_of}
use Rattle.turn_runs.proofs.turning.run_by_turns.Given as goal

abbrev pub invariant-loop-turn : goal.invariant-loop-turn
invariant-loop-turn l =
    HasTurned (setting_of l.program l.fn.rows l.rounds l.budget) l.fn.state l.width l.digits l.turn l.run
    l.hands
