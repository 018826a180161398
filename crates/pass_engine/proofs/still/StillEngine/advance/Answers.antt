use Rattle.std.proofs.Common.{ℕ, subst}
use Rattle.std.specs.Prelude.{IfOk}
use Rattle.pass_seats.specs.Slots.{MayGoOn}
use Rattle.pass_engine.proofs.Stepping.{step_next}
use Rattle.pass_engine.proofs.still.StillEngine.advance.Goals as goal

pub returns-in-None-clause-next : goal.returns-in-None-clause-next
returns-in-None-clause-next g c =
    subst (λ (slot : ℕ). IfOk c.advance_going.result (λ progress. MayGoOn progress c.advance_going.new.seat slot))
    c.slot.ensures
    (step_next c.passes_go_on.ensures.stepped g.N.EngineNames.names g.N.EngineNames.names.setting.program
    g.N.CellNames.code g.N.CellNames.first c.args.self.now c.advance_going.new.self c.args.seat.now
    c.advance_going.new.seat c.slot.result c.advance_going.result c.facts.ensures.seat c.requires.of
    c.advance_going.ensures.made)
