use Rattle.std.proofs.Common.{sym, subst}
use Rattle.shared_engine.specs.Rings.{AreTurns}
use Rattle.shared_engine.proofs.Seating.{turns_push}
use Rattle.shared_engine.proofs.open_turn.push_turn.Goals as goal

pub returns-clause-are : goal.returns-clause-are
returns-clause-are g c =
    subst (AreTurns g.N.EngineNames.names) (sym c.in_ok-push.ensures.items)
    (turns_push g.N.EngineNames.names c.args.turns.now.items c.args.turn c.requires.are c.requires.next)
