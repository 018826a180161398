use Rattle.std.proofs.Common.{◌≡◌}
use Rattle.std.specs.Prelude.{replicate}
use Rattle.still_turns.specs.declared.hand.InHand.TheVariants.{Nothing}
use Rattle.still_turns.proofs.running.no_hands.Given as goal

abbrev pub invariant-loop : goal.invariant-loop
invariant-loop l = l.hands ≡ replicate l.counter Nothing
