-- The loop that counts the attempts of a round.
use Rattle.std.proofs.Common.{◌≡◌, ◌+◌, ◌/◌, ◌==◌, drop}
use Rattle.std.specs.List.{prefix_len}
use Rattle.seuss_program.specs.declared.order.Placed.{Placed}
use Rattle.report_text.proofs.rounds.run_of_round.Given as goal

-- the entries so far are of the round
abbrev pub invariant-loop-at : goal.invariant-loop-at
invariant-loop-at l = prefix_len (λ (e : Placed). e.attempt / l.slots == l.round) l.order
    ≡ l.at + prefix_len (λ (e : Placed). e.attempt / l.slots == l.round) (drop l.at l.order)
