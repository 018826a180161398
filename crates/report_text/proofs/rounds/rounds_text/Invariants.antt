-- The loop over the rounds that are shown.
use Rattle.report_text.proofs.RoundLemmas.{HasWritten}
use Rattle.report_text.proofs.rounds.rounds_text.Given as goal

-- the rounds so far are written, and the rest of the order begins with the next one
abbrev pub invariant-loop-round : goal.invariant-loop-round
invariant-loop-round l = HasWritten l.program l.order.list l.first_round l.round l.text l.rest
