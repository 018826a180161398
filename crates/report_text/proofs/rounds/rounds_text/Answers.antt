-- The rounds are written one after the other, up to the last one that is shown.
use Rattle.std.proofs.Common.{arith}
use Rattle.report_text.proofs.RoundLemmas.{written_start, written_more, written_all}
use Rattle.report_text.proofs.rounds.rounds_text.Goals as goal

pub loop-round-init : goal.loop-round-init
loop-round-init c =
    written_start _ _ _ _ _ c.requires.lawful.rising c.new-text.ensures c.as_slice-rest.ensures

pub loop-round-preserved : goal.loop-round-preserved
loop-round-preserved c =
    written_more _ _ _ _ _ _ _ _ _ _ _ _ c.loop-round.invariant c.slots-slots.ensures
    c.run_of_round.ensures.run c.split_at.ensures.front c.split_at.ensures.back c.in_ok-push_head.ensures
    c.in_ok-push_attempts.ensures

pub returns : goal.returns
returns c =
    written_all _ _ _ _ _ _ _ _ _ _ c.loop-round.invariant c.slots-slots.ensures c.as_slice-rest.ensures
    c.rounds_shown-round-end.ensures.shown (omega arith)
