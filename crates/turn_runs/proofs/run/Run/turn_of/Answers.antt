use Rattle.std.proofs.Common.{None}
use Rattle.turn_runs.proofs.ListLemmas.{put_back}
use Rattle.turn_runs.proofs.run.Run.turn_of.Goals as goal

pub returns-clause-turn : goal.returns-clause-turn
returns-clause-turn c = λ p made. (
  c.replace-hand.result,
  c.in_ok-after.after,
  c.replace-hand.ensures.value,
  put_back c.args.hands.now c.replace-hand.new.self c.set.new.self c.args.worker None c.in_ok-after.after
      c.replace-hand.ensures.after c.set.ensures,
  c.in_ok-after.ensures.turn p made,
)
