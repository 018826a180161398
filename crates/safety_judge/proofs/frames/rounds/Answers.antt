use Rattle.std.proofs.Common.{◌≤◌, length, rules}
use Rattle.safety_judge.proofs.FrameLaws.{rounds-end}
use Rattle.safety_judge.proofs.frames.rounds.Goals as goal

pub returns-in_default : goal.returns-in_default
returns-in_default c =
    let past : length c.args.ys.now ≤ c.loop-at.at = search rules in
    rounds-end c.args.xs.now c.args.ys.now c.loop-at.both _ c.loop-at.at past c.loop-at.invariant
