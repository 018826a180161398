use Rattle.std.proofs.Common.{◌≡◌, ℕ, subst, arith}
use Rattle.compat_matrix.specs.Members.{IsOnTheWay}
use Rattle.compat_matrix.proofs.members.add_round.Goals as goal

pub returns-clause-way : goal.returns-clause-way
returns-clause-way c = λ a round way.
    let last : c.loop-at.at ≡ c.args.end = omega (arith, c.requires.first) in
    subst (λ (at : ℕ). IsOnTheWay c.args.program.now a c.loop-at.members at c.args.end round) last
    (c.loop-at.invariant.way a round way)
