use Rattle.std.proofs.Common.{◌≡◌, ◌++◌, drop}
use Rattle.seuss_program.specs.Attempts.{tight}
use Rattle.tight_order.proofs.tight.Given as goal

-- the outcomes so far and those of what is left are those of all, and what is left ends with the same state
abbrev pub invariant-loop-action : goal.invariant-loop-action
invariant-loop-action l = record {
  told : l.list ++ (tight l.program (drop l.action-index l.order) l.state l.budget).outcomes
      ≡ (tight l.program l.order l.initial.state l.budget).outcomes;
  left : (tight l.program (drop l.action-index l.order) l.state l.budget).state
      ≡ (tight l.program l.order l.initial.state l.budget).state;
}
