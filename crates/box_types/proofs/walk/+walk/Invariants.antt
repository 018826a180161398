use Rattle.std.proofs.Common.{◌≡◌, drop, take, length}
use Rattle.box_types.specs.Faults.{test_of}
use Rattle.box_types.specs.Walks.{body}
use Rattle.box_types.proofs.walk.+walk.Given as goal

-- what is left to walk gives the same as the whole, and what was visible at the start still is
abbrev pub invariant-walk_body-loop-statement : goal.invariant-walk_body-loop-statement
invariant-walk_body-loop-statement l = record {
  same : body (test_of l.check) l.home.cats.now l.home.own.now l.home.number
      (drop l.statement-index l.statements) l.scope
      ≡ body (test_of l.check) l.home.cats.now l.home.own.now l.home.number l.statements l.initial.scope;
  kept : take (length l.initial.scope.visible) l.scope.visible ≡ l.initial.scope.visible;
}
