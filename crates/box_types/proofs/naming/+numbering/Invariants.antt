use Rattle.std.proofs.Common.{◌≡◌, ◌++◌, drop, take, length}
use Rattle.box_types.specs.Namings.{body}
use Rattle.box_types.proofs.naming.+numbering.Given as goal

-- the statements so far and those that are left are all of them, and what was visible at the start still is
abbrev pub invariant-make_body-loop-statement : goal.invariant-make_body-loop-statement
invariant-make_body-loop-statement l = record {
  same : body l.home.cats.now l.home.own.now l.statements l.initial.scope ≡ record {
    part = l.made ++ (body l.home.cats.now l.home.own.now (drop l.statement-index l.statements)
        l.scope).part;
    scope = (body l.home.cats.now l.home.own.now (drop l.statement-index l.statements) l.scope).scope;
  };
  kept : take (length l.initial.scope.visible) l.scope.visible ≡ l.initial.scope.visible;
}
