use Rattle.std.proofs.Common.{◌≡◌, drop}
use Rattle.box_types.specs.Namings.{with_params}
use Rattle.box_types.proofs.naming_cats.declare_params.Given as goal

abbrev pub invariant-loop-param : goal.invariant-loop-param
invariant-loop-param l = with_params (drop l.param-index l.params) l.scope
    ≡ with_params l.params l.initial.scope
