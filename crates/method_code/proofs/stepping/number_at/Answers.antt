use Rattle.std.proofs.Common.{ap, ◌∙◌, pos}
use Rattle.std.specs.Prelude.{Option, unwrap_or}
use Rattle.std.proofs.lemmas.Option.{unwrap_or-slice_get}
use Rattle.seuss_program.specs.declared.state.Value.{Value}
use Rattle.seuss_program.specs.declared.state.Value.TheVariants.{Int}
use Rattle.seuss_program.specs.Values.{int_of}
use Rattle.method_code.proofs.stepping.number_at.Goals as goal

pub returns-in-None : goal.returns-in-None
returns-in-None c = ap (λ (o : Option Value). int_of (unwrap_or o (Int (pos 0)))) c.in-None.ensures.value
    ∙ ap int_of (unwrap_or-slice_get c.args.slots.now c.args.at (Int (pos 0)))
