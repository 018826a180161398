use Rattle.std.proofs.Common.{ap, ◌∙◌}
use Rattle.box_types.specs.Registers.{found}
use Rattle.box_types.proofs.registers.Register.number.Goals as goal

pub returns : goal.returns
returns g c =
    let register = c.args.self.now in
    c.copied.ensures ∙ (c.get.ensures.value ∙ (ap (λ text. found register.numbers text) c.as_bytes.ensures
    ∙ register.are_numbers.number c.args.name.now.text))
