use Rattle.std.proofs.Common.{◌≡◌, cond, None, Some, false, sym, subst, ◌∙◌}
use Rattle.std.specs.Option.{is_some}
use Rattle.std.specs.Str.{bytes_eq}
use Rattle.box_types.specs.Registers.{found}
use Rattle.box_types.specs.Scopes.{or_else}
use Rattle.box_types.proofs.Registered.{taken}
use Rattle.box_types.proofs.registers.note.Goals as goal

pub returns-in-Ok : goal.returns-in-Ok
returns-in-Ok c =
    let key = c.as_bytes-text.result in let old = c.args.numbers.now in let new = c.insert.new.self in
    let none : is_some (found old key.now) ≡ false = sym c.contains_key.ensures ∙ c.if-contains_key.false in
    record {
      noted = λ text.
          let is = c.in-Ok.ensures.updates.0 (record { ref_ptr = key.ref_ptr; now = text }) in
          subst (λ x. found new text ≡ or_else (found old text)
          (cond (bytes_eq x text) (Some c.args.number) None))
          c.as_bytes-text.ensures (taken old (found new text) key.now text c.args.number none is);
    }
