-- The frame of a call is an entry frame of its procedure.
use Rattle.std.proofs.Common.{◌≡◌, ℕ, pos, if◌then◌else◌, List, [], ◌∷◌, ◌++◌, Option, Some, refl, sym}
use Rattle.std.proofs.Common.{ap, ◌∙◌, subst, append_assoc}
use Rattle.std.specs.Prelude.{slice_get}
use Rattle.seuss_program.specs.declared.program.Program.{Program}
use Rattle.seuss_program.specs.declared.tree.Ref.{Ref}
use Rattle.seuss_program.specs.declared.tree.Proc.{Proc}
use Rattle.seuss_program.specs.declared.state.Value.{Value}
use Rattle.seuss_program.specs.declared.state.Value.TheVariants as V
use Rattle.seuss_program.specs.Programs.{procedure_of}
use Rattle.seuss_program.specs.Attempts.{form_locals}
use Rattle.seuss_program.specs.Keeping.{AreOf, param_kinds}
use Rattle.method_code.specs.declared.method.Method.{Method}
use Rattle.method_code.specs.Codes.{compiled, number_of, method_code}
use Rattle.method_code.specs.Steps.{entry, locals_in}
use Rattle.method_code.specs.Frames.{HasSlots, IsPlace, Entry}
use Rattle.method_code.proofs.Places.{coded}
use Rattle.method_code.proofs.TypingLaws.{KindLaws}

-- the slots of an entry with arguments of the kinds of the parameters are slots of the procedure
pub entry_is_frame : KindLaws → (p : Program) (box number : ℕ) (q : Proc Ref) (args : List Value) →
    procedure_of p box number ≡ Some q → AreOf args (param_kinds q.params) →
    IsPlace q 0 (entry (compiled p) (number_of p box number) args).slots
entry_is_frame laws p box number q args there fit =
    let result : List Value = if q.gives then V.Int (pos 0) ∷ [] else [] in
    let same : args ++ locals_in (slice_get (compiled p) (number_of p box number))
    ≡ args ++ (method_code q).locals =
    ap (λ (o : Option Method). args ++ locals_in o) (coded p box number q there) in
    Entry refl (subst (λ vs. HasSlots q vs)
    (append_assoc args result (form_locals q.form) ∙ sym same) (laws.entry q args fit))
