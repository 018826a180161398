-- What holds of a statement, by its layers.
use Rattle.std.proofs.Common.{◌≡◌, Bool, true, false, IsTrue, List, [], ◌∷◌, map, refl, sym, ap, true≢false}
use Rattle.std.specs.Prelude.{◌&&◌}
use Rattle.seuss_program.specs.declared.tree.Ref.{Ref}
use Rattle.seuss_program.specs.declared.tree.Call.{Call}
use Rattle.seuss_program.specs.declared.tree.Statement.{Statement, fold-roll-Statement, map-Statement}
use Rattle.seuss_program.specs.declared.tree.Statement.{roll-Statement}
use Rattle.seuss_program.specs.declared.tree.Statement.TheOpen.{Statement-F}
use Rattle.seuss_program.specs.declared.tree.Statement.TheShapes.{former-Statement-If-1}
use Rattle.seuss_program.specs.Lines.{calls_of, calls_step}
use Rattle.seuss_program.specs.Keeping as K
use Rattle.seuss_program.specs.Keeping.{Scope, statement_fits}
use Rattle.method_code.specs.declared.instruction.Instruction.{Instruction}
use Rattle.method_code.specs.Codes.{code_of, code_step}

pub and_left : (b c : Bool) → IsTrue (b && c) → IsTrue b
and_left true c h = refl
and_left false c h = h

pub and_right : (b c : Bool) → IsTrue (b && c) → IsTrue c
and_right true c h = h
and_right false c h = absurd (true≢false (sym h))

-- a function of each of the statements inside a statement
abbrev pub each : {A B : Type 0} → (A → B) → List A → List B
each {A} {B} f xs = (former-Statement-If-1 Ref).map A B f xs

pub each_each : {A B C : Type 0} (f : A → B) (g : B → C) (xs : List A) → each g (each f xs) ≡ map
    (λ x. g (f x)) xs
each_each f g [] = refl
each_each f g (x ∷ xs) = ap (λ l. g (f x) ∷ l) (each_each f g xs)

pub code-layer : (d : Statement-F Ref (Statement Ref)) →
    code_of (roll-Statement Ref d) ≡ code_step (map-Statement Ref (Statement Ref) (List Instruction) code_of
    d)
unfolding code_of
code-layer d = fold-roll-Statement Ref (List Instruction) code_step d

pub calls-layer : (d : Statement-F Ref (Statement Ref)) →
    calls_of (roll-Statement Ref d) ≡ calls_step (map-Statement Ref (Statement Ref)
    (List (Call Ref)) calls_of d)
unfolding calls_of
calls-layer d = fold-roll-Statement Ref (List (Call Ref)) calls_step d

pub fits-layer : (s : Scope) (d : Statement-F Ref (Statement Ref)) →
    statement_fits s (roll-Statement Ref d)
    ≡ K.statement_step s (map-Statement Ref (Statement Ref) Bool (statement_fits s) d)
unfolding statement_fits
fits-layer s d = fold-roll-Statement Ref Bool (K.statement_step s) d
