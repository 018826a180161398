-- The code of a statement, by its parts.
use Rattle.std.proofs.Common.{◌≡◌, List, [], ◌∷◌, ◌++◌, map, Option, refl, sym, ap, ◌∙◌}
use Rattle.std.specs.List.{flat_map}
use Rattle.seuss_program.specs.declared.tree.Ref.{Ref}
use Rattle.seuss_program.specs.declared.tree.Kind.{Kind}
use Rattle.seuss_program.specs.declared.tree.Call.{Call}
use Rattle.seuss_program.specs.declared.tree.Expr.{Expr}
use Rattle.seuss_program.specs.declared.tree.Statement.{Statement, fold-roll-Statement}
use Rattle.seuss_program.specs.declared.tree.Statement.{map-Statement, roll-Statement}
use Rattle.seuss_program.specs.declared.tree.Statement.TheVariants as SV
use Rattle.seuss_program.specs.declared.tree.Statement.TheVariants.{rolls-Let, rolls-Assign, rolls-Call}
use Rattle.seuss_program.specs.declared.tree.Statement.TheVariants.{rolls-If, rolls-While}
use Rattle.seuss_program.specs.declared.tree.Statement.TheOpen as S
use Rattle.seuss_program.specs.declared.tree.Statement.TheOpen.{Statement-F}
use Rattle.seuss_program.specs.declared.tree.Statement.TheShapes.{former-Statement-If-1}
use Rattle.method_code.specs.declared.instruction.Instruction.{Instruction}
use Rattle.method_code.specs.declared.instruction.Instruction.TheVariants as I
use Rattle.method_code.specs.Codes.{call_code, joined, if_code, while_code, code_step, code_of}

-- a function of each of the statements inside a statement
abbrev pub each : {A B : Type 0} → (A → B) → List A → List B
each {A} {B} f xs = (former-Statement-If-1 Ref).map A B f xs

-- one function of each after another one
pub each_each : {A B C : Type 0} (f : A → B) (g : B → C) (xs : List A) →
    each g (each f xs) ≡ map (λ x. g (f x)) xs
each_each f g [] = refl
each_each f g (x ∷ xs) = ap (λ l. g (f x) ∷ l) (each_each f g xs)

-- the codes of statements, put together
each_code : (ss : List (Statement Ref)) → joined (each code_of ss) ≡ flat_map code_of ss
each_code [] = refl
each_code (s ∷ ss) = ap (λ is. code_of s ++ is) (each_code ss)

-- the code of a statement, by the codes of those inside it
pub code-layer : (d : Statement-F Ref (Statement Ref)) →
    code_of (roll-Statement Ref d)
    ≡ code_step (map-Statement Ref (Statement Ref) (List Instruction) code_of d)
unfolding code_of
code-layer d = fold-roll-Statement Ref (List Instruction) code_step d

module _ (s : Statement Ref) where
  -- the code of a declared name
  pub code-Let : (name : Ref) (kind : Kind) (e : Expr Ref) → s ≡ SV.Let name kind e →
      code_of s ≡ I.Set name e ∷ []
  code-Let name kind e h = ap code_of (h ∙ sym (rolls-Let name kind e)) ∙ code-layer (S.Let name kind e)

  -- the code of an assignment
  pub code-Assign : (name : Ref) (e : Expr Ref) → s ≡ SV.Assign name e → code_of s ≡ I.Set name e ∷ []
  code-Assign name e h = ap code_of (h ∙ sym (rolls-Assign name e)) ∙ code-layer (S.Assign name e)

  -- the code of a call
  pub code-Call : (name : Option Ref) (call : Call Ref) → s ≡ SV.Call name call →
      code_of s ≡ I.Call (call_code call) ∷ I.Take name ∷ []
  code-Call name call h = ap code_of (h ∙ sym (rolls-Call name call)) ∙ code-layer (S.Call name call)

  -- the code of a choice
  pub code-If : (cond : Expr Ref) (holds fails : List (Statement Ref)) → s ≡ SV.If cond holds fails →
      code_of s ≡ if_code cond (flat_map code_of holds) (flat_map code_of fails)
  code-If cond holds fails h =
      ap code_of (h ∙ sym (rolls-If cond holds fails))
      ∙ (code-layer (S.If cond holds fails)
      ∙ (ap (λ is. if_code cond is (joined (each code_of fails))) (each_code holds)
      ∙ ap (λ is. if_code cond (flat_map code_of holds) is) (each_code fails)))

  -- the code of a loop
  pub code-While : (cond : Expr Ref) (turn : List (Statement Ref)) → s ≡ SV.While cond turn →
      code_of s ≡ while_code cond (flat_map code_of turn)
  code-While cond turn h = ap code_of (h ∙ sym (rolls-While cond turn))
      ∙ (code-layer (S.While cond turn) ∙ ap (λ is. while_code cond is) (each_code turn))
