-- The calls of a text whose method is of the wrong form: a partial one in a body, or a total one as a
-- preprocedure.
use Rattle.std.specs.Prelude.{ℕ, Bool, true, false, if◌then◌else◌, List, [], ◌∷◌, ◌++◌, Option, None, Some}
use Rattle.std.specs.Prelude.{option_and_then}
use Rattle.std.specs.List.{flat_map}
use Rattle.seuss_program.specs.declared.tree.Name.{Name}
use Rattle.seuss_program.specs.declared.tree.Given.{Given}
use Rattle.seuss_program.specs.declared.tree.Call.{Call}
use Rattle.seuss_program.specs.declared.tree.Pre.{Pre}
use Rattle.seuss_program.specs.declared.tree.Statement.{Statement, fold-Statement}
use Rattle.seuss_program.specs.declared.tree.Statement.TheOpen as S
use Rattle.seuss_program.specs.declared.tree.Statement.TheOpen.{Statement-F}
use Rattle.seuss_program.specs.declared.tree.Alternative.{Alternative}
use Rattle.seuss_program.specs.declared.tree.Form.{Form}
use Rattle.seuss_program.specs.declared.tree.Form.TheVariants as F
use Rattle.seuss_program.specs.declared.tree.Proc.{Proc}
use Rattle.seuss_program.specs.declared.tree.Cat.{Cat}
use Rattle.seuss_program.specs.declared.tree.Tree.{Tree}
use Rattle.box_types.specs.Scopes.{named}
use Rattle.box_types.specs.BuiltInTexts.{with_built_ins}

module _ {N : Type 0} where
  -- a procedure of this name
  abbrev pub procedure_in : Name → Cat N → Option (Proc N)
  procedure_in name c = named (λ (q : Proc N). q.name) c.procs name

  -- a procedure of this name in the cat of a given box
  abbrev pub procedure_of : List (Cat N) → Name → Given Name → Option (Proc N)
  procedure_of cats name g = option_and_then (procedure_in name) (named (λ (c : Cat N). c.name) cats g.cat)

  -- the method that a call names, in the cat of the given box that it names
  abbrev pub called : List (Cat N) → List (Given Name) → Call Name → Option (Proc N)
  called cats given c = option_and_then (procedure_of cats c.method)
      (named (λ (g : Given Name). g.name) given c.target)

  -- whether a procedure is a total method
  abbrev pub is_total : Form N → Bool
  is_total (F.Total ss) = true
  is_total (F.Partial alts) = false
  is_total (F.Action alts) = false

  -- whether a procedure is a partial method
  abbrev pub is_partial : Form N → Bool
  is_partial (F.Total ss) = false
  is_partial (F.Partial alts) = true
  is_partial (F.Action alts) = false

  -- the line of a name, where the procedure that it stands for is of this form
  abbrev pub line_where : (Form N → Bool) → Option (Proc N) → Name → List ℕ
  line_where form None name = []
  line_where form (Some q) name = if form q.form then name.line ∷ [] else []

  -- the line of a call, where the method that it names is of this form
  abbrev pub lines_of : List (Cat N) → List (Given Name) → (Form N → Bool) → Call Name → List ℕ
  lines_of cats given form c = line_where form (called cats given c) c.method

-- what is found at the calls of a statement, by what is found in those inside it
abbrev pub calls_step : (Call Name → List ℕ) → Statement-F Name (List ℕ) → List ℕ
calls_step at (S.Let name kind e) = []
calls_step at (S.Assign name e) = []
calls_step at (S.Call bind c) = at c
calls_step at (S.If cond holds fails) = flat_map (λ lines. lines) holds ++ flat_map (λ lines. lines) fails
calls_step at (S.While cond turn) = flat_map (λ lines. lines) turn

-- what is found at the calls of a statement, in the order of the text
unfoldable pub in_statement : (Call Name → List ℕ) → Statement Name → List ℕ
in_statement at s = fold-Statement Name (List ℕ) (calls_step at) s

-- what is found at the calls of a body
abbrev pub in_body : (Call Name → List ℕ) → List (Statement Name) → List ℕ
in_body at ss = flat_map (in_statement at) ss

-- what is found at the calls in the bodies of a procedure
abbrev pub in_bodies : (Call Name → List ℕ) → Form Name → List ℕ
in_bodies at (F.Total ss) = in_body at ss
in_bodies at (F.Partial alts) = flat_map (λ (a : Alternative Name). in_body at a.body) alts
in_bodies at (F.Action alts) = flat_map (λ (a : Alternative Name). in_body at a.body) alts

-- what is found at a preprocedure, where there is one
abbrev pub in_pre : (Call Name → List ℕ) → Option (Pre Name) → List ℕ
in_pre at None = []
in_pre at (Some pre) = at pre.call

-- what is found at the preprocedures of a procedure
abbrev pub in_pres : (Call Name → List ℕ) → Form Name → List ℕ
in_pres at (F.Total ss) = []
in_pres at (F.Partial alts) = flat_map (λ (a : Alternative Name). in_pre at a.pre) alts
in_pres at (F.Action alts) = flat_map (λ (a : Alternative Name). in_pre at a.pre) alts

-- what is looked at in a procedure: the calls in its bodies, or its preprocedures
abbrev pub Inside : Type 0
Inside = (Call Name → List ℕ) → Form Name → List ℕ

-- what is found in procedures, by what is looked at in each
abbrev pub in_procedures : Inside → (Call Name → List ℕ) → List (Proc Name) → List ℕ
in_procedures inside at procs = flat_map (λ (q : Proc Name). inside at q.form) procs

-- the lines of calls in cats whose method is of the form that fails, by what is looked at in a procedure
abbrev pub in_cats : {N : Type 0} → List (Cat N) → Inside → (Form N → Bool) → List (Cat Name) → List ℕ
in_cats cats inside form owns = flat_map
    (λ (own : Cat Name). in_procedures inside (lines_of cats own.given form) own.procs) owns

-- the lines of the calls in bodies whose method is partial
abbrev pub partial_calls : Tree → List ℕ
partial_calls tree = in_cats (with_built_ins tree).cats in_bodies is_partial tree.cats

-- the lines of the preprocedures whose method is total
abbrev pub total_calls : Tree → List ℕ
total_calls tree = in_cats (with_built_ins tree).cats in_pres is_total tree.cats
