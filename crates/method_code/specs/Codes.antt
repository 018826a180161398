-- What a procedure is compiled to. Code is a list of instructions, whose jumps count instructions, so
-- the code of a statement is the same wherever it stands.
use Rattle.std.specs.Prelude.{ℕ, ◌+◌, pos, if◌then◌else◌, List, [], ◌∷◌, ◌++◌, length, map, take, slice_get}
use Rattle.std.specs.Prelude.{Option, None, Some}
use Rattle.std.specs.List.{flat_map}
use Rattle.seuss_program.specs.declared.tree.Ref.{Ref}
use Rattle.seuss_program.specs.declared.tree.Ref.TheVariants as R
use Rattle.seuss_program.specs.declared.tree.Expr.{Expr}
use Rattle.seuss_program.specs.declared.tree.Call.{Call}
use Rattle.seuss_program.specs.declared.tree.Pre.{Pre}
use Rattle.seuss_program.specs.declared.tree.Cat.{Cat}
use Rattle.seuss_program.specs.declared.tree.Proc.{Proc}
use Rattle.seuss_program.specs.declared.tree.Form.{Form}
use Rattle.seuss_program.specs.declared.tree.Form.TheVariants as F
use Rattle.seuss_program.specs.declared.tree.Alternative.{Alternative}
use Rattle.seuss_program.specs.declared.tree.Statement.{Statement, fold-Statement}
use Rattle.seuss_program.specs.declared.tree.Statement.TheOpen as S
use Rattle.seuss_program.specs.declared.tree.Statement.TheOpen.{Statement-F}
use Rattle.seuss_program.specs.declared.program.Program.{Program}
use Rattle.seuss_program.specs.declared.program.BoxInfo.{BoxInfo}
use Rattle.seuss_program.specs.declared.state.Value.TheVariants as V
use Rattle.seuss_program.specs.Programs.{procedure_of, method_of}
use Rattle.seuss_program.specs.Attempts.{form_locals}
use Rattle.method_code.specs.declared.instruction.CallCode.{CallCode}
use Rattle.method_code.specs.declared.instruction.Instruction.{Instruction}
use Rattle.method_code.specs.declared.instruction.Instruction.TheVariants as I
use Rattle.method_code.specs.declared.method.Method.{Method}
use Rattle.method_code.specs.declared.method.Entry.{Entry}
use Rattle.method_code.specs.declared.method.Entry.TheVariants as E
use Rattle.method_code.specs.declared.method.Head.{Head}

-- the number of the given box that a name stands for
abbrev pub given_number : Ref → ℕ
given_number (R.Given number) = number
given_number (R.Var number) = 0
given_number (R.Slot number) = 0
given_number (R.Method number) = 0
given_number (R.Cat number) = 0

-- a call, as the code has it
abbrev pub call_code : Call Ref → CallCode
call_code call = record
    { target = given_number call.target; method = method_of call.method; args = call.args }

-- code is put together in the order of the text
abbrev pub joined : List (List Instruction) → List Instruction
joined parts = flat_map (λ part. part) parts

-- a choice passes over the first branch where its condition is false, and over the second one after the
-- first
abbrev pub if_code : Expr Ref → List Instruction → List Instruction → List Instruction
if_code cond holds fails = I.SkipUnless cond (length holds + 1) ∷ (holds ++ I.Skip (length fails) ∷ fails)

-- a loop begins at its end, with its condition
abbrev pub while_code : Expr Ref → List Instruction → List Instruction
while_code cond turn = I.Skip (length turn) ∷ (turn ++ I.Again cond (length turn) ∷ [])

-- the code of one statement, over that of the statements inside it
abbrev pub code_step : Statement-F Ref (List Instruction) → List Instruction
code_step (S.Let name kind e) = I.Set name e ∷ []
code_step (S.Assign name e) = I.Set name e ∷ []
code_step (S.Call name call) = I.Call (call_code call) ∷ I.Take name ∷ []
code_step (S.If cond holds fails) = if_code cond (joined holds) (joined fails)
code_step (S.While cond turn) = while_code cond (joined turn)

-- the code of a statement
unfoldable pub code_of : Statement Ref → List Instruction
code_of s = fold-Statement Ref (List Instruction) code_step s

-- the call of a preprocedure, where there is one
abbrev pub early_of : Option (Pre Ref) → Option CallCode
early_of None = None
early_of (Some pre) = Some (call_code pre.call)

-- the instruction that takes the result of a preprocedure, where there is one
abbrev pub take_code : Option (Pre Ref) → List Instruction
take_code None = []
take_code (Some pre) = I.Take pre.bind ∷ []

-- after the body of an alternative the call accepts; where the alternative has `~>`, it rejects
abbrev pub last_code : Alternative Ref → List Instruction
last_code alt = (if alt.positive then I.Return else I.Reject) ∷ []

-- the code of an alternative: it takes the result of its preprocedure, runs its body, and ends
abbrev pub alternative_code : Alternative Ref → List Instruction
alternative_code alt = take_code alt.pre ++ (flat_map code_of alt.body ++ last_code alt)

-- the alternatives, of which the first one's code starts at this instruction
abbrev pub heads : ℕ → List (Alternative Ref) → List Head
heads at [] = []
heads at (alt ∷ alts) =
    record { cond = alt.cond; early = early_of alt.pre; start = at }
    ∷ heads (at + length (alternative_code alt)) alts

-- The code of a form: a body with its return; or a rejection, at which a caller goes on whose
-- preprocedure rejected, and then the alternatives.
abbrev pub entry_of : Form Ref → Entry
entry_of (F.Total ss) = E.Total
entry_of (F.Partial alts) = E.Partial (heads 1 alts)
entry_of (F.Action alts) = E.Partial (heads 1 alts)

-- the code of a procedure: a body with its return, or a rejection and then the alternatives
abbrev pub form_code : Form Ref → List Instruction
form_code (F.Total ss) = flat_map code_of ss ++ I.Return ∷ []
form_code (F.Partial alts) = I.Reject ∷ flat_map alternative_code alts
form_code (F.Action alts) = I.Reject ∷ flat_map alternative_code alts

-- the code of a procedure
abbrev pub method_code : Proc Ref → Method
method_code q = record {
  entry = entry_of q.form;
  locals = (if q.gives then V.Int (pos 0) ∷ [] else []) ++ form_locals q.form;
  result = if q.gives then Some (length q.params) else None;
  instructions = form_code q.form;
}

-- the code of all procedures of cats, in their order
abbrev pub cats_code : List (Cat Ref) → List Method
cats_code cats = flat_map (λ (c : Cat Ref). map method_code c.procs) cats

-- the code of a program
abbrev pub compiled : Program → List Method
compiled p = cats_code p.cats

-- the number over all cats of a procedure of a box; what isn't there has a number past the last one
abbrev pub number_at : Program → ℕ → ℕ → Option (Proc Ref) → ℕ
number_at p cat number None = length (compiled p)
number_at p cat number (Some q) = length (cats_code (take cat p.cats)) + number

-- the number of the cat of a box; one that isn't there counts as of the first cat
abbrev pub cat_number : Option BoxInfo → ℕ
cat_number None = 0
cat_number (Some b) = b.cat

-- the number over all cats of a procedure of a box, by its number in the cat
abbrev pub number_of : Program → ℕ → ℕ → ℕ
number_of p box number = number_at p (cat_number (slice_get p.boxes box)) number (procedure_of p box number)
