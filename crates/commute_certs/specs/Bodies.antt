-- What the statements of a single method come to in a case.
use Rattle.std.specs.Prelude.{if◌then◌else◌, List, [], ◌∷◌, slice_set, Result, Ok, Err}
use Rattle.seuss_program.specs.declared.tree.Ref.{Ref}
use Rattle.seuss_program.specs.declared.tree.Ref.TheVariants as R
use Rattle.seuss_program.specs.declared.tree.Statement.{Statement, fold-Statement}
use Rattle.seuss_program.specs.declared.tree.Statement.TheOpen as S
use Rattle.seuss_program.specs.declared.tree.Statement.TheOpen.{Statement-F}
use Rattle.shape_terms.specs.declared.symbol.Symbol.{Symbol}
use Rattle.commute_certs.specs.declared.why.Reason.{Reason}
use Rattle.commute_certs.specs.declared.why.Reason.TheVariants as W
use Rattle.commute_certs.specs.declared.places.Places.{Places}
use Rattle.commute_certs.specs.Terms.{Told, told, and_then, truth_in}

-- what statements leave, from what the variables and slots are
abbrev pub Leaves : Type 0
Leaves = Places → Result Places Reason

-- a name takes a symbol: a variable of the box, or a slot
abbrev pub put : Ref → Symbol → Places → Places
put (R.Var number) s places = record places { vars = slice_set places.vars number s }
put (R.Slot number) s places = record places { slots = slice_set places.slots number s }
put (R.Given number) s places = places
put (R.Method number) s places = places
put (R.Cat number) s places = places

-- a name takes what is told
abbrev pub put_told : Ref → Told → Leaves
put_told name (Err why) places = Err why
put_told name (Ok s) places = Ok (put name s places)

-- one of two branches, by what is told of the condition
abbrev pub branch : Told → Leaves → Leaves → Leaves
branch condition holds fails places =
    and_then (and_then condition truth_in) (λ b. if b then holds places else fails places)

-- statements one after the other
abbrev pub in_turn : List Leaves → Leaves
in_turn [] places = Ok places
in_turn (l ∷ ls) places = and_then (l places) (in_turn ls)

-- What one statement leaves, by what those inside it leave. A call or a loop, which a single method has not,
-- may trap.
abbrev pub statement_step : Statement-F Ref Leaves → Leaves
statement_step (S.Let name kind e) places = put_told name (told e places.vars places.slots) places
statement_step (S.Assign name e) places = put_told name (told e places.vars places.slots) places
statement_step (S.Call name call) places = Err W.MayTrap
statement_step (S.If cond holds fails) places =
    branch (told cond places.vars places.slots) (in_turn holds) (in_turn fails) places
statement_step (S.While cond turn) places = Err W.MayTrap

-- what a statement leaves
unfoldable pub statement : Statement Ref → Leaves
statement s = fold-Statement Ref Leaves statement_step s

-- what a body leaves
abbrev pub body : List (Statement Ref) → Leaves
body [] places = Ok places
body (s ∷ ss) places = and_then (statement s places) (body ss)
