-- The names in a text, those that it assigns, and the literals with which it compares them.
use Rattle.std.specs.Prelude.{ℤ, neg_ℤ, if◌then◌else◌, List, [], ◌∷◌, ◌++◌, map, Option, None, Some}
use Rattle.std.specs.Prelude.{option_map}
use Rattle.seuss_program.specs.declared.tree.Ref.{Ref}
use Rattle.seuss_program.specs.declared.tree.Op.{Op}
use Rattle.seuss_program.specs.declared.tree.Fun.{Fun}
use Rattle.seuss_program.specs.declared.tree.Fun.TheVariants as U
use Rattle.seuss_program.specs.declared.tree.Node.TheOpen as N
use Rattle.seuss_program.specs.declared.tree.Node.TheOpen.{Node-F}
use Rattle.seuss_program.specs.declared.tree.Expr.{Expr, fold-Expr}
use Rattle.seuss_program.specs.declared.tree.Call.{Call}
use Rattle.seuss_program.specs.declared.tree.Pre.{Pre}
use Rattle.seuss_program.specs.declared.tree.Form.{Form}
use Rattle.seuss_program.specs.declared.tree.Form.TheVariants as F
use Rattle.seuss_program.specs.declared.tree.Alternative.{Alternative}
use Rattle.seuss_program.specs.declared.tree.Statement.{Statement, fold-Statement}
use Rattle.seuss_program.specs.declared.tree.Statement.TheOpen as S
use Rattle.seuss_program.specs.declared.tree.Statement.TheOpen.{Statement-F}
use Rattle.seuss_program.specs.Values.{is_comparison}
use Rattle.safety_check.specs.Regions.{is_name}
use Rattle.safety_check.specs.Ends.{taking, names_in}
pub use Rattle.safety_check.specs.declared.seen.Cut.{Cut}
pub use Rattle.safety_check.specs.declared.seen.Look.{Look}
pub use Rattle.safety_check.specs.declared.seen.Seen.{Seen}

-- the names in one node, by those in its parts
abbrev pub node_names : Node-F Ref (List Ref) (List Ref) → List Ref
node_names (N.Int z) = []
node_names (N.Bool b) = []
node_names N.Empty = []
node_names (N.Name name) = name ∷ []
node_names (N.Neg e) = e
node_names (N.Not e) = e
node_names (N.Two op l r) = l ++ r
node_names (N.One fun e) = e

-- the names in an expression
unfoldable pub expr_names : Expr Ref → List Ref
expr_names e = fold-Expr Ref (List Ref) (List Ref) node_names (λ layer. layer.node) e

-- A look at an expression tells the number in digits and the literal that it is, the name that it is, and
-- the name that it, or whose length it, is. This one is of none of these.
abbrev pub other_look : Look
other_look = record { digits = None; literal = None; name = None; subject = None }

-- a number in digits
abbrev pub number_look : ℤ → Look
number_look z = record { digits = Some z; literal = Some z; name = None; subject = None }

-- a name
abbrev pub name_look : Ref → Look
name_look name = record { digits = None; literal = None; name = Some name; subject = Some name }

-- a minus before a part
abbrev pub negated_look : Look → Look
negated_look look = record
    { digits = None; literal = option_map neg_ℤ look.digits; name = None; subject = None }

-- the name whose length a function gives
abbrev pub length_subject : Fun → Option Ref → Option Ref
length_subject U.First name = None
length_subject U.Last name = None
length_subject U.Rest name = None
length_subject U.Front name = None
length_subject U.Len name = name

-- a function of a sequence
abbrev pub measured_look : Fun → Look → Look
measured_look fun look = record
    { digits = None; literal = None; name = None; subject = length_subject fun look.name }

-- the cut of a name beside a literal
abbrev pub cut_of : Option Ref → Option ℤ → List Cut
cut_of None number = []
cut_of (Some name) None = []
cut_of (Some name) (Some number) = record { name = name; number = number } ∷ []

-- the cuts of two parts under an operator
abbrev pub compared_cuts : Op → Look → Look → List Cut
compared_cuts op l r =
    if is_comparison op then cut_of l.subject r.literal ++ cut_of r.subject l.literal else []

-- a look at an expression, and the cuts in it
pub record Side : Type 0 where
  pub look : Look
  pub cuts : List Cut

-- one node, by its parts
abbrev pub node_side : Node-F Ref Side Side → Side
node_side (N.Int z) = record { look = number_look z; cuts = [] }
node_side (N.Bool b) = record { look = other_look; cuts = [] }
node_side N.Empty = record { look = other_look; cuts = [] }
node_side (N.Name name) = record { look = name_look name; cuts = [] }
node_side (N.Neg e) = record { look = negated_look e.look; cuts = e.cuts }
node_side (N.Not e) = record { look = other_look; cuts = e.cuts }
node_side (N.Two op l r) = record
    { look = other_look; cuts = (l.cuts ++ r.cuts) ++ compared_cuts op l.look r.look }
node_side (N.One fun e) = record { look = measured_look fun e.look; cuts = e.cuts }

-- a look at an expression, and the cuts in it
unfoldable pub side_of : Expr Ref → Side
side_of e = fold-Expr Ref Side Side node_side (λ layer. layer.node) e

-- nothing is seen
abbrev pub nothing_seen : Seen
nothing_seen = record { names = []; cuts = [] }

-- names without cuts
abbrev pub names_seen : List Ref → Seen
names_seen names = record { names = names; cuts = [] }

-- what is seen in two texts
abbrev pub seen_and : Seen → Seen → Seen
seen_and a b = record { names = a.names ++ b.names; cuts = a.cuts ++ b.cuts }

-- what is seen in several texts
abbrev pub all_seen : List Seen → Seen
all_seen [] = nothing_seen
all_seen (s ∷ seen) = seen_and s (all_seen seen)

-- what is seen in an expression
abbrev pub in_expr : Expr Ref → Seen
in_expr e = record { names = expr_names e; cuts = (side_of e).cuts }

-- what is seen in a call and in the name that takes its result
abbrev pub in_call : Option Ref → Call Ref → Seen
in_call bind call = seen_and (names_seen (taking bind)) (all_seen (map in_expr call.args))

-- what is seen in one statement, by those inside it
abbrev pub in_statement_step : Statement-F Ref Seen → Seen
in_statement_step (S.Let name kind e) = seen_and (names_seen (name ∷ [])) (in_expr e)
in_statement_step (S.Assign name e) = seen_and (names_seen (name ∷ [])) (in_expr e)
in_statement_step (S.Call bind call) = in_call bind call
in_statement_step (S.If cond holds fails) =
    seen_and (in_expr cond) (seen_and (all_seen holds) (all_seen fails))
in_statement_step (S.While cond turn) = seen_and (in_expr cond) (all_seen turn)

-- what is seen in a statement
unfoldable pub in_statement : Statement Ref → Seen
in_statement s = fold-Statement Ref Seen in_statement_step s

-- what is seen in a body
abbrev pub in_body : List (Statement Ref) → Seen
in_body ss = all_seen (map in_statement ss)

-- what is seen in a preprocedure, where there is one
abbrev pub in_pre : Option (Pre Ref) → Seen
in_pre None = nothing_seen
in_pre (Some pre) = in_call pre.bind pre.call

-- what is seen in an alternative
abbrev pub in_alternative : Alternative Ref → Seen
in_alternative a = seen_and (in_expr a.cond) (seen_and (in_pre a.pre) (in_body a.body))

-- what is seen in the text of a procedure
abbrev pub in_form : Form Ref → Seen
in_form (F.Total ss) = in_body ss
in_form (F.Partial alts) = all_seen (map in_alternative alts)
in_form (F.Action alts) = all_seen (map in_alternative alts)

-- the cuts of a name
abbrev pub cuts_at : Ref → List Cut → List ℤ
cuts_at name [] = []
cuts_at name (cut ∷ cuts) =
    if is_name name cut.name then cut.number ∷ cuts_at name cuts else cuts_at name cuts

-- the name that takes the result of a preprocedure
abbrev pub pre_names : Option (Pre Ref) → List Ref
pre_names None = []
pre_names (Some pre) = taking pre.bind

-- the names that alternatives assign
abbrev pub alternatives_names : List (Alternative Ref) → List Ref
alternatives_names [] = []
alternatives_names (a ∷ alts) = (pre_names a.pre ++ names_in a.body) ++ alternatives_names alts

-- the names that a procedure assigns
abbrev pub form_names : Form Ref → List Ref
form_names (F.Total ss) = names_in ss
form_names (F.Partial alts) = alternatives_names alts
form_names (F.Action alts) = alternatives_names alts
