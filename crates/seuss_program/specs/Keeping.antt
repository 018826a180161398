-- What a checked program keeps, and the form that each of its states has.
use Rattle.std.specs.Prelude.{◌≡◌, ℕ, ◌+◌, ◌<◌, ◌≤◌, nat_lt, nat_le, max, Bool, true, false, ◌&&◌, not}
use Rattle.std.specs.Prelude.{if◌then◌else◌, List, [], ◌∷◌, ◌++◌, map, length, slice_get, Option, None}
use Rattle.std.specs.Prelude.{Some, option_and_then, All, IsTrue, ◌==◌}
use Rattle.seuss_program.specs.declared.tree.Ref.{Ref}
use Rattle.seuss_program.specs.declared.tree.Ref.TheVariants as R
use Rattle.seuss_program.specs.declared.tree.Kind.{Kind}
use Rattle.seuss_program.specs.declared.tree.Kind.TheVariants as K
use Rattle.seuss_program.specs.declared.tree.Op.{Op}
use Rattle.seuss_program.specs.declared.tree.Op.TheVariants as O
use Rattle.seuss_program.specs.declared.tree.Fun.{Fun}
use Rattle.seuss_program.specs.declared.tree.Fun.TheVariants as U
use Rattle.seuss_program.specs.declared.tree.Var.{Var}
use Rattle.seuss_program.specs.declared.tree.Param.{Param}
use Rattle.seuss_program.specs.declared.tree.Node.TheOpen as N
use Rattle.seuss_program.specs.declared.tree.Node.TheOpen.{Node-F}
use Rattle.seuss_program.specs.declared.tree.Expr.{Expr, fold-Expr}
use Rattle.seuss_program.specs.declared.tree.Call.{Call}
use Rattle.seuss_program.specs.declared.tree.Pre.{Pre}
use Rattle.seuss_program.specs.declared.tree.Statement.{Statement, fold-Statement}
use Rattle.seuss_program.specs.declared.tree.Statement.TheOpen as S
use Rattle.seuss_program.specs.declared.tree.Statement.TheOpen.{Statement-F}
use Rattle.seuss_program.specs.declared.tree.Alternative.{Alternative}
use Rattle.seuss_program.specs.declared.tree.Form.{Form}
use Rattle.seuss_program.specs.declared.tree.Form.TheVariants as F
use Rattle.seuss_program.specs.declared.tree.Proc.{Proc}
use Rattle.seuss_program.specs.declared.tree.Given.{Given}
use Rattle.seuss_program.specs.declared.tree.Hint.{Hint}
use Rattle.seuss_program.specs.declared.tree.Semi.{Semi}
use Rattle.seuss_program.specs.declared.tree.Cat.{Cat}
use Rattle.seuss_program.specs.declared.program.ActionInfo.{ActionInfo}
use Rattle.seuss_program.specs.declared.program.BoxInfo.{BoxInfo}
use Rattle.seuss_program.specs.declared.program.Program.{Program}
use Rattle.seuss_program.specs.declared.state.Value.{Value}
use Rattle.seuss_program.specs.declared.state.Value.TheVariants as V
use Rattle.seuss_program.specs.declared.state.State.{State}
use Rattle.seuss_program.specs.Programs.{cat_of, level_of, vars_of}
use Rattle.seuss_program.specs.Values.{fits, HasSize}
use Rattle.seuss_program.specs.Attempts.{entry_slots}

-- the kind of a value
abbrev pub kind_of : Value → Kind
kind_of (V.Int z) = K.Int
kind_of (V.Bool b) = K.Bool
kind_of (V.Seq zs) = K.Seq

-- values of these kinds, one for each, whose numbers have 64 bits
pub record AreOf (values : List Value) (wanted : List Kind) : Type 0 where
  pub kinds : map kind_of values ≡ wanted
  pub sizes : All HasSize values

-- whether two kinds are the same
abbrev pub is_kind : Kind → Kind → Bool
is_kind K.Int K.Int = true
is_kind K.Int K.Bool = false
is_kind K.Int K.Seq = false
is_kind K.Bool K.Int = false
is_kind K.Bool K.Bool = true
is_kind K.Bool K.Seq = false
is_kind K.Seq K.Int = false
is_kind K.Seq K.Bool = false
is_kind K.Seq K.Seq = true

-- whether something has this kind, where it has one
abbrev pub is_of : Kind → Option Kind → Bool
is_of k None = false
is_of k (Some found) = is_kind k found

-- the kinds of variables
abbrev pub var_kinds : List Var → List Kind
var_kinds vars = map (λ (v : Var). v.kind) vars

-- the kinds of parameters
abbrev pub param_kinds : List Param → List Kind
param_kinds params = map (λ (x : Param). x.kind) params

-- the kinds of a procedure's slots: the parameters, the result where there is one, and the locals
abbrev pub slot_kinds : Proc Ref → List Kind
slot_kinds q = param_kinds q.params ++ map kind_of (entry_slots q [])

-- What the text of a procedure sees: all cats, the given boxes of its cat, the kinds of its cat's
-- variables and of its own slots, and how many of these are parameters.
pub record Scope : Type 0 where
  pub cats : List (Cat Ref)
  pub given : List (Given Ref)
  pub vars : List Kind
  pub slots : List Kind
  pub params : ℕ

-- what the text of a procedure of a cat sees
abbrev pub scope_of : List (Cat Ref) → Cat Ref → Proc Ref → Scope
scope_of cats c q = record {
  cats = cats;
  given = c.given;
  vars = var_kinds c.vars;
  slots = slot_kinds q;
  params = length q.params;
}

-- the kind of a variable or a slot
abbrev pub kind_at : Scope → Ref → Option Kind
kind_at s (R.Var number) = slice_get s.vars number
kind_at s (R.Slot number) = slice_get s.slots number
kind_at s (R.Given number) = None
kind_at s (R.Method number) = None
kind_at s (R.Cat number) = None

-- the kind of what a text may assign: a variable, or a slot that isn't a parameter
abbrev pub kind_set : Scope → Ref → Option Kind
kind_set s (R.Var number) = slice_get s.vars number
kind_set s (R.Slot number) = if nat_lt number s.params then None else slice_get s.slots number
kind_set s (R.Given number) = None
kind_set s (R.Method number) = None
kind_set s (R.Cat number) = None

-- this kind, where two parts have the kinds that are wanted
abbrev pub of_kinds : Kind → Kind → Kind → Kind → Kind → Option Kind
of_kinds wanted_left wanted_right k left right = if is_kind wanted_left left && is_kind wanted_right right
    then Some k else None

-- the kind of two parts under an operator, where it takes parts of their kinds
abbrev pub two_kind : Op → Kind → Kind → Option Kind
two_kind O.Or left right = of_kinds K.Bool K.Bool K.Bool left right
two_kind O.And left right = of_kinds K.Bool K.Bool K.Bool left right
two_kind O.Eq left right = if is_kind left right && not (is_kind K.Seq left) then Some K.Bool else None
two_kind O.Ne left right = if is_kind left right && not (is_kind K.Seq left) then Some K.Bool else None
two_kind O.Lt left right = of_kinds K.Int K.Int K.Bool left right
two_kind O.Le left right = of_kinds K.Int K.Int K.Bool left right
two_kind O.Gt left right = of_kinds K.Int K.Int K.Bool left right
two_kind O.Ge left right = of_kinds K.Int K.Int K.Bool left right
two_kind O.Plus left right = of_kinds K.Int K.Int K.Int left right
two_kind O.Minus left right = of_kinds K.Int K.Int K.Int left right
two_kind O.WrapPlus left right = of_kinds K.Int K.Int K.Int left right
two_kind O.WrapMinus left right = of_kinds K.Int K.Int K.Int left right
two_kind O.Times left right = of_kinds K.Int K.Int K.Int left right
two_kind O.Divide left right = of_kinds K.Int K.Int K.Int left right
two_kind O.Remainder left right = of_kinds K.Int K.Int K.Int left right
two_kind O.At left right = of_kinds K.Seq K.Int K.Int left right
two_kind O.Add left right = of_kinds K.Seq K.Int K.Seq left right

-- the kind of a function of a sequence
abbrev pub fun_kind : Fun → Kind
fun_kind U.First = K.Int
fun_kind U.Last = K.Int
fun_kind U.Rest = K.Seq
fun_kind U.Front = K.Seq
fun_kind U.Len = K.Int

-- this kind, where the part has the kind that is wanted
abbrev pub where_of : Kind → Option Kind → Kind → Option Kind
where_of wanted part k = if is_of wanted part then Some k else None

-- the kind of a node by the kinds of its parts, where it has one: a literal has 64 bits
abbrev pub node_kind : Scope → Node-F Ref (Option Kind) (Option Kind) → Option Kind
node_kind s (N.Int z) = if fits z then Some K.Int else None
node_kind s (N.Bool b) = Some K.Bool
node_kind s N.Empty = Some K.Seq
node_kind s (N.Name name) = kind_at s name
node_kind s (N.Neg e) = where_of K.Int e K.Int
node_kind s (N.Not e) = where_of K.Bool e K.Bool
node_kind s (N.Two op l r) = option_and_then (λ left. option_and_then (two_kind op left) r) l
node_kind s (N.One fun e) = where_of K.Seq e (fun_kind fun)

-- the kind of an expression, where each part of it has the kind that is wanted there
unfoldable pub kind_in : Scope → Expr Ref → Option Kind
kind_in s e = fold-Expr Ref (Option Kind) (Option Kind) (node_kind s) (λ layer. layer.node) e

-- the cat that a name stands for
abbrev pub cat_at : List (Cat Ref) → Ref → Option (Cat Ref)
cat_at cats (R.Cat number) = slice_get cats number
cat_at cats (R.Var number) = None
cat_at cats (R.Slot number) = None
cat_at cats (R.Given number) = None
cat_at cats (R.Method number) = None

-- the declared cat of a given box
abbrev pub given_cat : Scope → Ref → Option (Cat Ref)
given_cat s (R.Given number) = option_and_then (λ (g : Given Ref). cat_at s.cats g.cat)
    (slice_get s.given number)
given_cat s (R.Var number) = None
given_cat s (R.Slot number) = None
given_cat s (R.Method number) = None
given_cat s (R.Cat number) = None

-- a procedure of a cat, by its name
abbrev pub method_at : Ref → Cat Ref → Option (Proc Ref)
method_at (R.Method number) c = slice_get c.procs number
method_at (R.Var number) c = None
method_at (R.Slot number) c = None
method_at (R.Given number) c = None
method_at (R.Cat number) c = None

-- the procedure that a call names
abbrev pub called : Scope → Call Ref → Option (Proc Ref)
called s call = option_and_then (method_at call.method) (given_cat s call.target)

-- whether a procedure is total
abbrev pub is_total : Form Ref → Bool
is_total (F.Total ss) = true
is_total (F.Partial alts) = false
is_total (F.Action alts) = false

-- whether a procedure is a partial method
abbrev pub is_partial : Form Ref → Bool
is_partial (F.Total ss) = false
is_partial (F.Partial alts) = true
is_partial (F.Action alts) = false

-- whether a procedure is an action
abbrev pub is_action : Form Ref → Bool
is_action (F.Total ss) = false
is_action (F.Partial alts) = false
is_action (F.Action alts) = true

-- whether arguments are as many as the parameters, and each of its kind
abbrev pub arguments_fit : Scope → List (Expr Ref) → List Kind → Bool
arguments_fit s [] [] = true
arguments_fit s [] (k ∷ ks) = false
arguments_fit s (e ∷ es) [] = false
arguments_fit s (e ∷ es) (k ∷ ks) = is_of k (kind_in s e) && arguments_fit s es ks

-- whether a name may take the result of a call: it is an int, and there is a result
abbrev pub bind_fits : Scope → Option Ref → Bool → Bool
bind_fits s None gives = true
bind_fits s (Some name) gives = gives && is_of K.Int (kind_set s name)

-- whether a call is one of a procedure of this form, with its arguments and its result
abbrev pub meets : Scope → (Form Ref → Bool) → Option Ref → List (Expr Ref) → Option (Proc Ref) → Bool
meets s form bind args None = false
meets s form bind args (Some q) = form q.form &&
    (arguments_fit s args (param_kinds q.params) && bind_fits s bind q.gives)

-- whether a call is one of a procedure of this form, with its arguments and its result
abbrev pub call_fits : Scope → (Form Ref → Bool) → Option Ref → Call Ref → Bool
call_fits s form bind call = meets s form bind call.args (called s call)

-- whether a name may be assigned an expression
abbrev pub assigns : Scope → Option Kind → Expr Ref → Bool
assigns s None e = false
assigns s (Some k) e = is_of k (kind_in s e)

-- whether all of these are true
abbrev pub all_true : List Bool → Bool
all_true [] = true
all_true (b ∷ bs) = b && all_true bs

-- whether a statement fits, where those inside it do
abbrev pub statement_step : Scope → Statement-F Ref Bool → Bool
statement_step s (S.Let name kind e) = is_of kind (kind_set s name) && is_of kind (kind_in s e)
statement_step s (S.Assign name e) = assigns s (kind_set s name) e
statement_step s (S.Call bind call) = call_fits s is_total bind call
statement_step s (S.If cond holds fails) = is_of K.Bool (kind_in s cond) &&
    (all_true holds && all_true fails)
statement_step s (S.While cond turn) = is_of K.Bool (kind_in s cond) && all_true turn

-- whether each name, kind and call of a statement is right
unfoldable pub statement_fits : Scope → Statement Ref → Bool
statement_fits s t = fold-Statement Ref Bool (statement_step s) t

-- whether each name, kind and call of a body is right
abbrev pub body_fits : Scope → List (Statement Ref) → Bool
body_fits s [] = true
body_fits s (t ∷ ts) = statement_fits s t && body_fits s ts

-- whether a preprocedure is a call of a partial method
abbrev pub pre_fits : Scope → Option (Pre Ref) → Bool
pre_fits s None = true
pre_fits s (Some pre) = call_fits s is_partial pre.bind pre.call

-- whether each name, kind and call of an alternative is right
abbrev pub alternative_fits : Scope → Alternative Ref → Bool
alternative_fits s a = is_of K.Bool (kind_in s a.cond) && (pre_fits s a.pre && body_fits s a.body)

-- whether each name, kind and call of these alternatives is right
abbrev pub alternatives_fit : Scope → List (Alternative Ref) → Bool
alternatives_fit s [] = true
alternatives_fit s (a ∷ alts) = alternative_fits s a && alternatives_fit s alts

-- whether a text fits what it sees, and has at most 16 alternatives
abbrev pub form_fits : Scope → Form Ref → Bool
form_fits s (F.Total ss) = body_fits s ss
form_fits s (F.Partial alts) = nat_le (length alts) 16 && alternatives_fit s alts
form_fits s (F.Action alts) = nat_le (length alts) 16 && alternatives_fit s alts

-- an action has no parameters and no result
abbrev pub IsAlone : Proc Ref → Type 0
IsAlone q = (q.params ≡ []) × (q.gives ≡ false)

-- What a procedure of a cat keeps: names, kinds and calls are right at every place, and it has at most 32
-- slots, none of which is a sequence.
pub record KeepsProcedure (cats : List (Cat Ref)) (c : Cat Ref) (q : Proc Ref) : Type 0 where
  pub text : IsTrue (form_fits (scope_of cats c q) q.form)
  pub plain : All (λ kind. IsTrue (not (is_kind K.Seq kind))) (slot_kinds q)
  pub alone : IsTrue (is_action q.form) → IsAlone q
  pub slots : length (slot_kinds q) ≤ 32

-- a hint names a variable that is a sequence, to a depth of at most 4
pub record KeepsHint (c : Cat Ref) (hint : Hint Ref) : Type 0 where
  pub variable : (number : ℕ) × (hint.name ≡ R.Var number)
      × (slice_get (var_kinds c.vars) number ≡ Some K.Seq)
  pub depth : hint.depth ≤ 4

-- whether a procedure is there and its form passes the test
abbrev pub is_method_where : (Form Ref → Bool) → Option (Proc Ref) → Bool
is_method_where form None = false
is_method_where form (Some q) = form q.form

-- a certificate names a method, then a total one, and its hints are right
pub record KeepsSemi (c : Cat Ref) (semi : Semi Ref) : Type 0 where
  pub first : IsTrue (is_method_where (λ form. not (is_action form)) (method_at semi.first c))
  pub second : IsTrue (is_method_where is_total (method_at semi.second c))
  pub hints : All (KeepsHint c) semi.hints

-- the cat of a given box is there
abbrev pub is_there : Option (Cat Ref) → Bool
is_there None = false
is_there (Some c) = true

-- What a cat keeps: its start values have their kinds and 64 bits, the cats of its given boxes are there,
-- its procedures and certificates are right, and the limits hold.
pub record KeepsCat (cats : List (Cat Ref)) (c : Cat Ref) : Type 0 where
  pub starts : All (λ (v : Var). kind_of v.start ≡ v.kind) c.vars
  pub sizes : All (λ (v : Var). HasSize v.start) c.vars
  pub given : All (λ (g : Given Ref). IsTrue (is_there (cat_at cats g.cat))) c.given
  pub procs : All (KeepsProcedure cats c) c.procs
  pub semis : All (KeepsSemi c) c.semis
  pub few_given : length c.given ≤ 16
  pub few_vars : length c.vars ≤ 32
  pub few_procs : length c.procs ≤ 64
  pub few_semis : length c.semis ≤ 64

-- 0 without numbers, else one more than the greatest of them
abbrev pub above : List ℕ → ℕ
above [] = 0
above (n ∷ ns) = max (n + 1) (above ns)

-- whether a box is there and of this cat
abbrev pub is_box_of : Option BoxInfo → Ref → Bool
is_box_of (Some b) (R.Cat number) = b.cat == number
is_box_of (Some b) (R.Var number) = false
is_box_of (Some b) (R.Slot number) = false
is_box_of (Some b) (R.Given number) = false
is_box_of (Some b) (R.Method number) = false
is_box_of None name = false

-- whether boxes are there and of the declared cats, one for each given box of the cat
abbrev pub given_fit : List BoxInfo → List ℕ → List (Given Ref) → Bool
given_fit boxes [] [] = true
given_fit boxes [] (g ∷ gs) = false
given_fit boxes (n ∷ ns) [] = false
given_fit boxes (n ∷ ns) (g ∷ gs) = is_box_of (slice_get boxes n) g.cat && given_fit boxes ns gs

-- What a box keeps: its cat is there, it is given boxes of the cats that its cat declares, and its level
-- is 0 where it is given none, else one more than the greatest of theirs.
pub record KeepsBox (p : Program) (b : BoxInfo) : Type 0 where
  pub cat : (c : Cat Ref) × (slice_get p.cats b.cat ≡ Some c) × IsTrue (given_fit p.boxes b.given c.given)
  pub level : b.level ≡ above (map (level_of p) b.given)

-- the actions of a box among procedures, of which the first has this number, in the order of the text
abbrev pub actions_among : ℕ → ℕ → List (Proc Ref) → List ActionInfo
actions_among box number [] = []
actions_among box number (q ∷ qs) =
    if is_action q.form then record { box_number = box; procedure = number }
    ∷ actions_among box (number + 1) qs
    else actions_among box (number + 1) qs

-- the procedures of a cat; a cat that isn't there has none
abbrev pub procedures_in : Option (Cat Ref) → List (Proc Ref)
procedures_in None = []
procedures_in (Some c) = c.procs

-- the actions of boxes, of which the first has this number, in order of declaration
abbrev pub actions_of : List (Cat Ref) → ℕ → List BoxInfo → List ActionInfo
actions_of cats number [] = []
actions_of cats number (b ∷ bs) =
    actions_among number 0 (procedures_in (slice_get cats b.cat)) ++ actions_of cats (number + 1) bs

-- a built-in cat has one variable, a sequence
abbrev pub vars_in : Option (Cat Ref) → List Kind
vars_in None = []
vars_in (Some c) = var_kinds c.vars

-- What a checked program keeps. Its cats 0 and 1 are `Input` and `Output`; its actions are those of its
-- boxes, by box and then in the order of the text.
pub record Keeps (p : Program) : Type 0 where
  pub cats : All (KeepsCat p.cats) p.cats
  pub boxes : All (KeepsBox p) p.boxes
  pub actions : p.actions ≡ actions_of p.cats 0 p.boxes
  pub input : vars_in (slice_get p.cats 0) ≡ K.Seq ∷ []
  pub output : vars_in (slice_get p.cats 1) ≡ K.Seq ∷ []
  pub few_cats : length p.cats ≤ 66
  pub few_boxes : length p.boxes ≤ 128
  pub few_actions : length p.actions ≤ 256

-- A state of the program's form: for each box a value of its kind for each variable of its cat, and every
-- number has 64 bits.
pub record HasForm (p : Program) (state : State) : Type 0 where
  pub count : length state.boxes ≡ length p.boxes
  pub values : (box : ℕ) → box < length p.boxes → AreOf (vars_of state box) (vars_in (cat_of p box))
