-- What each part of a text stands for in its program: names stand for numbers, and everything that isn't a
-- name is the same on both sides.
use Rattle.std.specs.Prelude.{◌≡◌, ◌≢◌, ◌<◌, ℕ, ℤ, Bool, List, [], ◌∷◌, length, slice_get, Option, None}
use Rattle.std.specs.Prelude.{Some}
use Rattle.std.specs.List.{AllZip}
use Rattle.seuss_program.specs.declared.tree.Name.{Name}
use Rattle.seuss_program.specs.declared.tree.Kind.{Kind}
use Rattle.seuss_program.specs.declared.tree.Ref.{Ref}
use Rattle.seuss_program.specs.declared.tree.Ref.TheVariants as R
use Rattle.seuss_program.specs.declared.tree.Op.{Op}
use Rattle.seuss_program.specs.declared.tree.Fun.{Fun}
use Rattle.seuss_program.specs.declared.tree.Var.{Var}
use Rattle.seuss_program.specs.declared.tree.Given.{Given}
use Rattle.seuss_program.specs.declared.tree.Expr.{Expr}
use Rattle.seuss_program.specs.declared.tree.Node.{Node}
use Rattle.seuss_program.specs.declared.tree.Node.TheVariants as N
use Rattle.seuss_program.specs.declared.tree.Call.{Call}
use Rattle.seuss_program.specs.declared.tree.Pre.{Pre}
use Rattle.seuss_program.specs.declared.tree.Statement.{Statement}
use Rattle.seuss_program.specs.declared.tree.Statement.TheVariants as S
use Rattle.seuss_program.specs.declared.tree.Alternative.{Alternative}
use Rattle.seuss_program.specs.declared.tree.Form.{Form}
use Rattle.seuss_program.specs.declared.tree.Form.TheVariants as F
use Rattle.seuss_program.specs.declared.tree.Proc.{Proc}
use Rattle.seuss_program.specs.declared.tree.Hint.{Hint}
use Rattle.seuss_program.specs.declared.tree.Semi.{Semi}
use Rattle.seuss_program.specs.declared.tree.Cat.{Cat}
use Rattle.seuss_program.specs.declared.tree.BoxDecl.{BoxDecl}
use Rattle.seuss_program.specs.declared.tree.Tree.{Tree}
use Rattle.seuss_program.specs.declared.program.BoxInfo.{BoxInfo}
use Rattle.seuss_program.specs.declared.program.Program.{Program}
use Rattle.box_types.specs.Actions.{actions_of}
use Rattle.box_types.specs.BuiltInTexts.{input, output}
use Rattle.box_types.specs.Locals.{Locals, with_local, after_block, at_start, IsLocal, HasNoLocal}

-- the item of this number, counted from 0, is the first one with the text of this name
pub record IsFirst {X : Type 0} (name_of : X → Name) (xs : List X) (number : ℕ) (name : Name) : Type 0 where
  pub item : X
  pub there : slice_get xs number ≡ Some item
  pub same : (name_of item).text ≡ name.text
  pub others : (k : ℕ) (x : X) → k < number → slice_get xs k ≡ Some x → (name_of x).text ≢ name.text

-- the first variable, given box and procedure of a cat with a name, and the first cat and box
abbrev pub IsVar : Cat Name → ℕ → Name → Type 0
IsVar own = IsFirst (λ (v : Var). v.name) own.vars

abbrev pub IsGiven : Cat Name → ℕ → Name → Type 0
IsGiven own = IsFirst (λ (g : Given Name). g.name) own.given

abbrev pub IsProc : Cat Name → ℕ → Name → Type 0
IsProc own = IsFirst (λ (q : Proc Name). q.name) own.procs

abbrev pub IsCat : List (Cat Name) → ℕ → Name → Type 0
IsCat cats = IsFirst (λ (c : Cat Name). c.name) cats

abbrev pub IsBox : List BoxDecl → ℕ → Name → Type 0
IsBox boxes = IsFirst (λ (b : BoxDecl). b.name) boxes

-- A name that is evaluated or assigned stands for a visible local, and else for a variable of the cat.
pub data NameStands (own : Cat Name) (here : Locals) (name : Name) : Ref → Type 0 where
  OfLocal : (slot : ℕ) → IsLocal here slot name → NameStands own here name (R.Slot slot)
  OfVar : (number : ℕ) → HasNoLocal here name → IsVar own number name →
      NameStands own here name (R.Var number)

-- an expression on its line
abbrev pub on_line : {A : Type 0} → ℕ → Node A → Expr A
on_line line node = record { line = line; node = node }

-- An expression stands for the same one, in which each name is what it stands for.
pub data ExprStands (own : Cat Name) (here : Locals) : Expr Name → Expr Ref → Type 0 where
  OfInt : (line : ℕ) (z : ℤ) → ExprStands own here (on_line line (N.Int z)) (on_line line (N.Int z))
  OfBool : (line : ℕ) (b : Bool) → ExprStands own here (on_line line (N.Bool b)) (on_line line (N.Bool b))
  OfEmpty : (line : ℕ) → ExprStands own here (on_line line N.Empty) (on_line line N.Empty)
  OfName : (line : ℕ) (name : Name) (ref : Ref) → NameStands own here name ref →
      ExprStands own here (on_line line (N.Name name)) (on_line line (N.Name ref))
  OfNeg : (line : ℕ) (e : Expr Name) (f : Expr Ref) → ExprStands own here e f →
      ExprStands own here (on_line line (N.Neg e)) (on_line line (N.Neg f))
  OfNot : (line : ℕ) (e : Expr Name) (f : Expr Ref) → ExprStands own here e f →
      ExprStands own here (on_line line (N.Not e)) (on_line line (N.Not f))
  OfTwo : (line : ℕ) (op : Op) (l r : Expr Name) (m s : Expr Ref) → ExprStands own here l m →
      ExprStands own here r s →
      ExprStands own here (on_line line (N.Two op l r)) (on_line line (N.Two op m s))
  OfOne : (line : ℕ) (fun : Fun) (e : Expr Name) (f : Expr Ref) → ExprStands own here e f →
      ExprStands own here (on_line line (N.One fun e)) (on_line line (N.One fun f))

-- A call's box stands for a given box of the cat, its method for a procedure of that box's cat.
pub record CallStands (cats : List (Cat Name)) (own : Cat Name) (here : Locals) (c : Call Name)
    (d : Call Ref) : Type 0 where
  pub box : ℕ
  pub target : d.target ≡ R.Given box
  pub given : IsGiven own box c.target
  pub cat : ℕ
  pub of_cat : IsCat cats cat given.item.cat
  pub number : ℕ
  pub method : d.method ≡ R.Method number
  pub called : IsProc of_cat.item number c.method
  pub args : AllZip (ExprStands own here) c.args d.args

-- the name that takes the result of a call, where there is one
pub data TakerStands (own : Cat Name) (here : Locals) : Option Name → Option Ref → Type 0 where
  NoTaker : TakerStands own here None None
  Taker : (name : Name) (ref : Ref) → NameStands own here name ref →
      TakerStands own here (Some name) (Some ref)

mutual
  -- A statement stands for the same one, between the locals before it and those after it. A `let` name has
  -- the next slot, and is visible after its value.
  pub data StatementStands (cats : List (Cat Name)) (own : Cat Name) :
      Locals → Statement Name → Statement Ref → Locals → Type 0 where
    OfLet : (here : Locals) (name : Name) (kind : Kind) (e : Expr Name) (f : Expr Ref) →
        ExprStands own here e f →
        StatementStands cats own here (S.Let name kind e) (S.Let (R.Slot (length here.names)) kind f)
        (with_local name here)
    OfAssign : (here : Locals) (name : Name) (ref : Ref) (e : Expr Name) (f : Expr Ref) →
        NameStands own here name ref → ExprStands own here e f →
        StatementStands cats own here (S.Assign name e) (S.Assign ref f) here
    OfCall : (here : Locals) (bind : Option Name) (taker : Option Ref) (c : Call Name) (d : Call Ref) →
        TakerStands own here bind taker → CallStands cats own here c d →
        StatementStands cats own here (S.Call bind c) (S.Call taker d) here
    OfIf : (here inside last : Locals) (cond : Expr Name) (test : Expr Ref)
        (holds fails : List (Statement Name)) (yes_part no_part : List (Statement Ref)) →
        ExprStands own here cond test → BodyStands cats own here holds yes_part inside →
        BodyStands cats own (after_block here inside) fails no_part last →
        StatementStands cats own here (S.If cond holds fails) (S.If test yes_part no_part)
        (after_block here last)
    OfWhile : (here inside : Locals) (cond : Expr Name) (test : Expr Ref) (turn : List (Statement Name))
        (part : List (Statement Ref)) →
        ExprStands own here cond test → BodyStands cats own here turn part inside →
        StatementStands cats own here (S.While cond turn) (S.While test part) (after_block here inside)

  -- statements one after the other
  pub data BodyStands (cats : List (Cat Name)) (own : Cat Name) :
      Locals → List (Statement Name) → List (Statement Ref) → Locals → Type 0 where
    NoStatement : (here : Locals) → BodyStands cats own here [] [] here
    NextStatement : (here between last : Locals) (s : Statement Name) (t : Statement Ref)
        (ss : List (Statement Name)) (ts : List (Statement Ref)) →
        StatementStands cats own here s t between → BodyStands cats own between ss ts last →
        BodyStands cats own here (s ∷ ss) (t ∷ ts) last

-- The call that an alternative begins with. A name that its result is bound to has the next slot, and is
-- visible after the call.
pub data PreStands (cats : List (Cat Name)) (own : Cat Name) :
    Locals → Option (Pre Name) → Option (Pre Ref) → Locals → Type 0 where
  NoPre : (here : Locals) → PreStands cats own here None None here
  Unbound : (here : Locals) (c : Call Name) (d : Call Ref) → CallStands cats own here c d →
      PreStands cats own here (Some (record { bind = None; call = c }))
      (Some (record { bind = None; call = d })) here
  Bound : (here : Locals) (name : Name) (c : Call Name) (d : Call Ref) → CallStands cats own here c d →
      PreStands cats own here (Some (record { bind = Some name; call = c }))
      (Some (record { bind = Some (R.Slot (length here.names)); call = d })) (with_local name here)

-- An alternative is a block, whose precondition stands before its call.
pub record AlternativeStands (cats : List (Cat Name)) (own : Cat Name) (here : Locals)
    (a : Alternative Name) (b : Alternative Ref) (last : Locals) : Type 0 where
  pub line : b.line ≡ a.line
  pub positive : b.positive ≡ a.positive
  pub cond : ExprStands own here a.cond b.cond
  pub called : Locals
  pub pre : PreStands cats own here a.pre b.pre called
  pub inside : Locals
  pub body : BodyStands cats own called a.body b.body inside
  pub after : last ≡ after_block here inside

-- alternatives one after the other
pub data AlternativesStand (cats : List (Cat Name)) (own : Cat Name) :
    Locals → List (Alternative Name) → List (Alternative Ref) → Type 0 where
  NoAlternative : (here : Locals) → AlternativesStand cats own here [] []
  NextAlternative : (here between : Locals) (a : Alternative Name) (b : Alternative Ref)
      (alts : List (Alternative Name)) (bs : List (Alternative Ref)) →
      AlternativeStands cats own here a b between →
      AlternativesStand cats own between alts bs → AlternativesStand cats own here (a ∷ alts) (b ∷ bs)

-- a form stands for one of its sort
pub data FormStands (cats : List (Cat Name)) (own : Cat Name) (here : Locals) :
    Form Name → Form Ref → Type 0 where
  OfTotal : (last : Locals) (ss : List (Statement Name)) (ts : List (Statement Ref)) →
      BodyStands cats own here ss ts last → FormStands cats own here (F.Total ss) (F.Total ts)
  OfPartial : (alts : List (Alternative Name)) (bs : List (Alternative Ref)) →
      AlternativesStand cats own here alts bs → FormStands cats own here (F.Partial alts) (F.Partial bs)
  OfAction : (alts : List (Alternative Name)) (bs : List (Alternative Ref)) →
      AlternativesStand cats own here alts bs → FormStands cats own here (F.Action alts) (F.Action bs)

-- A procedure has its name, its parameters and its result, and a form that stands for its own.
pub record ProcStands (cats : List (Cat Name)) (own : Cat Name) (q : Proc Name) (r : Proc Ref) : Type 0
  where
    pub name : r.name ≡ q.name
    pub params : r.params ≡ q.params
    pub gives : r.gives ≡ q.gives
    pub form : FormStands cats own (at_start q) q.form r.form

-- A hint's name stands for a variable of the cat.
pub record HintStands (own : Cat Name) (h : Hint Name) (i : Hint Ref) : Type 0 where
  pub front : i.front ≡ h.front
  pub depth : i.depth ≡ h.depth
  pub line : i.line ≡ h.line
  pub number : ℕ
  pub name : i.name ≡ R.Var number
  pub var : IsVar own number h.name

-- The names of a certificate stand for procedures of the cat.
pub record SemiStands (own : Cat Name) (s : Semi Name) (t : Semi Ref) : Type 0 where
  pub line : t.line ≡ s.line
  pub number : ℕ
  pub first : t.first ≡ R.Method number
  pub of_first : IsProc own number s.first
  pub other : ℕ
  pub second : t.second ≡ R.Method other
  pub of_second : IsProc own other s.second
  pub hints : AllZip (HintStands own) s.hints t.hints

-- A given box has its name, and a number for its cat.
pub record GivenStands (cats : List (Cat Name)) (g : Given Name) (h : Given Ref) : Type 0 where
  pub name : h.name ≡ g.name
  pub number : ℕ
  pub cat : h.cat ≡ R.Cat number
  pub of_cat : IsCat cats number g.cat

-- A cat has its name and its variables, and each of its parts stands for its own.
pub record CatStands (cats : List (Cat Name)) (own : Cat Name) (c : Cat Ref) : Type 0 where
  pub name : c.name ≡ own.name
  pub vars : c.vars ≡ own.vars
  pub given : AllZip (GivenStands cats) own.given c.given
  pub procs : AllZip (ProcStands cats own) own.procs c.procs
  pub semis : AllZip (SemiStands own) own.semis c.semis

-- A box has its name, and numbers for its cat and for the boxes that it is given.
pub record BoxStands (cats : List (Cat Name)) (boxes : List BoxDecl) (b : BoxDecl) (i : BoxInfo) : Type 0
  where
    pub name : i.name ≡ b.name
    pub cat : IsCat cats i.cat b.cat
    pub given : AllZip (λ name number. IsBox boxes number name) b.given i.given

-- The cats of a program are the built-in ones and those of the text, its boxes are those of the text, and
-- its actions are numbered by box. Of levels nothing is said.
pub record Stands (tree : Tree) (p : Program) : Type 0 where
  pub cats : AllZip (CatStands (input ∷ output ∷ tree.cats)) (input ∷ output ∷ tree.cats) p.cats
  pub boxes : AllZip (BoxStands (input ∷ output ∷ tree.cats) tree.boxes) tree.boxes p.boxes
  pub actions : p.actions ≡ actions_of p.cats 0 p.boxes
