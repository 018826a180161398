-- What a name stands for: first among the names that are visible at a place of a procedure, then among
-- those of its cat.
use Rattle.std.specs.Prelude.{ℕ, ◌+◌, Bool, false, if◌then◌else◌, List, [], ◌∷◌, ◌++◌, length, codes}
use Rattle.std.specs.Prelude.{slice_get, Option, None, Some, option_map, option_and_then}
use Rattle.std.specs.List.{position_from, find}
use Rattle.std.specs.Str.{bytes_eq}
use Rattle.seuss_program.specs.declared.tree.Name.{Name}
use Rattle.seuss_program.specs.declared.tree.Kind.{Kind}
use Rattle.seuss_program.specs.declared.tree.Kind.TheVariants as K
use Rattle.seuss_program.specs.declared.tree.Var.{Var}
use Rattle.seuss_program.specs.declared.tree.Given.{Given}
use Rattle.seuss_program.specs.declared.tree.Call.{Call}
use Rattle.seuss_program.specs.declared.tree.Proc.{Proc}
use Rattle.seuss_program.specs.declared.tree.Cat.{Cat}
use Rattle.box_types.specs.declared.scopes.Local.{Local}
use Rattle.box_types.specs.declared.scopes.Scope.{Scope}
use Rattle.box_types.specs.declared.scopes.Meaning.{Meaning}
use Rattle.box_types.specs.declared.scopes.Meaning.TheVariants as M

-- whether two names have the same text, on whatever lines
abbrev pub same : Name → Name → Bool
same a b = bytes_eq a.text b.text

-- the first item with this name
abbrev pub named : {X : Type 0} → (X → Name) → List X → Name → Option X
named name_of xs name = find (λ x. same (name_of x) name) xs

-- the place of the first item with this name, counted from 0
abbrev pub number_of : {X : Type 0} → (X → Name) → List X → Name → Option ℕ
number_of name_of xs name = position_from (λ x. same (name_of x) name) 0 xs

-- the cat of a name
abbrev pub cat_named : List (Cat Name) → Name → Option (Cat Name)
cat_named cats name = named (λ (c : Cat Name). c.name) cats name

-- the number of a name among the given boxes of a cat
abbrev pub given_number : Cat Name → Name → Option ℕ
given_number own name = number_of (λ (g : Given Name). g.name) own.given name

-- the number of a name among the procedures of a cat
abbrev pub proc_number : Cat Name → Name → Option ℕ
proc_number own name = number_of (λ (q : Proc Name). q.name) own.procs name

-- the procedure of a name
abbrev pub proc_named : Cat Name → Name → Option (Proc Name)
proc_named own name = named (λ (q : Proc Name). q.name) own.procs name

-- the one of two that is there, the first where both are
abbrev pub or_else : {X : Type 0} → Option X → Option X → Option X
or_else (Some x) o = Some x
or_else None o = o

-- what a local stands for: its slot, its type, and whether it is a parameter
abbrev pub as_local : Local → Meaning
as_local l = M.Slot l.slot l.kind l.is_param

-- what a name stands for among the visible locals, where it is one
abbrev pub local_meaning : List Local → Name → Option Meaning
local_meaning visible name = option_map as_local (named (λ (l : Local). l.name) visible name)

-- the type of a variable; one that isn't there counts as an int
abbrev pub kind_in : Option Var → Kind
kind_in (Some v) = v.kind
kind_in None = K.Int

-- what a name stands for among variables, where it is one
abbrev pub var_meaning : List Var → Name → Option Meaning
var_meaning vars name =
    option_map (λ n. M.Variable n (kind_in (named (λ (v : Var). v.name) vars name)))
    (number_of (λ (v : Var). v.name) vars name)

-- what a name stands for among the given boxes of a cat, where it is one
abbrev pub given_meaning : Cat Name → Name → Option Meaning
given_meaning own name = option_map M.GivenBox (given_number own name)

-- what a name stands for among the procedures of a cat, where it is one
abbrev pub proc_meaning : Cat Name → Name → Option Meaning
proc_meaning own name = option_map M.Procedure (proc_number own name)

-- what a name of a cat stands for outside its procedures
abbrev pub meaning_in : Cat Name → Name → Meaning
meaning_in own name =
    settle (or_else (var_meaning own.vars name) (or_else (given_meaning own name) (proc_meaning own name)))
  where
    settle : Option Meaning → Meaning
    settle (Some m) = m
    settle None = M.Nothing

-- what a name stands for at a place of a procedure
abbrev pub meaning_of : Cat Name → List Local → Name → Meaning
meaning_of own visible name = inside (local_meaning visible name)
  where
    inside : Option Meaning → Meaning
    inside (Some m) = m
    inside None = meaning_in own name

-- the given box that a meaning is
abbrev pub given_at : Cat Name → Meaning → Option (Given Name)
given_at own (M.GivenBox n) = slice_get own.given n
given_at own (M.Slot slot kind is_param) = None
given_at own (M.Variable n kind) = None
given_at own (M.Procedure n) = None
given_at own M.Nothing = None

-- the cat of the box that a call names
abbrev pub target_cat : List (Cat Name) → Cat Name → List Local → Name → Option (Cat Name)
target_cat cats own visible target =
    option_and_then (λ (g : Given Name). cat_named cats g.cat) (given_at own (meaning_of own visible target))

-- the method that a call names
abbrev pub method_called : List (Cat Name) → Cat Name → List Local → Call Name → Option (Proc Name)
method_called cats own visible call =
    option_and_then (λ (c : Cat Name). proc_named c call.method) (target_cat cats own visible call.target)

-- a name that is declared here takes the next slot, and is visible from here on
abbrev pub declared : Name → Kind → Bool → Scope → Scope
declared name kind is_param scope = record {
  visible = scope.visible ++ record { name = name; kind = kind; slot = scope.next; is_param = is_param }
      ∷ [];
  next = scope.next + 1;
  earlier = scope.earlier ++ name ∷ [];
}

-- after a block its names aren't visible any more, and keep their slots
abbrev pub behind : Scope → Scope → Scope
behind before inside = record inside { visible = before.visible }

-- the result of a procedure as a local: of type int, with the slot after the parameters
abbrev pub the_result : Proc Name → Local
the_result q = record {
  name = record { text = codes "result"; line = 0 };
  kind = K.Int;
  slot = length q.params;
  is_param = false;
}

-- the result as a visible local, where the procedure has one
abbrev pub result_local : Proc Name → List Local
result_local q = if q.gives then the_result q ∷ [] else []

-- at the head of a procedure only its result is visible, and no slot is taken
abbrev pub at_head : Proc Name → List Name → Scope
at_head q earlier = record { visible = result_local q; next = 0; earlier = earlier }

-- after the parameters the result has the next slot
abbrev pub with_result : Proc Name → Scope → Scope
with_result q scope = record scope { next = if q.gives then scope.next + 1 else scope.next }
