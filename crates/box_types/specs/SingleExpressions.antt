-- Expressions that stand for themselves, outside of a text: they see the variables of a cat, and no more.
use Rattle.std.specs.Prelude.{◌≡◌, ℕ, List, [], slice_get, Option, None, Some, Result, Ok, Err}
use Rattle.seuss_program.specs.declared.tree.Kind.TheVariants as K
use Rattle.seuss_program.specs.declared.tree.Name.{Name}
use Rattle.seuss_program.specs.declared.tree.Ref.{Ref}
use Rattle.seuss_program.specs.declared.tree.Var.{Var}
use Rattle.seuss_program.specs.declared.tree.Expr.{Expr}
use Rattle.seuss_program.specs.declared.tree.Cat.{Cat}
use Rattle.seuss_program.specs.declared.program.Program.{Program}
use Rattle.seuss_program.specs.Keeping.{Scope, var_kinds}
use Rattle.box_types.specs.declared.refusal.CheckRefusal.{CheckRefusal}
use Rattle.box_types.specs.declared.refusal.CheckRefusal.TheVariants as R
use Rattle.box_types.specs.Answers.{BeginsWith}
use Rattle.box_types.specs.Walks.{Place, Value}
use Rattle.box_types.specs.Unknown.{unknown_at}
use Rattle.box_types.specs.WrongType.{type_at}
use Rattle.box_types.specs.Namings.{expression}

-- the variables of a cat, where there is one
abbrev pub vars_in : Option (Cat Ref) → List Var
vars_in None = []
vars_in (Some c) = c.vars

-- a cat with these variables, and nothing else
abbrev pub with_vars : List Var → Cat Name
with_vars vars = record {
  name = record { text = []; line = 0 };
  given = [];
  vars = vars;
  procs = [];
  semis = [];
}

-- what an expression sees that stands beside the cat of this number: its variables, and nothing else
abbrev pub seen_beside : Program → ℕ → Cat Name
seen_beside p cat = with_vars (vars_in (slice_get p.cats cat))

-- the place of a single expression, where a bool is wanted
abbrev pub alone : Cat Name → Expr Name → Place
alone own e = Value own [] (Some K.Bool) e

-- The first of the two checks that fails refuses it, at the first line that it finds.
abbrev pub RefusesSingle : CheckRefusal → Cat Name → Expr Name → Type 0
RefusesSingle (R.Unknown l) own e = BeginsWith (unknown_at (alone own e)) l
RefusesSingle (R.WrongType l) own e = (unknown_at (alone own e) ≡ []) × BeginsWith (type_at (alone own e)) l
RefusesSingle R.Memory own e = Unit {0}
RefusesSingle (R.Twice l) own e = ⊥
RefusesSingle (R.WrongKind l) own e = ⊥
RefusesSingle (R.Arguments l) own e = ⊥
RefusesSingle (R.Count l) own e = ⊥

-- each of its names is known, and each of its parts has the type that is wanted there
pub record IsRight (own : Cat Name) (e : Expr Name) : Type 0 where
  pub unknown : unknown_at (alone own e) ≡ []
  pub wrong_type : type_at (alone own e) ≡ []

-- A right expression is answered, with each name as its number; else the first check that fails refuses it.
-- Want of memory is free.
abbrev pub ResolvesSingle : Result (Expr Ref) CheckRefusal → Cat Name → Expr Name → Type 0
ResolvesSingle (Ok made) own e = IsRight own e × (made ≡ expression own [] e)
ResolvesSingle (Err r) own e = RefusesSingle r own e

-- what the numbers of a single expression stand for: the variables of this cat
abbrev pub vars_scope : List (Cat Ref) → Cat Ref → Scope
vars_scope cats c = record { cats = cats; given = []; vars = var_kinds c.vars; slots = []; params = 0 }
