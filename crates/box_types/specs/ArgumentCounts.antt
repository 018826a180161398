-- Calls and boxes with another number of arguments than declared.
use Rattle.std.specs.Prelude.{ℕ, ◌==◌, Bool, false, not, [], length, Option, None, Some, option_map}
use Rattle.seuss_program.specs.declared.tree.Name.{Name}
use Rattle.seuss_program.specs.declared.tree.Proc.{Proc}
use Rattle.seuss_program.specs.declared.tree.Cat.{Cat}
use Rattle.box_types.specs.Scopes.{cat_named, method_called}
use Rattle.box_types.specs.Twice.{fails}
use Rattle.box_types.specs.Walks.{CatName, GivenName, VarName, ProcName, LocalName, GivenCat, When, Value}
use Rattle.box_types.specs.Walks.{Assigned, Takes, Target, Method, First, Second, HintName, BoxName, BoxCat}
use Rattle.box_types.specs.Walks.{BoxGiven, Test}

-- whether a number is another one than declared, where that is known
abbrev pub is_another : Option ℕ → ℕ → Bool
is_another None n = false
is_another (Some declared) n = not (declared == n)

-- how many arguments a method takes, where it is known
abbrev pub taken_by : Option (Proc Name) → Option ℕ
taken_by q = option_map (λ (q : Proc Name). length q.params) q

-- how many boxes a cat is given, where it is known
abbrev pub given_to : Option (Cat Name) → Option ℕ
given_to c = option_map (λ (c : Cat Name). length c.given) c

-- a call, and a box, with another number of arguments than declared
abbrev pub arguments_at : Test
arguments_at (Method cats own visible c) =
    fails (is_another (taken_by (method_called cats own visible c)) (length c.args)) c.method.line
arguments_at (BoxCat cats b) = fails (is_another (given_to (cat_named cats b.cat)) (length b.given))
    b.cat.line
arguments_at (CatName cats n name) = []
arguments_at (GivenName own n name) = []
arguments_at (VarName own n name) = []
arguments_at (ProcName own n q earlier) = []
arguments_at (LocalName own n scope name) = []
arguments_at (GivenCat cats name) = []
arguments_at (When n line) = []
arguments_at (Value own visible wanted e) = []
arguments_at (Assigned own visible name) = []
arguments_at (Takes cats own visible kind name c) = []
arguments_at (Target own visible name) = []
arguments_at (First own n s) = []
arguments_at (Second own name) = []
arguments_at (HintName own s n h) = []
arguments_at (BoxName cats boxes n b) = []
arguments_at (BoxGiven cats boxes b n name) = []
