-- Items that pass a limit. Of those that are too many, the first one does.
use Rattle.std.specs.Prelude.{ℕ, ◌+◌, ◌==◌, nat_lt, Bool, ◌&&◌, ◌||◌, List, [], ◌∷◌, length, take, Option}
use Rattle.std.specs.Prelude.{None, Some}
use Rattle.std.specs.List.{count_by}
use Rattle.seuss_program.specs.declared.tree.Name.{Name}
use Rattle.seuss_program.specs.declared.tree.Proc.{Proc}
use Rattle.seuss_program.specs.declared.tree.Cat.{Cat}
use Rattle.seuss_program.specs.declared.tree.BoxDecl.{BoxDecl}
use Rattle.box_types.specs.Scopes.{cat_named}
use Rattle.box_types.specs.Twice.{fails}
use Rattle.box_types.specs.WrongKind.{is_action}
use Rattle.box_types.specs.Walks.{CatName, GivenName, VarName, ProcName, LocalName, GivenCat, When, Value}
use Rattle.box_types.specs.Walks.{Assigned, Takes, Target, Method, First, Second, HintName, BoxName, BoxCat}
use Rattle.box_types.specs.Walks.{BoxGiven, Test}

-- how many actions a box of a cat has
abbrev pub actions_in : Option (Cat Name) → ℕ
actions_in None = 0
actions_in (Some c) = count_by (λ (q : Proc Name). is_action q.form) c.procs

-- how many actions boxes have together
abbrev pub actions_of : List (Cat Name) → List BoxDecl → ℕ
actions_of cats [] = 0
actions_of cats (b ∷ bs) = actions_in (cat_named cats b.cat) + actions_of cats bs

-- the actions of this box pass the limit of 256, and those before it don't
abbrev pub passes : List (Cat Name) → List BoxDecl → BoxDecl → Bool
passes cats before b =
    nat_lt (actions_of cats before) 257
    && nat_lt 256 (actions_of cats before + actions_in (cat_named cats b.cat))

-- the result of a procedure has a slot of its own after the parameters, and stands at the name
abbrev pub result_passes : Proc Name → Bool
result_passes q = q.gives && length q.params == 32

-- At most 64 cats beside the two built-in ones, 128 boxes, 256 actions, 16 given boxes, 32 variables and
-- 64 procedures of a cat, 32 slots and 16 alternatives of a procedure, 64 certificates, and depth 4.
abbrev pub count_at : Test
count_at (CatName cats n name) = fails (n == 66) name.line
count_at (GivenName own n name) = fails (n == 16) name.line
count_at (VarName own n name) = fails (n == 32) name.line
count_at (ProcName own n q earlier) = fails (n == 64 || result_passes q) q.name.line
count_at (LocalName own n scope name) = fails (scope.next == 32) name.line
count_at (When n line) = fails (n == 16) line
count_at (First own n s) = fails (n == 64) s.first.line
count_at (HintName own s n h) = fails (nat_lt 4 h.depth) h.line
count_at (BoxName cats boxes n b) = fails (n == 128 || passes cats (take n boxes) b) b.name.line
count_at (GivenCat cats name) = []
count_at (Value own visible wanted e) = []
count_at (Assigned own visible name) = []
count_at (Takes cats own visible kind name c) = []
count_at (Target own visible name) = []
count_at (Method cats own visible c) = []
count_at (Second own name) = []
count_at (BoxCat cats b) = []
count_at (BoxGiven cats boxes b n name) = []
