-- Names, certificates and hints that stand twice where they may stand once.
use Rattle.std.specs.Prelude.{ℕ, ◌+◌, Bool, true, false, ◌&&◌, ◌||◌, List, [], ◌∷◌, take}
use Rattle.std.specs.List.{list_any}
use Rattle.std.proofs.Math.Bool.{beq}
use Rattle.seuss_program.specs.declared.tree.Name.{Name}
use Rattle.seuss_program.specs.declared.tree.Var.{Var}
use Rattle.seuss_program.specs.declared.tree.Given.{Given}
use Rattle.seuss_program.specs.declared.tree.Proc.{Proc}
use Rattle.seuss_program.specs.declared.tree.Hint.{Hint}
use Rattle.seuss_program.specs.declared.tree.Semi.{Semi}
use Rattle.seuss_program.specs.declared.tree.Cat.{Cat}
use Rattle.seuss_program.specs.declared.tree.BoxDecl.{BoxDecl}
use Rattle.box_types.specs.declared.scopes.Local.{Local}
use Rattle.box_types.specs.Scopes.{same}
use Rattle.box_types.specs.Walks.{CatName, GivenName, VarName, ProcName, LocalName, GivenCat, When, Value}
use Rattle.box_types.specs.Walks.{Assigned, Takes, Target, Method, First, Second, HintName, BoxName, BoxCat}
use Rattle.box_types.specs.Walks.{BoxGiven, Test}

-- the line of a place that fails
abbrev pub fails : Bool → ℕ → List ℕ
fails true line = line ∷ []
fails false line = []

-- whether one of these has the name
abbrev pub has_name : {X : Type 0} → (X → Name) → List X → Name → Bool
has_name name_of xs name = list_any (λ x. same (name_of x) name) xs

-- whether one of these given boxes has the name
abbrev pub has_given : List (Given Name) → Name → Bool
has_given gs name = has_name (λ (g : Given Name). g.name) gs name

-- whether one of these variables has the name
abbrev pub has_var : List Var → Name → Bool
has_var vs name = has_name (λ (v : Var). v.name) vs name

-- whether one of these procedures has the name
abbrev pub has_proc : List (Proc Name) → Name → Bool
has_proc qs name = has_name (λ (q : Proc Name). q.name) qs name

-- whether one of these locals has the name
abbrev pub has_local : List Local → Name → Bool
has_local ls name = has_name (λ (l : Local). l.name) ls name

-- whether a name is that of a given box, of a variable or of one of the first procedures of a cat
abbrev pub is_member : Cat Name → ℕ → Name → Bool
is_member own n name = has_given own.given name ||
    (has_var own.vars name || has_proc (take n own.procs) name)

-- two certificates with the same methods, in the same order
abbrev pub same_pair : Semi Name → Semi Name → Bool
same_pair a b = same a.first b.first && same a.second b.second

-- two hints of the same side and variable
abbrev pub same_hint : Hint Name → Hint Name → Bool
same_hint a b = beq a.front b.front && same a.name b.name

-- The second one of a pair that may not share a name. A procedure may not have the name of a local of a
-- procedure before it, nor a local that of its procedure, of one before it or of a visible name.
abbrev pub twice_at : Test
twice_at (CatName cats n name) = fails (has_name (λ (c : Cat Name). c.name) (take n cats) name) name.line
twice_at (GivenName own n name) = fails (has_given (take n own.given) name) name.line
twice_at (VarName own n name) = fails (has_given own.given name || has_var (take n own.vars) name) name.line
twice_at (ProcName own n q earlier) =
    fails (is_member own n q.name || has_name (λ (m : Name). m) earlier q.name) q.name.line
twice_at (LocalName own n scope name) =
    fails (is_member own (n + 1) name || has_local scope.visible name) name.line
twice_at (First own n s) = fails (list_any (λ (t : Semi Name). same_pair t s) (take n own.semis))
    s.first.line
twice_at (HintName own s n h) =
    fails (list_any (λ (g : Hint Name). same_hint g h) (take n s.hints)) h.name.line
twice_at (BoxName cats boxes n b) =
    fails (has_name (λ (a : BoxDecl). a.name) (take n boxes) b.name) b.name.line
twice_at (GivenCat cats name) = []
twice_at (When n line) = []
twice_at (Value own visible wanted e) = []
twice_at (Assigned own visible name) = []
twice_at (Takes cats own visible kind name c) = []
twice_at (Target own visible name) = []
twice_at (Method cats own visible c) = []
twice_at (Second own name) = []
twice_at (BoxCat cats b) = []
twice_at (BoxGiven cats boxes b n name) = []
