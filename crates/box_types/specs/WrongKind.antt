-- Names that are declared as something else than what they are used for.
use Rattle.std.specs.Prelude.{ℕ, List, Bool, true, false, [], slice_get, Option, None, Some}
use Rattle.seuss_program.specs.declared.tree.Name.{Name}
use Rattle.seuss_program.specs.declared.tree.Kind.TheVariants as K
use Rattle.seuss_program.specs.declared.tree.Kind.{Kind}
use Rattle.seuss_program.specs.declared.tree.Form.{Form}
use Rattle.seuss_program.specs.declared.tree.Form.TheVariants as F
use Rattle.seuss_program.specs.declared.tree.Proc.{Proc}
use Rattle.seuss_program.specs.declared.tree.Cat.{Cat}
use Rattle.box_types.specs.declared.scopes.Local.{Local}
use Rattle.box_types.specs.declared.scopes.Meaning.{Meaning}
use Rattle.box_types.specs.declared.scopes.Meaning.TheVariants as M
use Rattle.box_types.specs.Scopes.{meaning_of, meaning_in, target_cat}
use Rattle.box_types.specs.Twice.{fails}
use Rattle.box_types.specs.Unknown.{in_names}
use Rattle.box_types.specs.Walks.{CatName, GivenName, VarName, ProcName, LocalName, GivenCat, When, Value}
use Rattle.box_types.specs.Walks.{Assigned, Takes, Target, Method, First, Second, HintName, BoxName, BoxCat}
use Rattle.box_types.specs.Walks.{BoxGiven, Test}

-- a given box and a procedure are no values
abbrev pub is_no_value : Meaning → Bool
is_no_value (M.GivenBox n) = true
is_no_value (M.Procedure n) = true
is_no_value (M.Slot slot kind is_param) = false
is_no_value (M.Variable n kind) = false
is_no_value M.Nothing = false

-- a parameter, a given box and a procedure can't be assigned
abbrev pub is_fixed : Meaning → Bool
is_fixed (M.GivenBox n) = true
is_fixed (M.Procedure n) = true
is_fixed (M.Slot slot kind is_param) = is_param
is_fixed (M.Variable n kind) = false
is_fixed M.Nothing = false

-- only a given box can be called
abbrev pub is_no_box : Meaning → Bool
is_no_box (M.GivenBox n) = false
is_no_box (M.Procedure n) = true
is_no_box (M.Slot slot kind is_param) = true
is_no_box (M.Variable n kind) = true
is_no_box M.Nothing = false

-- whether a procedure is an action
abbrev pub is_action : Form Name → Bool
is_action (F.Total ss) = false
is_action (F.Partial alts) = false
is_action (F.Action alts) = true

-- whether a procedure isn't total
abbrev pub is_not_total : Form Name → Bool
is_not_total (F.Total ss) = false
is_not_total (F.Partial alts) = true
is_not_total (F.Action alts) = true

-- whether a procedure is there and its form passes the test
abbrev pub form_is : (Form Name → Bool) → Option (Proc Name) → Bool
form_is test None = false
form_is test (Some q) = test q.form

-- what a cat declares, but not as a procedure, or as one that passes the test
abbrev pub is_no_method : (Form Name → Bool) → Cat Name → Meaning → Bool
is_no_method test c (M.Procedure n) = form_is test (slice_get c.procs n)
is_no_method test c (M.GivenBox n) = true
is_no_method test c (M.Slot slot kind is_param) = true
is_no_method test c (M.Variable n kind) = true
is_no_method test c M.Nothing = false

-- a name that a cat, where it is known, declares as no method
abbrev pub is_not_called : Option (Cat Name) → Name → Bool
is_not_called None name = false
is_not_called (Some c) name = is_no_method is_action c (meaning_in c name)

abbrev pub is_seq : Kind → Bool
is_seq K.Int = false
is_seq K.Bool = false
is_seq K.Seq = true

-- only a seq variable has a hint
abbrev pub has_no_hint : Meaning → Bool
has_no_hint (M.Variable n K.Int) = true
has_no_hint (M.Variable n K.Bool) = true
has_no_hint (M.Variable n K.Seq) = false
has_no_hint (M.GivenBox n) = true
has_no_hint (M.Procedure n) = true
has_no_hint (M.Slot slot kind is_param) = true
has_no_hint M.Nothing = false

-- the line of a name that stands for no value at a place of a procedure
abbrev pub no_value : Cat Name → List Local → Name → List ℕ
no_value own visible name = fails (is_no_value (meaning_of own visible name)) name.line

-- a name that is declared as something else
abbrev pub kind_at : Test
kind_at (Value own visible wanted e) = in_names (no_value own visible) e
kind_at (Assigned own visible name) = fails (is_fixed (meaning_of own visible name)) name.line
kind_at (Target own visible name) = fails (is_no_box (meaning_of own visible name)) name.line
kind_at (Method cats own visible c) =
    fails (is_not_called (target_cat cats own visible c.target) c.method) c.method.line
kind_at (First own n s) = fails (is_no_method is_action own (meaning_in own s.first)) s.first.line
kind_at (Second own name) = fails (is_no_method is_not_total own (meaning_in own name)) name.line
kind_at (HintName own s n h) = fails (has_no_hint (meaning_in own h.name)) h.name.line
kind_at (CatName cats n name) = []
kind_at (GivenName own n name) = []
kind_at (VarName own n name) = []
kind_at (ProcName own n q earlier) = []
kind_at (LocalName own n scope name) = []
kind_at (GivenCat cats name) = []
kind_at (When n line) = []
kind_at (Takes cats own visible kind name c) = []
kind_at (BoxName cats boxes n b) = []
kind_at (BoxCat cats b) = []
kind_at (BoxGiven cats boxes b n name) = []
