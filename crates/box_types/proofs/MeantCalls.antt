-- A call in which every name is known, and names what it is used for, stands for itself with numbers.
use Rattle.std.specs.Prelude.{◌≡◌, ℕ, Bool, false, List, [], slice_get, Option}
use Rattle.std.specs.Prelude.{Some, option_and_then, unwrap_or, is_none}
use Rattle.std.proofs.Common.{refl, ap, subst, ◌∙◌}
use Rattle.seuss_program.specs.declared.tree.Name.{Name}
use Rattle.seuss_program.specs.declared.tree.Ref.TheVariants as R
use Rattle.seuss_program.specs.declared.tree.Param.{Param}
use Rattle.seuss_program.specs.declared.tree.Given.{Given}
use Rattle.seuss_program.specs.declared.tree.Call.{Call}
use Rattle.seuss_program.specs.declared.tree.Form.{Form}
use Rattle.seuss_program.specs.declared.tree.Proc.{Proc}
use Rattle.seuss_program.specs.declared.tree.Cat.{Cat}
use Rattle.box_types.specs.declared.scopes.Local.{Local}
use Rattle.box_types.specs.declared.scopes.Meaning.{Meaning}
use Rattle.box_types.specs.declared.scopes.Meaning.TheVariants as M
use Rattle.box_types.specs.Scopes.{same, cat_named, given_at, given_number, proc_number, target_cat}
use Rattle.box_types.specs.Scopes.{method_called, meaning_in, meaning_of}
use Rattle.box_types.specs.Walks as W
use Rattle.box_types.specs.Walks.{Target, Method}
use Rattle.box_types.specs.Unknown.{is_nothing, is_undeclared, unknown_cat, unknown_at}
use Rattle.box_types.specs.WrongKind.{is_no_box, is_no_method, is_not_called, is_action, kind_at}
use Rattle.box_types.specs.Namings.{cat_number, expression, method_in, ref_of, call}
use Rattle.box_types.specs.Locals.{Locals}
use Rattle.box_types.specs.Meanings.{IsCat, ExprStands, CallStands}
use Rattle.box_types.proofs.OwnNames.{none_first, none_second, no_failure}
use Rattle.box_types.proofs.FirstNames.{is_first, has_number}
use Rattle.box_types.proofs.MeantNames.{InCat, AVar, AGiven, AProc, Nowhere, in_cat, AtPlace, ALocal, OfCat}
use Rattle.box_types.proofs.MeantNames.{at_place}
use Rattle.box_types.proofs.SeenLocals.{Sees}
use Rattle.box_types.proofs.MeantExpressions.{expression_stands}
use Rattle.box_types.proofs.Zips.{numbered_zip}

-- a name that is the name of a cat
pub record KnownCat (cats : List (Cat Name)) (name : Name) : Type 0 where
  pub number : ℕ
  pub first : IsCat cats number name
  pub named : cat_named cats name ≡ Some first.item
  pub numbered : cat_number cats name ≡ number

-- a name that isn't unknown as a cat is the name of one
pub known_cat : (cats : List (Cat Name)) (name : Name) → unknown_cat cats name ≡ [] → KnownCat cats name
known_cat cats name none =
    let at = has_number (λ (c : Cat Name). same c.name name) 0 cats
    (no_failure (is_none (cat_named cats name)) name.line none) in
    let first = is_first (λ (c : Cat Name). c.name) cats name at.0 at.1 in
    record {
      number = at.0;
      first = first.0;
      named = first.1;
      numbered = ap (λ (o : Option ℕ). unwrap_or o 0) at.1;
    }

-- each given box of a cat has a cat
pub record KnownGivens (cats : List (Cat Name)) (own : Cat Name) : Type 0 where
  pub known : (n : ℕ) (g : Given Name) → slice_get own.given n ≡ Some g → KnownCat cats g.cat

-- a name that can be called is a given box
box_at : (own : Cat Name) (visible : List Local) (name : Name) (m : Meaning) → AtPlace own visible name m →
    is_nothing m ≡ false → is_no_box m ≡ false →
    (n : ℕ) × (m ≡ M.GivenBox n) × (given_number own name ≡ Some n)
box_at own visible name _ (ALocal l is) known box = absurd (cc)
box_at own visible name _ (OfCat _ none (AVar n kind is)) known box = absurd (cc)
box_at own visible name _ (OfCat _ none (AGiven n is)) known box = (n, refl, is)
box_at own visible name _ (OfCat _ none (AProc n is)) known box = absurd (cc)
box_at own visible name _ (OfCat _ none Nowhere) known box = absurd (cc)

-- a name of a cat that passes as a method is a procedure
pub method_at : (test : Form Name → Bool) (own : Cat Name) (name : Name) (m : Meaning) → InCat own name m →
    is_nothing m ≡ false → is_no_method test own m ≡ false →
    (n : ℕ) × (m ≡ M.Procedure n) × (proc_number own name ≡ Some n)
method_at test own name _ (AVar n kind is) known method = absurd (cc)
method_at test own name _ (AGiven n is) known method = absurd (cc)
method_at test own name _ (AProc n is) known method = (n, refl, is)
method_at test own name _ Nowhere known method = absurd (cc)

-- the cat of the given box that a name means
target_by : (cats : List (Cat Name)) (own : Cat Name) (visible : List Local) (name : Name) (n : ℕ)
    (g : Given Name) (c : Cat Name) → meaning_of own visible name ≡ M.GivenBox n →
    slice_get own.given n ≡ Some g → cat_named cats g.cat ≡ Some c →
    target_cat cats own visible name ≡ Some c
target_by cats own visible name n g c means there named =
    ap (λ (x : Meaning). option_and_then (λ (y : Given Name). cat_named cats y.cat) (given_at own x)) means
    ∙ (ap (option_and_then (λ (y : Given Name). cat_named cats y.cat)) there ∙ named)

-- the number of a method of a cat that is known
method_by : (o : Option (Cat Name)) (c : Cat Name) (name : Name) (n : ℕ) → o ≡ Some c →
    proc_number c name ≡ Some n → method_in o name ≡ R.Method n
method_by o c name n known number = ap (λ (o : Option (Cat Name)). method_in o name) known
    ∙ ap (λ (o : Option ℕ). R.Method (unwrap_or o 0)) number

module _ (cats : List (Cat Name)) (own : Cat Name) (givens : KnownGivens cats own) (here : Locals)
    (visible : List Local) (next : ℕ) (sees : Sees here visible next) where
  -- a call at which two checks find nothing stands for itself with numbers
  pub call_stands : (c : Call Name) → W.call unknown_at cats own visible c ≡ [] →
      W.call kind_at cats own visible c ≡ [] →
      CallStands cats own here c (call cats own visible c)
  call_stands c known right =
      let of_target : List ℕ = unknown_at (Target own visible c.target) in
      let of_method : List ℕ = unknown_at (Method cats own visible c) in
      let after_target = none_second of_target _ known in
      let kind_target : List ℕ = kind_at (Target own visible c.target) in
      let kind_method : List ℕ = kind_at (Method cats own visible c) in
      let right_after = none_second kind_target _ right in
      let m : Meaning = meaning_of own visible c.target in
      let box = box_at own visible c.target m (at_place own visible c.target)
      (no_failure (is_nothing m) c.target.line (none_first of_target _ known))
      (no_failure (is_no_box m) c.target.line (none_first kind_target _ right)) in
      let given = is_first (λ (g : Given Name). g.name) own.given c.target box.0 box.2 in
      let g : Given Name = given.0.item in
      let cat : KnownCat cats g.cat = givens.known box.0 g given.0.there in
      let tc : Cat Name = cat.first.item in
      let target : target_cat cats own visible c.target ≡ Some tc =
      target_by cats own visible c.target box.0 g tc box.1 given.0.there cat.named in
      let declared : is_nothing (meaning_in tc c.method) ≡ false =
      subst (λ (o : Option (Cat Name)). is_undeclared o c.method ≡ false) target
      (no_failure (is_undeclared (target_cat cats own visible c.target) c.method) c.method.line
      (none_first of_method _ after_target)) in
      let method : is_no_method is_action tc (meaning_in tc c.method) ≡ false =
      subst (λ (o : Option (Cat Name)). is_not_called o c.method ≡ false) target
      (no_failure (is_not_called (target_cat cats own visible c.target) c.method) c.method.line
      (none_first kind_method _ right_after)) in
      let called = method_at is_action tc c.method (meaning_in tc c.method) (in_cat tc c.method) declared
      method in
      let params : List Param = W.params_of (method_called cats own visible c) in
      record {
        box = box.0;
        target = ap ref_of box.1;
        given = given.0;
        cat = cat.number;
        of_cat = cat.first;
        number = called.0;
        method = method_by (target_cat cats own visible c.target) tc c.method called.0 target called.2;
        called = (is_first (λ (q : Proc Name). q.name) tc.procs c.method called.0 called.2).0;
        args = numbered_zip (ExprStands own here) (expression own visible)
            (W.argument unknown_at cats own visible params) (W.argument kind_at cats own visible params)
            (λ n e none clean. expression_stands own here visible next sees e none clean) 0 c.args
            (none_second of_method _ after_target) (none_second kind_method _ right_after);
      }
