-- A call that passes the checks names a method of the program, with arguments of its kinds.
use Rattle.std.specs.Prelude.{◌≡◌, ℕ, zero, suc, ◌+◌, ◌==◌, Bool, true, false, ◌&&◌, ◌||◌, not}
use Rattle.std.specs.Prelude.{if◌then◌else◌, List, [], ◌∷◌, ◌++◌, map, length, slice_get, Option, None}
use Rattle.std.specs.Prelude.{Some, option_map, option_and_then, unwrap_or}
use Rattle.std.specs.List.{find, position_from}
use Rattle.std.proofs.Common.{◌⊎◌, inl, inr, refl, sym, ap, subst, ◌∙◌, arith}
use Rattle.seuss_program.specs.declared.tree.Name.{Name}
use Rattle.seuss_program.specs.declared.tree.Ref.{Ref}
use Rattle.seuss_program.specs.declared.tree.Ref.TheVariants as R
use Rattle.seuss_program.specs.declared.tree.Kind.{Kind}
use Rattle.seuss_program.specs.declared.tree.Kind.TheVariants as K
use Rattle.seuss_program.specs.declared.tree.Var.{Var}
use Rattle.seuss_program.specs.declared.tree.Param.{Param}
use Rattle.seuss_program.specs.declared.tree.Given.{Given}
use Rattle.seuss_program.specs.declared.tree.Expr.{Expr}
use Rattle.seuss_program.specs.declared.tree.Call.{Call}
use Rattle.seuss_program.specs.declared.tree.Form.{Form}
use Rattle.seuss_program.specs.declared.tree.Proc.{Proc}
use Rattle.seuss_program.specs.declared.tree.Cat.{Cat}
use Rattle.seuss_program.specs.Keeping as P
use Rattle.box_types.specs.declared.scopes.Local.{Local}
use Rattle.box_types.specs.declared.scopes.Meaning.{Meaning}
use Rattle.box_types.specs.declared.scopes.Meaning.TheVariants as M
use Rattle.box_types.specs.Scopes as Sc
use Rattle.box_types.specs.Scopes.{meaning_of, meaning_in, method_called, target_cat, cat_named}
use Rattle.box_types.specs.Scopes.{given_number, proc_number, proc_named}
use Rattle.box_types.specs.Walks as W
use Rattle.box_types.specs.Walks.{Place, Value, Assigned, Takes, Target, Method, Test}
use Rattle.box_types.specs.Unknown.{in_names, is_nothing, is_undeclared, unknown_name, unknown_at}
use Rattle.box_types.specs.WrongKind as WK
use Rattle.box_types.specs.WrongKind.{is_fixed, is_no_box, is_no_method, is_not_called, form_is, no_value}
use Rattle.box_types.specs.WrongKind.{kind_at}
use Rattle.box_types.specs.WrongType as T
use Rattle.box_types.specs.WrongType.{type_at}
use Rattle.box_types.specs.ArgumentCounts.{is_another, arguments_at}
use Rattle.box_types.specs.Limits.{count_at}
use Rattle.box_types.specs.Namings as N
use Rattle.call_order.specs.Calls as C
use Rattle.box_types.proofs.KeptExpressions.{none-left, none-right, passes-by, same-kind, is-kind-same}
use Rattle.box_types.proofs.KeptExpressions.{Fits, Agrees, Known, has_kind}
use Rattle.call_order.proofs.NumberPlaces.{number_at, sized-by}

-- the tests of numbers, names, kinds, types, numbers of arguments and limits at a place
abbrev pub all_at : Test
all_at place = number_at place ++ (unknown_at place ++
    (kind_at place ++ (type_at place ++ (arguments_at place ++ count_at place))))

-- a place that none of them finds
pub record Clean (place : Place) : Type 0 where
  pub number : number_at place ≡ []
  pub unknown : unknown_at place ≡ []
  pub kind : kind_at place ≡ []
  pub type : type_at place ≡ []
  pub arguments : arguments_at place ≡ []
  pub count : count_at place ≡ []

-- a place where nothing is found is clean
pub clean_by : (place : Place) → all_at place ≡ [] → Clean place
clean_by place h =
    let h0 : unknown_at place ++ (kind_at place ++
    (type_at place ++ (arguments_at place ++ count_at place))) ≡ [] = none-right (number_at place) _ h in
    let h1 : kind_at place ++ (type_at place ++ (arguments_at place ++ count_at place)) ≡ [] =
    none-right (unknown_at place) _ h0 in
    let h2 : type_at place ++ (arguments_at place ++ count_at place) ≡ [] =
    none-right (kind_at place) _ h1 in
    let h3 : arguments_at place ++ count_at place ≡ [] = none-right (type_at place) _ h2 in record {
      number = none-left (number_at place) _ h;
      unknown = none-left (unknown_at place) _ h0;
      kind = none-left (kind_at place) _ h1;
      type = none-left (type_at place) _ h2;
      arguments = none-left (arguments_at place) _ h3;
      count = none-right (arguments_at place) _ h3;
    }

-- the place of an item, and the item there
pub position-get : {X : Type 0} (test : X → Bool) (n : ℕ) (xs : List X) (m : ℕ) →
    position_from test n xs ≡ Some m →
    (k : ℕ) × (x : X) × (m ≡ n + k) × (slice_get xs k ≡ Some x) × (find test xs ≡ Some x)
position-get test n [] m h = absurd (cc)
position-get {X} test n (x ∷ xs) m h = go (test x) (position_from test (n + 1) xs) (find test xs) h
    (position-get test (n + 1) xs m)
  where
    go : (t : Bool) (o : Option ℕ) (f : Option X) → (if t then Some n else o) ≡ Some m →
        (o ≡ Some m → (k : ℕ) × (y : X) × (m ≡ n + 1 + k) × (slice_get xs k ≡ Some y) × (f ≡ Some y)) →
        (k : ℕ) × (y : X) × (m ≡ n + k) × (slice_get (x ∷ xs) k ≡ Some y)
        × ((if t then Some x else f) ≡ Some y)
    go true o f h rest = let e : n ≡ m = cc in (0, x, omega (arith, e), refl, refl)
    go false o f h rest = let r = rest h in let e : m ≡ n + 1 + r.0 = r.2 in
        (suc r.0, r.1, omega (arith, e), r.3, r.4)

-- what is found has a place
pub find-position : {X : Type 0} (test : X → Bool) (n : ℕ) (xs : List X) (x : X) → find test xs ≡ Some x →
    (m : ℕ) × (position_from test n xs ≡ Some m)
find-position test n [] x h = absurd (cc)
find-position {X} test n (y ∷ xs) x h = go (test y) (find test xs) (position_from test (n + 1) xs) h
    (find-position test (n + 1) xs x)
  where
    go : (t : Bool) (f : Option X) (o : Option ℕ) → (if t then Some y else f) ≡ Some x →
        (f ≡ Some x → (m : ℕ) × (o ≡ Some m)) → (m : ℕ) × ((if t then Some n else o) ≡ Some m)
    go true f o h rest = (n, refl)
    go false f o h rest = rest h

-- an item of a mapped list is that of the list, mapped
pub get-map : {X Y : Type 0} (f : X → Y) (xs : List X) (k : ℕ) →
    slice_get (map f xs) k ≡ option_map f (slice_get xs k)
get-map f [] k = refl
get-map f (x ∷ xs) zero = refl
get-map f (x ∷ xs) (suc k) = get-map f xs k

-- the item at the number of a name, which is the one of the name
pub record At {X : Type 0} (name_of : X → Name) (xs : List X) (name : Name) (number : ℕ) : Type 0 where
  pub item : X
  pub there : slice_get xs number ≡ Some item
  pub found : Sc.named name_of xs name ≡ Some item

-- the number of a name is that of the first item of this name
pub at-number : {X : Type 0} (name_of : X → Name) (xs : List X) (name : Name) (n : ℕ) →
    Sc.number_of name_of xs name ≡ Some n → At name_of xs name n
at-number name_of xs name n h =
    let p = position-get (λ x. Sc.same (name_of x) name) 0 xs n h in
    let e : p.0 ≡ n = omega (arith, p.2) in
    record { item = p.1; there = subst (λ k. slice_get xs k ≡ Some p.1) e p.3; found = p.4 }

-- what a cat's name stands for
settled-given : (v g q : Option Meaning) (n : ℕ) → ((m : Meaning) → v ≡ Some m → (m ≡ M.GivenBox n → ⊥)) →
    ((m : Meaning) → q ≡ Some m → (m ≡ M.GivenBox n → ⊥)) →
    Sc.or_else v (Sc.or_else g q) ≡ Some (M.GivenBox n) → g ≡ Some (M.GivenBox n)
settled-given (Some m) g q n no_var no_proc h = absurd (no_var m refl (cc))
settled-given None (Some m) q n no_var no_proc h = h
settled-given None None q n no_var no_proc h = absurd (no_proc (M.GivenBox n) h refl)

-- a meaning that is a procedure is that of a procedure where no other kind of name has it
settled-procedure : (v g q : Option Meaning) (n : ℕ) →
    ((m : Meaning) → v ≡ Some m → (m ≡ M.Procedure n → ⊥)) →
    ((m : Meaning) → g ≡ Some m → (m ≡ M.Procedure n → ⊥)) →
    Sc.or_else v (Sc.or_else g q) ≡ Some (M.Procedure n) → q ≡ Some (M.Procedure n)
settled-procedure (Some m) g q n no_var no_given h = absurd (no_var m refl (cc))
settled-procedure None (Some m) q n no_var no_given h = absurd (no_given m refl (cc))
settled-procedure None None q n no_var no_given h = h

-- a meaning, or else another one
abbrev pub or_meaning : Meaning → Option Meaning → Meaning
or_meaning other (Some m) = m
or_meaning other None = other

-- what a name means in a cat
pub in-cat : (own : Cat Name) (name : Name) →
    meaning_in own name ≡ or_meaning M.Nothing
    (Sc.or_else (Sc.var_meaning own.vars name)
    (Sc.or_else (Sc.given_meaning own name) (Sc.proc_meaning own name)))
in-cat own name = refl

-- what a name means in a text
pub in-text : (own : Cat Name) (visible : List Local) (name : Name) →
    meaning_of own visible name ≡ or_meaning (meaning_in own name) (Sc.local_meaning visible name)
in-text own visible name = refl

-- a meaning that is a given box is the first one or the other
or-given : (o : Option Meaning) (other : Meaning) (n : ℕ) → or_meaning other o ≡ M.GivenBox n →
    (o ≡ Some (M.GivenBox n)) ⊎ (other ≡ M.GivenBox n)
or-given (Some m) other n h = inl (ap (λ x. Some x) h)
or-given None other n h = inr h

-- a meaning that is a procedure is the first one or the other
or-procedure : (o : Option Meaning) (other : Meaning) (n : ℕ) → or_meaning other o ≡ M.Procedure n →
    (o ≡ Some (M.Procedure n)) ⊎ (other ≡ M.Procedure n)
or-procedure (Some m) other n h = inl (ap (λ x. Some x) h)
or-procedure None other n h = inr h

-- a local is no given box
local-given : (l : Option Local) (n : ℕ) → option_map Sc.as_local l ≡ Some (M.GivenBox n) → ⊥
local-given (Some l) n h = absurd (cc)
local-given None n h = absurd (cc)

-- a local is no procedure
local-procedure : (l : Option Local) (n : ℕ) → option_map Sc.as_local l ≡ Some (M.Procedure n) → ⊥
local-procedure (Some l) n h = absurd (cc)
local-procedure None n h = absurd (cc)

-- a variable is no given box
var-given : (o : Option ℕ) (kind : Kind) (n : ℕ) (m : Meaning) →
    option_map (λ j. M.Variable j kind) o ≡ Some m → m ≡ M.GivenBox n → ⊥
var-given (Some j) kind n m h e = absurd (cc)
var-given None kind n m h e = absurd (cc)

-- a variable is no procedure
var-procedure : (o : Option ℕ) (kind : Kind) (n : ℕ) (m : Meaning) →
    option_map (λ j. M.Variable j kind) o ≡ Some m → m ≡ M.Procedure n → ⊥
var-procedure (Some j) kind n m h e = absurd (cc)
var-procedure None kind n m h e = absurd (cc)

-- a procedure is no given box
proc-given : (o : Option ℕ) (n : ℕ) (m : Meaning) → option_map M.Procedure o ≡ Some m → m ≡ M.GivenBox n → ⊥
proc-given (Some j) n m h e = absurd (cc)
proc-given None n m h e = absurd (cc)

-- a given box is no procedure
given-procedure : (o : Option ℕ) (n : ℕ) (m : Meaning) → option_map M.GivenBox o ≡ Some m →
    m ≡ M.Procedure n → ⊥
given-procedure (Some j) n m h e = absurd (cc)
given-procedure None n m h e = absurd (cc)

-- the number of a given box is the one that was found
given-number : (o : Option ℕ) (n : ℕ) → option_map M.GivenBox o ≡ Some (M.GivenBox n) → o ≡ Some n
given-number (Some j) n h = cc
given-number None n h = absurd (cc)

-- the number of a procedure is the one that was found
proc-number : (o : Option ℕ) (n : ℕ) → option_map M.Procedure o ≡ Some (M.Procedure n) → o ≡ Some n
proc-number (Some j) n h = cc
proc-number None n h = absurd (cc)

-- a given box, and a procedure, is found by its number
pub given_number_is : (own : Cat Name) (visible : List Local) (name : Name) (n : ℕ) →
    meaning_of own visible name ≡ M.GivenBox n → given_number own name ≡ Some n
given_number_is own visible name n h = elim
    (or-given (Sc.local_meaning visible name) (meaning_in own name) n (sym (in-text own visible name) ∙ h)) [
      | inl a ↦ absurd (local-given (Sc.named (λ (l : Local). l.name) visible name) n a)
      | inr b ↦ elim (or-given
          (Sc.or_else (Sc.var_meaning own.vars name)
          (Sc.or_else (Sc.given_meaning own name) (Sc.proc_meaning own name))) M.Nothing n
          (sym (in-cat own name) ∙ b)) [
            | inl c ↦ given-number (given_number own name) n
                (settled-given (Sc.var_meaning own.vars name) (Sc.given_meaning own name)
                (Sc.proc_meaning own name) n
                (var-given (Sc.number_of (λ (v : Var). v.name) own.vars name) _ n)
                (proc-given (proc_number own name) n) c)
            | inr d ↦ absurd (cc)
          ]
    ]

-- a name that means a procedure has its number
pub proc_number_is : (own : Cat Name) (name : Name) (n : ℕ) → meaning_in own name ≡ M.Procedure n →
    proc_number own name ≡ Some n
proc_number_is own name n h = elim
    (or-procedure (Sc.or_else (Sc.var_meaning own.vars name)
    (Sc.or_else (Sc.given_meaning own name) (Sc.proc_meaning own name))) M.Nothing n
    (sym (in-cat own name) ∙ h)) [
      | inl c ↦ proc-number (proc_number own name) n
          (settled-procedure (Sc.var_meaning own.vars name) (Sc.given_meaning own name)
          (Sc.proc_meaning own name) n
          (var-procedure (Sc.number_of (λ (v : Var). v.name) own.vars name) _ n)
          (given-procedure (given_number own name) n) c)
      | inr d ↦ absurd (cc)
    ]

-- a name that is called is a given box
box-called : (m : Meaning) → is_nothing m ≡ false → is_no_box m ≡ false → (n : ℕ) × (m ≡ M.GivenBox n)
box-called (M.GivenBox n) h k = (n, refl)
box-called (M.Procedure n) h k = absurd (cc)
box-called (M.Slot slot kind is_param) h k = absurd (cc)
box-called (M.Variable n kind) h k = absurd (cc)
box-called M.Nothing h k = absurd (cc)

-- a name that is a method, or passes a test on the form of one
pub method-named : (test : Form Name → Bool) (c : Cat Name) (m : Meaning) → is_nothing m ≡ false →
    is_no_method test c m ≡ false →
    (n : ℕ) × (m ≡ M.Procedure n) × (form_is test (slice_get c.procs n) ≡ false)
method-named test c (M.Procedure n) h k = (n, refl, k)
method-named test c (M.GivenBox n) h k = absurd (cc)
method-named test c (M.Slot slot kind is_param) h k = absurd (cc)
method-named test c (M.Variable n kind) h k = absurd (cc)
method-named test c M.Nothing h k = absurd (cc)

-- each given box of a cat has a cat
pub record GivenKnown (cats : List (Cat Name)) (own : Cat Name) : Type 0 where
  pub known : (n : ℕ) (g : Given Name) → slice_get own.given n ≡ Some g →
      (c : Cat Name) × (cat_named cats g.cat ≡ Some c)

-- what a procedure sees of its cat, with names as numbers
pub record SeesCat (cats : List (Cat Name)) (own : Cat Name) (k : P.Scope) : Type 0 where
  pub cats_are : k.cats ≡ map (N.cat cats) cats
  pub given_are : k.given ≡ map (N.given cats) own.given
  pub known : GivenKnown cats own

-- a cat by its name is the one at its number
pub cat_at_number : (cats : List (Cat Name)) (name : Name) (c : Cat Name) → cat_named cats name ≡ Some c →
    slice_get (map (N.cat cats) cats) (N.cat_number cats name) ≡ Some (N.cat cats c)
cat_at_number cats name c h =
    let p = find-position (λ (x : Cat Name). Sc.same x.name name) 0 cats c h in
    let a : At (λ (x : Cat Name). x.name) cats name p.0 =
    at-number (λ (x : Cat Name). x.name) cats name p.0 p.1 in
    let same : a.item ≡ c = some-same (sym a.found ∙ h) in
    ap (λ n. slice_get (map (N.cat cats) cats) (unwrap_or n 0)) p.1
    ∙ (get-map (N.cat cats) cats p.0 ∙
    (ap (option_map (N.cat cats)) a.there ∙ ap (λ x. Some (N.cat cats x)) same))
  where
    some-same : {x y : Cat Name} → Some x ≡ Some y → x ≡ y
    some-same e = cc

module _ (cats : List (Cat Name)) (own : Cat Name) (visible : List Local) (k : P.Scope)
    (agrees : Agrees own visible k) (sees : SeesCat cats own k) where
  -- what a call names: the cat of its box, and the method there
  pub record Named (c : Call Name) : Type 0 where
    pub cat : Cat Name
    pub method : Proc Name
    pub called : method_called cats own visible c ≡ Some method
    pub named : C.called cats own.given c ≡ Some method
    pub numbered : P.called k (N.call cats own visible c) ≡ Some (N.procedure cats cat method)
    pub no_action : WK.is_action method.form ≡ false

  -- a call with a given box and its method is named
  numbered_by : (c : Call Name) (g : Given Name) (tc : Cat Name) (q : Proc Name) (n j : ℕ) →
      meaning_of own visible c.target ≡ M.GivenBox n → slice_get own.given n ≡ Some g →
      cat_named cats g.cat ≡ Some tc → target_cat cats own visible c.target ≡ Some tc →
      proc_number tc c.method ≡ Some j → slice_get tc.procs j ≡ Some q →
      P.called k (N.call cats own visible c) ≡ Some (N.procedure cats tc q)
  numbered_by c g tc q n j box given cat target number there =
      ap (λ (r : Ref). option_and_then
      (P.method_at (N.method_in (target_cat cats own visible c.target) c.method)) (P.given_cat k r))
      (ap N.ref_of box)
      ∙ (ap (λ (gs : List (Given Ref)). option_and_then
      (P.method_at (N.method_in (target_cat cats own visible c.target) c.method))
      (option_and_then (λ (x : Given Ref). P.cat_at k.cats x.cat) (slice_get gs n))) sees.given_are
      ∙ (ap (λ o. option_and_then
      (P.method_at (N.method_in (target_cat cats own visible c.target) c.method))
      (option_and_then (λ (x : Given Ref). P.cat_at k.cats x.cat) o))
      (get-map (N.given cats) own.given n ∙ ap (option_map (N.given cats)) given)
      ∙ (ap (λ cs. option_and_then
      (P.method_at (N.method_in (target_cat cats own visible c.target) c.method))
      (slice_get cs (N.cat_number cats g.cat))) sees.cats_are
      ∙ (ap (λ o. option_and_then
      (P.method_at (N.method_in (target_cat cats own visible c.target) c.method)) o)
      (cat_at_number cats g.cat tc cat)
      ∙ (ap (λ o. P.method_at (N.method_in o c.method) (N.cat cats tc)) target
      ∙ (ap (λ o. P.method_at (R.Method (unwrap_or o 0)) (N.cat cats tc)) number
      ∙ (get-map (N.procedure cats tc) tc.procs j ∙ ap (option_map (N.procedure cats tc)) there)))))))

  -- a call whose target and method are clean is named
  pub named_by : (c : Call Name) → Clean (Target own visible c.target) → Clean (Method cats own visible c) →
      Named c
  named_by c target method =
      let box = box-called (meaning_of own visible c.target)
      (passes-by (is_nothing (meaning_of own visible c.target)) c.target.line target.unknown)
      (passes-by (is_no_box (meaning_of own visible c.target)) c.target.line target.kind) in
      let n : ℕ = box.0 in
      let number : given_number own c.target ≡ Some n = given_number_is own visible c.target n box.1 in
      let at : At (λ (g : Given Name). g.name) own.given c.target n =
      at-number (λ (g : Given Name). g.name) own.given c.target n number in
      let g : Given Name = at.item in
      let known = sees.known.known n g at.there in
      let tc : Cat Name = known.0 in
      let is_target : target_cat cats own visible c.target ≡ Some tc =
      ap (λ m. option_and_then (λ (x : Given Name). cat_named cats x.cat) (Sc.given_at own m)) box.1
      ∙ (ap (λ o. option_and_then (λ (x : Given Name). cat_named cats x.cat) o) at.there ∙ known.1) in
      let undeclared : is_nothing (meaning_in tc c.method) ≡ false =
      subst (λ o. is_undeclared o c.method ≡ false) is_target
      (passes-by (is_undeclared (target_cat cats own visible c.target) c.method) c.method.line
      method.unknown) in
      let uncalled : is_no_method WK.is_action tc (meaning_in tc c.method) ≡ false =
      subst (λ o. is_not_called o c.method ≡ false) is_target
      (passes-by (is_not_called (target_cat cats own visible c.target) c.method) c.method.line
      method.kind) in
      let m = method-named WK.is_action tc (meaning_in tc c.method) undeclared uncalled in
      let j : ℕ = m.0 in
      let proc : At (λ (q : Proc Name). q.name) tc.procs c.method j =
      at-number (λ (q : Proc Name). q.name) tc.procs c.method j (proc_number_is tc c.method j m.1) in
      let q : Proc Name = proc.item in
      record {
        cat = tc;
        method = q;
        called = ap (λ o. option_and_then (λ (x : Cat Name). proc_named x c.method) o) is_target
            ∙ proc.found;
        named = ap (λ o. option_and_then (C.procedure_of cats c.method) o) at.found
            ∙ (ap (λ o. option_and_then (C.procedure_in c.method) o) known.1 ∙ proc.found);
        numbered = numbered_by c g tc q n j box.1 at.there known.1 is_target
            (proc_number_is tc c.method j m.1) proc.there;
        no_action = subst (λ o. form_is WK.is_action o ≡ false) proc.there m.2;
      }

  -- arguments are as many as the parameters, and each of its kind
  arguments-fit : (all ps : List Param) (n : ℕ) (es : List (Expr Name)) →
      ((i : ℕ) → slice_get all (n + i) ≡ slice_get ps i) → length ps ≡ length es →
      W.numbered (W.argument unknown_at cats own visible all) n es ≡ [] →
      W.numbered (W.argument kind_at cats own visible all) n es ≡ [] →
      W.numbered (W.argument type_at cats own visible all) n es ≡ [] →
      W.numbered (W.argument number_at cats own visible all) n es ≡ [] →
      P.arguments_fit k (map (N.expression own visible) es) (P.param_kinds ps) ≡ true
  arguments-fit all [] n [] at count unknown kind type number = refl
  arguments-fit all [] n (e ∷ es) at count unknown kind type number = absurd (omega (arith, count))
  arguments-fit all (p ∷ ps) n [] at count unknown kind type number = absurd (omega (arith, count))
  arguments-fit all (p ∷ ps) n (e ∷ es) at count unknown kind type number =
      let known : Known own visible k agrees e = has_kind own visible k agrees e
      (none-left (in_names (unknown_name own visible) e) _ unknown)
      (none-left (in_names (no_value own visible) e) _ kind)
      (none-left (T.part own visible e).typed.lines _
      (none-left (T.wrong (W.kind_at all n) (T.part own visible e)) _ type))
      (sized-by e (none-left (number_at (Value own visible (W.kind_at all n) e)) _ number)) in
      let here : slice_get all n ≡ Some p =
      (let e0 : n ≡ n + 0 = omega arith in ap (slice_get all) e0 ∙ at 0) in
      let other : T.is_other p.kind known.kind ≡ false =
      subst (λ o. T.differs o (Some known.kind) ≡ false) (ap (option_map (λ (x : Param). x.kind)) here)
      (subst (λ o. T.differs (W.kind_at all n) o ≡ false) known.typed
      (passes-by (T.differs (W.kind_at all n) (T.part own visible e).typed.kind) (T.part own visible e).line
      (none-right (T.part own visible e).typed.lines _
      (none-left (T.wrong (W.kind_at all n) (T.part own visible e)) _ type)))) in
      let rest : P.arguments_fit k (map (N.expression own visible) es) (P.param_kinds ps) ≡ true =
      arguments-fit all ps (n + 1) es
      (λ i. (let e1 : n + 1 + i ≡ n + suc i = omega arith in ap (slice_get all) e1 ∙ at (suc i)))
      (omega (arith, count))
      (none-right (in_names (unknown_name own visible) e) _ unknown)
      (none-right (in_names (no_value own visible) e) _ kind)
      (none-right (T.wrong (W.kind_at all n) (T.part own visible e)) _ type)
      (none-right (number_at (Value own visible (W.kind_at all n) e)) _ number) in
      ap (λ o. P.is_of p.kind o && P.arguments_fit k (map (N.expression own visible) es) (P.param_kinds ps))
      (known.numbered ∙ ap (λ x. Some x) (same-kind p.kind known.kind other))
      ∙ (ap (λ t. t && P.arguments_fit k (map (N.expression own visible) es) (P.param_kinds ps))
      (is-kind-same p.kind) ∙ rest)

-- what finds nothing at items finds nothing in its parts
pub numbered-left : {X : Type 0} (f g : ℕ → X → List ℕ) (n : ℕ) (xs : List X) →
    W.numbered (λ m x. f m x ++ g m x) n xs ≡ [] → W.numbered f n xs ≡ []
numbered-left f g n [] h = refl
numbered-left f g n (x ∷ xs) h =
    let here : f n x ++ g n x ≡ [] = none-left (f n x ++ g n x) _ h in
    ap (λ ls. ls ++ W.numbered f (n + 1) xs) (none-left (f n x) (g n x) here)
    ∙ numbered-left f g (n + 1) xs (none-right (f n x ++ g n x) _ h)

-- where nothing is found by two searches together, nothing is found by the second
pub numbered-right : {X : Type 0} (f g : ℕ → X → List ℕ) (n : ℕ) (xs : List X) →
    W.numbered (λ m x. f m x ++ g m x) n xs ≡ [] → W.numbered g n xs ≡ []
numbered-right f g n [] h = refl
numbered-right f g n (x ∷ xs) h =
    let here : f n x ++ g n x ≡ [] = none-left (f n x ++ g n x) _ h in
    ap (λ ls. ls ++ W.numbered g (n + 1) xs) (none-right (f n x) (g n x) here)
    ∙ numbered-right f g (n + 1) xs (none-right (f n x ++ g n x) _ h)

-- what may be assigned has its kind there
kind-set : (k : P.Scope) (m : Meaning) → Fits k m → is_nothing m ≡ false → is_fixed m ≡ false →
    (kind : Kind) × (W.kind_of m ≡ Some kind) × (P.kind_set k (N.ref_of m) ≡ Some kind)
kind-set k (M.Slot slot kind is_param) fits h g =
    (kind, refl, ap (λ (t : Bool). if t then None else slice_get k.slots slot) (sym fits.1 ∙ g) ∙ fits.0)
kind-set k (M.Variable n kind) fits h g = (kind, refl, fits)
kind-set k (M.GivenBox n) fits h g = absurd (cc)
kind-set k (M.Procedure n) fits h g = absurd (cc)
kind-set k M.Nothing fits h g = absurd (cc)

-- where neither of two tests holds, the left one doesn't
either-left : (a b : Bool) → (a || b) ≡ false → a ≡ false
either-left true b h = absurd (cc)
either-left false b h = refl

-- where neither of two tests holds, the right one doesn't
either-right : (a b : Bool) → (a || b) ≡ false → b ≡ false
either-right true b h = absurd (cc)
either-right false b h = h

-- what isn't another kind than int is an int
an-int : (kind : Kind) → T.is_no_int (Some kind) ≡ false → kind ≡ K.Int
an-int K.Int h = refl
an-int K.Bool h = absurd (cc)
an-int K.Seq h = absurd (cc)

-- a test whose opposite fails holds
not-false : (b : Bool) → not b ≡ false → b ≡ true
not-false true h = refl
not-false false h = absurd (cc)

-- numbers that don't differ are the same
same-count : (a b : ℕ) → not (a == b) ≡ false → a ≡ b
same-count a b h = let e : (a == b) ≡ true = not-false (a == b) h in grind (arith, e)

module _ (cats : List (Cat Name)) (own : Cat Name) (visible : List Local) (k : P.Scope)
    (agrees : Agrees own visible k) (sees : SeesCat cats own k) where
  -- a call that passes fits, where its method has the form and its result the place that are wanted
  pub kept_call : (c : Call Name) → W.call all_at cats own visible c ≡ [] →
      Named cats own visible k agrees sees c
  kept_call c lines = named_by cats own visible k agrees sees c
      (clean_by (Target own visible c.target) (none-left _ _ lines))
      (clean_by (Method cats own visible c)
      (none-left _ _ (none-right (all_at (Target own visible c.target)) _ lines)))

  -- a call at which nothing is found fits
  pub call_fits : (c : Call Name) (form : Form Ref → Bool) (bind : Option Ref)
      (lines : W.call all_at cats own visible c ≡ []) →
      form (N.procedure cats (kept_call c lines).cat (kept_call c lines).method).form ≡ true →
      P.bind_fits k bind (kept_call c lines).method.gives ≡ true →
      P.call_fits k form bind (N.call cats own visible c) ≡ true
  call_fits c form bind lines formed bound =
      let n : Named cats own visible k agrees sees c = kept_call c lines in
      let q : Proc Name = n.method in
      let clean : Clean (Method cats own visible c) =
      clean_by (Method cats own visible c)
      (none-left _ _ (none-right (all_at (Target own visible c.target)) _ lines)) in
      let params_are : W.params_of (method_called cats own visible c) ≡ q.params = ap W.params_of n.called in
      let all : W.numbered (W.argument all_at cats own visible q.params) 0 c.args ≡ [] =
      subst (λ ps. W.numbered (W.argument all_at cats own visible ps) 0 c.args ≡ []) params_are
      (none-right (all_at (Method cats own visible c)) _
      (none-right (all_at (Target own visible c.target)) _ lines)) in
      let args = numbered-right (W.argument number_at cats own visible q.params)
      (λ m e. unknown_at (Value own visible (W.kind_at q.params m) e)
      ++ (kind_at (Value own visible (W.kind_at q.params m) e)
      ++ (type_at (Value own visible (W.kind_at q.params m) e)
      ++ (arguments_at (Value own visible (W.kind_at q.params m) e)
      ++ count_at (Value own visible (W.kind_at q.params m) e))))) 0 c.args all in
      let after1 = numbered-right (W.argument unknown_at cats own visible q.params)
      (λ m e. kind_at (Value own visible (W.kind_at q.params m) e)
      ++ (type_at (Value own visible (W.kind_at q.params m) e)
      ++ (arguments_at (Value own visible (W.kind_at q.params m) e)
      ++ count_at (Value own visible (W.kind_at q.params m) e)))) 0 c.args args in
      let after2 = numbered-right (W.argument kind_at cats own visible q.params)
      (λ m e. type_at (Value own visible (W.kind_at q.params m) e)
      ++ (arguments_at (Value own visible (W.kind_at q.params m) e)
      ++ count_at (Value own visible (W.kind_at q.params m) e))) 0 c.args after1 in
      let count : length q.params ≡ length c.args =
      same-count (length q.params) (length c.args)
      (subst (λ o. is_another (option_map (λ (x : Proc Name). length x.params) o) (length c.args) ≡ false)
      n.called
      (passes-by (is_another
      (option_map (λ (x : Proc Name). length x.params) (method_called cats own visible c))
      (length c.args)) c.method.line clean.arguments)) in
      let fit : P.arguments_fit k (map (N.expression own visible) c.args) (P.param_kinds q.params) ≡ true =
      arguments-fit cats own visible k agrees sees q.params q.params 0 c.args
      (λ i. (let e : 0 + i ≡ i = omega arith in ap (slice_get q.params) e)) count
      (numbered-left (W.argument unknown_at cats own visible q.params)
      (λ m e. kind_at (Value own visible (W.kind_at q.params m) e)
      ++ (type_at (Value own visible (W.kind_at q.params m) e)
      ++ (arguments_at (Value own visible (W.kind_at q.params m) e)
      ++ count_at (Value own visible (W.kind_at q.params m) e)))) 0 c.args args)
      (numbered-left (W.argument kind_at cats own visible q.params)
      (λ m e. type_at (Value own visible (W.kind_at q.params m) e)
      ++ (arguments_at (Value own visible (W.kind_at q.params m) e)
      ++ count_at (Value own visible (W.kind_at q.params m) e))) 0 c.args after1)
      (numbered-left (W.argument type_at cats own visible q.params)
      (λ m e. (arguments_at (Value own visible (W.kind_at q.params m) e)
      ++ count_at (Value own visible (W.kind_at q.params m) e))) 0 c.args after2)
      (numbered-left (W.argument number_at cats own visible q.params)
      (λ m e. unknown_at (Value own visible (W.kind_at q.params m) e)
      ++ (kind_at (Value own visible (W.kind_at q.params m) e)
      ++ (type_at (Value own visible (W.kind_at q.params m) e)
      ++ (arguments_at (Value own visible (W.kind_at q.params m) e)
      ++ count_at (Value own visible (W.kind_at q.params m) e))))) 0 c.args all) in
      ap (λ o. P.meets k form bind (map (N.expression own visible) c.args) o) n.numbered
      ∙ (ap (λ t. t && (P.arguments_fit k (map (N.expression own visible) c.args) (P.param_kinds q.params)
      && P.bind_fits k bind q.gives)) formed
      ∙ (ap (λ t. t && P.bind_fits k bind q.gives) fit ∙ bound))

  -- an assigned name
  pub set_kind : (name : Name) → Clean (Assigned own visible name) →
      (kind : Kind) × (W.kind_of (meaning_of own visible name) ≡ Some kind)
      × (P.kind_set k (N.name_ref own visible name) ≡ Some kind)
  set_kind name clean = kind-set k (meaning_of own visible name) (agrees.at name)
      (passes-by (is_nothing (meaning_of own visible name)) name.line clean.unknown)
      (passes-by (is_fixed (meaning_of own visible name)) name.line clean.kind)

  -- a name of kind int that takes the result of a method that has one
  pub takes_result : (name : Name) (c : Call Name) (kind : Option Kind) (q : Proc Name) (r : Ref)
      (found : Kind) → Clean (Takes cats own visible kind name c) →
      method_called cats own visible c ≡ Some q → kind ≡ Some found → P.kind_set k r ≡ Some found →
      P.bind_fits k (Some r) q.gives ≡ true
  takes_result name c kind q r found clean called is at =
      let test : (T.is_no_int (Some found) || T.has_no_result (Some q)) ≡ false =
      subst (λ o. (T.is_no_int o || T.has_no_result (Some q)) ≡ false) is
      (subst (λ o. (T.is_no_int kind || T.has_no_result o) ≡ false) called
      (passes-by (T.is_no_int kind || T.has_no_result (method_called cats own visible c)) name.line
      clean.type)) in
      let int : found ≡ K.Int = an-int found
      (either-left (T.is_no_int (Some found)) (T.has_no_result (Some q)) test) in
      ap (λ t. t && P.is_of K.Int (P.kind_set k r))
      (not-false q.gives (either-right (T.is_no_int (Some found)) (T.has_no_result (Some q)) test))
      ∙ (ap (P.is_of K.Int) at ∙ ap (λ x. P.is_kind K.Int x) int)
