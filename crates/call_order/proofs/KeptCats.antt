-- A cat whose places pass the checks keeps, with its names as numbers, what a cat of a program keeps.
use Rattle.std.specs.Prelude.{◌≡◌, ◌≢◌, ℕ, zero, suc, ◌+◌, ◌≤◌, ◌==◌, nat_lt, Bool, true, false, ◌||◌, not}
use Rattle.std.specs.Prelude.{if◌then◌else◌, pos, List, [], ◌∷◌, ◌++◌, map, length, slice_get, Option, None}
use Rattle.std.specs.Prelude.{Some, option_map, All, IsTrue, is_none}
use Rattle.std.specs.List.{flat_map, AllByRecursion}
use Rattle.std.proofs.Common.{refl, sym, ap, subst, ◌∙◌, arith}
use Rattle.seuss_program.specs.declared.tree.Name.{Name}
use Rattle.seuss_program.specs.declared.tree.Ref.{Ref}
use Rattle.seuss_program.specs.declared.tree.Ref.TheVariants as R
use Rattle.seuss_program.specs.declared.tree.Kind.{Kind}
use Rattle.seuss_program.specs.declared.tree.Kind.TheVariants as K
use Rattle.seuss_program.specs.declared.tree.Var.{Var}
use Rattle.seuss_program.specs.declared.tree.Param.{Param}
use Rattle.seuss_program.specs.declared.tree.Given.{Given}
use Rattle.seuss_program.specs.declared.tree.Expr.{Expr}
use Rattle.seuss_program.specs.declared.tree.Call.{Call}
use Rattle.seuss_program.specs.declared.tree.Pre.{Pre}
use Rattle.seuss_program.specs.declared.tree.Statement.{Statement, fold-roll-Statement, map-Statement}
use Rattle.seuss_program.specs.declared.tree.Statement.{roll-Statement, ind-Statement}
use Rattle.seuss_program.specs.declared.tree.Statement.TheOpen as S
use Rattle.seuss_program.specs.declared.tree.Statement.TheOpen.{Statement-F}
use Rattle.seuss_program.specs.declared.tree.Statement.TheShapes.{former-Statement-If-1}
use Rattle.seuss_program.specs.declared.tree.Alternative.{Alternative}
use Rattle.seuss_program.specs.declared.tree.Form.{Form}
use Rattle.seuss_program.specs.declared.tree.Form.TheVariants as F
use Rattle.seuss_program.specs.declared.tree.Proc.{Proc}
use Rattle.seuss_program.specs.declared.tree.Hint.{Hint}
use Rattle.seuss_program.specs.declared.tree.Semi.{Semi}
use Rattle.seuss_program.specs.declared.tree.Cat.{Cat}
use Rattle.seuss_program.specs.declared.state.Value.{Value as Stored}
use Rattle.seuss_program.specs.declared.state.Value.TheVariants as V
use Rattle.seuss_program.specs.Attempts.{locals_of, bound_local, form_locals}
use Rattle.seuss_program.specs.Keeping as P
use Rattle.seuss_program.specs.WellFormed as WF
use Rattle.seuss_program.specs.WellFormed.{IsSmall, let_kinds, kinds_step, HasWellFormed}
use Rattle.seuss_program.specs.WellFormed.{IsWellFormedProcedure, IsWellFormedCat}
use Rattle.box_types.specs.declared.scopes.Scope.{Scope}
use Rattle.box_types.specs.declared.scopes.Meaning.{Meaning}
use Rattle.box_types.specs.declared.scopes.Meaning.TheVariants as M
use Rattle.box_types.specs.Scopes.{meaning_in, behind, with_result, at_head, cat_named}
use Rattle.box_types.specs.Walks as W
use Rattle.box_types.specs.Walks.{Walk, Walked, GivenName, GivenCat, VarName, ProcName, First, Second}
use Rattle.box_types.specs.Walks.{HintName}
use Rattle.box_types.specs.Twice.{fails}
use Rattle.box_types.specs.Unknown.{is_nothing}
use Rattle.box_types.specs.WrongKind as WK
use Rattle.box_types.specs.Limits.{result_passes}
use Rattle.box_types.specs.Namings as N
use Rattle.box_types.specs.Namings.{Numbered, Numbering}
use Rattle.call_order.specs.Calls as C
use Rattle.call_order.specs.Calls.{in_pres, in_bodies, lines_of}
use Rattle.box_types.proofs.KeptExpressions.{none-left, none-right, passes-by, Fits}
use Rattle.call_order.proofs.KeptCalls.{all_at, Clean, clean_by, GivenKnown, At, at-number, get-map}
use Rattle.call_order.proofs.KeptCalls.{cat_at_number, proc_number_is, method-named}
use Rattle.call_order.proofs.KeptStatements.{not-limit, map-append, first-kind, locals-Let, locals-Assign}
use Rattle.call_order.proofs.KeptStatements.{locals-Call, locals-If, locals-While}
use Rattle.call_order.proofs.StatementLayers.{each, number-roll, numbers-each}
use Rattle.call_order.proofs.KeptProcedures.{ProcedureKept, procedure_kept, fits_in_cat}

-- lists
pub all-by : {X : Type 0} (Q : X → Type 0) (xs : List X) → AllByRecursion Q xs → All Q xs
all-by Q [] all k d below = absurd (omega (arith, below))
all-by Q (x ∷ xs) all zero d below = all.0
all-by Q (x ∷ xs) all (suc k) d below = all-by Q xs all.1 k d (omega (arith, below))

-- what holds of all items holds of each, one by one
pub by-all : {X : Type 0} (Q : X → Type 0) (xs : List X) → All Q xs → AllByRecursion Q xs
by-all Q [] all = tt
by-all Q (x ∷ xs) all =
    (all 0 x (omega arith), by-all Q xs (λ k d below. all (suc k) d (omega (arith, below))))

-- what holds of all mapped items holds of the mapped list
pub all-map : {X Y : Type 0} (Q : Y → Type 0) (f : X → Y) (xs : List X) → AllByRecursion (λ x. Q (f x)) xs →
    AllByRecursion Q (map f xs)
all-map Q f [] all = tt
all-map Q f (x ∷ xs) all = (all.0, all-map Q f xs all.1)

-- what holds of all items of two lists holds of both together
all-append : {X : Type 0} (Q : X → Type 0) (xs ys : List X) → AllByRecursion Q xs → AllByRecursion Q ys →
    AllByRecursion Q (xs ++ ys)
all-append Q [] ys hx hy = hy
all-append Q (x ∷ xs) ys hx hy = (hx.0, all-append Q xs ys hx.1 hy)

-- a mapped list is as long
pub map-length : {X Y : Type 0} (f : X → Y) (xs : List X) → length (map f xs) ≡ length xs
map-length f [] = refl
map-length f (x ∷ xs) = ap suc (map-length f xs)

-- what holds at each item where nothing is found
pub all-numbered : {X : Type 0} (f : ℕ → X → List ℕ) (Q : X → Type 0) →
    ((m : ℕ) (x : X) → f m x ≡ [] → Q x) → (n : ℕ) (xs : List X) → W.numbered f n xs ≡ [] →
    AllByRecursion Q xs
all-numbered f Q h n [] lines = tt
all-numbered f Q h n (x ∷ xs) lines =
    (h n x (none-left (f n x) _ lines), all-numbered f Q h (n + 1) xs (none-right (f n x) _ lines))

-- items none of which is at a limit are no more than the limit
pub few-numbered : {X : Type 0} (f : ℕ → X → List ℕ) (limit : ℕ) →
    ((m : ℕ) (x : X) → f m x ≡ [] → m ≢ limit) → (n : ℕ) (xs : List X) → n ≤ limit →
    W.numbered f n xs ≡ [] → n + length xs ≤ limit
few-numbered f limit h n [] low lines = omega (arith, low)
few-numbered f limit h n (x ∷ xs) low lines =
    let away : n ≢ limit = h n x (none-left (f n x) _ lines) in
    let rest : n + 1 + length xs ≤ limit = few-numbered f limit h (n + 1) xs (omega (arith, low, away))
    (none-right (f n x) _ lines) in
    omega (arith, rest)

-- what a walk without lines says of each item holds of all
all-walked : {X : Type 0} (f : ℕ → X → Walk) (Q T : X → Type 0) →
    ((m : ℕ) (x : X) (s : Scope) → Q x → (f m x s).lines ≡ [] → T x) → (n : ℕ) (xs : List X) (s : Scope) →
    AllByRecursion Q xs → (W.walked f n xs s).lines ≡ [] → AllByRecursion T xs
all-walked f Q T h n [] s all lines = tt
all-walked f Q T h n (x ∷ xs) s all lines = (
  h n x s all.0 (none-left (f n x s).lines _ lines),
  all-walked f Q T h (n + 1) xs (f n x s).scope all.1
      (none-right (f n x s).lines _ lines),
)

-- items of a walk none of which is at a limit are no more than the limit
few-walked : {X : Type 0} (f : ℕ → X → Walk) (limit : ℕ) →
    ((m : ℕ) (x : X) (s : Scope) → (f m x s).lines ≡ [] → m ≢ limit) → (n : ℕ) (xs : List X) (s : Scope) →
    n ≤ limit →
    (W.walked f n xs s).lines ≡ [] → n + length xs ≤ limit
few-walked f limit h n [] s low lines = omega (arith, low)
few-walked f limit h n (x ∷ xs) s low lines =
    let away : n ≢ limit = h n x s (none-left (f n x s).lines _ lines) in
    let rest : n + 1 + length xs ≤ limit = few-walked f limit h (n + 1) xs (f n x s).scope
    (omega (arith, low, away)) (none-right (f n x s).lines _ lines) in
    omega (arith, rest)

-- a kind that isn't a sequence
abbrev IsPlain : Kind → Type 0
IsPlain kind = IsTrue (not (P.is_kind K.Seq kind))

-- a kind of a local is no sequence
small-plain : (kind : Kind) → IsSmall kind → IsPlain kind
small-plain K.Int h = refl
small-plain K.Bool h = refl
small-plain K.Seq h = absurd h

-- a start value has the kind of its variable
start-kind : (v : Stored) (kind : Kind) → WF.HasKind v kind → P.kind_of v ≡ kind
start-kind (V.Int z) kind h = sym h
start-kind (V.Bool b) kind h = sym h
start-kind (V.Seq zs) kind h = sym h

-- the kinds of the locals of a statement are those that its text declares
each_kinds : (ss : List (Statement Name)) → flat_map (λ ks. ks) (each let_kinds ss) ≡ flat_map let_kinds ss
each_kinds [] = refl
each_kinds (s ∷ ss) = ap (λ ks. let_kinds s ++ ks) (each_kinds ss)

-- the kinds of a statement's `let`s are told by its layer
pub kinds-roll : (d : Statement-F Name (Statement Name)) →
    let_kinds (roll-Statement Name d) ≡ kinds_step
    (map-Statement Name (Statement Name) (List Kind) let_kinds d)
unfolding let_kinds
kinds-roll d = fold-roll-Statement Name (List Kind) kinds_step d

module _ (cats : List (Cat Name)) (own : Cat Name) where
  -- the locals of a statement with numbers have the kinds of its `let`s
  abbrev LetClaim : Statement Name → Type 0
  LetClaim s = (sc : Scope) → map P.kind_of (locals_of (N.statement cats own s sc).part) ≡ let_kinds s

  -- the locals of a body with numbers have the kinds of its `let`s
  abbrev LetsClaim : List (Statement Name) → Type 0
  LetsClaim ss = (sc : Scope) → map P.kind_of (flat_map locals_of (N.body cats own ss sc).part)
      ≡ flat_map let_kinds ss

  -- statements whose locals have their kinds are such a body
  lets-claim : (ss : List (Statement Name)) → AllByRecursion LetClaim ss → LetsClaim ss
  lets-claim [] all sc = refl
  lets-claim (s ∷ ss) all sc =
      map-append P.kind_of (locals_of (N.statement cats own s sc).part) _
      ∙ (ap (λ ks. ks ++ map P.kind_of
      (flat_map locals_of (N.body cats own ss (N.statement cats own s sc).scope).part)) (all.0 sc)
      ∙ ap (λ ks. let_kinds s ++ ks) (lets-claim ss all.1 (N.statement cats own s sc).scope))

  -- a statement is such where its layer is
  by-layer : (d : Statement-F Name (Statement Name)) →
      ((sc : Scope) → map P.kind_of
      (locals_of (N.statement_step cats own
      (map-Statement Name (Statement Name) Numbering (N.statement cats own) d) sc).part)
      ≡ kinds_step (map-Statement Name (Statement Name) (List Kind) let_kinds d)) →
      LetClaim (roll-Statement Name d)
  by-layer d h sc = ap (λ (n : Numbered (Statement Ref)). map P.kind_of (locals_of n.part))
      (number-roll cats own d sc) ∙ (h sc ∙ sym (kinds-roll d))

  -- the statements inside a statement, for which it holds already
  each-claims : (ys : List ((s : Statement Name) × LetClaim s)) →
      AllByRecursion LetClaim
      ((former-Statement-If-1 Name).map ((s : Statement Name) × LetClaim s) (Statement Name) (λ y. y.0)
      ys)
  each-claims [] = tt
  each-claims (y ∷ ys) = (y.1, each-claims ys)

  -- a choice by its bodies
  if-lets : (cond : Expr Name) (holds fails : List (Statement Name)) → LetsClaim holds → LetsClaim fails →
      LetClaim (roll-Statement Name (S.If cond holds fails))
  if-lets cond holds fails h f = by-layer (S.If cond holds fails) (λ sc.
      let first : List (Statement Ref) = (N.in_turn (each (N.statement cats own) holds) sc).part in
      let inner : Scope = behind sc (N.in_turn (each (N.statement cats own) holds) sc).scope in
      let second : List (Statement Ref) = (N.in_turn (each (N.statement cats own) fails) inner).part in
      ap (map P.kind_of) (locals-If (N.expression own sc.visible cond) first second)
      ∙ (map-append P.kind_of (flat_map locals_of first) (flat_map locals_of second)
      ∙ (ap (λ ks. ks ++ map P.kind_of (flat_map locals_of second))
      (ap (λ (n : Numbered (List (Statement Ref))). map P.kind_of (flat_map locals_of n.part))
      (numbers-each cats own holds sc) ∙ (h sc ∙ sym (each_kinds holds)))
      ∙ ap (λ ks. flat_map (λ ks. ks) (each let_kinds holds) ++ ks)
      (ap (λ (n : Numbered (List (Statement Ref))). map P.kind_of (flat_map locals_of n.part))
      (numbers-each cats own fails inner) ∙ (f inner ∙ sym (each_kinds fails))))))

  -- a loop by its body
  while-lets : (cond : Expr Name) (turn : List (Statement Name)) → LetsClaim turn →
      LetClaim (roll-Statement Name (S.While cond turn))
  while-lets cond turn h = by-layer (S.While cond turn) (λ sc.
      ap (map P.kind_of) (locals-While (N.expression own sc.visible cond)
      (N.in_turn (each (N.statement cats own) turn) sc).part)
      ∙ (ap (λ (n : Numbered (List (Statement Ref))). map P.kind_of (flat_map locals_of n.part))
      (numbers-each cats own turn sc) ∙ (h sc ∙ sym (each_kinds turn))))

  -- a statement by those inside it
  layer-lets : (y : Statement-F Name ((s : Statement Name) × LetClaim s)) →
      LetClaim (roll-Statement Name
      (map-Statement Name ((s : Statement Name) × LetClaim s) (Statement Name) (λ y. y.0) y))
  layer-lets (S.Let name kind e) = by-layer (S.Let name kind e)
      (λ sc. ap (map P.kind_of) (locals-Let (R.Slot sc.next) kind (N.expression own sc.visible e))
      ∙ ap (λ x. x ∷ []) (first-kind kind))
  layer-lets (S.Assign name e) = by-layer (S.Assign name e)
      (λ sc. ap (map P.kind_of)
      (locals-Assign (N.name_ref own sc.visible name) (N.expression own sc.visible e)))
  layer-lets (S.Call bind c) = by-layer (S.Call bind c)
      (λ sc. ap (map P.kind_of)
      (locals-Call (option_map (N.name_ref own sc.visible) bind) (N.call cats own sc.visible c)))
  layer-lets (S.If cond holds fails) = if-lets cond _ _ (lets-claim _ (each-claims holds))
      (lets-claim _ (each-claims fails))
  layer-lets (S.While cond turn) = while-lets cond _ (lets-claim _ (each-claims turn))

  -- the locals of each statement have their kinds
  statement-lets : (s : Statement Name) → LetClaim s
  statement-lets = ind-Statement Name LetClaim
      (λ x y is. subst (λ d. LetClaim (roll-Statement Name d)) is (layer-lets y))

  -- the locals of each body have their kinds
  body-lets : (ss : List (Statement Name)) → LetsClaim ss
  body-lets ss = lets-claim ss (every ss)
    where
      every : (ss : List (Statement Name)) → AllByRecursion LetClaim ss
      every [] = tt
      every (s ∷ ss) = (statement-lets s, every ss)

  -- the locals of a text are no sequences
  abbrev ArePlain : List Stored → Type 0
  ArePlain vs = AllByRecursion IsPlain (map P.kind_of vs)

  -- values that are no sequences, and more of them
  plain-append : (vs ws : List Stored) → ArePlain vs → ArePlain ws → ArePlain (vs ++ ws)
  plain-append vs ws h k = subst (AllByRecursion IsPlain) (sym (map-append P.kind_of vs ws))
      (all-append IsPlain (map P.kind_of vs) (map P.kind_of ws) h k)

  -- kinds of locals are no sequences
  small-all : (ks : List Kind) → AllByRecursion IsSmall ks → AllByRecursion IsPlain ks
  small-all [] all = tt
  small-all (k ∷ ks) all = (small-plain k all.0, small-all ks all.1)

  -- the locals of a body are no sequences
  body-plain : (ss : List (Statement Name)) (sc : Scope) → WF.HasSmallLocals ss →
      ArePlain (flat_map locals_of (N.body cats own ss sc).part)
  body-plain ss sc small = subst (AllByRecursion IsPlain) (sym (body-lets ss sc))
      (small-all (flat_map let_kinds ss) (by-all IsSmall (flat_map let_kinds ss) small))

  -- the local of a preprocedure is no sequence
  pre-plain : (pre : Option (Pre Name)) (sc : Scope) → ArePlain (bound_local (N.early cats own pre sc).part)
  pre-plain None sc = tt
  pre-plain (Some pre) sc = by_bind pre.bind pre.call
    where
      by_bind : (bind : Option Name) (c : Call Name) →
          ArePlain (bound_local (Some (N.bound cats own bind c sc).part))
      by_bind None c = tt
      by_bind (Some name) c = (refl, tt)

  -- the locals of alternatives are no sequences
  alternatives-plain : (alts : List (Alternative Name)) (sc : Scope) →
      AllByRecursion (λ (a : Alternative Name). WF.HasSmallLocals a.body) alts →
      ArePlain (flat_map (λ (a : Alternative Ref). bound_local a.pre ++ flat_map locals_of a.body)
      (N.alternatives cats own alts sc))
  alternatives-plain [] sc all = tt
  alternatives-plain (a ∷ alts) sc all =
      plain-append (bound_local (N.alternative cats own a sc).part.pre
      ++ flat_map locals_of (N.alternative cats own a sc).part.body) _
      (plain-append (bound_local (N.alternative cats own a sc).part.pre) _ (pre-plain a.pre sc)
      (body-plain a.body (N.early cats own a.pre sc).scope all.0))
      (alternatives-plain alts (N.alternative cats own a sc).scope all.1)

  -- the locals of a procedure are no sequences
  form-plain : (q : Proc Name) (f : Form Name) (sc : Scope) → HasWellFormed q f →
      ArePlain (form_locals (N.form cats own f sc))
  form-plain q (F.Total ss) sc h = body-plain ss sc h
  form-plain q (F.Partial alts) sc h = alternatives-plain alts sc
      (by-all (λ (a : Alternative Name). WF.HasSmallLocals a.body) alts h.bodies)
  form-plain q (F.Action alts) sc h = alternatives-plain alts sc
      (by-all (λ (a : Alternative Name). WF.HasSmallLocals a.body) alts h.0.bodies)

  -- a result is no sequence
  result-plain : (g : Bool) → ArePlain (if g then V.Int (pos 0) ∷ [] else [])
  result-plain true = (refl, tt)
  result-plain false = tt

  -- parameters are no sequences
  params-plain : (ps : List Param) → AllByRecursion (λ (x : Param). IsSmall x.kind) ps →
      AllByRecursion IsPlain (P.param_kinds ps)
  params-plain [] all = tt
  params-plain (p ∷ ps) all = (small-plain p.kind all.0, params-plain ps all.1)

  -- an action is alone
  alone-by : (q : Proc Name) (f : Form Name) (sc : Scope) → HasWellFormed q f →
      IsTrue (P.is_action (N.form cats own f sc)) → (q.params ≡ []) × (q.gives ≡ false)
  alone-by q (F.Total ss) sc h t = absurd (cc)
  alone-by q (F.Partial alts) sc h t = absurd (cc)
  alone-by q (F.Action alts) sc h t = (h.1.params, h.1.gives)

  -- a procedure keeps what a procedure keeps
  pub keeps-procedure : (number : ℕ) (q : Proc Name) (s : Scope) → GivenKnown cats own →
      (in_pres (lines_of cats own.given C.is_total) q.form ≡ [])
      × (in_bodies (lines_of cats own.given C.is_partial) q.form ≡ []) × IsWellFormedProcedure q →
      (W.procedure all_at cats own number q s).lines ≡ [] →
      P.KeepsProcedure (map (N.cat cats) cats) (N.cat cats own) (N.procedure cats own q)
  keeps-procedure number q s known side lines =
      let kept : ProcedureKept cats own number q known =
      procedure_kept cats own number q known s lines side.0 side.1 in
      let sc : Scope = with_result q (N.with_params q.params (at_head q [])) in
      record {
        text = kept.text;
        plain = all-by IsPlain (P.slot_kinds (N.procedure cats own q))
            (all-append IsPlain (P.param_kinds q.params) _
            (params-plain q.params (by-all (λ (x : Param). IsSmall x.kind) q.params side.2.params))
            (plain-append (if q.gives then V.Int (pos 0) ∷ [] else [])
            (form_locals (N.procedure cats own q).form) (result-plain q.gives)
            (form-plain q q.form sc side.2.form)));
        alone = alone-by q q.form sc side.2.form;
        slots = kept.slots;
      }

  -- a certificate that passes names a method, and then a total one
  total-where : (c : Cat Name) (q : Proc Name) → WK.is_not_total q.form ≡ false →
      P.is_total (N.procedure cats c q).form ≡ true
  total-where c q h = by_form q.form (with_result q (N.with_params q.params (at_head q []))) h
    where
      by_form : (f : Form Name) (s : Scope) → WK.is_not_total f ≡ false →
          P.is_total (N.form cats c f s) ≡ true
      by_form (F.Total ss) s h = refl
      by_form (F.Partial alts) s h = absurd (cc)
      by_form (F.Action alts) s h = absurd (cc)

  -- a method with numbers is no action where the one with names is none
  method-where : (c : Cat Name) (q : Proc Name) → WK.is_action q.form ≡ false →
      not (P.is_action (N.procedure cats c q).form) ≡ true
  method-where c q h = by_form q.form (with_result q (N.with_params q.params (at_head q []))) h
    where
      by_form : (f : Form Name) (s : Scope) → WK.is_action f ≡ false →
          not (P.is_action (N.form cats c f s)) ≡ true
      by_form (F.Total ss) s h = refl
      by_form (F.Partial alts) s h = refl
      by_form (F.Action alts) s h = absurd (cc)

  -- a name of a certificate is a method that passes the test
  semi-method : (test : Form Name → Bool) (form : Form Ref → Bool) (name : Name) →
      ((q : Proc Name) → test q.form ≡ false → form (N.procedure cats own q).form ≡ true) →
      is_nothing (meaning_in own name) ≡ false → WK.is_no_method test own (meaning_in own name) ≡ false →
      IsTrue (P.is_method_where form (P.method_at (N.ref_of (meaning_in own name)) (N.cat cats own)))
  semi-method test form name lifts known right =
      let m = method-named test own (meaning_in own name) known right in
      let at : At (λ (q : Proc Name). q.name) own.procs name m.0 =
      at-number (λ (q : Proc Name). q.name) own.procs name m.0 (proc_number_is own name m.0 m.1) in
      let tested : test at.item.form ≡ false = subst (λ o. WK.form_is test o ≡ false) at.there m.2 in
      ap (λ x. P.is_method_where form (P.method_at (N.ref_of x) (N.cat cats own))) m.1
      ∙ (ap (P.is_method_where form)
      (get-map (N.procedure cats own) own.procs m.0 ∙ ap (option_map (N.procedure cats own)) at.there)
      ∙ lifts at.item tested)

  -- a hint that passes names a sequence of the cat
  hint-var : (m : Meaning) → Fits
      (P.scope_of (map (N.cat cats) cats) (N.cat cats own)
      (record { name = own.name; params = []; gives = false; form = F.Total [] })) m →
      is_nothing m ≡ false → WK.has_no_hint m ≡ false →
      (number : ℕ) × (N.ref_of m ≡ R.Var number)
      × (slice_get (P.var_kinds own.vars) number ≡ Some K.Seq)
  hint-var (M.Variable n K.Seq) fits known h = (n, refl, fits)
  hint-var (M.Variable n K.Int) fits known h = absurd (cc)
  hint-var (M.Variable n K.Bool) fits known h = absurd (cc)
  hint-var (M.GivenBox n) fits known h = absurd (cc)
  hint-var (M.Procedure n) fits known h = absurd (cc)
  hint-var (M.Slot slot kind is_param) fits known h = absurd (cc)
  hint-var M.Nothing fits known h = absurd (cc)

  -- a depth that passes the check is at most 4
  low-depth : (depth line : ℕ) → fails (nat_lt 4 depth) line ≡ [] → depth ≤ 4
  low-depth depth line h = let e : nat_lt 4 depth ≡ false = passes-by (nat_lt 4 depth) line h in
      grind (arith, e)

  -- a hint at which nothing is found is a checked one
  keeps-hint : (s : Semi Name) (n : ℕ) (h : Hint Name) → W.hint all_at cats own s n h ≡ [] →
      P.KeepsHint (N.cat cats own) (N.hint own h)
  keeps-hint s n h lines =
      let clean : Clean (HintName own s n h) = clean_by (HintName own s n h) lines in
      record {
        variable = hint-var (meaning_in own h.name)
            (fits_in_cat own (P.scope_of (map (N.cat cats) cats) (N.cat cats own)
            (record { name = own.name; params = []; gives = false; form = F.Total [] })) refl h.name)
            (passes-by (is_nothing (meaning_in own h.name)) h.name.line clean.unknown)
            (passes-by (WK.has_no_hint (meaning_in own h.name)) h.name.line clean.kind);
        depth = low-depth h.depth h.line clean.count;
      }

  -- a certificate at which nothing is found is a checked one
  keeps-semi : (n : ℕ) (s : Semi Name) → W.semi all_at cats own n s ≡ [] →
      P.KeepsSemi (N.cat cats own) (N.semi own s)
  keeps-semi n s lines =
      let first : Clean (First own n s) = clean_by (First own n s) (none-left _ _ lines) in
      let after1 = none-right (all_at (First own n s)) _ lines in
      let second : Clean (Second own s.second) = clean_by (Second own s.second) (none-left _ _ after1) in
      record {
        first = semi-method WK.is_action (λ form. not (P.is_action form)) s.first (method-where own)
            (passes-by (is_nothing (meaning_in own s.first)) s.first.line first.unknown)
            (passes-by (WK.is_no_method WK.is_action own (meaning_in own s.first)) s.first.line
            first.kind);
        second = semi-method WK.is_not_total P.is_total s.second (total-where own)
            (passes-by (is_nothing (meaning_in own s.second)) s.second.line second.unknown)
            (passes-by (WK.is_no_method WK.is_not_total own (meaning_in own s.second)) s.second.line
            second.kind);
        hints = all-by (P.KeepsHint (N.cat cats own)) (map (N.hint own) s.hints)
            (all-map (P.KeepsHint (N.cat cats own)) (N.hint own) s.hints
            (all-numbered (W.hint all_at cats own s) (λ h. P.KeepsHint (N.cat cats own) (N.hint own h))
            (keeps-hint s) 0 s.hints (none-right (all_at (Second own s.second)) _ after1)));
      }

  -- the cat of a given box
  known-cat : (name : Name) → is_none (cat_named cats name) ≡ false →
      (c : Cat Name) × (cat_named cats name ≡ Some c)
  known-cat name h = go (cat_named cats name) h
    where
      go : (o : Option (Cat Name)) → is_none o ≡ false → (c : Cat Name) × (o ≡ Some c)
      go None h = absurd (cc)
      go (Some c) h = (c, refl)

  -- the cat of a given box at which nothing is found is known
  given-known : (n : ℕ) (g : Given Name) → W.given all_at cats own n g ≡ [] →
      (c : Cat Name) × (cat_named cats g.cat ≡ Some c)
  given-known n g lines =
      let clean : Clean (GivenCat cats g.cat) = clean_by (GivenCat cats g.cat)
      (none-right (all_at (GivenName own n g.name)) _ lines) in
      known-cat g.cat (passes-by (is_none (cat_named cats g.cat)) g.cat.line clean.unknown)

  -- what holds of all items holds of one of them
  all-get : {X : Type 0} (Q : X → Type 0) (xs : List X) (n : ℕ) (x : X) → AllByRecursion Q xs →
      slice_get xs n ≡ Some x → Q x
  all-get Q [] n x all h = absurd (cc)
  all-get Q (y ∷ ys) zero x all h = let e : y ≡ x = cc in subst Q e all.0
  all-get Q (y ∷ ys) (suc n) x all h = all-get Q ys n x all.1 h

  -- a cat that is found is there
  is-there : (o : Option (Cat Ref)) (c : Cat Ref) → o ≡ Some c → IsTrue (P.is_there o)
  is-there o c h = ap P.is_there h

  -- what each procedure of a cat has beside the checks
  abbrev pub IsBeside : Proc Name → Type 0
  IsBeside q = (in_pres (lines_of cats own.given C.is_total) q.form ≡ [])
      × (in_bodies (lines_of cats own.given C.is_partial) q.form ≡ []) × IsWellFormedProcedure q

  -- a number that passes a check of a limit, and of something else, isn't at the limit
  away : (a : ℕ) (b : Bool) (line limit : ℕ) → fails (a == limit || b) line ≡ [] → a ≢ limit
  away a b line limit h e =
      let f : (a == limit || b) ≡ false = passes-by (a == limit || b) line h in
      go (a == limit) b f (let t : (a == limit) ≡ true = grind (arith, e) in t)
    where
      go : (t s : Bool) → (t || s) ≡ false → t ≡ true → ⊥
      go true s h k = absurd (cc)
      go false s h k = absurd (cc)

  -- a cat at which nothing is found is a checked one
  pub keeps-cat : (number : ℕ) → AllByRecursion IsBeside own.procs → IsWellFormedCat own →
      W.cat all_at cats number own ≡ [] → P.KeepsCat (map (N.cat cats) cats) (N.cat cats own)
  keeps-cat number beside formed lines =
      let l1 = none-right (all_at (W.CatName cats number own.name)) _ lines in
      let on_given : W.numbered (W.given all_at cats own) 0 own.given ≡ [] = none-left _ _ l1 in
      let l2 = none-right (W.numbered (W.given all_at cats own) 0 own.given) _ l1 in
      let on_vars : W.numbered (W.variable all_at cats own) 0 own.vars ≡ [] = none-left _ _ l2 in
      let l3 = none-right (W.numbered (W.variable all_at cats own) 0 own.vars) _ l2 in
      let on_procs : W.procedures all_at cats own ≡ [] = none-left _ _ l3 in
      let on_semis : W.numbered (W.semi all_at cats own) 0 own.semis ≡ [] =
      none-right (W.procedures all_at cats own) _ l3 in
      let givens : AllByRecursion (λ (g : Given Name). (c : Cat Name) × (cat_named cats g.cat ≡ Some c))
      own.given =
      all-numbered (W.given all_at cats own)
      (λ (g : Given Name). (c : Cat Name) × (cat_named cats g.cat ≡ Some c)) given-known 0 own.given
      on_given in
      let known : GivenKnown cats own =
      record {
        known = λ n g h. all-get
            (λ (g : Given Name). (c : Cat Name) × (cat_named cats g.cat ≡ Some c)) own.given n g givens h;
      } in
      let few_given : 0 + length own.given ≤ 16 =
      few-numbered (W.given all_at cats own) 16
      (λ m g h. not-limit m 16 g.name.line (clean_by (GivenName own m g.name) (none-left _ _ h)).count)
      0 own.given (omega arith) on_given in
      let few_vars : 0 + length own.vars ≤ 32 =
      few-numbered (W.variable all_at cats own) 32
      (λ m v h. not-limit m 32 v.name.line (clean_by (VarName own m v.name) h).count) 0 own.vars
      (omega arith) on_vars in
      let few_procs : 0 + length own.procs ≤ 64 =
      few-walked (W.procedure all_at cats own) 64
      (λ m q s h. away m (result_passes q) q.name.line 64
      (clean_by (ProcName own m q s.earlier) (none-left _ _ h)).count) 0 own.procs _ (omega arith)
      on_procs in
      let few_semis : 0 + length own.semis ≤ 64 =
      few-numbered (W.semi all_at cats own) 64
      (λ m s h. not-limit m 64 s.first.line (clean_by (First own m s) (none-left _ _ h)).count) 0
      own.semis (omega arith) on_semis in
      record {
        starts = all-by (λ (v : Var). P.kind_of v.start ≡ v.kind) own.vars
            (all-starts own.vars (by-all (λ (v : Var). WF.HasKind v.start v.kind) own.vars formed.starts));
        sizes = formed.sizes;
        given = all-by (λ (g : Given Ref). IsTrue (P.is_there (P.cat_at (map (N.cat cats) cats) g.cat)))
            (map (N.given cats) own.given)
            (all-map (λ (g : Given Ref). IsTrue (P.is_there (P.cat_at (map (N.cat cats) cats) g.cat)))
            (N.given cats) own.given (all-given own.given givens));
        procs = all-by (P.KeepsProcedure (map (N.cat cats) cats) (N.cat cats own))
            (map (N.procedure cats own) own.procs)
            (all-map (P.KeepsProcedure (map (N.cat cats) cats) (N.cat cats own)) (N.procedure cats own)
            own.procs
            (all-walked (W.procedure all_at cats own) IsBeside
            (λ q. P.KeepsProcedure (map (N.cat cats) cats) (N.cat cats own) (N.procedure cats own q))
            (λ m q s side h. keeps-procedure m q s known side h) 0 own.procs _ beside on_procs));
        semis = all-by (P.KeepsSemi (N.cat cats own)) (map (N.semi own) own.semis)
            (all-map (P.KeepsSemi (N.cat cats own)) (N.semi own) own.semis
            (all-numbered (W.semi all_at cats own) (λ s. P.KeepsSemi (N.cat cats own) (N.semi own s))
            keeps-semi 0 own.semis on_semis));
        few_given = (let e : length (map (N.given cats) own.given) ≡ length own.given =
            map-length (N.given cats) own.given in omega (arith, few_given, e));
        few_vars = omega (arith, few_vars);
        few_procs = (let e : length (map (N.procedure cats own) own.procs) ≡ length own.procs =
            map-length (N.procedure cats own) own.procs in omega (arith, few_procs, e));
        few_semis = (let e : length (map (N.semi own) own.semis) ≡ length own.semis =
            map-length (N.semi own) own.semis in omega (arith, few_semis, e));
      }
    where
      all-starts : (vars : List Var) → AllByRecursion (λ (v : Var). WF.HasKind v.start v.kind) vars →
          AllByRecursion (λ (v : Var). P.kind_of v.start ≡ v.kind) vars
      all-starts [] all = tt
      all-starts (v ∷ vs) all = (start-kind v.start v.kind all.0, all-starts vs all.1)

      all-given : (gs : List (Given Name)) → AllByRecursion
          (λ (g : Given Name). (c : Cat Name) × (cat_named cats g.cat ≡ Some c)) gs →
          AllByRecursion (λ (g : Given Name). IsTrue
          (P.is_there (P.cat_at (map (N.cat cats) cats) (N.given cats g).cat))) gs
      all-given [] all = tt
      all-given (g ∷ gs) all = (
        is-there (P.cat_at (map (N.cat cats) cats) (N.given cats g).cat) (N.cat cats (all.0).0)
            (cat_at_number cats g.cat (all.0).0 (all.0).1),
        all-given gs all.1,
      )
