-- Statements that pass the checks fit, with their names as numbers, what they see; and the slots go on
-- with their locals.
use Rattle.std.specs.Prelude.{◌≡◌, ◌≢◌, ℕ, zero, suc, ◌+◌, ◌≤◌, ◌==◌, nat_lt, Bool, true, false, ◌&&◌}
use Rattle.std.specs.Prelude.{if◌then◌else◌, List, [], ◌∷◌, ◌++◌, map, slice_get, Option, None, Some}
use Rattle.std.specs.Prelude.{option_map}
use Rattle.std.specs.List.{find, flat_map, AllByRecursion}
use Rattle.std.proofs.Common.{refl, sym, ap, subst, ◌∙◌, arith, drop}
use Rattle.seuss_program.specs.declared.tree.Name.{Name}
use Rattle.seuss_program.specs.declared.tree.Ref.{Ref}
use Rattle.seuss_program.specs.declared.tree.Ref.TheVariants as R
use Rattle.seuss_program.specs.declared.tree.Kind.{Kind}
use Rattle.seuss_program.specs.declared.tree.Kind.TheVariants as K
use Rattle.seuss_program.specs.declared.tree.Expr.{Expr}
use Rattle.seuss_program.specs.declared.tree.Call.{Call}
use Rattle.seuss_program.specs.declared.tree.Statement.{Statement, fold-roll-Statement, map-Statement}
use Rattle.seuss_program.specs.declared.tree.Statement.{roll-Statement, ind-Statement}
use Rattle.seuss_program.specs.declared.tree.Statement.TheVariants as SV
use Rattle.seuss_program.specs.declared.tree.Statement.TheVariants.{rolls-Let, rolls-Assign, rolls-Call}
use Rattle.seuss_program.specs.declared.tree.Statement.TheVariants.{rolls-If, rolls-While}
use Rattle.seuss_program.specs.declared.tree.Statement.TheOpen as S
use Rattle.seuss_program.specs.declared.tree.Statement.TheOpen.{Statement-F}
use Rattle.seuss_program.specs.declared.tree.Statement.TheShapes.{former-Statement-If-1}
use Rattle.seuss_program.specs.declared.tree.Form.{Form}
use Rattle.seuss_program.specs.declared.tree.Form.TheVariants as F
use Rattle.seuss_program.specs.declared.tree.Proc.{Proc}
use Rattle.seuss_program.specs.declared.tree.Cat.{Cat}
use Rattle.seuss_program.specs.declared.state.Value.{Value as Stored}
use Rattle.seuss_program.specs.Attempts.{first_value, locals_step, locals_of}
use Rattle.seuss_program.specs.Keeping as P
use Rattle.box_types.specs.declared.scopes.Local.{Local}
use Rattle.box_types.specs.declared.scopes.Scope.{Scope}
use Rattle.box_types.specs.Scopes as Sc
use Rattle.box_types.specs.Scopes.{meaning_of, meaning_in, method_called, declared, behind}
use Rattle.box_types.specs.Walks as W
use Rattle.box_types.specs.Walks.{Place, Value, Assigned, Takes, Walked, Walk}
use Rattle.box_types.specs.Twice.{fails}
use Rattle.box_types.specs.WrongKind as WK
use Rattle.box_types.specs.WrongKind.{no_value}
use Rattle.box_types.specs.Namings as N
use Rattle.box_types.specs.Namings.{Numbered, Numbering}
use Rattle.call_order.specs.Calls as C
use Rattle.call_order.specs.Calls.{in_statement, in_body, lines_of}
use Rattle.call_order.proofs.CallLemmas.{lines-Call, lines-If, lines-While}
use Rattle.box_types.proofs.KeptExpressions.{none-left, none-right, passes-by, is-kind-same, Fits, Agrees}
use Rattle.box_types.proofs.KeptExpressions.{has_kind, part-known}
use Rattle.call_order.proofs.KeptCalls.{all_at, Clean, clean_by, SeesCat, Named, kept_call, call_fits}
use Rattle.call_order.proofs.KeptCalls.{set_kind, takes_result, or_meaning, in-text}
use Rattle.call_order.proofs.NumberPlaces.{sized-by}
use Rattle.call_order.proofs.StatementLayers.{each, walk-roll, walks-each, number-roll, numbers-each}

-- a place that doesn't pass a limit isn't at it
pub not-limit : (n limit line : ℕ) → fails (n == limit) line ≡ [] → n ≢ limit
not-limit n limit line h e = let f : (n == limit) ≡ false = passes-by (n == limit) line h in
    grind (arith, f, e)

-- lists
pub drop-here : {X : Type 0} (xs : List X) (n : ℕ) (x : X) (rest : List X) → drop n xs ≡ x ∷ rest →
    slice_get xs n ≡ Some x
drop-here [] zero x rest h = absurd (cc)
drop-here [] (suc n) x rest h = absurd (cc)
drop-here (y ∷ ys) zero x rest h = let e : y ≡ x = cc in ap (λ z. Some z) e
drop-here (y ∷ ys) (suc n) x rest h = drop-here ys n x rest h

-- what is left after one more item
pub drop-next : {X : Type 0} (xs : List X) (n : ℕ) (x : X) (rest : List X) → drop n xs ≡ x ∷ rest →
    drop (suc n) xs ≡ rest
drop-next [] zero x rest h = absurd (cc)
drop-next [] (suc n) x rest h = absurd (cc)
drop-next (y ∷ ys) zero x rest h = cc
drop-next (y ∷ ys) (suc n) x rest h = drop-next ys n x rest h

-- two lists together, mapped
pub map-append : {X Y : Type 0} (f : X → Y) (xs ys : List X) → map f (xs ++ ys) ≡ map f xs ++ map f ys
map-append f [] ys = refl
map-append f (x ∷ xs) ys = ap (λ l. f x ∷ l) (map-append f xs ys)

-- three lists together
pub append-assoc : {X : Type 0} (xs ys zs : List X) → (xs ++ ys) ++ zs ≡ xs ++ (ys ++ zs)
append-assoc [] ys zs = refl
append-assoc (x ∷ xs) ys zs = ap (λ l. x ∷ l) (append-assoc xs ys zs)

-- what holds of all items holds of the one that is found
find-all : {X : Type 0} (Q : X → Type 0) (test : X → Bool) (xs : List X) (x : X) → AllByRecursion Q xs →
    find test xs ≡ Some x → Q x
find-all Q test [] x all h = absurd (cc)
find-all {X} Q test (y ∷ ys) x all h = go (test y) (find test ys) h (find-all Q test ys x all.1)
  where
    go : (t : Bool) (o : Option X) → (if t then Some y else o) ≡ Some x → (o ≡ Some x → Q x) → Q x
    go true o h rest = let e : y ≡ x = cc in subst Q e all.0
    go false o h rest = rest h

-- what holds of all items and of one more holds of both together
pub all-append : {X : Type 0} (Q : X → Type 0) (xs : List X) (x : X) → AllByRecursion Q xs → Q x →
    AllByRecursion Q (xs ++ x ∷ [])
all-append Q [] x all q = (q, tt)
all-append Q (y ∷ ys) x all q = (all.0, all-append Q ys x all.1 q)

-- the first value of a kind has it
pub first-kind : (kind : Kind) → P.kind_of (first_value kind) ≡ kind
first-kind K.Int = refl
first-kind K.Bool = refl
first-kind K.Seq = refl

-- the locals of statements with numbers
each_locals : (ss : List (Statement Ref)) → flat_map (λ vs. vs) (each locals_of ss) ≡ flat_map locals_of ss
each_locals [] = refl
each_locals (s ∷ ss) = ap (λ vs. locals_of s ++ vs) (each_locals ss)

-- the locals of a statement are told by its layer
locals-roll : (d : Statement-F Ref (Statement Ref)) →
    locals_of (roll-Statement Ref d) ≡ locals_step
    (map-Statement Ref (Statement Ref) (List Stored) locals_of d)
unfolding locals_of
locals-roll d = fold-roll-Statement Ref (List Stored) locals_step d

-- the locals of a choice
pub locals-If : (cond : Expr Ref) (holds fails : List (Statement Ref)) →
    locals_of (SV.If cond holds fails) ≡ flat_map locals_of holds ++ flat_map locals_of fails
locals-If cond holds fails =
    ap locals_of (sym (rolls-If cond holds fails)) ∙ (locals-roll (S.If cond holds fails)
    ∙ (ap (λ vs. vs ++ flat_map (λ vs. vs) (each locals_of fails)) (each_locals holds)
    ∙ ap (λ vs. flat_map locals_of holds ++ vs) (each_locals fails)))

-- the locals of a loop
pub locals-While : (cond : Expr Ref) (turn : List (Statement Ref)) →
    locals_of (SV.While cond turn) ≡ flat_map locals_of turn
locals-While cond turn = ap locals_of (sym (rolls-While cond turn))
    ∙ (locals-roll (S.While cond turn) ∙ each_locals turn)

-- the local of a `let`
pub locals-Let : (name : Ref) (kind : Kind) (e : Expr Ref) →
    locals_of (SV.Let name kind e) ≡ first_value kind ∷ []
locals-Let name kind e = ap locals_of (sym (rolls-Let name kind e)) ∙ locals-roll (S.Let name kind e)

-- an assignment has no locals
pub locals-Assign : (name : Ref) (e : Expr Ref) → locals_of (SV.Assign name e) ≡ []
locals-Assign name e = ap locals_of (sym (rolls-Assign name e)) ∙ locals-roll (S.Assign name e)

-- a call has no locals
pub locals-Call : (bind : Option Ref) (call : Call Ref) → locals_of (SV.Call bind call) ≡ []
locals-Call bind call = ap locals_of (sym (rolls-Call bind call)) ∙ locals-roll (S.Call bind call)

module _ (k : P.Scope) where
  -- what fits, by its layer
  fits-roll : (d : Statement-F Ref (Statement Ref)) →
      P.statement_fits k (roll-Statement Ref d) ≡ P.statement_step k
      (map-Statement Ref (Statement Ref) Bool (P.statement_fits k) d)
  unfolding P.statement_fits
  fits-roll d = fold-roll-Statement Ref Bool (P.statement_step k) d

  -- the statements inside a statement fit where the body does
  each_fits : (ss : List (Statement Ref)) → P.all_true (each (P.statement_fits k) ss) ≡ P.body_fits k ss
  each_fits [] = refl
  each_fits (s ∷ ss) = ap (λ t. P.statement_fits k s && t) (each_fits ss)

  -- whether a choice fits
  fits-If : (cond : Expr Ref) (holds fails : List (Statement Ref)) →
      P.statement_fits k (SV.If cond holds fails)
      ≡ (P.is_of K.Bool (P.kind_in k cond) && (P.body_fits k holds && P.body_fits k fails))
  fits-If cond holds fails =
      ap (P.statement_fits k) (sym (rolls-If cond holds fails)) ∙ (fits-roll (S.If cond holds fails)
      ∙ (ap (λ t. P.is_of K.Bool (P.kind_in k cond) && (t && P.all_true (each (P.statement_fits k) fails)))
      (each_fits holds)
      ∙ ap (λ t. P.is_of K.Bool (P.kind_in k cond) && (P.body_fits k holds && t)) (each_fits fails)))

  -- whether a loop fits
  fits-While : (cond : Expr Ref) (turn : List (Statement Ref)) →
      P.statement_fits k (SV.While cond turn) ≡ (P.is_of K.Bool (P.kind_in k cond) && P.body_fits k turn)
  fits-While cond turn =
      ap (P.statement_fits k) (sym (rolls-While cond turn)) ∙ (fits-roll (S.While cond turn)
      ∙ ap (λ t. P.is_of K.Bool (P.kind_in k cond) && t) (each_fits turn))

  -- whether a `let` fits
  fits-Let : (name : Ref) (kind : Kind) (e : Expr Ref) →
      P.statement_fits k (SV.Let name kind e) ≡
      (P.is_of kind (P.kind_set k name) && P.is_of kind (P.kind_in k e))
  fits-Let name kind e = ap (P.statement_fits k) (sym (rolls-Let name kind e))
      ∙ fits-roll (S.Let name kind e)

  -- whether an assignment fits
  fits-Assign : (name : Ref) (e : Expr Ref) → P.statement_fits k (SV.Assign name e)
      ≡ P.assigns k (P.kind_set k name) e
  fits-Assign name e = ap (P.statement_fits k) (sym (rolls-Assign name e)) ∙ fits-roll (S.Assign name e)

  -- whether a call fits
  fits-Call : (bind : Option Ref) (call : Call Ref) →
      P.statement_fits k (SV.Call bind call) ≡ P.call_fits k P.is_total bind call
  fits-Call bind call = ap (P.statement_fits k) (sym (rolls-Call bind call)) ∙ fits-roll (S.Call bind call)

  -- a local has its kind at its slot
  abbrev pub LocalFits : Local → Type 0
  LocalFits l = (slice_get k.slots l.slot ≡ Some l.kind) × (l.is_param ≡ nat_lt l.slot k.params)

  -- each visible local fits
  abbrev pub Sees : List Local → Type 0
  Sees visible = AllByRecursion LocalFits visible

  -- so does a name at a place where these are visible
  pub agrees_by : (own : Cat Name) (visible : List Local) → ((name : Name) → Fits k (meaning_in own name)) →
      Sees visible → Agrees own visible k
  agrees_by own visible in_cat sees = record {
    at = λ name. subst (Fits k) (sym (in-text own visible name))
        (go name (Sc.named (λ (l : Local). l.name) visible name)
        (λ l h. find-all LocalFits (λ (x : Local). Sc.same x.name name) visible l sees h));
  }
    where
      go : (name : Name) (o : Option Local) → ((l : Local) → o ≡ Some l → LocalFits l) →
          Fits k (or_meaning (meaning_in own name) (option_map Sc.as_local o))
      go name (Some l) h = h l refl
      go name None h = in_cat name

module _ (cats : List (Cat Name)) (own : Cat Name) (number : ℕ) (k : P.Scope)
    (in_cat : (name : Name) → Fits k (meaning_in own name)) (sees_cat : SeesCat cats own k) where
  -- the walk and the numbering stand at the same place, and the slots go on with these kinds
  pub record Ready (w sc : Scope) (kinds rest : List Kind) : Type 0 where
    pub visible : w.visible ≡ sc.visible
    pub next : w.next ≡ sc.next
    pub sees : Sees k sc.visible
    pub ahead : drop sc.next k.slots ≡ kinds ++ rest
    pub low : k.params ≤ sc.next
    pub few : sc.next ≤ 32

  -- a part of a text fits, and after it the rest of the slots stands
  pub record Kept (w sc : Scope) (ok : Bool) (rest : List Kind) : Type 0 where
    pub fits : ok ≡ true
    pub visible : w.visible ≡ sc.visible
    pub next : w.next ≡ sc.next
    pub sees : Sees k sc.visible
    pub after : drop sc.next k.slots ≡ rest
    pub low : k.params ≤ sc.next
    pub few : sc.next ≤ 32

  -- the kinds of values
  abbrev pub kinds_of : List Stored → List Kind
  kinds_of vs = map P.kind_of vs

  -- the lines of calls whose method is partial
  abbrev pub at_partial : Call Name → List ℕ
  at_partial = lines_of cats own.given C.is_partial

  -- a statement at which nothing is found fits, and its locals take the next slots
  abbrev pub StatementClaim : Statement Name → Type 0
  StatementClaim s = (w sc : Scope) (rest : List Kind) →
      Ready w sc (kinds_of (locals_of (N.statement cats own s sc).part)) rest →
      (W.statement all_at cats own number s w).lines ≡ [] → in_statement at_partial s ≡ [] →
      Kept (W.statement all_at cats own number s w).scope (N.statement cats own s sc).scope
      (P.statement_fits k (N.statement cats own s sc).part) rest

  -- a body at which nothing is found fits, and its locals take the next slots
  abbrev pub BodyClaim : List (Statement Name) → Type 0
  BodyClaim ss = (w sc : Scope) (rest : List Kind) →
      Ready w sc (kinds_of (flat_map locals_of (N.body cats own ss sc).part)) rest →
      (W.body all_at cats own number ss w).lines ≡ [] → in_body at_partial ss ≡ [] →
      Kept (W.body all_at cats own number ss w).scope (N.body cats own ss sc).scope
      (P.body_fits k (N.body cats own ss sc).part) rest

  -- statements one after the other
  pub body_claim : (ss : List (Statement Name)) → AllByRecursion StatementClaim ss → BodyClaim ss
  body_claim [] all w sc rest ready lines calls =
      record {
        fits = refl;
        visible = ready.visible;
        next = ready.next;
        sees = ready.sees;
        after =
            ready.ahead;
        low = ready.low;
        few = ready.few;
      }
  body_claim (s ∷ ss) all w sc rest ready lines calls =
      let first = N.statement cats own s sc in
      let others = N.body cats own ss first.scope in
      let here : List Kind = kinds_of (locals_of first.part) in
      let later : List Kind = kinds_of (flat_map locals_of others.part) in
      let one : Kept (W.statement all_at cats own number s w).scope first.scope
      (P.statement_fits k first.part) (later ++ rest) =
      all.0 w sc (later ++ rest)
      (record {
        visible = ready.visible;
        next = ready.next;
        sees = ready.sees;
        ahead = ready.ahead ∙
            (ap (λ ks. ks ++ rest)
            (map-append P.kind_of (locals_of first.part) (flat_map locals_of others.part))
            ∙ append-assoc here later rest);
        low = ready.low;
        few = ready.few;
      })
      (none-left (W.statement all_at cats own number s w).lines _ lines)
      (none-left (in_statement at_partial s) _ calls) in
      let more : Kept (W.body all_at cats own number ss
      (W.statement all_at cats own number s w).scope).scope others.scope (P.body_fits k others.part)
      rest =
      body_claim ss all.1 (W.statement all_at cats own number s w).scope first.scope rest
      (record {
        visible = one.visible;
        next = one.next;
        sees = one.sees;
        ahead = one.after;
        low = one.low;
        few = one.few;
      })
      (none-right (W.statement all_at cats own number s w).lines _ lines)
      (none-right (in_statement at_partial s) _ calls) in
      record {
        fits = ap (λ t. t && P.body_fits k others.part) one.fits ∙ more.fits;
        visible = more.visible;
        next = more.next;
        sees = more.sees;
        after = more.after;
        low = more.low;
        few = more.few;
      }

  -- the claim on a statement by what its walk and its numbering are
  claim-by : (s : Statement Name) →
      ((w sc : Scope) → (wd : Walked) × (nd : Numbered (Statement Ref))
      × (W.statement all_at cats own number s w ≡ wd) × (N.statement cats own s sc ≡ nd)
      × ((rest : List Kind) → Ready w sc (kinds_of (locals_of nd.part)) rest → wd.lines ≡ [] →
      in_statement at_partial s ≡ [] → Kept wd.scope nd.scope (P.statement_fits k nd.part) rest)) →
      StatementClaim s
  claim-by s by w sc rest ready lines calls =
      let b = by w sc in
      subst (λ (x : Walked). Kept x.scope (N.statement cats own s sc).scope
      (P.statement_fits k (N.statement cats own s sc).part) rest) (sym b.2)
      (subst (λ (x : Numbered (Statement Ref)). Kept b.0.scope x.scope (P.statement_fits k x.part) rest)
      (sym b.3)
      (b.4 rest (subst (λ (x : Numbered (Statement Ref)). Ready w sc (kinds_of (locals_of x.part)) rest) b.3
      ready) (ap (λ (x : Walked). x.lines) (sym b.2) ∙ lines) calls))

  -- an expression of the type that is wanted
  pub value_kept : (visible : List Local) (wanted : Kind) (e : Expr Name) → Sees k visible →
      Clean (Value own visible (Some wanted) e) → P.kind_in k (N.expression own visible e) ≡ Some wanted
  value_kept visible wanted e sees clean =
      let agrees : Agrees own visible k = agrees_by k own visible in_cat sees in
      part-known own visible k agrees e wanted (has_kind own visible k agrees e) clean.unknown clean.kind
      clean.type (sized-by e clean.number)

  -- two tests that hold, hold together
  pub both-true : (a b : Bool) → a ≡ true → b ≡ true → (a && b) ≡ true
  both-true a b h g = ap (λ t. t && b) h ∙ g

  -- nothing changes after a statement without locals
  still : (w sc : Scope) (fits : Bool) (kinds rest : List Kind) → Ready w sc kinds rest → kinds ≡ [] →
      fits ≡ true → Kept w sc fits rest
  still w sc fits kinds rest ready none h = record {
    fits = h;
    visible = ready.visible;
    next = ready.next;
    sees = ready.sees;
    after = ready.ahead ∙ ap (λ ks. ks ++ rest) none;
    low = ready.low;
    few = ready.few;
  }

  -- a `let`
  let-claim : (name : Name) (kind : Kind) (e : Expr Name) →
      StatementClaim (roll-Statement Name (S.Let name kind e))
  let-claim name kind e = claim-by (roll-Statement Name (S.Let name kind e)) (λ w sc. (
    _,
    _,
    walk-roll all_at cats own number (S.Let name kind e) w,
    number-roll cats own (S.Let name kind e) sc,
    λ rest ready lines calls.
        let e' : Expr Ref = N.expression own sc.visible e in
        let clean : Clean (Value own sc.visible (Some kind) e) =
        clean_by (Value own sc.visible (Some kind) e)
        (subst (λ v. all_at (Value own v (Some kind) e) ≡ []) ready.visible
        (none-right (all_at (W.LocalName own number w name))
        (all_at (Value own w.visible (Some kind) e)) lines)) in
        let ahead : drop sc.next k.slots ≡ kind ∷ rest =
        ready.ahead ∙ (ap (λ vs. kinds_of vs ++ rest) (locals-Let (R.Slot sc.next) kind e')
        ∙ ap (λ x. x ∷ rest) (first-kind kind)) in
        let slot : slice_get k.slots sc.next ≡ Some kind = drop-here k.slots sc.next kind rest ahead in
        let high : nat_lt sc.next k.params ≡ false =
        (let l : k.params ≤ sc.next = ready.low in grind (arith, l)) in
        let plus : sc.next + 1 ≡ suc sc.next = omega arith in
        record {
          fits = fits-Let k (R.Slot sc.next) kind e' ∙ both-true _ _
              (ap (P.is_of kind) (ap (λ (t : Bool). if t then None else slice_get k.slots sc.next) high
              ∙ slot) ∙ is-kind-same kind)
              (ap (P.is_of kind) (value_kept sc.visible kind e ready.sees clean) ∙ is-kind-same kind);
          visible = ap (λ (v : List Local). v ++ record
              { name = name; kind = kind; slot = w.next; is_param = false } ∷ []) ready.visible
              ∙ ap (λ n. sc.visible ++ record { name = name; kind = kind; slot = n; is_param = false } ∷ [])
              ready.next;
          next = ap (λ n. n + 1) ready.next;
          sees = all-append (LocalFits k) sc.visible
              (record { name = name; kind = kind; slot = sc.next; is_param = false }) ready.sees
              (slot, sym high);
          after = ap (λ n. drop n k.slots) plus ∙ drop-next k.slots sc.next kind rest ahead;
          low = (let l : k.params ≤ sc.next = ready.low in omega (arith, l));
          few = (let most : sc.next ≤ 32 = ready.few in let not : w.next ≢ 32 = not-limit w.next 32 name.line
              (clean_by (W.LocalName own number w name)
              (none-left _ (all_at (Value own w.visible (Some kind) e)) lines)).count in
              let same : w.next ≡ sc.next = ready.next in
              omega (arith, most, not, same));
        },
  ))

  -- an assignment
  assign-claim : (name : Name) (e : Expr Name) → StatementClaim (roll-Statement Name (S.Assign name e))
  assign-claim name e = claim-by (roll-Statement Name (S.Assign name e)) (λ w sc. (
    _,
    _,
    walk-roll all_at cats own number (S.Assign name e) w,
    number-roll cats own (S.Assign name e) sc,
    λ rest ready lines calls.
        let e' : Expr Ref = N.expression own sc.visible e in
        let r : Ref = N.name_ref own sc.visible name in
        let agrees : Agrees own sc.visible k = agrees_by k own sc.visible in_cat ready.sees in
        let lines' : all_at (Assigned own sc.visible name)
        ++ all_at (Value own sc.visible (W.kind_of (meaning_of own sc.visible name)) e) ≡ [] =
        subst (λ v. all_at (Assigned own v name) ++ all_at
        (Value own v (W.kind_of (meaning_of own v name)) e) ≡ []) ready.visible lines in
        let found = set_kind cats own sc.visible k agrees sees_cat name
        (clean_by (Assigned own sc.visible name) (none-left _ _ lines')) in
        let clean : Clean (Value own sc.visible (Some found.0) e) =
        clean_by (Value own sc.visible (Some found.0) e)
        (subst (λ o. all_at (Value own sc.visible o e) ≡ []) found.1
        (none-right (all_at (Assigned own sc.visible name)) _ lines')) in
        still w sc (P.statement_fits k (SV.Assign r e')) _ rest ready (ap kinds_of (locals-Assign r e'))
        (fits-Assign k r e' ∙ (ap (λ o. P.assigns k o e') found.2
        ∙ (ap (P.is_of found.0) (value_kept sc.visible found.0 e ready.sees clean) ∙ is-kind-same found.0))),
  ))

  -- a method that isn't an action, and isn't partial, is total
  is-total : (c : Cat Name) (q : Proc Name) → WK.is_action q.form ≡ false → C.is_partial q.form ≡ false →
      P.is_total (N.procedure cats c q).form ≡ true
  is-total c q a p = by_form q.form (Sc.with_result q (N.with_params q.params (Sc.at_head q []))) a p
    where
      by_form : (f : Form Name) (s : Scope) → WK.is_action f ≡ false → C.is_partial f ≡ false →
          P.is_total (N.form cats c f s) ≡ true
      by_form (F.Total ss) s a p = refl
      by_form (F.Partial alts) s a p = absurd (cc)
      by_form (F.Action alts) s a p = absurd (cc)

  -- a method that is no action and not total is partial
  pub is-partial : (c : Cat Name) (q : Proc Name) → WK.is_action q.form ≡ false →
      C.is_total q.form ≡ false → P.is_partial (N.procedure cats c q).form ≡ true
  is-partial c q a p = by_form q.form (Sc.with_result q (N.with_params q.params (Sc.at_head q []))) a p
    where
      by_form : (f : Form Name) (s : Scope) → WK.is_action f ≡ false → C.is_total f ≡ false →
          P.is_partial (N.form cats c f s) ≡ true
      by_form (F.Total ss) s a p = absurd (cc)
      by_form (F.Partial alts) s a p = refl
      by_form (F.Action alts) s a p = absurd (cc)

  -- a method of a form that no call may have isn't found
  pub not-found : (form : Form Name → Bool) (c : Call Name) (q : Proc Name) →
      C.called cats own.given c ≡ Some q → lines_of cats own.given form c ≡ [] → form q.form ≡ false
  not-found form c q h none = go (form q.form) (ap (λ o. C.line_where form o c.method) (sym h) ∙ none)
    where
      go : (t : Bool) → (if t then c.method.line ∷ [] else []) ≡ [] → t ≡ false
      go true e = absurd (cc)
      go false e = refl

  -- the name that takes the result of a call of a body
  taken-fits : (visible : List Local) (agrees : Agrees own visible k) (bind : Option Name) (c : Call Name)
      (q : Proc Name) → method_called cats own visible c ≡ Some q →
      W.taken all_at cats own visible bind c ≡ [] →
      P.bind_fits k (option_map (N.name_ref own visible) bind) q.gives ≡ true
  taken-fits visible agrees None c q called lines = refl
  taken-fits visible agrees (Some name) c q called lines =
      let found = set_kind cats own visible k agrees sees_cat name
      (clean_by (Assigned own visible name) (none-left _ _ lines)) in
      takes_result cats own visible k agrees sees_cat name c (W.kind_of (meaning_of own visible name)) q
      (N.name_ref own visible name) found.0
      (clean_by (Takes cats own visible (W.kind_of (meaning_of own visible name)) name c)
      (none-right (all_at (Assigned own visible name)) _ lines)) called found.1 found.2

  -- a call
  call-claim : (bind : Option Name) (c : Call Name) → StatementClaim (roll-Statement Name (S.Call bind c))
  call-claim bind c = claim-by (roll-Statement Name (S.Call bind c)) (λ w sc. (
    _,
    _,
    walk-roll all_at cats own number (S.Call bind c) w,
    number-roll cats own (S.Call bind c) sc,
    λ rest ready lines calls.
        let agrees : Agrees own sc.visible k = agrees_by k own sc.visible in_cat ready.sees in
        let lines' : W.taken all_at cats own sc.visible bind c ++ W.call all_at cats own sc.visible c ≡ [] =
        subst (λ v. W.taken all_at cats own v bind c ++ W.call all_at cats own v c ≡ []) ready.visible lines
        in
        let on_call : W.call all_at cats own sc.visible c ≡ [] =
        none-right (W.taken all_at cats own sc.visible bind c) _ lines' in
        let n : Named cats own sc.visible k agrees sees_cat c =
        kept_call cats own sc.visible k agrees sees_cat c on_call in
        let none : at_partial c ≡ [] = sym
        (lines-Call at_partial (roll-Statement Name (S.Call bind c)) bind c (rolls-Call bind c))
        ∙ calls in
        let bind' : Option Ref = option_map (N.name_ref own sc.visible) bind in
        still w sc (P.statement_fits k (SV.Call bind' (N.call cats own sc.visible c))) _ rest ready
        (ap kinds_of (locals-Call bind' (N.call cats own sc.visible c)))
        (fits-Call k bind' (N.call cats own sc.visible c)
        ∙ call_fits cats own sc.visible k agrees sees_cat c P.is_total bind' on_call
        (is-total n.cat n.method n.no_action (not-found C.is_partial c n.method n.named none))
        (taken-fits sc.visible agrees bind c n.method n.called (none-left _ _ lines'))),
  ))

  -- a choice by its bodies
  if-claim : (cond : Expr Name) (holds fails : List (Statement Name)) → BodyClaim holds → BodyClaim fails →
      StatementClaim (roll-Statement Name (S.If cond holds fails))
  if-claim cond holds fails on_holds on_fails = claim-by (roll-Statement Name (S.If cond holds fails))
      (λ w sc.
      let w1 : Walked = W.body all_at cats own number holds w in
      let w2 : Walked = W.body all_at cats own number fails (behind w w1.scope) in
      let n1 : Numbered (List (Statement Ref)) = N.body cats own holds sc in
      let n2 : Numbered (List (Statement Ref)) = N.body cats own fails (behind sc n1.scope) in
      let cond' : Expr Ref = N.expression own sc.visible cond in (
        record {
          lines = all_at (Value own w.visible (Some K.Bool) cond) ++ (w1.lines ++ w2.lines);
          scope =
              behind w w2.scope;
        },
        record { part = SV.If cond' n1.part n2.part; scope = behind sc n2.scope },
        walk-roll all_at cats own number (S.If cond holds fails) w ∙ if-walk w cond holds fails,
        number-roll cats own (S.If cond holds fails) sc ∙ if-number sc cond holds fails,
        λ rest ready lines calls.
            let h' : List Kind = kinds_of (flat_map locals_of n1.part) in
            let f' : List Kind = kinds_of (flat_map locals_of n2.part) in
            let inside : w1.lines ++ w2.lines ≡ [] =
            none-right (all_at (Value own w.visible (Some K.Bool) cond)) _ lines in
            let found : in_body at_partial holds ++ in_body at_partial fails ≡ [] =
            sym (lines-If at_partial (roll-Statement Name (S.If cond holds fails)) cond holds fails
            (rolls-If cond holds fails)) ∙ calls in
            let clean : Clean (Value own sc.visible (Some K.Bool) cond) =
            clean_by (Value own sc.visible (Some K.Bool) cond)
            (subst (λ v. all_at (Value own v (Some K.Bool) cond) ≡ []) ready.visible
            (none-left _ _ lines)) in
            let first : Kept w1.scope n1.scope (P.body_fits k n1.part) (f' ++ rest) =
            on_holds w sc (f' ++ rest)
            (record {
              visible = ready.visible;
              next = ready.next;
              sees = ready.sees;
              ahead = ready.ahead ∙ (ap (λ vs. kinds_of vs ++ rest) (locals-If cond' n1.part n2.part)
                  ∙ (ap (λ ks. ks ++ rest)
                  (map-append P.kind_of (flat_map locals_of n1.part) (flat_map locals_of n2.part))
                  ∙ append-assoc h' f' rest));
              low = ready.low;
              few = ready.few;
            }) (none-left w1.lines _ inside) (none-left (in_body at_partial holds) _ found) in
            let second : Kept w2.scope n2.scope (P.body_fits k n2.part) rest =
            on_fails (behind w w1.scope) (behind sc n1.scope) rest
            (record {
              visible = ready.visible;
              next = first.next;
              sees = ready.sees;
              ahead = first.after;
              low = first.low;
              few = first.few;
            })
            (none-right w1.lines _ inside) (none-right (in_body at_partial holds) _ found) in
            record {
              fits = fits-If k cond' n1.part n2.part
                  ∙ both-true _ _ (ap (P.is_of K.Bool) (value_kept sc.visible K.Bool cond ready.sees clean))
                  (both-true _ _ first.fits second.fits);
              visible = ready.visible;
              next = second.next;
              sees = ready.sees;
              after = second.after;
              low = second.low;
              few = second.few;
            },
      ))
    where
      if-walk : (w : Scope) (cond : Expr Name) (holds fails : List (Statement Name)) →
          W.statement_step all_at cats own number
          (map-Statement Name (Statement Name) Walk (W.statement all_at cats own number)
          (S.If cond holds fails)) w
          ≡ record {
            lines = all_at (Value own w.visible (Some K.Bool) cond)
                ++ ((W.body all_at cats own number holds w).lines
                ++ (W.body all_at cats own number fails
                (behind w (W.body all_at cats own number holds w).scope)).lines);
            scope = behind w (W.body all_at cats own number fails
                (behind w (W.body all_at cats own number holds w).scope)).scope;
          }
      if-walk w cond holds fails =
          ap (λ (r : Walked). record {
            lines = all_at (Value own w.visible (Some K.Bool) cond)
                ++ (r.lines ++ (W.in_turn (each (W.statement all_at cats own number) fails)
                (behind w r.scope)).lines);
            scope = behind w (W.in_turn (each (W.statement all_at cats own number) fails)
                (behind w r.scope)).scope;
          }) (walks-each all_at cats own number holds w)
          ∙ ap (λ (r : Walked). record {
            lines = all_at (Value own w.visible (Some K.Bool) cond)
                ++ ((W.body all_at cats own number holds w).lines ++ r.lines);
            scope = behind w r.scope;
          })
          (walks-each all_at cats own number fails (behind w (W.body all_at cats own number holds w).scope))

      if-number : (sc : Scope) (cond : Expr Name) (holds fails : List (Statement Name)) →
          N.statement_step cats own
          (map-Statement Name (Statement Name) Numbering (N.statement cats own) (S.If cond holds fails))
          sc
          ≡ record {
            part = SV.If (N.expression own sc.visible cond) (N.body cats own holds sc).part
                (N.body cats own fails (behind sc (N.body cats own holds sc).scope)).part;
            scope = behind sc (N.body cats own fails (behind sc (N.body cats own holds sc).scope)).scope;
          }
      if-number sc cond holds fails =
          ap (λ (r : Numbered (List (Statement Ref))). record {
            part = SV.If (N.expression own sc.visible cond) r.part
                (N.in_turn (each (N.statement cats own) fails) (behind sc r.scope)).part;
            scope = behind sc (N.in_turn (each (N.statement cats own) fails) (behind sc r.scope)).scope;
          }) (numbers-each cats own holds sc)
          ∙ ap (λ (r : Numbered (List (Statement Ref))). record {
            part = SV.If (N.expression own sc.visible cond) (N.body cats own holds sc).part r.part;
            scope = behind sc r.scope;
          }) (numbers-each cats own fails (behind sc (N.body cats own holds sc).scope))

  -- a loop by its body
  while-claim : (cond : Expr Name) (turn : List (Statement Name)) → BodyClaim turn →
      StatementClaim (roll-Statement Name (S.While cond turn))
  while-claim cond turn on_turn = claim-by (roll-Statement Name (S.While cond turn)) (λ w sc.
      let w1 : Walked = W.body all_at cats own number turn w in
      let n1 : Numbered (List (Statement Ref)) = N.body cats own turn sc in
      let cond' : Expr Ref = N.expression own sc.visible cond in (
        record {
          lines = all_at (Value own w.visible (Some K.Bool) cond) ++ w1.lines;
          scope =
              behind w w1.scope;
        },
        record { part = SV.While cond' n1.part; scope = behind sc n1.scope },
        walk-roll all_at cats own number (S.While cond turn) w
            ∙ ap (λ (r : Walked). record {
              lines = all_at (Value own w.visible (Some K.Bool) cond) ++ r.lines;
              scope =
                  behind w r.scope;
            }) (walks-each all_at cats own number turn w),
        number-roll cats own (S.While cond turn) sc
            ∙ ap (λ (r : Numbered (List (Statement Ref))). record
            { part = SV.While cond' r.part; scope = behind sc r.scope }) (numbers-each cats own turn sc),
        λ rest ready lines calls.
            let clean : Clean (Value own sc.visible (Some K.Bool) cond) =
            clean_by (Value own sc.visible (Some K.Bool) cond)
            (subst (λ v. all_at (Value own v (Some K.Bool) cond) ≡ []) ready.visible
            (none-left _ _ lines)) in
            let inside : Kept w1.scope n1.scope (P.body_fits k n1.part) rest = on_turn w sc rest
            (record {
              visible = ready.visible;
              next = ready.next;
              sees = ready.sees;
              ahead = ready.ahead ∙ ap (λ vs. kinds_of vs ++ rest) (locals-While cond' n1.part);
              low = ready.low;
              few = ready.few;
            }) (none-right (all_at (Value own w.visible (Some K.Bool) cond)) _ lines)
            (sym (lines-While at_partial (roll-Statement Name (S.While cond turn)) cond turn
            (rolls-While cond turn)) ∙ calls) in
            record {
              fits = fits-While k cond' n1.part ∙ both-true _ _
                  (ap (P.is_of K.Bool) (value_kept sc.visible K.Bool cond ready.sees clean)) inside.fits;
              visible = ready.visible;
              next = inside.next;
              sees = ready.sees;
              after = inside.after;
              low = inside.low;
              few = inside.few;
            },
      ))

  -- the statements inside a statement, for which it holds already
  each-claims : (ys : List ((s : Statement Name) × StatementClaim s)) →
      AllByRecursion StatementClaim
      ((former-Statement-If-1 Name).map ((s : Statement Name) × StatementClaim s) (Statement Name)
      (λ y. y.0) ys)
  each-claims [] = tt
  each-claims (y ∷ ys) = (y.1, each-claims ys)

  -- a statement by those inside it
  layer-claim : (y : Statement-F Name ((s : Statement Name) × StatementClaim s)) →
      StatementClaim (roll-Statement Name
      (map-Statement Name ((s : Statement Name) × StatementClaim s) (Statement Name) (λ y. y.0) y))
  layer-claim (S.Let name kind e) = let-claim name kind e
  layer-claim (S.Assign name e) = assign-claim name e
  layer-claim (S.Call bind c) = call-claim bind c
  layer-claim (S.If cond holds fails) = if-claim cond _ _ (body_claim _ (each-claims holds))
      (body_claim _ (each-claims fails))
  layer-claim (S.While cond turn) = while-claim cond _ (body_claim _ (each-claims turn))

  -- each statement
  pub statement_claim : (s : Statement Name) → StatementClaim s
  statement_claim = ind-Statement Name StatementClaim
      (λ x y is. subst (λ d. StatementClaim (roll-Statement Name d)) is (layer-claim y))

  -- a body that passes the checks fits
  pub body_kept : (ss : List (Statement Name)) → BodyClaim ss
  body_kept ss = body_claim ss (every ss)
    where
      every : (ss : List (Statement Name)) → AllByRecursion StatementClaim ss
      every [] = tt
      every (s ∷ ss) = (statement_claim s, every ss)
