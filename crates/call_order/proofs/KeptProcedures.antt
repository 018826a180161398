-- A procedure that passes the checks fits, with its names as numbers, what it sees, and has few slots.
use Rattle.std.specs.Prelude.{◌≡◌, ◌≢◌, ℕ, zero, suc, ◌+◌, ◌<◌, ◌≤◌, ◌==◌, nat_lt, nat_le, Bool, true}
use Rattle.std.specs.Prelude.{false, ◌&&◌, ◌||◌, if◌then◌else◌, pos, List, [], ◌∷◌, ◌++◌, map, length}
use Rattle.std.specs.Prelude.{codes, slice_get, Option, None, Some, option_map}
use Rattle.std.specs.List.{flat_map}
use Rattle.std.proofs.Common.{refl, sym, ap, subst, ◌∙◌, arith, drop}
use Rattle.seuss_program.specs.declared.tree.Name.{Name}
use Rattle.seuss_program.specs.declared.tree.Ref.{Ref}
use Rattle.seuss_program.specs.declared.tree.Ref.TheVariants as R
use Rattle.seuss_program.specs.declared.tree.Kind.{Kind}
use Rattle.seuss_program.specs.declared.tree.Kind.TheVariants as K
use Rattle.seuss_program.specs.declared.tree.Var.{Var}
use Rattle.seuss_program.specs.declared.tree.Param.{Param}
use Rattle.seuss_program.specs.declared.tree.Call.{Call}
use Rattle.seuss_program.specs.declared.tree.Pre.{Pre}
use Rattle.seuss_program.specs.declared.tree.Alternative.{Alternative}
use Rattle.seuss_program.specs.declared.tree.Form.{Form}
use Rattle.seuss_program.specs.declared.tree.Form.TheVariants as F
use Rattle.seuss_program.specs.declared.tree.Proc.{Proc}
use Rattle.seuss_program.specs.declared.tree.Cat.{Cat}
use Rattle.seuss_program.specs.declared.state.Value.{Value as Stored}
use Rattle.seuss_program.specs.declared.state.Value.TheVariants as V
use Rattle.seuss_program.specs.Attempts.{locals_of, bound_local, form_locals}
use Rattle.seuss_program.specs.Keeping as P
use Rattle.box_types.specs.declared.scopes.Local.{Local}
use Rattle.box_types.specs.declared.scopes.Scope.{Scope}
use Rattle.box_types.specs.declared.scopes.Meaning.{Meaning}
use Rattle.box_types.specs.declared.scopes.Meaning.TheVariants as M
use Rattle.box_types.specs.Scopes as Sc
use Rattle.box_types.specs.Scopes.{meaning_of, meaning_in, declared, at_head, with_result}
use Rattle.box_types.specs.Scopes.{result_local}
use Rattle.box_types.specs.Walks as W
use Rattle.box_types.specs.Walks.{Value, Takes, Walked, LocalName, When, ProcName}
use Rattle.box_types.specs.Limits.{result_passes}
use Rattle.box_types.specs.Namings as N
use Rattle.box_types.specs.Namings.{Numbered}
use Rattle.call_order.specs.Calls as C
use Rattle.call_order.specs.Calls.{in_body, in_pre, in_bodies, in_pres, lines_of}
use Rattle.box_types.proofs.KeptExpressions.{none-left, none-right, passes-by, Fits, Agrees}
use Rattle.call_order.proofs.KeptCalls.{all_at, Clean, clean_by, SeesCat, GivenKnown, At, at-number}
use Rattle.call_order.proofs.KeptCalls.{get-map, or_meaning, in-cat, Named, kept_call, call_fits}
use Rattle.call_order.proofs.KeptCalls.{takes_result}
use Rattle.call_order.proofs.KeptStatements.{not-limit, drop-here, drop-next, map-append, append-assoc}
use Rattle.call_order.proofs.KeptStatements.{all-append, LocalFits, Sees, agrees_by, Ready, Kept, kinds_of}
use Rattle.call_order.proofs.KeptStatements.{at_partial, body_kept, value_kept, both-true, is-partial}
use Rattle.call_order.proofs.KeptStatements.{not-found}

module _ (cats : List (Cat Name)) (own : Cat Name) (number : ℕ) (k : P.Scope)
    (in_cat : (name : Name) → Fits k (meaning_in own name)) (sees_cat : SeesCat cats own k) where
  -- a walk and a numbering that are ready for these kinds
  abbrev ReadyAt : Scope → Scope → List Kind → List Kind → Type 0
  ReadyAt = Ready cats own number k in_cat sees_cat

  -- a walk and a numbering that are kept up to here
  abbrev KeptAt : Scope → Scope → Bool → List Kind → Type 0
  KeptAt = Kept cats own number k in_cat sees_cat

  -- the lines of calls whose method is total
  abbrev at_total : Call Name → List ℕ
  at_total = lines_of cats own.given C.is_total

  -- a local of a kind takes the next slot
  declare : (w sc : Scope) (name : Name) (kind : Kind) (is_param : Bool) (rest : List Kind) →
      ReadyAt w sc (kind ∷ []) rest → Clean (LocalName own number w name) →
      is_param ≡ nat_lt sc.next k.params → k.params ≤ sc.next + 1 → (fits : Bool) → fits ≡ true →
      KeptAt (declared name kind is_param w) (declared name kind is_param sc) fits rest
  declare w sc name kind is_param rest ready clean param low fits holds =
      let plus : sc.next + 1 ≡ suc sc.next = omega arith in record {
        fits = holds;
        visible = ap (λ (v : List Local). v ++ record
            { name = name; kind = kind; slot = w.next; is_param = is_param } ∷ []) ready.visible
            ∙ ap (λ n. sc.visible ++ record { name = name; kind = kind; slot = n; is_param = is_param }
            ∷ []) ready.next;
        next = ap (λ n. n + 1) ready.next;
        sees = all-append (LocalFits k) sc.visible
            (record { name = name; kind = kind; slot = sc.next; is_param = is_param }) ready.sees
            (drop-here k.slots sc.next kind rest ready.ahead, param);
        after = ap (λ n. drop n k.slots) plus ∙ drop-next k.slots sc.next kind rest ready.ahead;
        low = low;
        few = (let most : sc.next ≤ 32 = ready.few in let not : w.next ≢ 32 =
            not-limit w.next 32 name.line clean.count in let same : w.next ≡ sc.next = ready.next in
            omega (arith, most, not, same));
      }

  -- the preprocedure of an alternative
  pre-kept : (pre : Option (Pre Name)) (w sc : Scope) (rest : List Kind) →
      ReadyAt w sc (kinds_of cats own number k in_cat sees_cat (bound_local (N.early cats own pre sc).part))
      rest →
      (W.early all_at cats own number pre w).lines ≡ [] → in_pre at_total pre ≡ [] →
      KeptAt (W.early all_at cats own number pre w).scope (N.early cats own pre sc).scope
      (P.pre_fits k (N.early cats own pre sc).part) rest
  pre-kept None w sc rest ready lines calls =
      record {
        fits = refl;
        visible = ready.visible;
        next = ready.next;
        sees = ready.sees;
        after =
            ready.ahead;
        low = ready.low;
        few = ready.few;
      }
  pre-kept (Some pre) w sc rest ready lines calls = by_bind pre.bind pre.call ready lines calls
    where
      by_bind : (bind : Option Name) (c : Call Name) →
          ReadyAt w sc (kinds_of cats own number k in_cat sees_cat
          (bound_local (Some (N.bound cats own bind c sc).part))) rest →
          (W.bound all_at cats own number bind c w).lines ≡ [] → at_total c ≡ [] →
          KeptAt (W.bound all_at cats own number bind c w).scope (N.bound cats own bind c sc).scope
          (P.pre_fits k (Some (N.bound cats own bind c sc).part)) rest
      by_bind None c ready lines calls =
          let agrees : Agrees own sc.visible k = agrees_by k own sc.visible in_cat ready.sees in
          let on_call : W.call all_at cats own sc.visible c ≡ [] =
          subst (λ v. W.call all_at cats own v c ≡ []) ready.visible lines in
          let n : Named cats own sc.visible k agrees sees_cat c =
          kept_call cats own sc.visible k agrees sees_cat c on_call in record {
            fits = call_fits cats own sc.visible k agrees sees_cat c P.is_partial None on_call
                (is-partial cats own number k in_cat sees_cat n.cat n.method n.no_action
                (not-found cats own number k in_cat sees_cat C.is_total c n.method n.named calls)) refl;
            visible = ready.visible;
            next = ready.next;
            sees = ready.sees;
            after = ready.ahead;
            low = ready.low;
            few = ready.few;
          }
      by_bind (Some name) c ready lines calls =
          let agrees : Agrees own sc.visible k = agrees_by k own sc.visible in_cat ready.sees in
          let inside : all_at (Takes cats own w.visible (Some K.Int) name c)
          ++ W.call all_at cats own w.visible c ≡ [] =
          none-right (all_at (LocalName own number w name)) _ lines in
          let on_call : W.call all_at cats own sc.visible c ≡ [] =
          subst (λ v. W.call all_at cats own v c ≡ []) ready.visible
          (none-right (all_at (Takes cats own w.visible (Some K.Int) name c)) _ inside) in
          let n : Named cats own sc.visible k agrees sees_cat c =
          kept_call cats own sc.visible k agrees sees_cat c on_call in
          let high : nat_lt sc.next k.params ≡ false =
          (let l : k.params ≤ sc.next = ready.low in grind (arith, l)) in
          let set : P.kind_set k (R.Slot sc.next) ≡ Some K.Int =
          ap (λ (t : Bool). if t then None else slice_get k.slots sc.next) high
          ∙ drop-here k.slots sc.next K.Int rest ready.ahead in
          let clean : Clean (Takes cats own sc.visible (Some K.Int) name c) =
          clean_by (Takes cats own sc.visible (Some K.Int) name c)
          (subst (λ v. all_at (Takes cats own v (Some K.Int) name c) ≡ []) ready.visible
          (none-left _ _ inside)) in
          declare w sc name K.Int false rest ready
          (clean_by (LocalName own number w name) (none-left _ _ lines)) (sym high)
          (let l : k.params ≤ sc.next = ready.low in omega (arith, l)) _
          (call_fits cats own sc.visible k agrees sees_cat c P.is_partial (Some (R.Slot sc.next)) on_call
          (is-partial cats own number k in_cat sees_cat n.cat n.method n.no_action
          (not-found cats own number k in_cat sees_cat C.is_total c n.method n.named calls))
          (takes_result cats own sc.visible k agrees sees_cat name c (Some K.Int) n.method (R.Slot sc.next)
          K.Int clean n.called refl set))

  -- the locals of an alternative
  abbrev alternative_locals : Alternative Ref → List Stored
  alternative_locals a = bound_local a.pre ++ flat_map locals_of a.body

  -- an alternative at which nothing is found fits
  alternative-kept : (a : Alternative Name) (n : ℕ) (w sc : Scope) (rest : List Kind) →
      ReadyAt w sc (kinds_of cats own number k in_cat sees_cat
      (alternative_locals (N.alternative cats own a sc).part)) rest →
      (W.alternative all_at cats own number n a w).lines ≡ [] → in_pre at_total a.pre ≡ [] →
      in_body (at_partial cats own number k in_cat sees_cat) a.body ≡ [] →
      KeptAt (W.alternative all_at cats own number n a w).scope (N.alternative cats own a sc).scope
      (P.alternative_fits k (N.alternative cats own a sc).part) rest
  alternative-kept a n w sc rest ready lines pres bodies =
      let w1 : Walked = W.early all_at cats own number a.pre w in
      let n1 : Numbered (Option (Pre Ref)) = N.early cats own a.pre sc in
      let n2 = N.body cats own a.body n1.scope in
      let p' : List Kind = kinds_of cats own number k in_cat sees_cat (bound_local n1.part) in
      let b' : List Kind = kinds_of cats own number k in_cat sees_cat (flat_map locals_of n2.part) in
      let on_head : all_at (When n a.line) ++ all_at (Value own w.visible (Some K.Bool) a.cond) ≡ [] =
      none-left (all_at (When n a.line) ++ all_at (Value own w.visible (Some K.Bool) a.cond)) _ lines in
      let lines2 : w1.lines ++ (W.body all_at cats own number a.body w1.scope).lines ≡ [] =
      none-right (all_at (When n a.line) ++ all_at (Value own w.visible (Some K.Bool) a.cond)) _ lines
      in
      let clean : Clean (Value own sc.visible (Some K.Bool) a.cond) =
      clean_by (Value own sc.visible (Some K.Bool) a.cond)
      (subst (λ v. all_at (Value own v (Some K.Bool) a.cond) ≡ []) ready.visible
      (none-right (all_at (When n a.line)) _ on_head)) in
      let first : KeptAt w1.scope n1.scope (P.pre_fits k n1.part) (b' ++ rest) =
      pre-kept a.pre w sc (b' ++ rest)
      (record {
        visible = ready.visible;
        next = ready.next;
        sees = ready.sees;
        ahead = ready.ahead ∙
            (ap (λ ks. ks ++ rest) (map-append P.kind_of (bound_local n1.part) (flat_map locals_of n2.part))
            ∙ append-assoc p' b' rest);
        low = ready.low;
        few = ready.few;
      }) (none-left w1.lines _ lines2) pres in
      let second = body_kept cats own number k in_cat sees_cat a.body w1.scope n1.scope rest
      (record {
        visible = first.visible;
        next = first.next;
        sees = first.sees;
        ahead = first.after;
        low =
            first.low;
        few = first.few;
      })
      (none-right w1.lines _ lines2) bodies in record {
        fits = both-true cats own number k in_cat sees_cat _ _
            (ap (P.is_of K.Bool)
            (value_kept cats own number k in_cat sees_cat sc.visible K.Bool a.cond ready.sees clean))
            (both-true cats own number k in_cat sees_cat _ _ first.fits second.fits);
        visible = ready.visible;
        next = second.next;
        sees = ready.sees;
        after = second.after;
        low = second.low;
        few = second.few;
      }

  -- a text fits, and the slots that are left stand after few
  record FormKept (ok : Bool) (rest : List Kind) : Type 0 where
    fits : ok ≡ true
    end : ℕ
    few : end ≤ 32
    after : drop end k.slots ≡ rest

  -- alternatives with numbers fit, and are few
  record AlternativesKept (alts : List (Alternative Name)) (n : ℕ) (alts' : List (Alternative Ref))
      (rest : List Kind) : Type 0 where
    form : FormKept (P.alternatives_fit k alts') rest
    few : n ≤ 16 → n + length alts ≤ 16
    count : length alts' ≡ length alts

  -- alternatives at which nothing is found fit
  alternatives-kept : (alts : List (Alternative Name)) (n : ℕ) (w sc : Scope) (rest : List Kind) →
      ReadyAt w sc (kinds_of cats own number k in_cat sees_cat
      (flat_map alternative_locals (N.alternatives cats own alts sc))) rest →
      (W.walked (W.alternative all_at cats own number) n alts w).lines ≡ [] →
      flat_map (λ (a : Alternative Name). in_pre at_total a.pre) alts ≡ [] →
      flat_map (λ (a : Alternative Name). in_body (at_partial cats own number k in_cat sees_cat) a.body)
      alts ≡ [] → AlternativesKept alts n (N.alternatives cats own alts sc) rest
  alternatives-kept [] n w sc rest ready lines pres bodies =
      record {
        form = record { fits = refl; end = sc.next; few = ready.few; after = ready.ahead };
        few =
            (λ h. omega (arith, h));
        count = refl;
      }
  alternatives-kept (a ∷ alts) n w sc rest ready lines pres bodies =
      let w1 : Walked = W.alternative all_at cats own number n a w in
      let n1 : Numbered (Alternative Ref) = N.alternative cats own a sc in
      let others : List (Alternative Ref) = N.alternatives cats own alts n1.scope in
      let here : List Kind = kinds_of cats own number k in_cat sees_cat (alternative_locals n1.part) in
      let later : List Kind = kinds_of cats own number k in_cat sees_cat
      (flat_map alternative_locals others) in
      let on_pre : in_pre at_total a.pre ≡ [] = none-left (in_pre at_total a.pre) _ pres in
      let on_body : in_body (at_partial cats own number k in_cat sees_cat) a.body ≡ [] =
      none-left (in_body (at_partial cats own number k in_cat sees_cat) a.body) _ bodies in
      let one : KeptAt w1.scope n1.scope (P.alternative_fits k n1.part) (later ++ rest) =
      alternative-kept a n w sc (later ++ rest)
      (record {
        visible = ready.visible;
        next = ready.next;
        sees = ready.sees;
        ahead = ready.ahead ∙
            (ap (λ ks. ks ++ rest)
            (map-append P.kind_of (alternative_locals n1.part) (flat_map alternative_locals others))
            ∙ append-assoc here later rest);
        low = ready.low;
        few = ready.few;
      }) (none-left w1.lines _ lines) on_pre on_body in
      let more : AlternativesKept alts (n + 1) others rest =
      alternatives-kept alts (n + 1) w1.scope n1.scope rest
      (record {
        visible = one.visible;
        next = one.next;
        sees = one.sees;
        ahead = one.after;
        low = one.low;
        few = one.few;
      })
      (none-right w1.lines _ lines) (none-right (in_pre at_total a.pre) _ pres)
      (none-right (in_body (at_partial cats own number k in_cat sees_cat) a.body) _ bodies) in
      let away : n ≢ 16 = not-limit n 16 a.line
      (clean_by (When n a.line)
      (none-left (all_at (When n a.line)) (all_at (Value own w.visible (Some K.Bool) a.cond))
      (none-left (all_at (When n a.line) ++ all_at (Value own w.visible (Some K.Bool) a.cond)) _
      (none-left w1.lines _ lines)))).count in
      record {
        form = record {
          fits = both-true cats own number k in_cat sees_cat _ _ one.fits more.form.fits;
          end = more.form.end;
          few = more.form.few;
          after = more.form.after;
        };
        few = (λ h. (let r : n + 1 + length alts ≤ 16 = more.few (omega (arith, h, away)) in
            omega (arith, r)));
        count = ap suc more.count;
      }

  -- at most 16 is few
  few-true : (n : ℕ) → n ≤ 16 → nat_le n 16 ≡ true
  few-true n h = grind (arith, h)

  -- a text at which nothing is found fits
  form-kept : (f : Form Name) (w sc : Scope) (rest : List Kind) →
      ReadyAt w sc (kinds_of cats own number k in_cat sees_cat (form_locals (N.form cats own f sc))) rest →
      (W.form all_at cats own number f w).lines ≡ [] → in_pres at_total f ≡ [] →
      in_bodies (at_partial cats own number k in_cat sees_cat) f ≡ [] →
      FormKept (P.form_fits k (N.form cats own f sc)) rest
  form-kept (F.Total ss) w sc rest ready lines pres bodies =
      let kept = body_kept cats own number k in_cat sees_cat ss w sc rest ready lines bodies in
      record {
        fits = kept.fits;
        end = (N.body cats own ss sc).scope.next;
        few = kept.few;
        after =
            kept.after;
      }
  form-kept (F.Partial alts) w sc rest ready lines pres bodies =
      let kept : AlternativesKept alts 0 (N.alternatives cats own alts sc) rest =
      alternatives-kept alts 0 w sc rest ready lines pres bodies in
      let few : length (N.alternatives cats own alts sc) ≤ 16 =
      (let f : 0 + length alts ≤ 16 = kept.few (omega arith) in
      let c : length (N.alternatives cats own alts sc) ≡ length alts = kept.count in
      omega (arith, f, c)) in
      record {
        fits = both-true cats own number k in_cat sees_cat _ _
            (few-true (length (N.alternatives cats own alts sc)) few) kept.form.fits;
        end = kept.form.end;
        few = kept.form.few;
        after = kept.form.after;
      }
  form-kept (F.Action alts) w sc rest ready lines pres bodies =
      let kept : AlternativesKept alts 0 (N.alternatives cats own alts sc) rest =
      alternatives-kept alts 0 w sc rest ready lines pres bodies in
      let few : length (N.alternatives cats own alts sc) ≤ 16 =
      (let f : 0 + length alts ≤ 16 = kept.few (omega arith) in
      let c : length (N.alternatives cats own alts sc) ≡ length alts = kept.count in
      omega (arith, f, c)) in
      record {
        fits = both-true cats own number k in_cat sees_cat _ _
            (few-true (length (N.alternatives cats own alts sc)) few) kept.form.fits;
        end = kept.form.end;
        few = kept.form.few;
        after = kept.form.after;
      }

  -- at the parameters
  record Begun (w sc : Scope) (kinds : List Kind) : Type 0 where
    visible : w.visible ≡ sc.visible
    next : w.next ≡ sc.next
    sees : Sees k sc.visible
    ahead : drop sc.next k.slots ≡ kinds
    few : sc.next ≤ 32

  -- the slots of the parameters are taken, and those of these kinds are left
  record ParamsKept (w sc : Scope) (kinds : List Kind) : Type 0 where
    begun : Begun w sc kinds
    all : sc.next ≡ k.params

  -- parameters at which nothing is found take their slots
  params-kept : (n : ℕ) (ps : List Param) (w sc : Scope) (rest : List Kind) →
      Begun w sc (P.param_kinds ps ++ rest) → sc.next + length ps ≡ k.params →
      (W.walked (λ (m : ℕ). W.param all_at cats own number) n ps w).lines ≡ [] →
      ParamsKept (W.walked (λ (m : ℕ). W.param all_at cats own number) n ps w).scope (N.with_params ps sc)
      rest
  params-kept n [] w sc rest begun left lines = record { begun = begun; all = omega (arith, left) }
  params-kept n (p ∷ ps) w sc rest begun left lines =
      let clean : Clean (LocalName own number w p.name) =
      clean_by (LocalName own number w p.name) (none-left _ _ lines) in
      let ahead : drop sc.next k.slots ≡ p.kind ∷ (P.param_kinds ps ++ rest) = begun.ahead in
      let plus : sc.next + 1 ≡ suc sc.next = omega arith in
      params-kept (n + 1) ps (declared p.name p.kind true w) (declared p.name p.kind true sc) rest
      (record {
        visible = ap (λ (v : List Local). v ++ record
            { name = p.name; kind = p.kind; slot = w.next; is_param = true } ∷ []) begun.visible
            ∙ ap (λ n. sc.visible ++ record { name = p.name; kind = p.kind; slot = n; is_param = true }
            ∷ []) begun.next;
        next = ap (λ n. n + 1) begun.next;
        sees = all-append (LocalFits k) sc.visible
            (record { name = p.name; kind = p.kind; slot = sc.next; is_param = true }) begun.sees (
              drop-here k.slots sc.next p.kind (P.param_kinds ps ++ rest) ahead,
              (let below : sc.next < k.params = omega (arith, left) in grind (arith, below)),
            );
        ahead = ap (λ n. drop n k.slots) plus ∙ drop-next k.slots sc.next p.kind (P.param_kinds ps ++ rest)
            ahead;
        few = (let most : sc.next ≤ 32 = begun.few in let not : w.next ≢ 32 =
            not-limit w.next 32 p.name.line clean.count in let same : w.next ≡ sc.next = begun.next in
            omega (arith, most, not, same));
      }) (omega (arith, left)) (none-right (all_at (LocalName own number w p.name)) _ lines)

-- lists
get-append : {X : Type 0} (xs : List X) (n : ℕ) (y : X) (zs : List X) → n ≡ length xs →
    slice_get (xs ++ y ∷ zs) n ≡ Some y
get-append [] zero y zs h = refl
get-append [] (suc n) y zs h = absurd (omega (arith, h))
get-append (x ∷ xs) zero y zs h = absurd (omega (arith, h))
get-append (x ∷ xs) (suc n) y zs h = get-append xs n y zs (omega (arith, h))

-- where nothing is left after some items, there are no more than these
none-after : {X : Type 0} (xs : List X) (n : ℕ) → drop n xs ≡ [] → length xs ≤ n
none-after [] n h = omega arith
none-after (x ∷ xs) zero h = absurd (cc)
none-after (x ∷ xs) (suc n) h = let r : length xs ≤ n = none-after xs n h in omega (arith, r)

-- there is a kind for each parameter
kinds-length : (ps : List Param) → length (P.param_kinds ps) ≡ length ps
kinds-length [] = refl
kinds-length (p ∷ ps) = ap suc (kinds-length ps)

-- nothing more changes nothing
append-none : {X : Type 0} (xs : List X) → xs ++ [] ≡ xs
append-none [] = refl
append-none (x ∷ xs) = ap (λ l. x ∷ l) (append-none xs)

-- what a name of a cat stands for has its kind among those of its variables
var-fits : (vars : List Var) (name : Name) (o : Option ℕ) (v : Option Var) →
    ((n : ℕ) → o ≡ Some n → (x : Var) × (slice_get vars n ≡ Some x) × (v ≡ Some x)) → (k : P.Scope) →
    k.vars ≡ P.var_kinds vars →
    (other : Option Meaning) → Fits k (or_meaning M.Nothing other) →
    Fits k (or_meaning M.Nothing (Sc.or_else (option_map (λ n. M.Variable n (Sc.kind_in v)) o) other))
var-fits vars name None v at k same other fits = fits
var-fits vars name (Some n) v at k same other fits =
    let x = at n refl in
    ap (λ ks. slice_get ks n) same
    ∙ (get-map (λ (y : Var). y.kind) vars n ∙
    (ap (option_map (λ (y : Var). y.kind)) x.1 ∙ ap (λ o. Some (Sc.kind_in o)) (sym x.2)))

-- a name that means a given box, a procedure or nothing fits
given-fits : (k : P.Scope) (g q : Option ℕ) → Fits k
    (or_meaning M.Nothing (Sc.or_else (option_map M.GivenBox g) (option_map M.Procedure q)))
given-fits k (Some n) q = tt
given-fits k None (Some m) = tt
given-fits k None None = tt

-- what a name means in a cat fits
pub fits_in_cat : (own : Cat Name) (k : P.Scope) → k.vars ≡ P.var_kinds own.vars → (name : Name) →
    Fits k (meaning_in own name)
fits_in_cat own k same name = subst (Fits k) (sym (in-cat own name))
    (var-fits own.vars name (Sc.number_of (λ (v : Var). v.name) own.vars name)
    (Sc.named (λ (v : Var). v.name) own.vars name)
    (λ n h. let a : At (λ (v : Var). v.name) own.vars name n =
    at-number (λ (v : Var). v.name) own.vars name n h in (a.item, a.there, a.found)) k same
    (Sc.or_else (Sc.given_meaning own name) (Sc.proc_meaning own name))
    (given-fits k (Sc.given_number own name) (Sc.proc_number own name)))

module _ (cats : List (Cat Name)) (own : Cat Name) (number : ℕ) (q : Proc Name)
    (known : GivenKnown cats own) where
  -- the procedure with numbers
  numbered : Proc Ref
  numbered = N.procedure cats own q

  -- what its text sees
  scope : P.Scope
  scope = P.scope_of (map (N.cat cats) cats) (N.cat cats own) (N.procedure cats own q)

  -- it sees the cat
  sees-cat : SeesCat cats own scope
  unfolding scope
  sees-cat = record { cats_are = refl; given_are = refl; known = known }

  -- what a name means in the cat fits what the text sees
  in-own : (name : Name) → Fits scope (meaning_in own name)
  unfolding scope
  in-own name = fits_in_cat own
      (P.scope_of (map (N.cat cats) cats) (N.cat cats own) (N.procedure cats own q)) refl name

  -- the kinds after the parameters: the result and the locals
  after-params : List Kind
  after-params = map P.kind_of
      ((if q.gives then V.Int (pos 0) ∷ [] else []) ++ form_locals (N.procedure cats own q).form)

  -- its slots are the parameters, and then the others
  slots-are : scope.slots ≡ P.param_kinds q.params ++ after-params
  unfolding scope after-params
  slots-are = refl

  -- after the first of two lists the second one is left
  drop-append : {X : Type 0} (xs ys : List X) → drop (length xs) (xs ++ ys) ≡ ys
  drop-append [] ys = refl
  drop-append (x ∷ xs) ys = drop-append xs ys

  -- the result is a local after the parameters
  sees-result : (gives : Bool) → q.gives ≡ gives →
      Sees scope (if gives then record {
        name = record { text = codes "result"; line = 0 };
        kind = K.Int;
        slot = length q.params;
        is_param =
            false;
      } ∷ [] else [])
  unfolding scope after-params
  sees-result true is = (
    (
      ap (λ (t : Bool). slice_get
          (P.param_kinds q.params ++ map P.kind_of
          ((if t then V.Int (pos 0) ∷ [] else []) ++ form_locals (N.procedure cats own q).form))
          (length q.params)) is
          ∙ get-append (P.param_kinds q.params) (length q.params) K.Int _ (sym (kinds-length q.params)),
      grind arith,
    ),
    tt,
  )
  sees-result false is = tt

  -- what a procedure that passes the checks keeps
  pub record ProcedureKept : Type 0 where
    pub text : P.form_fits (P.scope_of (map (N.cat cats) cats) (N.cat cats own) (N.procedure cats own q))
        (N.procedure cats own q).form ≡ true
    pub slots : length (P.slot_kinds (N.procedure cats own q)) ≤ 32

  -- after the result, where there is one, the locals begin
  begin-form : (g : Bool) (w sc : Scope) (locals : List Kind) → w.visible ≡ sc.visible → w.next ≡ sc.next →
      Sees scope sc.visible → sc.next ≡ length q.params → sc.next ≤ 32 →
      (g && length q.params == 32) ≡ false → drop sc.next scope.slots ≡ (if g then K.Int ∷ [] else [])
      ++ locals →
      Ready cats own number scope in-own sees-cat (record w { next = if g then w.next + 1 else w.next })
      (record sc { next = if g then sc.next + 1 else sc.next }) locals []
  unfolding scope
  begin-form true w sc locals visible next sees all few limit ahead = record {
    visible = visible;
    next = ap (λ n. n + 1) next;
    sees = sees;
    ahead = (let plus : sc.next + 1 ≡ suc sc.next = omega arith in
        ap (λ n. drop n (P.slot_kinds (N.procedure cats own q))) plus)
        ∙ (drop-next (P.slot_kinds (N.procedure cats own q)) sc.next K.Int locals ahead
        ∙ sym (append-none locals));
    low = omega (arith, all);
    few = (let not : length q.params ≢ 32 =
        (λ e. (let f : (length q.params == 32) ≡ false = limit in grind (arith, f, e))) in
        omega (arith, few, all, not));
  }
  begin-form false w sc locals visible next sees all few limit ahead = record {
    visible = visible;
    next = next;
    sees = sees;
    ahead = ahead ∙ sym (append-none locals);
    low = omega (arith, all);
    few = few;
  }

  -- where neither of two tests holds, the second one doesn't
  either-after : (a b : Bool) → (a || b) ≡ false → b ≡ false
  either-after true b h = absurd (cc)
  either-after false b h = h

  -- the kinds of a result and of what follows
  result-kinds : (g : Bool) (vs : List Stored) → map P.kind_of
      ((if g then V.Int (pos 0) ∷ [] else []) ++ vs) ≡ (if g then K.Int ∷ [] else []) ++ map P.kind_of vs
  result-kinds true vs = refl
  result-kinds false vs = refl

  -- a procedure at which nothing is found is a checked one
  pub procedure_kept : (before : Scope) → (W.procedure all_at cats own number q before).lines ≡ [] →
      in_pres (lines_of cats own.given C.is_total) q.form ≡ [] →
      in_bodies (lines_of cats own.given C.is_partial) q.form ≡ [] → ProcedureKept
  unfolding scope after-params
  procedure_kept before lines pres bodies =
      let head : Walked = W.walked (λ (m : ℕ). W.param all_at cats own number) 0 q.params
      (at_head q before.earlier) in
      let sc : Scope = N.with_params q.params (at_head q []) in
      let clean : Clean (ProcName own number q before.earlier) =
      clean_by (ProcName own number q before.earlier) (none-left _ _ lines) in
      let inside = none-right (all_at (ProcName own number q before.earlier)) _ lines in
      let at_params = params-kept cats own number scope in-own sees-cat 0 q.params
      (at_head q before.earlier) (at_head q []) after-params
      (record {
        visible = refl;
        next = refl;
        sees = sees-result q.gives refl;
        ahead = refl;
        few =
            omega arith;
      }) (omega arith)
      (none-left head.lines _ inside) in
      let limit : result_passes q ≡ false = either-after (number == 64) (result_passes q)
      (passes-by (number == 64 || result_passes q) q.name.line clean.count) in
      let locals : List Kind = map P.kind_of (form_locals (N.procedure cats own q).form) in
      let ready : Ready cats own number scope in-own sees-cat (with_result q head.scope) (with_result q sc)
      locals [] =
      begin-form q.gives head.scope sc locals at_params.begun.visible at_params.begun.next
      at_params.begun.sees at_params.all at_params.begun.few limit
      (at_params.begun.ahead ∙ result-kinds q.gives (form_locals (N.procedure cats own q).form)) in
      let kept = form-kept cats own number scope in-own sees-cat q.form (with_result q head.scope)
      (with_result q sc) [] ready (none-right head.lines _ inside) pres bodies in
      record {
        text = kept.fits;
        slots = (let most : length (P.slot_kinds (N.procedure cats own q)) ≤ kept.end =
            none-after (P.slot_kinds (N.procedure cats own q)) kept.end kept.after in
            let few : kept.end ≤ 32 = kept.few in omega (arith, most, few));
      }
