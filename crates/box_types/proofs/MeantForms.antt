-- A procedure in which no name is unknown or stands twice, and each names what it is used for, stands for
-- itself with numbers.
use Rattle.std.specs.Prelude.{◌≡◌, ◌≢◌, ℕ, ◌+◌, Bool, true, false, if◌then◌else◌, List, [], ◌∷◌, ◌++◌}
use Rattle.std.specs.Prelude.{map, length, Option, None, Some}
use Rattle.std.proofs.Common.{refl, sym, ap, subst, ◌∙◌, arith, inl, inr, append_assoc}
use Rattle.seuss_program.specs.declared.tree.Name.{Name}
use Rattle.seuss_program.specs.declared.tree.Kind.TheVariants as K
use Rattle.seuss_program.specs.declared.tree.Param.{Param}
use Rattle.seuss_program.specs.declared.tree.Ref.{Ref}
use Rattle.seuss_program.specs.declared.tree.Ref.TheVariants as R
use Rattle.seuss_program.specs.declared.tree.Call.{Call}
use Rattle.seuss_program.specs.declared.tree.Pre.{Pre}
use Rattle.seuss_program.specs.declared.tree.Alternative.{Alternative}
use Rattle.seuss_program.specs.declared.tree.Form.{Form}
use Rattle.seuss_program.specs.declared.tree.Form.TheVariants as F
use Rattle.seuss_program.specs.declared.tree.Proc.{Proc}
use Rattle.seuss_program.specs.declared.tree.Cat.{Cat}
use Rattle.seuss_program.specs.Lines.{IsIn}
use Rattle.box_types.specs.declared.scopes.Local.{Local}
use Rattle.box_types.specs.declared.scopes.Scope.{Scope}
use Rattle.box_types.specs.Scopes.{declared, at_head, with_result, the_result}
use Rattle.box_types.specs.Walks as W
use Rattle.box_types.specs.Walks.{Test, Walk, LocalName, Takes, When, Value, ProcName}
use Rattle.box_types.specs.Twice.{twice_at}
use Rattle.box_types.specs.Unknown.{unknown_at}
use Rattle.box_types.specs.WrongKind.{kind_at}
use Rattle.box_types.specs.Namings as N
use Rattle.box_types.specs.Namings.{Numbered}
use Rattle.box_types.specs.Locals.{Locals, no_locals, with_local, with_locals, after_block, at_start}
use Rattle.box_types.specs.Meanings.{PreStands, NoPre, Unbound, Bound, AlternativeStands, AlternativesStand}
use Rattle.box_types.specs.Meanings.{NoAlternative, NextAlternative, FormStands, OfTotal, OfPartial}
use Rattle.box_types.specs.Meanings.{OfAction, ProcStands}
use Rattle.box_types.proofs.OwnNames.{none_first, none_second}
use Rattle.box_types.proofs.SeenLocals.{IsFresh, fresh_by, in_left, before_or_last}
use Rattle.box_types.proofs.SeenLocals.{Sees, GoesOn, goes_on_here, goes_on_after, goes_on_with}
use Rattle.box_types.proofs.SeenLocals.{sees_declared, sees_in_front, sees_after, append_nil}
use Rattle.box_types.proofs.MeantExpressions.{expression_stands}
use Rattle.box_types.proofs.MeantCalls.{KnownGivens, call_stands}
use Rattle.box_types.proofs.SameScopes.{IsBut, with_earlier, early_keeps, alternative_keeps}
use Rattle.box_types.proofs.MeantStatements.{MeantBody, body_stands}

-- parameters take as many slots as they are
params_next : (ps : List Param) (sc : Scope) → (N.with_params ps sc).next ≡ sc.next + length ps
params_next [] sc = omega arith
params_next (p ∷ ps) sc =
    let rest : (N.with_params ps (declared p.name p.kind true sc)).next ≡ sc.next + 1 + length ps =
    params_next ps (declared p.name p.kind true sc) in
    rest ∙ omega arith

-- a scope with another local in front
abbrev in_front : Local → Scope → Scope
in_front l sc = record sc { visible = l ∷ sc.visible }

-- parameters are declared after a local in front in the same way
params_in_front : (ps : List Param) (l : Local) (sc : Scope) →
    N.with_params ps (in_front l sc) ≡ in_front l (N.with_params ps sc)
params_in_front [] l sc = refl
params_in_front (p ∷ ps) l sc = params_in_front ps l (declared p.name p.kind true sc)

-- names that are declared in turn, of which one is the last
with_last : (names : List Name) (name : Name) (here : Locals) →
    with_locals (names ++ name ∷ []) here ≡ with_local name (with_locals names here)
with_last [] name here = refl
with_last (first ∷ names) name here = with_last names name (with_local first here)

-- no local of a list has the text of one in front of it
abbrev AreApart : List Local → List Local → Type 0
AreApart front visible = (l r : Local) → IsIn l visible → IsIn r front → l.name.text ≢ r.name.text

-- an item of the second of two lists is one of both together
in_right : {X : Type 0} (x : X) (xs ys : List X) → IsIn x ys → IsIn x (xs ++ ys)
in_right x [] ys h = h
in_right x (z ∷ xs) ys h = inr (in_right x xs ys h)

-- one more local that stands in neither list
apart_more : (front visible : List Local) (new : Local) → AreApart front visible →
    IsFresh (front ++ visible) new.name →
    AreApart front (visible ++ new ∷ [])
apart_more front visible new apart fresh l r in_l in_r = elim (before_or_last l new visible in_l) [
  | inl old ↦ apart l r old in_r
  | inr is ↦ λ text. fresh r (in_left r front visible in_r)
      (sym text ∙ ap (λ (x : Local). x.name.text) (sym is))
]

module _ (cats : List (Cat Name)) (own : Cat Name) (number : ℕ) where
  -- what is found at parameters, of which the first has this number
  abbrev lines_at : ℕ → List Param → Scope → List ℕ
  lines_at n ps sc = (W.walked (λ (n : ℕ). W.param twice_at cats own number) n ps sc).lines

  record SeesParams (front : List Local) (here : Locals) (sc : Scope) : Type 0 where
    sees : Sees here sc.visible sc.next
    apart : AreApart front sc.visible

  -- parameters that are declared in turn, after locals in front of them
  sees_params : (front : List Local) (ps : List Param) (n : ℕ) (here : Locals) (sc : Scope)
      (earlier : List Name) → Sees here sc.visible sc.next → AreApart front sc.visible →
      lines_at n ps (record { visible = front ++ sc.visible; next = sc.next; earlier = earlier }) ≡ [] →
      SeesParams front (with_locals (map (λ (p : Param). p.name) ps) here) (N.with_params ps sc)
  sees_params front [] n here sc earlier sees apart none = record { sees = sees; apart = apart }
  sees_params front (p ∷ ps) n here sc earlier sees apart none =
      let all : Scope = record { visible = front ++ sc.visible; next = sc.next; earlier = earlier } in
      let new : Local = record { name = p.name; kind = p.kind; slot = sc.next; is_param = true } in
      let fresh : IsFresh (front ++ sc.visible) p.name =
      fresh_by own number all p.name (none_first (twice_at (LocalName own number all p.name)) _ none) in
      sees_params front ps (n + 1) (with_local p.name here) (declared p.name p.kind true sc)
      (earlier ++ p.name ∷ [])
      (sees_declared here sc p.name p.kind true sees
      (λ l in_l. fresh l (in_right l front sc.visible in_l)))
      (apart_more front sc.visible new apart fresh)
      (ap (λ (visible : List Local). lines_at (n + 1) ps
      (record { visible = visible; next = sc.next + 1; earlier = earlier ++ p.name ∷ [] }))
      (sym (append_assoc front sc.visible (new ∷ [])))
      ∙ none_second (twice_at (LocalName own number all p.name)) _ none)

  -- before the parameters nothing is visible
  abbrev empty : Scope
  empty = record { visible = []; next = 0; earlier = [] }

  -- no scope has no locals
  sees_nothing : Sees no_locals [] 0
  sees_nothing = record {
    count = refl;
    local = λ l h. absurd h;
    back = λ n h. absurd h;
    apart = λ a b h. absurd h;
  }

  -- where the text of a procedure begins, by whether it has a result
  start_by : (q : Proc Name) (g : Bool) (earlier : List Name) →
      lines_at 0 q.params
      (record { visible = if g then the_result q ∷ [] else []; next = 0; earlier = earlier }) ≡ [] →
      let sc = N.with_params q.params
      (record { visible = if g then the_result q ∷ [] else []; next = 0; earlier = [] }) in
      Sees (with_locals (map (λ (p : Param). p.name) q.params
      ++ (if g then (the_result q).name ∷ [] else [])) no_locals)
      sc.visible (if g then sc.next + 1 else sc.next)
  start_by q true earlier none =
      let sc : Scope = N.with_params q.params empty in
      let slot : length q.params ≡ sc.next =
      (let e : sc.next ≡ 0 + length q.params = params_next q.params empty in omega (arith, e)) in
      let begun = sees_params (the_result q ∷ []) q.params 0 no_locals empty earlier sees_nothing
      (λ l r h. absurd h) none in
      let seen = sees_in_front (with_locals (map (λ (p : Param). p.name) q.params) no_locals)
      sc.visible sc.next (the_result q) begun.sees slot
      (λ l h. begun.apart l (the_result q) h (inl refl)) in
      subst (λ (z : Scope). Sees (with_locals (map (λ (p : Param). p.name) q.params
      ++ (the_result q).name ∷ []) no_locals) z.visible (z.next + 1))
      (sym (params_in_front q.params (the_result q) empty))
      (subst (λ (here : Locals). Sees here (the_result q ∷ sc.visible) (sc.next + 1))
      (sym (with_last (map (λ (p : Param). p.name) q.params) (the_result q).name no_locals)) seen)
  start_by q false earlier none =
      let sc : Scope = N.with_params q.params empty in
      let begun = sees_params [] q.params 0 no_locals empty earlier sees_nothing (λ l r h. absurd h) none in
      subst (λ (names : List Name). Sees (with_locals names no_locals) sc.visible sc.next)
      (sym (append_nil (map (λ (p : Param). p.name) q.params))) begun.sees

  -- where the text of a procedure begins
  sees_start : (q : Proc Name) (earlier : List Name) → lines_at 0 q.params (at_head q earlier) ≡ [] →
      let sc = with_result q (N.with_params q.params (at_head q [])) in Sees (at_start q) sc.visible sc.next
  sees_start q earlier none = start_by q q.gives earlier none

module _ (cats : List (Cat Name)) (own : Cat Name) (givens : KnownGivens cats own) (number : ℕ) where
  -- what stands for a part of an alternative, and the locals after it
  record MeantPre (here : Locals) (pre : Option (Pre Name)) (n : Numbered (Option (Pre Ref))) : Type 0 where
    there : Locals
    stands : PreStands cats own here pre n.part there
    sees : Sees there n.scope.visible n.scope.next
    on : GoesOn here there

  -- the call that an alternative begins with stands for itself with numbers
  bound_stands : (bind : Option Name) (c : Call Name) (here : Locals) (sc : Scope) (e f g : List Name) →
      Sees here sc.visible sc.next →
      (W.bound unknown_at cats own number bind c (with_earlier e sc)).lines ≡ [] →
      (W.bound kind_at cats own number bind c (with_earlier f sc)).lines ≡ [] →
      (W.bound twice_at cats own number bind c (with_earlier g sc)).lines ≡ [] →
      MeantPre here (Some (record { bind = bind; call = c }))
      (N.some_pre cats own (N.bound cats own bind c sc))
  bound_stands None c here sc e f g sees known right own_names = record {
    there = here;
    stands = Unbound here c (N.call cats own sc.visible c)
        (call_stands cats own givens here sc.visible sc.next sees c known right);
    sees = sees;
    on = goes_on_here here;
  }
  bound_stands (Some name) c here sc e f g sees known right own_names =
      let called = call_stands cats own givens here sc.visible sc.next sees c
      (none_second (unknown_at (Takes cats own sc.visible (Some K.Int) name c)) _
      (none_second (unknown_at (LocalName own number (with_earlier e sc) name)) _ known))
      (none_second (kind_at (Takes cats own sc.visible (Some K.Int) name c)) _
      (none_second (kind_at (LocalName own number (with_earlier f sc) name)) _ right)) in
      let d = N.call cats own sc.visible c in
      record {
        there = with_local name here;
        stands = subst (λ n. PreStands cats own here (Some (record { bind = Some name; call = c }))
            (Some (record { bind = Some (R.Slot n); call = d })) (with_local name here)) (sym sees.count)
            (Bound here name c d called);
        sees = sees_declared here sc name K.Int false sees
            (fresh_by own number (with_earlier g sc) name
            (none_first (twice_at (LocalName own number (with_earlier g sc) name)) _ own_names));
        on = goes_on_with name here;
      }

  -- and so where there may be none
  early_stands : (pre : Option (Pre Name)) (here : Locals) (sc : Scope) (e f g : List Name) →
      Sees here sc.visible sc.next →
      (W.early unknown_at cats own number pre (with_earlier e sc)).lines ≡ [] →
      (W.early kind_at cats own number pre (with_earlier f sc)).lines ≡ [] →
      (W.early twice_at cats own number pre (with_earlier g sc)).lines ≡ [] →
      MeantPre here pre (N.early cats own pre sc)
  early_stands None here sc e f g sees known right own_names =
      record { there = here; stands = NoPre here; sees = sees; on = goes_on_here here }
  early_stands (Some pre) here sc e f g sees known right own_names =
      bound_stands pre.bind pre.call here sc e f g sees known right own_names

  -- what stands for an alternative, and the locals after it
  record MeantAlternative (here : Locals) (a : Alternative Name) (n : Numbered (Alternative Ref)) : Type 0
    where
      there : Locals
      stands : AlternativeStands cats own here a n.part there
      sees : Sees there n.scope.visible n.scope.next

  -- an alternative stands for itself with numbers
  alternative_stands : (n : ℕ) (a : Alternative Name) (here : Locals) (sc : Scope) (e f g : List Name) →
      Sees here sc.visible sc.next →
      (W.alternative unknown_at cats own number n a (with_earlier e sc)).lines ≡ [] →
      (W.alternative kind_at cats own number n a (with_earlier f sc)).lines ≡ [] →
      (W.alternative twice_at cats own number n a (with_earlier g sc)).lines ≡ [] →
      MeantAlternative here a (N.alternative cats own a sc)
  alternative_stands n a here sc e f g sees known right own_names =
      let head_known = W.head unknown_at cats own number sc.visible n a in
      let head_right = W.head kind_at cats own number sc.visible n a in
      let cond = expression_stands own here sc.visible sc.next sees a.cond
      (none_second (unknown_at (When n a.line)) _ (none_first head_known _ known))
      (none_second (kind_at (When n a.line)) _ (none_first head_right _ right)) in
      let parts_known = none_second head_known _ known in
      let parts_right = none_second head_right _ right in
      let early_known = W.early unknown_at cats own number a.pre (with_earlier e sc) in
      let early_right = W.early kind_at cats own number a.pre (with_earlier f sc) in
      let head_own = W.head twice_at cats own number sc.visible n a in
      let early_own = W.early twice_at cats own number a.pre (with_earlier g sc) in
      let parts_own = none_second head_own _ own_names in
      let pre = early_stands a.pre here sc e f g sees (none_first early_known.lines _ parts_known)
      (none_first early_right.lines _ parts_right) (none_first early_own.lines _ parts_own) in
      let called : Scope = (N.early cats own a.pre sc).scope in
      let known_scope = early_keeps unknown_at cats own number a.pre sc e in
      let right_scope = early_keeps kind_at cats own number a.pre sc f in
      let own_scope = early_keeps twice_at cats own number a.pre sc g in
      let body : MeantBody cats own givens pre.there a.body (N.body cats own a.body called) =
      body_stands cats own givens number a.body pre.there called known_scope.earlier right_scope.earlier
      own_scope.earlier pre.sees
      (ap (λ (z : Scope). (W.body unknown_at cats own number a.body z).lines) (sym known_scope.same)
      ∙ none_second early_known.lines _ parts_known)
      (ap (λ (z : Scope). (W.body kind_at cats own number a.body z).lines) (sym right_scope.same)
      ∙ none_second early_right.lines _ parts_right)
      (ap (λ (z : Scope). (W.body twice_at cats own number a.body z).lines) (sym own_scope.same)
      ∙ none_second early_own.lines _ parts_own) in
      let on : GoesOn here body.there = goes_on_after here pre.there body.there pre.on body.on in
      record {
        there = after_block here body.there;
        stands = record {
          line = refl;
          positive = refl;
          cond = cond;
          called = pre.there;
          pre = pre.stands;
          inside = body.there;
          body = body.stands;
          after = refl;
        };
        sees = sees_after here body.there sc (N.body cats own a.body called).scope sees body.sees on;
      }

  -- alternatives one after the other stand for themselves with numbers
  alternatives_stand : (n : ℕ) (alts : List (Alternative Name)) (here : Locals) (sc : Scope)
      (e f g : List Name) → Sees here sc.visible sc.next →
      (W.walked (W.alternative unknown_at cats own number) n alts (with_earlier e sc)).lines ≡ [] →
      (W.walked (W.alternative kind_at cats own number) n alts (with_earlier f sc)).lines ≡ [] →
      (W.walked (W.alternative twice_at cats own number) n alts (with_earlier g sc)).lines ≡ [] →
      AlternativesStand cats own here alts (N.alternatives cats own alts sc)
  alternatives_stand n [] here sc e f g sees known right own_names = NoAlternative here
  alternatives_stand n (a ∷ alts) here sc e f g sees known right own_names =
      let walk_known = W.alternative unknown_at cats own number n a (with_earlier e sc) in
      let walk_right = W.alternative kind_at cats own number n a (with_earlier f sc) in
      let walk_own = W.alternative twice_at cats own number n a (with_earlier g sc) in
      let first = alternative_stands n a here sc e f g sees (none_first walk_known.lines _ known)
      (none_first walk_right.lines _ right) (none_first walk_own.lines _ own_names) in
      let after : Scope = (N.alternative cats own a sc).scope in
      let known_scope = alternative_keeps unknown_at cats own number n a sc e in
      let right_scope = alternative_keeps kind_at cats own number n a sc f in
      let own_scope = alternative_keeps twice_at cats own number n a sc g in
      let rest = alternatives_stand (n + 1) alts first.there after known_scope.earlier right_scope.earlier
      own_scope.earlier first.sees
      (ap (λ (z : Scope). (W.walked (W.alternative unknown_at cats own number) (n + 1) alts z).lines)
      (sym known_scope.same) ∙ none_second walk_known.lines _ known)
      (ap (λ (z : Scope). (W.walked (W.alternative kind_at cats own number) (n + 1) alts z).lines)
      (sym right_scope.same) ∙ none_second walk_right.lines _ right)
      (ap (λ (z : Scope). (W.walked (W.alternative twice_at cats own number) (n + 1) alts z).lines)
      (sym own_scope.same) ∙ none_second walk_own.lines _ own_names) in
      NextAlternative here first.there a (N.alternative cats own a sc).part alts
      (N.alternatives cats own alts after) first.stands rest

  -- a form stands for itself with numbers
  form_stands : (form : Form Name) (here : Locals) (sc : Scope) (e f g : List Name) →
      Sees here sc.visible sc.next →
      (W.form unknown_at cats own number form (with_earlier e sc)).lines ≡ [] →
      (W.form kind_at cats own number form (with_earlier f sc)).lines ≡ [] →
      (W.form twice_at cats own number form (with_earlier g sc)).lines ≡ [] →
      FormStands cats own here form (N.form cats own form sc)
  form_stands (F.Total ss) here sc e f g sees known right own_names =
      let body : MeantBody cats own givens here ss (N.body cats own ss sc) =
      body_stands cats own givens number ss here sc e f g sees known right own_names in
      OfTotal body.there ss (N.body cats own ss sc).part body.stands
  form_stands (F.Partial alts) here sc e f g sees known right own_names =
      OfPartial alts (N.alternatives cats own alts sc)
      (alternatives_stand 0 alts here sc e f g sees known right own_names)
  form_stands (F.Action alts) here sc e f g sees known right own_names =
      OfAction alts (N.alternatives cats own alts sc)
      (alternatives_stand 0 alts here sc e f g sees known right own_names)

  -- the scope after the parameters
  params_keep : (test : Test) (n : ℕ) (ps : List Param) (sc : Scope) (earlier : List Name) →
      IsBut (W.walked (λ (n : ℕ). W.param test cats own number) n ps (with_earlier earlier sc)).scope
      (N.with_params ps sc)
  params_keep test n [] sc earlier = record { earlier = earlier; same = refl }
  params_keep test n (p ∷ ps) sc earlier =
      let rest = params_keep test (n + 1) ps (declared p.name p.kind true sc) (earlier ++ p.name ∷ []) in
      record { earlier = rest.earlier; same = rest.same }

  -- a procedure at which three checks find nothing stands for itself with numbers
  pub procedure_stands : (q : Proc Name) (s t u : Scope) →
      (W.procedure unknown_at cats own number q s).lines ≡ [] →
      (W.procedure kind_at cats own number q t).lines ≡ [] →
      (W.procedure twice_at cats own number q u).lines ≡ [] →
      ProcStands cats own q (N.procedure cats own q)
  procedure_stands q s t u known right own_names =
      let start : Scope = with_result q (N.with_params q.params (at_head q [])) in
      let known_scope = params_keep unknown_at 0 q.params (at_head q []) s.earlier in
      let right_scope = params_keep kind_at 0 q.params (at_head q []) t.earlier in
      let known_form = none_second (W.signature unknown_at cats own number q s).lines _
      (none_second (unknown_at (ProcName own number q s.earlier)) _ known) in
      let right_form = none_second (W.signature kind_at cats own number q t).lines _
      (none_second (kind_at (ProcName own number q t.earlier)) _ right) in
      let own_scope = params_keep twice_at 0 q.params (at_head q []) u.earlier in
      let own_parts = none_second (twice_at (ProcName own number q u.earlier)) _ own_names in
      let own_form = none_second (W.signature twice_at cats own number q u).lines _ own_parts in
      record {
        name = refl;
        params = refl;
        gives = refl;
        form = form_stands q.form (at_start q) start known_scope.earlier right_scope.earlier
            own_scope.earlier (sees_start cats own number q u.earlier
            (none_first (W.signature twice_at cats own number q u).lines _ own_parts))
            (ap (λ (z : Scope). (W.form unknown_at cats own number q.form (with_result q z)).lines)
            (sym known_scope.same) ∙ known_form)
            (ap (λ (z : Scope). (W.form kind_at cats own number q.form (with_result q z)).lines)
            (sym right_scope.same) ∙ right_form)
            (ap (λ (z : Scope). (W.form twice_at cats own number q.form (with_result q z)).lines)
            (sym own_scope.same) ∙ own_form);
      }
