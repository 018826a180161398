-- A run changes no names of its box but those that its text assigns.
use Rattle.std.proofs.Common.{◌≡◌, ℕ, ℤ, Bool, false, ◌&&◌, IsTrue, List, [], ◌∷◌, ◌++◌}
use Rattle.std.proofs.Common.{Option, None}
use Rattle.std.proofs.Common.{Some, Ok, Err, refl, ap, subst, ◌∙◌, arith}
use Rattle.seuss_program.specs.declared.program.Program.{Program}
use Rattle.seuss_program.specs.declared.tree.Ref.{Ref}
use Rattle.seuss_program.specs.declared.tree.Kind.{Kind}
use Rattle.seuss_program.specs.declared.tree.Kind.TheVariants as K
use Rattle.seuss_program.specs.declared.tree.Expr.{Expr}
use Rattle.seuss_program.specs.declared.tree.Call.{Call}
use Rattle.seuss_program.specs.declared.tree.Cat.{Cat}
use Rattle.seuss_program.specs.declared.tree.Proc.{Proc}
use Rattle.seuss_program.specs.declared.tree.Form.{Form}
use Rattle.seuss_program.specs.declared.tree.Form.TheVariants as F
use Rattle.seuss_program.specs.declared.tree.Pre.{Pre}
use Rattle.seuss_program.specs.declared.tree.Alternative.{Alternative}
use Rattle.seuss_program.specs.declared.tree.Ref.TheVariants as R
use Rattle.seuss_program.specs.Attempts.{performed}
use Rattle.seuss_program.specs.Keeping.{body_fits, pre_fits, alternative_fits, alternatives_fit, form_fits}
use Rattle.seuss_program.specs.Keeping.{is_partial}
use Rattle.seuss_program.specs.Keeping.{is_of, kind_in}
use Rattle.meaning_laws.proofs.KeptBodies.{EachAlternative, Ends, total-outs, choice-outs}
use Rattle.meaning_laws.proofs.CalledProcedures.{some-same}
use Rattle.safety_check.specs.Ends.{names_in}
use Rattle.safety_check.specs.Texts.{form_names, pre_names, alternatives_names}
use Rattle.std.proofs.Common.{length, nat_le}
use Rattle.seuss_program.specs.declared.tree.Statement.{Statement, roll-Statement, map-Statement}
use Rattle.seuss_program.specs.declared.tree.Statement.TheOpen as S
use Rattle.seuss_program.specs.declared.tree.Statement.TheOpen.{Statement-F}
use Rattle.seuss_program.specs.declared.state.State.{State}
use Rattle.seuss_program.specs.declared.state.Value.{Value}
use Rattle.seuss_program.specs.declared.state.Value.TheVariants as V
use Rattle.seuss_program.specs.Programs.{cat_of, target_of, method_of, vars_of}
use Rattle.seuss_program.specs.Values.{Evaluated, value, named}
use Rattle.seuss_program.specs.Bodies.{Callee, assigned, evaluated_into, bound, statement}
use Rattle.seuss_program.specs.Keeping.{Keeps, Scope, scope_of, statement_fits, all_true, call_fits}
use Rattle.seuss_program.specs.Keeping.{is_total, kind_at}
use Rattle.meaning_laws.specs.Forms.{AreFormed}
use Rattle.meaning_laws.proofs.ValueKinds.{kind-set}
use Rattle.meaning_laws.proofs.KeptBodies.{each, Each, Kept, KeptCall, Put, Rules, statement-kept}
use Rattle.meaning_laws.proofs.KeptForms.{KeepsForm, keeping-form}
use Rattle.meaning_laws.proofs.FittingTexts.{Fits, Assigns}
use Rattle.meaning_laws.proofs.OtherBoxes.{StaysBelow, lower-differs}
use Rattle.meaning_laws.proofs.CalledProcedures.{and-left, and-right, call-named, form-is, goes-down}
use Rattle.meaning_laws.proofs.CalledProcedures.{call-matches}
use Rattle.safety_check.specs.Regions.{is_among}
use Rattle.safety_check.specs.Ends.{Way, way_step, way_of, names_of, taking}
use Rattle.safety_check.proofs.NameRegions.{assigned-other}
use Rattle.safety_check.proofs.TextFits.{way-layer, among-left, among-right, among-one, let-assigns}
use Rattle.safety_check.proofs.TextFits.{assign-assigns}
use Rattle.safety_check.proofs.TextFits.{call-fits, holds-fit, fails-fit, turn-fits}

module _ (p : Program) (keeps : Keeps p) (callee : Callee) (safe : KeepsForm p callee)
    (below : StaysBelow p callee) (box : ℕ) (c : Cat Ref) (at : cat_of p box ≡ Some c) (q : Proc Ref) where
  -- what a text of the procedure sees
  abbrev scope : Scope
  scope = scope_of p.cats c q

  -- the states and slots that a text meets
  abbrev Formed : State → List Value → ℕ → Type 0
  Formed state slots budget = AreFormed p q state slots

  -- a call leaves the variables of the box that calls
  pub call-leaves : (form : Form Ref → Bool) (bind : Option Ref) (call : Call Ref) →
      IsTrue (call_fits scope form bind call) → (args : List Value) (state : State) (budget : ℕ) →
      vars_of (callee (target_of p box call.target) (method_of call.method) args state budget).state box
      ≡ vars_of state box
  call-leaves form bind call fits args state budget =
      let named = call-named scope form bind call fits in
      let down =
      goes-down p keeps box c at q form call named.0 named.1
      (form-is scope form bind call fits named.0 named.1) in
      below.by (target_of p box call.target) (method_of call.method) box args state budget
      (lower-differs p (target_of p box call.target) box down.lower) (omega (arith, down.lower))

  module _ (names : List Ref) (vars slots0 : List Value) where
    -- names that aren't among these stand for what they stood for
    pub record Framed (state : State) (slots : List Value) (budget : ℕ) : Type 0 where
      pub formed : AreFormed p q state slots
      pub same : (m : Ref) → is_among m names ≡ false → named m
          (vars_of state box) slots ≡ named m vars slots0

    -- only names among these are assigned
    pub record Inside (inner : List Ref) : Type 0 where
      pub by : (m : Ref) → is_among m names ≡ false → is_among m inner ≡ false

    pub record Known (t : Statement Ref) : Type 0 where
      pub fits : Fits scope t
      pub inside : Inside (way_of t).names

    all-known : (ts : List (Statement Ref)) → IsTrue (all_true (each (statement_fits scope) ts)) →
        Inside (names_of (each way_of ts)) → Each Known ts
    all-known [] fits inside = tt
    all-known (t ∷ ts) fits inside = (
      record {
        fits = and-left (statement_fits scope t) (all_true (each (statement_fits scope) ts)) fits;
        inside = record {
          by = λ m e. among-left m (way_of t).names (names_of (each way_of ts))
              (inside.by m e);
        };
      },
      all-known ts (and-right (statement_fits scope t) (all_true (each (statement_fits scope) ts)) fits)
          (record { by = λ m e. among-right m (way_of t).names (names_of (each way_of ts)) (inside.by m e) }),
    )

    names-of-layer : (d : Statement-F Ref (Statement Ref)) → Inside (way_of (roll-Statement Ref d)).names →
        Inside (way_step (map-Statement Ref (Statement Ref) Way way_of d)).names
    names-of-layer d inside = subst (λ (w : Way). Inside w.names) (way-layer d) inside

    assigned-same : (name : Ref) (k : Kind) (v : Value) (state : State) (slots : List Value) (budget : ℕ) →
        kind_at scope name ≡ Some k → Inside (name ∷ []) → Framed state slots budget →
        (m : Ref) → is_among m names ≡ false →
        let ran = assigned box name v state slots budget in
        named m (vars_of ran.state box) ran.slots ≡ named m vars slots0
    assigned-same name k v state slots budget there inside h m e =
        assigned-other p box c at q name m k v state slots budget there h.formed
        (among-one m name (inside.by m e))
        ∙ h.same m e

    put-framed : (name : Ref) (e : Expr Ref) → Assigns scope name e → Inside (name ∷ []) →
        Kept p callee box Framed (Put p callee box Framed name e)
    put-framed name e a inside = record {
      by = λ state slots budget h. record {
        formed = ((keeping-form p keeps callee safe box c at q).put name e a).by state slots budget h.formed;
        same = by (value e (vars_of state box) slots) state slots budget h;
      };
    }
      where
        by : (ev : Evaluated) (state : State) (slots : List Value) (budget : ℕ) → Framed state slots budget →
            (m : Ref) → is_among m names ≡ false →
            let ran = evaluated_into box name ev state slots budget in
            named m (vars_of ran.state box) ran.slots ≡ named m vars slots0
        by (Err t) state slots budget h m e = h.same m e
        by (Ok v) state slots budget h m e =
            assigned-same name a.kind v state slots budget (kind-set scope name a.kind a.name_is) inside h m e

    call-framed : (form : Form Ref → Bool) (bind : Option Ref) (call : Call Ref) →
        IsTrue (call_fits scope form bind call) →
        Inside (taking bind) → KeptCall p callee box Framed bind call
    call-framed form bind call fits inside = record {
      by = λ state slots budget args h is.
          let called = callee (target_of p box call.target) (method_of call.method) args state budget in
          let formed =
          ((keeping-form p keeps callee safe box c at q).call form bind call fits).by state slots budget args
          h.formed is in
          let after : Framed called.state slots called.budget =
          record {
            formed = formed.0;
            same = λ m e. ap (λ vs. named m vs slots) (call-leaves form bind call fits args state budget)
                ∙ h.same m e;
          } in
          let named = call-named scope form bind call fits in
          let matches = call-matches scope form bind call fits named.0 named.1 in (
            after,
            record {
              formed = formed.1;
              same = bound-same bind called.result called.state slots called.budget
                  (λ name e. kind-set scope name K.Int (matches.bound name e).0) inside after;
            },
          );
    }
      where
        bound-same : (bind : Option Ref) (result : Option ℤ) (state : State) (slots : List Value)
            (budget : ℕ) →
            ((name : Ref) → bind ≡ Some name → kind_at scope name ≡ Some K.Int) → Inside (taking bind) →
            Framed state slots budget → (m : Ref) → is_among m names ≡ false →
            let ran = bound box bind result state slots budget in
            named m (vars_of ran.state box) ran.slots ≡ named m vars slots0
        bound-same None result state slots budget is inside h m e = h.same m e
        bound-same (Some name) None state slots budget is inside h m e = h.same m e
        bound-same (Some name) (Some z) state slots budget is inside h m e =
            assigned-same name K.Int (V.Int z) state slots budget (is name refl) inside h m e

    rules : Rules p callee box Framed Known
    rules = record {
      paid = λ state slots left h. record { formed = h.formed; same = h.same };
      let_put = λ name kind e known.
          put-framed name e (let-assigns scope name kind e known.fits)
          (names-of-layer (S.Let name kind e) known.inside);
      assigned = λ name e known.
          put-framed name e (assign-assigns scope name e known.fits)
          (names-of-layer (S.Assign name e) known.inside);
      called = λ bind call known.
          call-framed is_total bind call (call-fits scope bind call known.fits)
          (names-of-layer (S.Call bind call) known.inside);
      if_holds = λ cond holds fails known.
          let inside = names-of-layer (S.If cond holds fails) known.inside in
          all-known holds (holds-fit scope cond holds fails known.fits)
          (record {
            by = λ m e. among-left m (names_of (each way_of holds)) (names_of (each way_of fails))
                (inside.by m e);
          });
      if_fails = λ cond holds fails known.
          let inside = names-of-layer (S.If cond holds fails) known.inside in
          all-known fails (fails-fit scope cond holds fails known.fits)
          (record {
            by = λ m e. among-right m (names_of (each way_of holds)) (names_of (each way_of fails))
                (inside.by m e);
          });
      while_turn = λ cond turn known.
          all-known turn (turn-fits scope cond turn known.fits)
          (names-of-layer (S.While cond turn) known.inside);
    }

    pub statement-framed : (t : Statement Ref) → Known t → Kept p callee box Framed (statement p callee box t)
    statement-framed t known = statement-kept p callee box Framed Known rules t known

    each-known : (ts : List (Statement Ref)) → IsTrue (body_fits scope ts) → Inside (names_in ts) →
        Each Known ts
    each-known [] fits inside = tt
    each-known (t ∷ ts) fits inside = (
      record {
        fits = and-left (statement_fits scope t) (body_fits scope ts) fits;
        inside = record { by = λ m e. among-left m (way_of t).names (names_in ts) (inside.by m e) };
      },
      each-known ts (and-right (statement_fits scope t) (body_fits scope ts) fits)
          (record { by = λ m e. among-right m (way_of t).names (names_in ts) (inside.by m e) }),
    )

    early-framed : (o : Option (Pre Ref)) → IsTrue (pre_fits scope o) → Inside (pre_names o) →
        (pre : Pre Ref) →
        o ≡ Some pre → KeptCall p callee box Framed pre.bind pre.call
    early-framed None fits inside pre is = absurd (cc)
    early-framed (Some other) fits inside pre is =
        subst (λ (x : Pre Ref). KeptCall p callee box Framed x.bind x.call) (some-same is)
        (call-framed is_partial other.bind other.call fits inside)

    alternatives-known : (alts : List (Alternative Ref)) → IsTrue (alternatives_fit scope alts) →
        Inside (alternatives_names alts) → EachAlternative p callee box Framed Known rules alts
    alternatives-known [] fits inside = tt
    alternatives-known (a ∷ alts) fits inside =
        let own =
        and-right (is_of K.Bool (kind_in scope a.cond)) (pre_fits scope a.pre && body_fits scope a.body)
        (and-left (alternative_fits scope a) (alternatives_fit scope alts) fits) in
        let mine = λ (m : Ref) (e : is_among m names ≡ false).
        among-left m (pre_names a.pre ++ names_in a.body) (alternatives_names alts) (inside.by m e) in (
          record {
            early = early-framed a.pre (and-left (pre_fits scope a.pre) (body_fits scope a.body) own)
                (record { by = λ m e. among-left m (pre_names a.pre) (names_in a.body) (mine m e) });
            late = each-known a.body (and-right (pre_fits scope a.pre) (body_fits scope a.body) own)
                (record { by = λ m e. among-right m (pre_names a.pre) (names_in a.body) (mine m e) });
          },
          alternatives-known alts (and-right (alternative_fits scope a) (alternatives_fit scope alts) fits)
              (record {
                by = λ m e. among-right m (pre_names a.pre ++ names_in a.body)
                    (alternatives_names alts) (inside.by m e);
              }),
        )

    -- what an attempt leaves of the variables
    pub record Kept_vars (state : State) (result : Option ℤ) (budget : ℕ) : Type 0 where
      pub same : (n : ℕ) → is_among (R.Var n) names ≡ false →
          named (R.Var n) (vars_of state box) [] ≡ named (R.Var n) vars []

    ends-framed : Ends p callee box Framed q Kept_vars
    ends-framed = record {
      none = λ state slots budget h. record { same = λ n e. h.same (R.Var n) e };
      done = λ state slots budget h. record { same = λ n e. h.same (R.Var n) e };
    }

    pub performed-framed : (form : Form Ref) → IsTrue (form_fits scope form) → Inside (form_names form) →
        (state : State) (slots : List Value) (budget : ℕ) → Framed state slots budget →
        let called = performed p callee box q form state slots budget in
        Kept_vars called.state called.result called.budget
    performed-framed (F.Total ts) fits inside =
        total-outs p callee box Framed Known rules q Kept_vars ends-framed ts (each-known ts fits inside)
    performed-framed (F.Partial alts) fits inside =
        choice-outs p callee box Framed Known rules q Kept_vars ends-framed alts
        (alternatives-known alts (and-right (nat_le (length alts) 16) (alternatives_fit scope alts) fits)
        inside)
    performed-framed (F.Action alts) fits inside =
        choice-outs p callee box Framed Known rules q Kept_vars ends-framed alts
        (alternatives-known alts (and-right (nat_le (length alts) 16) (alternatives_fit scope alts) fits)
        inside)
