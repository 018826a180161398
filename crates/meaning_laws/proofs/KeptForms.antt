-- Bodies and attempts of a checked program keep the form of its states.
use Rattle.std.proofs.Common.{◌≡◌, ◌≢◌, ℕ, zero, suc, ◌<◌, ℤ, pos, Bool, true, false, if◌then◌else◌, nat_eq}
use Rattle.std.proofs.Common.{IsTrue, List, [], ◌∷◌, ◌++◌, map, length, Option, None, Some, Ok, Err, IfOk}
use Rattle.std.proofs.Common.{refl, sym, ap, ◌∙◌, subst, arith, append_assoc}
use Rattle.std.specs.Prelude.{slice_get, slice_set, IfSome}
use Rattle.std.proofs.Math.Seq.{map-set_same}
use Rattle.std.proofs.Math.ListN.{length-set}
use Rattle.std.proofs.lemmas.List.{map-append, get_or-set_same, get_or-set_other}
use Rattle.std.proofs.lemmas.List.Elements.{All-set}
use Rattle.std.proofs.lemmas.Option.{slice_get_within}
use Rattle.seuss_program.specs.declared.program.Program.{Program}
use Rattle.seuss_program.specs.declared.program.BoxInfo.{BoxInfo}
use Rattle.seuss_program.specs.declared.tree.Ref.{Ref}
use Rattle.seuss_program.specs.declared.tree.Ref.TheVariants as R
use Rattle.seuss_program.specs.declared.tree.Kind.{Kind}
use Rattle.seuss_program.specs.declared.tree.Kind.TheVariants as K
use Rattle.seuss_program.specs.declared.tree.Expr.{Expr}
use Rattle.seuss_program.specs.declared.tree.Call.{Call}
use Rattle.seuss_program.specs.declared.tree.Cat.{Cat}
use Rattle.seuss_program.specs.declared.tree.Proc.{Proc}
use Rattle.seuss_program.specs.declared.tree.Form.{Form}
use Rattle.seuss_program.specs.declared.tree.Statement.{Statement}
use Rattle.seuss_program.specs.declared.state.State.{State}
use Rattle.seuss_program.specs.declared.state.Value.{Value}
use Rattle.seuss_program.specs.declared.state.Value.TheVariants as V
use Rattle.seuss_program.specs.Programs.{cat_of, procedure_of, target_of, method_of, vars_of, with_var}
use Rattle.seuss_program.specs.Values.{Evaluated, HasSize, value}
use Rattle.seuss_program.specs.Bodies.{Callee, assigned, evaluated_into, bound, statement, body}
use Rattle.seuss_program.specs.Attempts.{attempt, attempt_of, entry_slots, form_locals}
use Rattle.seuss_program.specs.Keeping.{Scope, scope_of, Keeps, HasForm, kind_of, kind_at, kind_set}
use Rattle.seuss_program.specs.Keeping.{call_fits, vars_in, var_kinds, slot_kinds, param_kinds}
use Rattle.seuss_program.specs.Keeping.{statement_fits, body_fits, AreOf}
use Rattle.meaning_laws.specs.Kinds.{IsOf}
use Rattle.meaning_laws.specs.Forms.{AreFormed}
use Rattle.meaning_laws.proofs.ValueKinds.{Gives, value-gives, kind-there, kind-set}
use Rattle.meaning_laws.proofs.FittingNumbers.{Fits}
use Rattle.meaning_laws.proofs.FirstValues.{entry-sizes}
use Rattle.meaning_laws.proofs.Results.{result-fits}
use Rattle.meaning_laws.proofs.KeptBodies.{Left, Kept, KeptCall, Put, Ends}
use Rattle.meaning_laws.proofs.CalledProcedures.{and-then-some, keeps-procedure, call-named, form-is}
use Rattle.meaning_laws.proofs.CalledProcedures.{goes-down, call-matches}
use Rattle.meaning_laws.proofs.FittingTexts.{Assigns, Keeping, statement-keeps, body-keeps, performed-outs}

-- values keep their kinds where one of them is changed to one of its kind
pub kinds-set : (vs : List Value) (ks : List Kind) (n : ℕ) (k : Kind) (v : Value) → AreOf vs ks →
    slice_get ks n ≡ Some k → IsOf v k → AreOf (slice_set vs n v) ks
kinds-set vs ks n k v has at is = record {
  kinds =
      map-set_same kind_of vs n v (V.Int (pos 0))
      (is.0 ∙ sym (kind-there vs ks n k (V.Int (pos 0)) has at)) ∙ has.kinds;
  sizes = All-set HasSize vs n v is.1 has.sizes;
}

-- slots at an entry
pub entry-kinds : (q : Proc Ref) (args : List Value) → AreOf args (param_kinds q.params) →
    AreOf (entry_slots q args) (slot_kinds q)
entry-kinds q args has =
    let result : List Value = if q.gives then V.Int (pos 0) ∷ [] else [] in
    record {
      kinds =
          ap (map kind_of) (append_assoc args result (form_locals q.form))
          ∙ (map-append kind_of args (entry_slots q [])
          ∙ ap (λ l. l ++ map kind_of (entry_slots q [])) has.kinds);
      sizes = entry-sizes q args has.sizes;
    }

-- the variables of the changed box, and those of another one
pub vars-same : (state : State) (box n : ℕ) (v : Value) → box < length state.boxes →
    vars_of (with_var state box n v) box ≡ slice_set (vars_of state box) n v
vars-same state box n v within =
    ap (λ (x : _). x.values)
    (get_or-set_same state.boxes box (record { values = slice_set (vars_of state box) n v })
    (record { values = [] }) within)

-- the variables of another box stay
pub vars-other : (state : State) (box other n : ℕ) (v : Value) → other ≢ box →
    vars_of (with_var state box n v) other ≡ vars_of state other
vars-other state box other n v differ =
    ap (λ (x : _). x.values)
    (get_or-set_other state.boxes box other (record { values = slice_set (vars_of state box) n v })
    (record { values = [] }) differ)

-- a box that has a cat is there, with variables of the cat's kinds
box-within : (p : Program) (box : ℕ) (c : Cat Ref) → cat_of p box ≡ Some c → box < length p.boxes
box-within p box c at =
    let b = and-then-some (λ (b : BoxInfo). slice_get p.cats b.cat) (slice_get p.boxes box) c at in
    slice_get_within p.boxes box b.0 b.1

-- the variables of a box have the kinds of its cat
pub variable-kinds : (p : Program) (box : ℕ) (c : Cat Ref) → cat_of p box ≡ Some c → (state : State) →
    HasForm p state →
    AreOf (vars_of state box) (var_kinds c.vars)
variable-kinds p box c at state form =
    subst (AreOf (vars_of state box)) (ap vars_in at) (form.values box (box-within p box c at))

-- a state of the program's form, and a result of 64 bits
pub record ReturnsFormed (p : Program) (state : State) (result : Option ℤ) : Type 0 where
  pub state_is : HasForm p state
  pub result_is : IfSome result Fits

-- a callee keeps the form of states, and its results have 64 bits
pub record KeepsForm (p : Program) (callee : Callee) : Type 0 where
  pub by : (box number : ℕ) (r : Proc Ref) (args : List Value) (state : State) (budget : ℕ) →
      procedure_of p box number ≡ Some r → AreOf args (param_kinds r.params) → HasForm p state →
      let called = callee box number args state budget in ReturnsFormed p called.state called.result

module _ (p : Program) (keeps : Keeps p) (callee : Callee) (safe : KeepsForm p callee) (box : ℕ)
    (c : Cat Ref) (at : cat_of p box ≡ Some c) (q : Proc Ref) where
  -- what the text of the procedure sees
  abbrev scope : Scope
  scope = scope_of p.cats c q

  -- the state and the slots have their form
  abbrev Formed : State → List Value → ℕ → Type 0
  Formed state slots budget = AreFormed p q state slots

  -- the box is there
  within : box < length p.boxes
  within = box-within p box c at

  -- the variables of the box have their kinds
  vars-typed : (state : State) → HasForm p state → AreOf (vars_of state box) (var_kinds c.vars)
  vars-typed state form = variable-kinds p box c at state form

  -- a state keeps its form where a variable is set to a value of its kind
  with-var-form : (state : State) (n : ℕ) (k : Kind) (v : Value) → HasForm p state →
      slice_get (var_kinds c.vars) n ≡ Some k → IsOf v k → HasForm p (with_var state box n v)
  with-var-form state n k v form there is = record {
    count = length-set state.boxes box (record { values = slice_set (vars_of state box) n v }) ∙ form.count;
    values = λ other less. by other less (nat_eq other box) refl;
  }
    where
      by : (other : ℕ) → other < length p.boxes → (b : Bool) → nat_eq other box ≡ b →
          AreOf (vars_of (with_var state box n v) other) (vars_in (cat_of p other))
      by other less true e =
          let same : other ≡ box = grind (arith, e) in
          let inside : box < length state.boxes = omega (arith, within, form.count) in
          subst (λ x. AreOf (vars_of (with_var state box n v) x) (vars_in (cat_of p x))) (sym same)
          (subst (λ vs. AreOf vs (vars_in (cat_of p box))) (sym (vars-same state box n v inside))
          (subst (AreOf (slice_set (vars_of state box) n v)) (sym (ap vars_in at))
          (kinds-set (vars_of state box) (var_kinds c.vars) n k v (vars-typed state form) there is)))
      by other less false e =
          let differ : other ≢ box = grind (arith, e) in
          subst (λ vs. AreOf vs (vars_in (cat_of p other))) (sym (vars-other state box other n v differ))
          (form.values other less)

  -- an assigned value of the name's kind keeps the form
  assigned-formed : (name : Ref) (k : Kind) (v : Value) (state : State) (slots : List Value) (budget : ℕ) →
      kind_at scope name ≡ Some k → IsOf v k → AreFormed p q state slots →
      Left p callee box Formed (assigned box name v state slots budget)
  assigned-formed (R.Var n) k v state slots budget there is h =
      record { state_is = with-var-form state n k v h.state_is there is; slots_are = h.slots_are }
  assigned-formed (R.Slot n) k v state slots budget there is h =
      record { state_is = h.state_is; slots_are = kinds-set slots (slot_kinds q) n k v h.slots_are there is }
  assigned-formed (R.Given n) k v state slots budget there is h = h
  assigned-formed (R.Method n) k v state slots budget there is h = h
  assigned-formed (R.Cat n) k v state slots budget there is h = h

  -- an evaluated value of the name's kind keeps the form
  evaluated-formed : (name : Ref) (k : Kind) (ev : Evaluated) (state : State) (slots : List Value)
      (budget : ℕ) → kind_at scope name ≡ Some k → Gives ev k → AreFormed p q state slots →
      Left p callee box Formed (evaluated_into box name ev state slots budget)
  evaluated-formed name k (Err t) state slots budget there is h = h
  evaluated-formed name k (Ok v) state slots budget there is h =
      assigned-formed name k v state slots budget there is h

  -- a result of 64 bits that is bound keeps the form
  bound-formed : (bind : Option Ref) (result : Option ℤ) (state : State) (slots : List Value) (budget : ℕ) →
      ((name : Ref) → bind ≡ Some name → kind_set scope name ≡ Some K.Int) → IfSome result Fits →
      AreFormed p q state slots → Left p callee box Formed (bound box bind result state slots budget)
  bound-formed None result state slots budget is small h = h
  bound-formed (Some name) None state slots budget is small h = h
  bound-formed (Some name) (Some z) state slots budget is small h =
      assigned-formed name K.Int (V.Int z) state slots budget
      (kind-set scope name K.Int (is name refl)) (refl, small) h

  -- a call that fits keeps the form
  call-formed : (form : Form Ref → Bool) (bind : Option Ref) (call : Call Ref) →
      IsTrue (call_fits scope form bind call) → KeptCall p callee box Formed bind call
  call-formed form bind call fits = record {
    by = λ state slots budget args h is.
        let called = callee (target_of p box call.target) (method_of call.method) args state budget in
        let named = call-named scope form bind call fits in
        let down =
        goes-down p keeps box c at q form call named.0 named.1
        (form-is scope form bind call fits named.0 named.1) in
        let matches = call-matches scope form bind call fits named.0 named.1 in
        let typed : AreOf args (param_kinds named.0.params) =
        subst (λ r. IfOk r (λ values. AreOf values (param_kinds named.0.params))) is
        (matches.args (vars_of state box) slots (vars-typed state h.state_is) h.slots_are) in
        let back : ReturnsFormed p called.state called.result =
        safe.by (target_of p box call.target)
        (method_of call.method) named.0 args state budget down.there typed h.state_is in
        let after : AreFormed p q called.state slots =
        record { state_is = back.state_is; slots_are = h.slots_are } in (
          after,
          bound-formed bind called.result called.state slots called.budget
              (λ name e. (matches.bound name e).0) back.result_is after,
        );
  }

  -- an expression of the name's kind keeps the form where it is put
  put-formed : (name : Ref) (e : Expr Ref) → Assigns scope name e →
      Kept p callee box Formed (Put p callee box Formed name e)
  put-formed name e a = record {
    by = λ state slots budget h.
        evaluated-formed name a.kind (value e (vars_of state box) slots) state slots budget
        (kind-set scope name a.kind a.name_is)
        (value-gives scope (vars_of state box) slots
        (vars-typed state h.state_is) h.slots_are e a.kind a.value_is) h;
  }

  -- the form is kept by payments, assigned values and calls
  pub keeping-form : Keeping scope p callee box Formed
  keeping-form = record { paid = λ state slots left h. h; put = put-formed; call = call-formed }

  -- a statement that fits keeps the form
  pub statement-formed : (t : Statement Ref) → IsTrue (statement_fits scope t) →
      Kept p callee box Formed (statement p callee box t)
  statement-formed t fits = statement-keeps scope p callee box Formed keeping-form t fits

  -- a body that fits keeps the form
  pub body-formed : (ts : List (Statement Ref)) → IsTrue (body_fits scope ts) →
      Kept p callee box Formed (body p callee box ts)
  body-formed ts fits = body-keeps scope p callee box Formed keeping-form ts fits

  -- where a procedure ends with the form, its result has 64 bits
  ends-formed : Ends p callee box Formed q (λ state result budget. ReturnsFormed p state result)
  ends-formed = record {
    none = λ state slots budget h. record { state_is = h.state_is; result_is = tt };
    done =
        λ state slots budget h.
        record { state_is = h.state_is; result_is = result-fits q slots h.slots_are.sizes };
  }

  -- a procedure keeps the form where its callee does
  pub procedure-formed : (number : ℕ) (args : List Value) (state : State) (budget : ℕ) →
      procedure_of p box number ≡ Some q → AreOf args (param_kinds q.params) → HasForm p state →
      let called = attempt_of p callee box (Some q) args state budget in
      ReturnsFormed p called.state called.result
  procedure-formed number args state budget there typed form =
      performed-outs scope p callee box Formed keeping-form q
      (λ state result budget. ReturnsFormed p state result) ends-formed q.form
      (keeps-procedure p keeps box c at number q there).text state (entry_slots q args) budget
      (record { state_is = form; slots_are = entry-kinds q args typed })

-- attempts of every depth keep the form
pub attempt-keeps-form : (p : Program) → Keeps p → (depth : ℕ) → KeepsForm p (attempt p depth)
attempt-keeps-form p keeps zero =
    record {
      by = λ box number r args state budget there typed form. record { state_is = form; result_is = tt };
    }
attempt-keeps-form p keeps (suc depth) = next (attempt-keeps-form p keeps depth)
  where
    next : KeepsForm p (attempt p depth) → KeepsForm p (attempt p (suc depth))
    next safe = record {
      by = λ box number r args state budget there typed form.
          let at = and-then-some (λ (c : Cat Ref). slice_get c.procs number) (cat_of p box) r there in
          subst (λ o. ReturnsFormed p (attempt_of p (attempt p depth) box o args state budget).state
          (attempt_of p (attempt p depth) box o args state budget).result) (sym there)
          (procedure-formed p keeps
          (attempt p depth) safe box at.0 at.1 r number args state budget there typed form);
    }
