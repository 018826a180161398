-- What the procedures of an action's line and tail are, and where their calls go.
use Rattle.std.proofs.Common.{◌≡◌, ℕ, ◌<◌, Bool, true, false, IsTrue, Option, Some, refl, sym, subst}
use Rattle.seuss_program.specs.declared.tree.Ref.{Ref}
use Rattle.seuss_program.specs.declared.tree.Ref.TheVariants as R
use Rattle.seuss_program.specs.declared.tree.Call.{Call}
use Rattle.seuss_program.specs.declared.tree.Form.{Form}
use Rattle.seuss_program.specs.declared.tree.Form.TheVariants as F
use Rattle.seuss_program.specs.declared.tree.Proc.{Proc}
use Rattle.seuss_program.specs.declared.program.Program.{Program}
use Rattle.seuss_program.specs.declared.program.ActionInfo.{ActionInfo}
use Rattle.seuss_program.specs.Programs.{procedure_of, level_of, target_of, method_of}
use Rattle.seuss_program.specs.Keeping.{Keeps, call_fits, is_total, is_partial, is_action}
use Rattle.seuss_program.specs.Lines.{IsIn, InLine, Own, Early, InTail, OfLine, OfTail, body_calls}
use Rattle.seuss_program.specs.Lines.{early_calls}
use Rattle.method_code.specs.Codes.{given_number, entry_of, form_code}
use Rattle.method_code.specs.Kinds.{IsAction}
use Rattle.method_code.proofs.Places.{Stands, stands, scope, keeps_procedure, calls_below}
use Rattle.method_code.proofs.Attempting.{named}
use Rattle.compat_matrix.specs.Members.{heads_of}
use Rattle.compat_matrix.proofs.TextCalls.{BodyCall, HeadCall, bodies_called, pres_called}

-- a procedure is found once
pub one_procedure : (o : Option (Proc Ref)) (q r : Proc Ref) → o ≡ Some q → o ≡ Some r → q ≡ r
one_procedure o q r h g = cc

-- Where a call of a procedure of a box goes: to a procedure of this form on a given box, which is of a
-- lower level.
pub record Goes (p : Program) (box : ℕ) (call : Call Ref) (form : Form Ref → Bool) : Type 0 where
  pub procedure : Proc Ref
  pub given : call.target ≡ R.Given (given_number call.target)
  pub below : level_of p (target_of p box call.target) < level_of p box
  pub there : procedure_of p (target_of p box call.target) (method_of call.method) ≡ Some procedure
  pub is : IsTrue (form procedure.form)

partial_rejects : (f : Form Ref) → IsTrue (is_partial f) → is_total f ≡ false
partial_rejects (F.Total ss) h = sym h
partial_rejects (F.Partial alts) h = refl
partial_rejects (F.Action alts) h = refl

action_rejects : (f : Form Ref) → IsTrue (is_action f) → is_total f ≡ false
action_rejects (F.Total ss) h = sym h
action_rejects (F.Partial alts) h = refl
action_rejects (F.Action alts) h = refl

module _ (p : Program) (keeps : Keeps p) where
  module _ (box number : ℕ) (q : Proc Ref) (there : procedure_of p box number ≡ Some q) where
    abbrev at : Stands p box number q
    at = stands p box number q there

    goes : (form : Form Ref → Bool) (bind : Option Ref) (call : Call Ref) →
        IsTrue (call_fits (scope p keeps box number q at) form bind call) → Goes p box call form
    goes form bind call fits =
        let r = named (scope p keeps box number q at) form bind call fits in
        let c = calls_below p keeps box number q at call r.0 r.1 in
        record { procedure = r.0; given = c.given; below = c.below; there = c.there; is = r.2 }

    pub body_call : (call : Call Ref) → IsIn call (body_calls q.form) →
        BodyCall (scope p keeps box number q at) call (form_code q.form)
    body_call call is = (bodies_called (scope p keeps box number q at) q.form
        (keeps_procedure p keeps box number q at).text).each call is

    pub early_call : (call : Call Ref) → IsIn call (early_calls q.form) →
        HeadCall (scope p keeps box number q at) call (heads_of (entry_of q.form))
    early_call call is = pres_called (scope p keeps box number q at) q.form
        (keeps_procedure p keeps box number q at).text call is

    pub body_goes : (call : Call Ref) → IsIn call (body_calls q.form) → Goes p box call is_total
    body_goes call is = let c = body_call call is in goes is_total c.bind call c.fits

    pub early_goes : (call : Call Ref) → IsIn call (early_calls q.form) → Goes p box call is_partial
    early_goes call is = let c = early_call call is in goes is_partial c.bind call c.fits

  module _ (a : ActionInfo) (action : IsAction p a) where
    -- a procedure of the line may reject
    pub line_rejects : (box number : ℕ) → InLine p a box number → (q : Proc Ref) →
        procedure_of p box number ≡ Some q → is_total q.form ≡ false
    line_rejects box number Own q there =
        subst (λ (r : Proc Ref). is_total r.form ≡ false)
        (one_procedure (procedure_of p a.box_number a.procedure) action.procedure q action.there there)
        (action_rejects action.procedure.form action.form)
    line_rejects box number (Early above place q' call l at is) q there =
        let g = early_goes above place q' at call is in
        subst (λ (r : Proc Ref). is_total r.form ≡ false)
        (one_procedure (procedure_of p (target_of p above call.target) (method_of call.method)) g.procedure
        q g.there there)
        (partial_rejects g.procedure.form g.is)

    -- a procedure of the tail is total
    pub tail_total : (box number : ℕ) → InTail p a box number → (q : Proc Ref) →
        procedure_of p box number ≡ Some q → is_total q.form ≡ true
    tail_total box number (OfLine above place q' call l at is) q there =
        let g = body_goes above place q' at call is in
        subst (λ (r : Proc Ref). is_total r.form ≡ true)
        (one_procedure (procedure_of p (target_of p above call.target) (method_of call.method)) g.procedure
        q g.there there) g.is
    tail_total box number (OfTail above place q' call l at is) q there =
        let g = body_goes above place q' at call is in
        subst (λ (r : Proc Ref). is_total r.form ≡ true)
        (one_procedure (procedure_of p (target_of p above call.target) (method_of call.method)) g.procedure
        q g.there there) g.is
