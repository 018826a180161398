-- The box of each step of a pass is there.
use Rattle.std.proofs.Common.{◌≡◌, ℕ, zero, suc, ◌-◌, ◌<◌, List, [], ◌∷◌, length, slice_get, get_or}
use Rattle.std.proofs.Common.{Some, None, refl, subst, ap, sym, arith, Bool, true, false, IsTrue}
use Rattle.std.specs.Prelude.{All, ◌&&◌, Option, ℤ, option_and_then}
use Rattle.std.proofs.lemmas.Bool.{true≢false}
use Rattle.std.proofs.lemmas.List.Elements.{All-push, All-take}
use Rattle.std.proofs.lemmas.Option.{slice_get_within, get_or_from_slice_get}
use Rattle.seuss_program.specs.declared.tree.Cat.{Cat}
use Rattle.seuss_program.specs.declared.tree.Given.{Given}
use Rattle.seuss_program.specs.declared.tree.Ref.{Ref}
use Rattle.seuss_program.specs.declared.tree.Ref.TheVariants as R
use Rattle.seuss_program.specs.declared.program.ActionInfo.{ActionInfo}
use Rattle.seuss_program.specs.declared.program.BoxInfo.{BoxInfo}
use Rattle.seuss_program.specs.declared.program.Program.{Program}
use Rattle.seuss_program.specs.Programs.{given_in, target_of, procedure_of}
use Rattle.seuss_program.specs.Keeping.{Keeps, KeepsBox, given_fit, is_box_of}
use Rattle.method_code.specs.declared.frame.End.{End}
use Rattle.method_code.specs.declared.frame.End.TheVariants as E
use Rattle.method_code.specs.declared.activation.Activation.{Activation}
use Rattle.method_code.specs.declared.activation.Waiting.{Waiting}
use Rattle.method_code.specs.Chains.{Next, begun, turned, accepted, rejected, last_of}
use Rattle.method_code.specs.Kinds.{IsAction}
use Rattle.method_code.specs.Records.{Recorded, LeadsTo}

-- the boxes of a pass are there: that of its next step, and those of the procedures that wait
pub record AreThere (p : Program) (a : Activation) : Type 0 where
  pub here : a.box_number < length p.boxes
  pub waiting : All (λ (w : Waiting). w.box_number < length p.boxes) a.waiting

-- both of two tests are true
first_true : (a b : Bool) → IsTrue (a && b) → IsTrue a
first_true true b h = refl
first_true false b h = h

second_true : (a b : Bool) → IsTrue (a && b) → IsTrue b
second_true true b h = h
second_true false b h = absurd (true≢false (sym h))

-- what stands for a box is one
a_box : (boxes : List BoxInfo) (k : ℕ) (name : Ref) → IsTrue (is_box_of (slice_get boxes k) name) →
    k < length boxes
a_box boxes k name h = by (slice_get boxes k) refl h
  where
    by : (o : Option BoxInfo) → slice_get boxes k ≡ o → IsTrue (is_box_of o name) → k < length boxes
    by None at h = absurd (true≢false (sym h))
    by (Some b) at h = slice_get_within boxes k b at

-- a given box is there, and so is what stands for one that isn't
given_there : (boxes : List BoxInfo) (ns : List ℕ) (gs : List (Given Ref)) (k : ℕ) →
    IsTrue (given_fit boxes ns gs) → 0 < length boxes → get_or ns k 0 < length boxes
given_there boxes [] gs k h some = some
given_there boxes (n ∷ ns) [] k h some = absurd (true≢false (sym h))
given_there boxes (n ∷ ns) (g ∷ gs) zero h some =
    a_box boxes n g.cat (first_true (is_box_of (slice_get boxes n) g.cat) (given_fit boxes ns gs) h)
given_there boxes (n ∷ ns) (g ∷ gs) (suc k) h some =
    given_there boxes ns gs k (second_true (is_box_of (slice_get boxes n) g.cat) (given_fit boxes ns gs) h)
    some

module _ (p : Program) (keeps : Keeps p) where
  -- the box that a call names is there
  target_there : (box n : ℕ) → box < length p.boxes → target_of p box (R.Given n) < length p.boxes
  target_there box n within = by (slice_get p.boxes box) refl
    where
      by : (o : Option BoxInfo) → slice_get p.boxes box ≡ o → given_in o n < length p.boxes
      by None at = omega (arith, within)
      by (Some b) at =
          let kept : KeepsBox p b =
          subst (KeepsBox p) (get_or_from_slice_get p.boxes box b b at) (keeps.boxes box b within) in
          given_there p.boxes b.given kept.cat.0.given n kept.cat.2 (omega (arith, within))

  -- the boxes of the procedure that has waited last, and of those before it, are there
  last_there : (a : Activation) (w : Waiting) → AreThere p a → last_of a.waiting ≡ Some w →
      w.box_number < length p.boxes
  last_there a w there at =
      let within = slice_get_within a.waiting (length a.waiting - 1) w at in
      subst (λ (w : Waiting). w.box_number < length p.boxes)
      (get_or_from_slice_get a.waiting (length a.waiting - 1) w w at)
      (there.waiting (length a.waiting - 1) w within)

  -- the boxes stay there after a call that was accepted
  accepted_there : (a b : Activation) (found : Option ℤ) (o : Option Waiting) → AreThere p a →
      last_of a.waiting ≡ o → accepted a found o ≡ Next b → AreThere p b
  accepted_there a b found None there at is = cc is
  accepted_there a b found (Some w) there at is =
      subst (AreThere p) (next is) (record {
        here = last_there a w there at;
        waiting = All-take (λ (w : Waiting). w.box_number < length p.boxes) (length a.waiting - 1) a.waiting
            there.waiting;
      })
    where
      next : {x : Activation} → Next x ≡ Next b → x ≡ b
      next e = cc e

  -- and after one that was rejected
  rejected_there : (a b : Activation) (plain : Bool) (o : Option Waiting) → AreThere p a →
      last_of a.waiting ≡ o → rejected a plain o ≡ Next b → AreThere p b
  rejected_there a b plain None there at is = cc is
  rejected_there a b plain (Some w) there at is =
      subst (AreThere p) (next is) (record {
        here = last_there a w there at;
        waiting = All-take (λ (w : Waiting). w.box_number < length p.boxes) (length a.waiting - 1) a.waiting
            there.waiting;
      })
    where
      next : {x : Activation} → Next x ≡ Next b → x ≡ b
      next e = cc e

  -- and after each step
  turned_there : (a b : Activation) (end : End) → AreThere p a → turned p a end ≡ Next b → AreThere p b
  turned_there a b (E.Call target method args partial) there is =
      subst (AreThere p) (next is) (record {
        here = target_there a.box_number target there.here;
        waiting = All-push (λ (w : Waiting). w.box_number < length p.boxes) a.waiting
            (record { box_number = a.box_number; frame = a.frame; partial = partial })
            there.waiting there.here;
      })
    where
      next : {x : Activation} → Next x ≡ Next b → x ≡ b
      next e = cc e
  turned_there a b (E.Returned found) there is =
      accepted_there a b found (last_of a.waiting) there refl is
  turned_there a b E.RejectedPlain there is = rejected_there a b true (last_of a.waiting) there refl is
  turned_there a b E.Rejected there is = rejected_there a b a.plain (last_of a.waiting) there refl is
  turned_there a b (E.Trapped t) there is = cc is
  turned_there a b E.Spent there is = cc is

  -- and along a pass
  pub leads_there : (es : List Recorded) (a b : Activation) (budget left : ℕ) → AreThere p a →
      LeadsTo p a budget es b left → AreThere p b
  leads_there [] a b budget left there leads = subst (AreThere p) (sym leads.0) there
  leads_there (e ∷ es) a b budget left there leads =
      leads_there es leads.3.0 b e.budget_after left
      (turned_there (record a { frame = e.after }) leads.3.0 e.end
      (record { here = there.here; waiting = there.waiting }) leads.3.1) leads.3.2

  -- at the beginning of the pass of an action
  pub begun_there : (a : ActionInfo) → IsAction p a → AreThere p (begun p a)
  begun_there a is = record {
    here = by (slice_get p.boxes a.box_number) refl;
    waiting = λ k d l. absurd (omega (arith, l));
  }
    where
      by : (o : Option BoxInfo) → slice_get p.boxes a.box_number ≡ o → a.box_number < length p.boxes
      by None at =
          let e : procedure_of p a.box_number a.procedure ≡ None =
          ap (λ (o : Option BoxInfo). option_and_then (λ (c : Cat Ref). slice_get c.procs a.procedure)
          (option_and_then (λ (b : BoxInfo). slice_get p.cats b.cat) o)) at in
          let f = is.there in cc (e, f)
      by (Some b) at = slice_get_within p.boxes a.box_number b at
