-- The boxes at which a pass is and waits are boxes of its program.
use Rattle.std.proofs.Common.{◌≡◌, ℕ, zero, suc, ◌-◌, ◌<◌, List, [], ◌∷◌, All, length, Bool, true}
use Rattle.std.proofs.Common.{false, ◌&&◌, refl, subst, arith, Option, Some, None, IsTrue}
use Rattle.std.specs.Prelude.{slice_get, slice_index_or, option_and_then}
use Rattle.std.proofs.lemmas.Option.{slice_get_within}
use Rattle.std.proofs.lemmas.List.Elements.{All-push, All-take}
use Rattle.seuss_base.specs.declared.outcome.PassEnd.{PassEnd}
use Rattle.seuss_program.specs.declared.tree.Ref.{Ref}
use Rattle.seuss_program.specs.declared.tree.Ref.TheVariants as R
use Rattle.seuss_program.specs.declared.tree.Given.{Given}
use Rattle.seuss_program.specs.declared.tree.Cat.{Cat}
use Rattle.seuss_program.specs.declared.tree.Proc.{Proc}
use Rattle.seuss_program.specs.declared.program.Program.{Program}
use Rattle.seuss_program.specs.declared.program.BoxInfo.{BoxInfo}
use Rattle.seuss_program.specs.declared.program.ActionInfo.{ActionInfo}
use Rattle.seuss_program.specs.Programs.{target_of, given_in}
use Rattle.seuss_program.specs.Keeping.{Keeps, KeepsBox, given_fit, is_box_of}
use Rattle.method_code.specs.declared.frame.Frame.{Frame}
use Rattle.method_code.specs.declared.frame.End.{End}
use Rattle.method_code.specs.declared.frame.End.TheVariants as E
use Rattle.method_code.specs.declared.activation.Waiting.{Waiting}
use Rattle.method_code.specs.declared.activation.Activation.{Activation}
use Rattle.method_code.specs.Chains.{Turned, Next, Over, turned, accepted, rejected, last_of, all_but_last, begun}
use Rattle.method_code.proofs.Places.{get_all}
use Rattle.method_code.proofs.ActionLemmas.{action_is}
use Rattle.pass_seats.specs.Passes.{IsWithin}
use Rattle.pass_seats.proofs.Lists.{none_some, some_same}

-- a box of a cat is there
box_there : (boxes : List BoxInfo) (n : ℕ) (o : Option BoxInfo) (name : Ref) → slice_get boxes n ≡ o →
    IsTrue (is_box_of o name) → n < length boxes
box_there boxes n None name at is = absurd (cc is)
box_there boxes n (Some b) name at is = slice_get_within boxes n b at

-- one thing comes after a step
next_same : (a b : Activation) → ◌≡◌ {A = Turned} (Next a) (Next b) → a ≡ b
next_same a b e = cc e

-- a pass that is over doesn't go on
over_next : (end : PassEnd) (a : Activation) → ◌≡◌ {A = Turned} (Over end) (Next a) → ⊥
over_next end a e = cc e

-- both of two tests hold
both : (a b : Bool) → IsTrue (a && b) → IsTrue a × IsTrue b
both true b h = (refl, h)
both false b h = absurd (cc h)

-- each box that a box is given is there
given_there : (boxes : List BoxInfo) (ns : List ℕ) (gs : List (Given Ref)) → IsTrue (given_fit boxes ns gs) →
    (i n : ℕ) → slice_get ns i ≡ Some n → n < length boxes
given_there boxes [] gs fit i n at = absurd (none_some n at)
given_there boxes (m ∷ ns) [] fit i n at = absurd (cc fit)
given_there boxes (m ∷ ns) (g ∷ gs) fit zero n at =
    let h = both (is_box_of (slice_get boxes m) g.cat) (given_fit boxes ns gs) fit in
    let same = some_same m n at in
    subst (λ (k : ℕ). k < length boxes) same (box_there boxes m (slice_get boxes m) g.cat refl h.0)
given_there boxes (m ∷ ns) (g ∷ gs) fit (suc i) n at =
    let h = both (is_box_of (slice_get boxes m) g.cat) (given_fit boxes ns gs) fit in
    given_there boxes ns gs h.1 i n at

-- what is read of a list is of it, or nothing is there
read_below : (ns : List ℕ) (high i : ℕ) → 0 < high →
    ((j n : ℕ) → slice_get ns j ≡ Some n → n < high) → slice_index_or ns i 0 < high
read_below [] high i some each = some
read_below (n ∷ ns) high zero some each = each 0 n refl
read_below (n ∷ ns) high (suc i) some each = read_below ns high i some (λ j m at. each (suc j) m at)

module _ (p : Program) (keeps : Keeps p) where
  -- the box that a given box of a box stands for is there
  target_there : (b number : ℕ) → b < length p.boxes → target_of p b (R.Given number) < length p.boxes
  target_there b number less = by (slice_get p.boxes b) refl
    where
      by : (o : Option BoxInfo) → slice_get p.boxes b ≡ o → given_in o number < length p.boxes
      by None at = omega (arith, less)
      by (Some info) at =
          let k = (get_all (KeepsBox p) p.boxes b info at keeps.boxes).cat in
          read_below info.given (length p.boxes) number (omega (arith, less))
          (given_there p.boxes info.given k.0.given k.2)

  -- what comes after a call that has ended is within
  back_within : (n : ℕ) (waiting : List Waiting) (w : Waiting) (frame : Frame) (plain : Bool) →
      All (λ (x : Waiting). x.box_number < n) waiting → slice_get waiting (length waiting - 1) ≡ Some w →
      IsWithin n (record
      { box_number = w.box_number; frame = frame; waiting = all_but_last waiting; plain = plain })
  back_within n waiting w frame plain all at = record {
    here = get_all (λ (x : Waiting). x.box_number < n) waiting (length waiting - 1) w at all;
    waiting = All-take (λ (x : Waiting). x.box_number < n) (length waiting - 1) waiting all;
  }

  -- what comes after a step is within
  pub turned_within : (a next : Activation) (end : End) → IsWithin (length p.boxes) a →
      turned p a end ≡ Next next → IsWithin (length p.boxes) next
  turned_within a next (E.Call target method args partial) within is =
      subst (IsWithin (length p.boxes)) (next_same _ next is) (record {
        here = target_there a.box_number target within.here;
        waiting = All-push (λ (x : Waiting). x.box_number < length p.boxes) a.waiting
            (record { box_number = a.box_number; frame = a.frame; partial = partial }) within.waiting within.here;
      })
  turned_within a next (E.Returned found) within is = by (last_of a.waiting) refl is
    where
      by : (o : Option Waiting) → last_of a.waiting ≡ o → accepted a found o ≡ Next next →
          IsWithin (length p.boxes) next
      by None at e = absurd (over_next _ next e)
      by (Some w) at e =
          subst (IsWithin (length p.boxes)) (next_same _ next e)
          (back_within (length p.boxes) a.waiting w _ a.plain within.waiting at)
  turned_within a next E.RejectedPlain within is = by (last_of a.waiting) refl is
    where
      by : (o : Option Waiting) → last_of a.waiting ≡ o → rejected a true o ≡ Next next →
          IsWithin (length p.boxes) next
      by None at e = absurd (over_next _ next e)
      by (Some w) at e =
          subst (IsWithin (length p.boxes)) (next_same _ next e)
          (back_within (length p.boxes) a.waiting w _ true within.waiting at)
  turned_within a next E.Rejected within is = by (last_of a.waiting) refl is
    where
      by : (o : Option Waiting) → last_of a.waiting ≡ o → rejected a a.plain o ≡ Next next →
          IsWithin (length p.boxes) next
      by None at e = absurd (over_next _ next e)
      by (Some w) at e =
          subst (IsWithin (length p.boxes)) (next_same _ next e)
          (back_within (length p.boxes) a.waiting w _ a.plain within.waiting at)
  turned_within a next (E.Trapped t) within is = absurd (over_next _ next is)
  turned_within a next E.Spent within is = absurd (over_next _ next is)

  -- a pass begins at a box that is there
  pub begun_within : (number : ℕ) (a : ActionInfo) → slice_get p.actions number ≡ Some a →
      IsWithin (length p.boxes) (begun p a)
  begun_within number a at =
      let is = action_is p keeps number a at in
      record { here = there (slice_get p.boxes a.box_number) refl is.there; waiting = λ k d l. absurd (omega (arith, l)) }
    where
      there : {q : Proc Ref} (o : Option BoxInfo) → slice_get p.boxes a.box_number ≡ o →
          option_and_then (λ (c : Cat Ref). slice_get c.procs a.procedure)
          (option_and_then (λ (b : BoxInfo). slice_get p.cats b.cat) o) ≡ Some q → a.box_number < length p.boxes
      there {q} None e h = absurd (none_some q h)
      there (Some b) e h = slice_get_within p.boxes a.box_number b e
