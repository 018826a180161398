-- The actions of a checked program are procedures of their boxes, without parameters.
use Rattle.std.proofs.Common.{◌≡◌, ℕ, zero, suc, ◌+◌, ◌⊎◌, inl, inr, Bool, true, false, if◌then◌else◌}
use Rattle.std.proofs.Common.{IsTrue, List, [], ◌∷◌, ◌++◌, Option, None, Some, option_and_then}
use Rattle.std.proofs.Common.{refl, sym, ap, ◌∙◌, subst, arith}
use Rattle.std.specs.Prelude.{slice_get}
use Rattle.seuss_program.specs.declared.program.Program.{Program}
use Rattle.seuss_program.specs.declared.program.BoxInfo.{BoxInfo}
use Rattle.seuss_program.specs.declared.program.ActionInfo.{ActionInfo}
use Rattle.seuss_program.specs.declared.tree.Ref.{Ref}
use Rattle.seuss_program.specs.declared.tree.Cat.{Cat}
use Rattle.seuss_program.specs.declared.tree.Proc.{Proc}
use Rattle.seuss_program.specs.Programs.{cat_of, procedure_of}
use Rattle.seuss_program.specs.Keeping.{Keeps, is_action, actions_among, actions_of, procedures_in}
use Rattle.meaning_laws.proofs.CalledProcedures.{none-some, some-same, and-then-some, keeps-procedure}

-- all items of one list after those of another
get-append : {A : Type 0} (xs ys : List A) (n : ℕ) (x : A) → slice_get (xs ++ ys) n ≡ Some x →
    ((m : ℕ) × (slice_get xs m ≡ Some x)) ⊎ ((m : ℕ) × (slice_get ys m ≡ Some x))
get-append [] ys n x h = inr (n, h)
get-append (y ∷ xs) ys zero x h = inl (0, h)
get-append (y ∷ xs) ys (suc n) x h = by (get-append xs ys n x h)
  where
    by : ((m : ℕ) × (slice_get xs m ≡ Some x)) ⊎ ((m : ℕ) × (slice_get ys m ≡ Some x)) →
        ((m : ℕ) × (slice_get (y ∷ xs) m ≡ Some x)) ⊎ ((m : ℕ) × (slice_get ys m ≡ Some x))
    by (inl a) = inl (suc a.0, a.1)
    by (inr b) = inr b

-- an action among procedures, of which the first has a number
record Among (box first : ℕ) (qs : List (Proc Ref)) (a : ActionInfo) : Type 0 where
  place : ℕ
  procedure : Proc Ref
  there : slice_get qs place ≡ Some procedure
  form : IsTrue (is_action procedure.form)
  box_is : a.box_number ≡ box
  number : a.procedure ≡ first + place

-- an action among those of a box is an action procedure of the box
among : (box first : ℕ) (qs : List (Proc Ref)) (n : ℕ) (a : ActionInfo) →
    slice_get (actions_among box first qs) n ≡ Some a → Among box first qs a
among box first [] n a h = absurd (none-some a h)
among box first (q ∷ qs) n a h = by n (is_action q.form) refl h (λ m. among box (first + 1) qs m a)
  where
    later : Among box (first + 1) qs a → Among box first (q ∷ qs) a
    later r =
        record {
          place = suc r.place;
          procedure = r.procedure;
          there = r.there;
          form = r.form;
          box_is = r.box_is;
          number = omega (arith, r.number);
        }

    by : (n : ℕ) (b : Bool) → is_action q.form ≡ b →
        slice_get (if b then record { box_number = box; procedure = first } ∷ actions_among box
        (first + 1) qs else actions_among box (first + 1) qs) n ≡ Some a →
        ((m : ℕ) → slice_get (actions_among box (first + 1) qs) m ≡ Some a → Among box (first + 1) qs a) →
        Among box first (q ∷ qs) a
    by zero true form e rec = record {
      place = 0;
      procedure = q;
      there = refl;
      form = form;
      box_is = sym (ap (λ (x : ActionInfo). x.box_number) (some-same e));
      number = sym (ap (λ (x : ActionInfo). x.procedure) (some-same e)) ∙ omega arith;
    }
    by (suc n) true form e rec = later (rec n e)
    by n false form e rec = later (rec n e)

-- a procedure that is an action of its box
pub record Performs (p : Program) (box number : ℕ) : Type 0 where
  pub procedure : Proc Ref
  pub there : procedure_of p box number ≡ Some procedure
  pub form : IsTrue (is_action procedure.form)

-- an action among boxes, of which the first has a number
record Boxed (cats : List (Cat Ref)) (first : ℕ) (boxes : List BoxInfo) (a : ActionInfo) : Type 0 where
  place : ℕ
  info : BoxInfo
  there : slice_get boxes place ≡ Some info
  action : Among (first + place) 0 (procedures_in (slice_get cats info.cat)) a

-- an action among those of boxes is an action procedure of one of them
boxed : (cats : List (Cat Ref)) (first : ℕ) (boxes : List BoxInfo) (n : ℕ) (a : ActionInfo) →
    slice_get (actions_of cats first boxes) n ≡ Some a → Boxed cats first boxes a
boxed cats first [] n a h = absurd (none-some a h)
boxed cats first (b ∷ bs) n a h =
    by (get-append (actions_among first 0 (procedures_in (slice_get cats b.cat)))
    (actions_of cats (first + 1) bs) n a h) (λ m. boxed cats (first + 1) bs m a)
  where
    by : ((m : ℕ) × (slice_get (actions_among first 0 (procedures_in (slice_get cats b.cat))) m
        ≡ Some a)) ⊎ ((m : ℕ) × (slice_get (actions_of cats (first + 1) bs) m ≡ Some a)) →
        ((m : ℕ) → slice_get (actions_of cats (first + 1) bs) m ≡ Some a → Boxed cats (first + 1) bs a) →
        Boxed cats first (b ∷ bs) a
    by (inl i) rec = record {
      place = 0;
      info = b;
      there = refl;
      action =
          subst (λ n. Among n 0 (procedures_in (slice_get cats b.cat)) a) (omega arith)
          (among first 0 (procedures_in (slice_get cats b.cat)) i.0 a i.1);
    }
    by (inr i) rec =
        let r = rec i.0 i.1 in
        record {
          place = suc r.place;
          info = r.info;
          there = r.there;
          action =
              subst (λ n. Among n 0 (procedures_in (slice_get cats r.info.cat)) a) (omega arith) r.action;
        }

module _ (p : Program) (keeps : Keeps p) where
  -- each action of a program performs an action procedure of a box
  pub performs : (n : ℕ) (a : ActionInfo) → slice_get p.actions n ≡ Some a →
      Performs p a.box_number a.procedure
  performs n a h =
      let b = boxed p.cats 0 p.boxes n a (subst (λ l. slice_get l n ≡ Some a) keeps.actions h) in
      let r = b.action in
      let box : a.box_number ≡ b.place = r.box_is ∙ omega arith in
      let number : a.procedure ≡ r.place = r.number ∙ omega arith in
      record {
        procedure = r.procedure;
        there =
            ap (λ k. procedure_of p k a.procedure) box
            ∙ (ap (procedure_of p b.place) number
            ∙ in-box b.place r.place r.procedure b.info b.there
            (in-cat (slice_get p.cats b.info.cat) r.place r.procedure r.there));
        form = r.form;
      }
    where
      in-cat : (o : Option (Cat Ref)) (number : ℕ) (q : Proc Ref) →
          slice_get (procedures_in o) number ≡ Some q →
          option_and_then (λ (c : Cat Ref). slice_get c.procs number) o ≡ Some q
      in-cat None number q h = absurd (none-some q h)
      in-cat (Some c) number q h = h

      in-box : (place number : ℕ) (q : Proc Ref) (info : BoxInfo) → slice_get p.boxes place ≡ Some info →
          option_and_then (λ (c : Cat Ref). slice_get c.procs number) (slice_get p.cats info.cat) ≡ Some q →
          procedure_of p place number ≡ Some q
      in-box place number q info has h =
          ap (λ (o : Option BoxInfo). option_and_then (λ (c : Cat Ref). slice_get c.procs number)
          (option_and_then (λ (x : BoxInfo). slice_get p.cats x.cat) o)) has ∙ h

  -- an action has no parameters
  pub alone : (box number : ℕ) (a : Performs p box number) → a.procedure.params ≡ []
  alone box number a =
      let at =
      and-then-some (λ (c : Cat Ref). slice_get c.procs number) (cat_of p box) a.procedure a.there in
      ((keeps-procedure p keeps box at.0 at.1 number a.procedure a.there).alone a.form).0
