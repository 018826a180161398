-- The actions of a checked program are actions of their boxes.
use Rattle.std.proofs.Common.{◌≡◌, ℕ, zero, suc, ◌+◌, ◌⊎◌, inl, inr, Bool, true, false, if◌then◌else◌}
use Rattle.std.proofs.Common.{IsTrue, List, [], ◌∷◌, ◌++◌, Option, None, Some, option_and_then, refl, sym}
use Rattle.std.proofs.Common.{ap, ◌∙◌, subst, arith}
use Rattle.std.specs.Prelude.{slice_get}
use Rattle.seuss_program.specs.declared.program.Program.{Program}
use Rattle.seuss_program.specs.declared.program.BoxInfo.{BoxInfo}
use Rattle.seuss_program.specs.declared.program.ActionInfo.{ActionInfo}
use Rattle.seuss_program.specs.declared.tree.Ref.{Ref}
use Rattle.seuss_program.specs.declared.tree.Cat.{Cat}
use Rattle.seuss_program.specs.declared.tree.Proc.{Proc}
use Rattle.seuss_program.specs.Programs.{procedure_of}
use Rattle.seuss_program.specs.Keeping.{Keeps, is_action, actions_among, actions_of, procedures_in}
use Rattle.method_code.specs.Kinds.{IsAction}

-- nothing is not something
none_some : {A : Type 0} (x : A) → None ≡ Some x → ⊥
none_some x h = cc

-- an item of a list
abbrev In : {A : Type 0} → A → List A → Type 0
In x [] = ⊥
In x (y ∷ ys) = (y ≡ x) ⊎ In x ys

-- an item at a place stands in its list
in_get : {A : Type 0} (xs : List A) (n : ℕ) (x : A) → slice_get xs n ≡ Some x → In x xs
in_get [] n x h = absurd (none_some x h)
in_get (y ∷ ys) zero x h = inl (same h)
  where
    same : Some y ≡ Some x → y ≡ x
    same h = cc
in_get (y ∷ ys) (suc n) x h = inr (in_get ys n x h)

-- an item of two lists stands in one of them
in_append : {A : Type 0} (xs ys : List A) (x : A) → In x (xs ++ ys) → In x xs ⊎ In x ys
in_append [] ys x h = inr h
in_append (y ∷ xs) ys x (inl e) = inl (inl e)
in_append (y ∷ xs) ys x (inr h) = by (in_append xs ys x h)
  where
    by : In x xs ⊎ In x ys → In x (y ∷ xs) ⊎ In x ys
    by (inl a) = inl (inr a)
    by (inr b) = inr b

-- an action among procedures
record Among (box first : ℕ) (qs : List (Proc Ref)) (a : ActionInfo) : Type 0 where
  place : ℕ
  procedure : Proc Ref
  there : slice_get qs place ≡ Some procedure
  form : IsTrue (is_action procedure.form)
  box_is : a.box_number ≡ box
  number : a.procedure ≡ first + place

-- an action among those of a box is one of its procedures
among : (box first : ℕ) (qs : List (Proc Ref)) (a : ActionInfo) → In a (actions_among box first qs) →
    Among box first qs a
among box first [] a h = elim h [ ]
among box first (q ∷ qs) a h = by (is_action q.form) refl h (among box (first + 1) qs a)
  where
    later : Among box (first + 1) qs a → Among box first (q ∷ qs) a
    later r = record {
      place = suc r.place;
      procedure = r.procedure;
      there = r.there;
      form = r.form;
      box_is = r.box_is;
      number = omega (arith, r.number);
    }

    by : (b : Bool) → is_action q.form ≡ b → In a
        (if b then record { box_number = box; procedure = first }
        ∷ actions_among box (first + 1) qs else actions_among box (first + 1) qs) →
        (In a (actions_among box (first + 1) qs) → Among box (first + 1) qs a) → Among box first (q ∷ qs) a
    by true form (inl e) rec = record {
      place = 0;
      procedure = q;
      there = refl;
      form = form;
      box_is = sym (ap (λ (x : ActionInfo). x.box_number) e);
      number = sym (ap (λ (x : ActionInfo). x.procedure) e) ∙ omega arith;
    }
    by true form (inr i) rec = later (rec i)
    by false form i rec = later (rec i)

-- an action among boxes
record Boxed (cats : List (Cat Ref)) (first : ℕ) (boxes : List BoxInfo) (a : ActionInfo) : Type 0 where
  place : ℕ
  info : BoxInfo
  there : slice_get boxes place ≡ Some info
  action : Among (first + place) 0 (procedures_in (slice_get cats info.cat)) a

-- an action among those of all boxes is one of some box
boxed : (cats : List (Cat Ref)) (first : ℕ) (boxes : List BoxInfo) (a : ActionInfo) →
    In a (actions_of cats first boxes) → Boxed cats first boxes a
boxed cats first [] a h = elim h [ ]
boxed cats first (b ∷ bs) a h = by
    (in_append (actions_among first 0 (procedures_in (slice_get cats b.cat)))
    (actions_of cats (first + 1) bs) a h) (boxed cats (first + 1) bs a)
  where
    by : In a (actions_among first 0 (procedures_in (slice_get cats b.cat)))
        ⊎ In a (actions_of cats (first + 1) bs) →
        (In a (actions_of cats (first + 1) bs) → Boxed cats (first + 1) bs a) →
        Boxed cats first (b ∷ bs) a
    by (inl i) rec = record {
      place = 0;
      info = b;
      there = refl;
      action =
          subst (λ n. Among n 0 (procedures_in (slice_get cats b.cat)) a) (omega arith)
          (among first 0 (procedures_in (slice_get cats b.cat)) a i);
    }
    by (inr i) rec =
        let r = rec i in
        record {
          place = suc r.place;
          info = r.info;
          there = r.there;
          action =
              subst (λ n. Among n 0 (procedures_in (slice_get cats r.info.cat)) a) (omega arith) r.action;
        }

-- an action of a checked program is an action of its box
pub action_is : (p : Program) → Keeps p → (n : ℕ) (a : ActionInfo) → slice_get p.actions n ≡ Some a →
    IsAction p a
action_is p keeps n a h =
    let b = boxed p.cats 0 p.boxes a (subst (λ l. In a l) keeps.actions (in_get p.actions n a h)) in
    let r = b.action in
    let box : a.box_number ≡ b.place = r.box_is ∙ omega arith in
    let number : a.procedure ≡ r.place = r.number ∙ omega arith in
    record {
      procedure = r.procedure;
      there = ap (λ k. procedure_of p k a.procedure) box
          ∙ (ap (procedure_of p b.place) number
          ∙ (ap (λ (o : Option BoxInfo). option_and_then (λ (c : Cat Ref). slice_get c.procs r.place)
          (option_and_then (λ (x : BoxInfo). slice_get p.cats x.cat) o)) b.there
          ∙ in_cat (slice_get p.cats b.info.cat) r.place r.procedure r.there));
      form = r.form;
    }
  where
    in_cat : (o : Option (Cat Ref)) (k : ℕ) (q : Proc Ref) → slice_get (procedures_in o) k ≡ Some q →
        option_and_then (λ (c : Cat Ref). slice_get c.procs k) o ≡ Some q
    in_cat None k q h = h
    in_cat (Some c) k q h = h
