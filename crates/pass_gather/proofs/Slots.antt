-- Records put into slots by the numbers of their passes, and then listed in the order of these.
use Rattle.std.proofs.Common.{◌≡◌, ℕ, ◌<◌, ◌⊎◌, ⊎_elim, List, [], ◌∷◌, ◌++◌, map, length, set, All, sym, ap}
use Rattle.std.proofs.Common.{◌∙◌, subst, arith, Option, Some, None, length-append, append_assoc}
use Rattle.std.specs.Prelude.{slice_get, Contains, replicate}
use Rattle.std.proofs.lemmas.List.{length-map, map-append}
use Rattle.loose_records.specs.declared.record.PassRecord.{PassRecord}
use Rattle.pass_seats.specs.declared.pass.SeatPass.{SeatPass}
use Rattle.pass_gather.specs.Given.{Tells}
use Rattle.pass_gather.specs.Listing.{AreTold, HasSlots, AreNumbered, AreSorted, IsFilled}
use Rattle.pass_gather.proofs.Lists.{none_some, some_same, get_front, get_map, get_below, get_contains, contains_get}
use Rattle.pass_gather.proofs.Rows.{push-cases, at-push, get-all, set-here, set-either, set-kept, all-same}

-- empty slots are those of no records
pub slots_none : (n : ℕ) → HasSlots [] (replicate n None)
slots_none n = record {
  own = λ i r at. absurd (none_some r (all-same n i None (Some r) at));
  filled = λ j r at. absurd (none_some r at);
}

-- what a list contains it contains with one element more
more_contains : {A : Type 0} (xs : List A) (x y : A) → Contains xs y → Contains (xs ++ x ∷ []) y
more_contains xs x y has =
    let at = get_contains xs y has in
    contains_get (xs ++ x ∷ []) at.0 y (get_front xs (x ∷ []) at.0 y at.1)

-- the last element is contained
last_contains : {A : Type 0} (xs : List A) (x : A) → Contains (xs ++ x ∷ []) x
last_contains xs x = contains_get (xs ++ x ∷ []) (length xs) x (at-push xs x)

-- one record more is put into its slot
pub slots_put : (records : List PassRecord) (slots : List (Option PassRecord)) (r : PassRecord) →
    HasSlots records slots → r.ticket.pass < length slots →
    HasSlots (records ++ r ∷ []) (set slots r.ticket.pass (Some r))
slots_put records slots r has less = record {
  own = λ i q at.
      ⊎_elim (λ (t : (i ≡ r.ticket.pass) × (Some r ≡ Some q)).
      let same = some_same r q t.1 in (
        subst (Contains (records ++ r ∷ [])) same (last_contains records r),
        ap (λ (x : PassRecord). x.ticket.pass) (sym same) ∙ sym t.0,
      ))
      (λ (t : slice_get slots i ≡ Some (Some q)).
      let o = has.own i q t in (more_contains records r q o.0, o.1))
      (set-either slots r.ticket.pass i (Some r) (Some q) at);
  filled = λ j q at.
      ⊎_elim (λ (t : slice_get records j ≡ Some q).
      let f = has.filled j q t in
      kept q f.0 (set-kept slots r.ticket.pass q.ticket.pass (Some r) (Some f.0) f.1))
      (λ (t : (j ≡ length records) × (r ≡ q)). (
        r,
        subst (λ (x : PassRecord). slice_get (set slots r.ticket.pass (Some r)) x.ticket.pass ≡ Some (Some r)) t.1
            (set-here slots r.ticket.pass (Some r) less),
      )) (push-cases records r q j at);
}
  where
    kept : (q x : PassRecord) →
        (slice_get (set slots r.ticket.pass (Some r)) q.ticket.pass ≡ Some (Some r))
        ⊎ (slice_get (set slots r.ticket.pass (Some r)) q.ticket.pass ≡ Some (Some x)) →
        (y : PassRecord) × (slice_get (set slots r.ticket.pass (Some r)) q.ticket.pass ≡ Some (Some y))
    kept q x h =
        ⊎_elim
        (λ (t : slice_get (set slots r.ticket.pass (Some r)) q.ticket.pass ≡ Some (Some r)). (r, t))
        (λ (t : slice_get (set slots r.ticket.pass (Some r)) q.ticket.pass ≡ Some (Some x)). (x, t)) h

-- where the numbers are those below the count of the records each slot is filled
pub all_filled : (records : List PassRecord) (slots : List (Option PassRecord)) → HasSlots records slots →
    length slots ≡ length records → AreNumbered records → All IsFilled slots
all_filled records slots has many numbers =
    get-all IsFilled slots (λ i slot at.
    let below = get_below slots i slot at in
    let n = numbers.each i (omega (arith, below, many)) in
    let f = has.filled n.0 n.1 n.2 in
    let there : slice_get slots i ≡ Some (Some f.0) =
    subst (λ (k : ℕ). slice_get slots k ≡ Some (Some f.0)) n.3 f.1 in
    (f.0, some_same slot (Some f.0) (sym at ∙ there)))

-- the slots are then the records in the order of their numbers
pub slots_sorted : (records passes : List PassRecord) (slots : List (Option PassRecord)) → HasSlots records slots →
    length slots ≡ length records → map Some passes ≡ slots → AreSorted records passes
slots_sorted records passes slots has many same = record {
  many = sym (length-map passes Some) ∙ ap length same ∙ many;
  each = λ i r at.
      has.own i r (subst (λ (l : List (Option PassRecord)). slice_get l i ≡ Some (Some r)) same
      (get_map Some passes i r at));
}

-- the record of one pass more
pub told_push : (passes : List SeatPass) (records : List PassRecord) (p : SeatPass) (r : PassRecord) →
    AreTold passes records → Tells p r → AreTold (passes ++ p ∷ []) (records ++ r ∷ [])
told_push passes records p r told tells = record {
  many = omega (arith, told.many, length-append passes (p ∷ []), length-append records (r ∷ []));
  each = λ j q at.
      ⊎_elim (λ (t : slice_get records j ≡ Some q).
      let o = told.each j q t in
      (o.0, get_front passes (p ∷ []) j o.0 o.1, o.2))
      (λ (t : (j ≡ length records) × (r ≡ q)). (
        p,
        subst (λ (k : ℕ). slice_get (passes ++ p ∷ []) k ≡ Some p) (sym (t.0 ∙ told.many)) (at-push passes p),
        subst (Tells p) t.1 tells,
      )) (push-cases records r q j at);
}

-- elements after others, and one more of them
pub after_push : {A B : Type 0} (f : A → B) (before : List B) (ys : List A) (y : A) (old new : List B) (x : B) →
    new ≡ old ++ x ∷ [] → old ≡ before ++ map f ys → x ≡ f y → new ≡ before ++ map f (ys ++ y ∷ [])
after_push f before ys y old new x is was same =
    is ∙ ap (λ l. l ++ x ∷ []) was ∙ append_assoc before (map f ys) (x ∷ [])
    ∙ ap (λ z. before ++ (map f ys ++ z ∷ [])) same ∙ ap (λ l. before ++ l) (sym (map-append f ys (y ∷ [])))
