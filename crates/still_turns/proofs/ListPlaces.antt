-- Places of lists, beyond those of runs by turns.
use Rattle.std.proofs.Common.{◌≡◌, ℕ, zero, suc, ◌+◌, ◌⊎◌, inl, inr, List, [], ◌∷◌, ◌++◌, map, length, refl, sym}
use Rattle.std.proofs.Common.{ap, arith, Some, slice_get, replicate}
use Rattle.std.specs.Prelude.{slice_set}
use Rattle.std.proofs.lemmas.Option.{same_Some, none-some}
use Rattle.std.proofs.lemmas.List.{length-append}
use Rattle.pass_seats.specs.declared.pass.SeatPass.{SeatPass}
use Rattle.pass_seats.specs.Seats.{SeatState}
use Rattle.pass_gather.specs.Given.{given_of}
use Rattle.still_turns.specs.Shown.{IsSlot}

-- lists of one length with the same elements are one
pub same_list : {A : Type 0} (xs ys : List A) → length xs ≡ length ys →
    ((i : ℕ) (x : A) → slice_get xs i ≡ Some x → slice_get ys i ≡ Some x) → xs ≡ ys
same_list [] [] len same = refl
same_list [] (y ∷ ys) len same = absurd (omega (arith, len))
same_list (x ∷ xs) [] len same = absurd (omega (arith, len))
same_list (x ∷ xs) (y ∷ ys) len same =
    let head = same_Some y x (same 0 x refl) in
    let rest = same_list xs ys (omega (arith, len)) (λ i z at. same (suc i) z at) in
    λ i. sym head i ∷ rest i

-- what stands in two lists stands in one of them
pub get_either : {A : Type 0} (xs ys : List A) (i : ℕ) (x : A) → slice_get (xs ++ ys) i ≡ Some x →
    (slice_get xs i ≡ Some x) ⊎ ((j : ℕ) × (slice_get ys j ≡ Some x))
get_either [] ys i x at = inr (i, at)
get_either (y ∷ xs) ys zero x at = inl at
get_either (y ∷ xs) ys (suc i) x at = get_either xs ys i x at

-- what stands among copies is the copied
pub at_replicate : {A : Type 0} (n i : ℕ) (x y : A) → slice_get (replicate n x) i ≡ Some y → x ≡ y
at_replicate zero i x y at = absurd (none-some y at)
at_replicate (suc n) zero x y at = same_Some x y at
at_replicate (suc n) (suc i) x y at = at_replicate n i x y at

-- what is mapped to one thing alone is mapped to copies of it
pub map_replicate : {A B : Type 0} (f : A → B) (y : B) (xs : List A) →
    ((i : ℕ) (x : A) → slice_get xs i ≡ Some x → f x ≡ y) → map f xs ≡ replicate (length xs) y
map_replicate f y [] same = refl
map_replicate f y (x ∷ xs) same =
    let head = same 0 x refl in
    let rest = map_replicate f y xs (λ i z at. same (suc i) z at) in
    λ i. head i ∷ rest i

-- a seat's passes count among those that were given
pub given_set : (seats : List SeatState) (w : ℕ) (s after : SeatState) → slice_get seats w ≡ Some s →
    length (given_of (slice_set seats w after)) + length s.passes
    ≡ length (given_of seats) + length after.passes
given_set [] w s after at = absurd (none-some s at)
given_set (x ∷ seats) zero s after at =
    let same : length x.passes ≡ length s.passes =
    ap (λ (y : SeatState). length y.passes) (same_Some x s at) in
    omega (arith, same, length-append after.passes (given_of seats), length-append x.passes (given_of seats))
given_set (x ∷ seats) (suc w) s after at =
    omega (
      arith,
      length-append x.passes (given_of (slice_set seats w after)),
      length-append x.passes (given_of seats),
      given_set seats w s after at,
    )

-- a pass that was given is in a slot of a seat
pub given_slot : (seats : List SeatState) (j : ℕ) (p : SeatPass) → slice_get (given_of seats) j ≡ Some p →
    (w : ℕ) × (k : ℕ) × IsSlot seats w k p
given_slot [] j p at = absurd (none-some p at)
given_slot (s ∷ seats) j p at = go (get_either s.passes (given_of seats) j p at) (given_slot seats)
  where
    go : (slice_get s.passes j ≡ Some p) ⊎ ((i : ℕ) × (slice_get (given_of seats) i ≡ Some p)) →
        ((i : ℕ) (q : SeatPass) → slice_get (given_of seats) i ≡ Some q →
        (w : ℕ) × (k : ℕ) × IsSlot seats w k q) → (w : ℕ) × (k : ℕ) × IsSlot (s ∷ seats) w k p
    go (inl here) rest = (0, j, record { seat = s; there = refl; here = here })
    go (inr later) rest =
        let r = rest later.0 p later.1 in
        (suc r.0, r.1, record { seat = r.2.seat; there = r.2.there; here = r.2.here })
