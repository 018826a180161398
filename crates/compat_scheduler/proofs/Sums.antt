-- Sums over two lists that agree but at one place, and the test that all slots have ended.
use Rattle.std.proofs.Common.{◌≡◌, ◌≢◌, ℕ, ◌+◌, ◌<◌, ◌≤◌, zero, suc, Bool, true, false, List, [], ◌∷◌}
use Rattle.std.proofs.Common.{length, get_or, refl, ap, ⊎_elim, arith}
use Rattle.std.specs.List.{list_all, sum_by}
use Rattle.std.proofs.lemmas.Bool.{cases_lt}
use Rattle.std.proofs.lemmas.List.Folds.{list_all_at}
use Rattle.std.proofs.lemmas.List.Sums.{sum_by-cons}
use Rattle.compat_scheduler.specs.declared.slot.Slot.{Slot}
use Rattle.compat_scheduler.specs.declared.slot.Slot.TheVariants.{Ended}
use Rattle.compat_scheduler.specs.Machines.{slot_at}
use Rattle.compat_scheduler.specs.Finishes.{is_ended}
use Rattle.compat_scheduler.proofs.SlotLemmas.{slot_at_past}

-- lists that agree have one sum
pub sum_by_same : {X : Type 0} (f : X → ℕ) (d : X) (xs ys : List X) → length ys ≡ length xs →
    ((j : ℕ) → f (get_or ys j d) ≡ f (get_or xs j d)) → sum_by f ys ≡ sum_by f xs
sum_by_same f d [] [] long same = refl
sum_by_same f d [] (y ∷ ys) long same = absurd (omega arith)
sum_by_same f d (x ∷ xs) [] long same = absurd (omega arith)
sum_by_same f d (x ∷ xs) (y ∷ ys) long same =
    let rest : sum_by f ys ≡ sum_by f xs = sum_by_same f d xs ys (omega arith) (λ j. same (suc j)) in
    let first : f y ≡ f x = same zero in omega (arith, sum_by-cons f x xs, sum_by-cons f y ys)

-- lists that agree but at one place, where one is greater by one
pub sum_by_one_more : {X : Type 0} (f : X → ℕ) (d : X) (xs ys : List X) (i : ℕ) → length ys ≡ length xs →
    i < length xs →
    f (get_or ys i d) ≡ f (get_or xs i d) + 1 → ((j : ℕ) → j ≢ i → f (get_or ys j d) ≡ f (get_or xs j d)) →
    sum_by f ys ≡ sum_by f xs + 1
sum_by_one_more f d [] ys i long within here others = absurd (omega arith)
sum_by_one_more f d (x ∷ xs) [] i long within here others = absurd (omega arith)
sum_by_one_more f d (x ∷ xs) (y ∷ ys) zero long within here others =
    let rest : sum_by f ys ≡ sum_by f xs = sum_by_same f d xs ys (omega arith) (λ j. others (suc j)
    (omega arith)) in
    let first : f y ≡ f x + 1 = here in omega (arith, sum_by-cons f x xs, sum_by-cons f y ys)
sum_by_one_more f d (x ∷ xs) (y ∷ ys) (suc i) long within here others =
    let rest : sum_by f ys ≡ sum_by f xs + 1 = sum_by_one_more f d xs ys i (omega arith) (omega arith) here
    (λ j differ. others (suc j) (omega arith)) in
    let first : f y ≡ f x = others zero (omega arith) in
    omega (arith, sum_by-cons f x xs, sum_by-cons f y ys)

-- where one slot hasn't ended, not all have
pub one_not_ended : (slots : List Slot) (j : ℕ) → is_ended (slot_at slots j) ≡ false →
    list_all is_ended slots ≡ false
one_not_ended slots j here =
    ⊎_elim (λ (h : j < length slots). list_all_at is_ended slots j Ended h here)
    (λ (h : length slots ≤ j). let past : slot_at slots j ≡ Ended = slot_at_past slots j h in
    absurd (let e : is_ended (slot_at slots j) ≡ true = ap is_ended past in cc)) (cases_lt j (length slots))

-- where all have ended each has
pub each_ended : (slots : List Slot) (j : ℕ) → list_all is_ended slots ≡ true →
    is_ended (slot_at slots j) ≡ true
each_ended slots j all = by_value (is_ended (slot_at slots j)) refl where
  by_value : (b : Bool) → is_ended (slot_at slots j) ≡ b → b ≡ true
  by_value true e = refl
  by_value false e = let no : list_all is_ended slots ≡ false = one_not_ended slots j e in absurd (cc)
