-- One read after another.
use Rattle.std.proofs.Common.{◌≡◌, ℕ, ◌+◌, ◌≤◌, List, [], ◌++◌, length, take, drop, Option, None, Some, sym}
use Rattle.std.proofs.Common.{ap, ◌∙◌, refl, subst, arith, append_assoc, length-append}
use Rattle.std.proofs.lemmas.List.{take-append-drop}
use Rattle.std.specs.Prelude.{Result, Ok, Err, IfSome, OnErr, IsErrAnd, IsErrOf}
use Rattle.seuss_base.specs.Sources.{Moves}
use Rattle.seuss_run.specs.Readings.{Takes, TakesWithin}

-- what a read moved into a buffer was taken
pub takes_moved : (before now : Option (List ℕ)) (n : ℕ) (buffer : List ℕ) →
    IfSome before (λ left. Moves left n buffer now) → Takes before now (take n buffer)
takes_moved None now n buffer moved = tt
takes_moved (Some left) now n buffer moved = (
  drop n left,
  sym (take-append-drop n left) ∙ ap (λ front. front ++ drop n left) (sym moved.front),
  moved.rest,
)

-- two takes take their bytes one after the other
pub takes_more : (a b c : Option (List ℕ)) (xs ys : List ℕ) → Takes a b xs → Takes b c ys →
    Takes a c (xs ++ ys)
takes_more None b c xs ys first second = tt
takes_more (Some left) b c xs ys first second =
    let told : Takes (Some first.0) c ys = subst (λ (o : Option (List ℕ)). Takes o c ys) first.2 second in
    (told.0, first.1 ∙ ap (λ rest. xs ++ rest) told.1 ∙ sym (append_assoc xs ys told.0), told.2)

-- nothing was taken yet
pub takes_none : (a : Option (List ℕ)) → Takes a a []
takes_none None = tt
takes_none (Some left) = (left, refl, refl)

-- where nothing more was taken, nothing was
pub takes_unchanged : (most : ℕ) (a b : Option (List ℕ)) → b ≡ a → TakesWithin most a b
takes_unchanged most a b same =
    ([], omega arith, subst (λ (o : Option (List ℕ)). Takes a o []) (sym same) (takes_none a))

-- what holds, holds of an error
pub on_err : {T E P : Type 0} (r : Result T E) → P → OnErr r P
on_err (Ok x) p = tt
on_err (Err e) p = p

-- some bytes were taken after others
pub takes_then_within : (most more : ℕ) (a b c : Option (List ℕ)) (xs : List ℕ) → length xs ≤ most →
    Takes a b xs → TakesWithin more b c → TakesWithin (most + more) a c
takes_then_within most more a b c xs within first second = (
  xs ++ second.0,
  omega (arith, within, second.1, length-append xs second.0),
  takes_more a b c xs second.0 first second.2,
)

-- some bytes were taken, and then none
pub takes_and_stays : (most : ℕ) (a b c : Option (List ℕ)) (xs : List ℕ) → length xs ≤ most → Takes a b xs →
    c ≡ b → TakesWithin most a c
takes_and_stays most a b c xs within first same =
    (xs, within, subst (λ (o : Option (List ℕ)). Takes a o xs) (sym same) first)

-- a cause that is handed on is that cause
pub same_error : {T U E : Type 0} (r : Result T E) (cause e : E) → IsErrAnd r (λ x. x ≡ cause) → IsErrOf r e →
    IsErrOf {T = U} (Err cause) e
same_error (Ok x) cause e is of = absurd is
same_error (Err x) cause e is of = cc (is, of)
