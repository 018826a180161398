-- Loops that read one phrase after the other.
use Rattle.std.proofs.Common.{◌≡◌, ℕ, zero, suc, ◌<◌, ◌≤◌, Bool, true, false, List, [], ◌∷◌, ◌++◌}
use Rattle.std.proofs.Common.{length, refl, sym, ap, subst, ◌∙◌, append_assoc, arith, Result, Err}
use Rattle.std.specs.Result.{IsErrAnd}
use Rattle.std.proofs.lemmas.Result.{err_from_is_err_and}
use Rattle.std.proofs.lemmas.Grind.{common_steps}
use Rattle.seuss_parser.specs.Readings.{Fault, Unexpected, TooDeep, Read, Gives, Got, Refused, Reading}
use Rattle.seuss_parser.specs.Readings.{read_as}
use Rattle.seuss_parser.specs.Readings.{with_front, many_up_to, many}
use Rattle.seuss_parser.specs.Fronts.{begins_as}
use Rattle.seuss_parser.specs.Trees.{with_first}
use Rattle.seuss_parser.specs.declared.stop.Stop.{Stop}
use Rattle.seuss_parser.specs.declared.stop.Stop.TheVariants as stops
use Rattle.seuss_parser.specs.declared.word.Sort.{Sort}
use Rattle.seuss_parser.specs.declared.word.Word.{Word}

-- a refusal of one is that of the other
abbrev pub HandsOn : {A B : Type 0} → Read A → Read B → Type 0
HandsOn read target =
    (fault : Fault) (rest : List Word) → read ≡ Refused fault rest → target ≡ Refused fault rest

-- the exit of a `?` gives a refusal where its call gave one
pub gives-error : {A B : Type 0} (read : Read A) (target : Read B) (left later : ℕ) (rest : List Word)
    (e : Stop) (result : Result B Stop) →
    HandsOn read target → Gives {A = A} (Err e) left rest read →
    IsErrAnd result (λ y. y ≡ e) → Gives result later rest target
gives-error {A} {B} read target left later rest e result refused gives exit =
    let found : (y : Stop) × (result ≡ Err y) ×
    (y ≡ e) = err_from_is_err_and {Q = λ y. y ≡ e} result exit in
    let same : result ≡ Err e = found.1 ∙ ap Err found.2 in
    subst (λ (r : Result B Stop). Gives r later rest target) (sym same) (by_cause e gives)
  where
    by_cause : (e : Stop) → Gives {A = A} (Err e) left rest read → Gives {A = B} (Err e) later rest target
    by_cause stops.Unexpected gives = refused Unexpected rest gives
    by_cause stops.TooDeep gives = refused TooDeep rest gives
    by_cause stops.Memory gives = tt

-- words whose first one passes a test are some
pub begins-some : (test : Sort → Bool) (words : List Word) → begins_as test words ≡ true → 0 < length words
begins-some test [] begins = absurd (cc)
begins-some test (word ∷ words) begins = omega arith

-- Reading goes on at these words: with what was read before, it gives what was to be read.
pub record GoesOn {A B : Type 0} (starts : List Word → Bool) (one : Reading A) (finish : List A → B)
    (room : ℕ) (words : List Word) (target : Read B) : Type 0 where
  pub fuel : ℕ
  pub fits : length words ≤ fuel
  pub same : read_as finish (many_up_to fuel starts one room words) ≡ target

read_as-with_front : {A B : Type 0} (finish : List A → B) (value : A) (read : Read (List A)) →
    read_as finish (with_front value read) ≡ read_as (λ values. finish (value ∷ values)) read
read_as-with_front finish value (Got values left rest) = refl
read_as-with_front finish value (Refused fault rest) = refl

read_as-same : {A B : Type 0} (f g : A → B) → ((a : A) → f a ≡ g a) → (read : Read A) →
    read_as f read ≡ read_as g read
read_as-same f g same (Got value left rest) = ap (λ b. Got b left rest) (same value)
read_as-same f g same (Refused fault rest) = refl

read_as-id : {A : Type 0} (f : A → A) → ((a : A) → f a ≡ a) → (read : Read A) → read_as f read ≡ read
read_as-id f same (Got value left rest) = ap (λ b. Got b left rest) (same value)
read_as-id f same (Refused fault rest) = refl

module _ {A B : Type 0} (starts : List Word → Bool) (one : Reading A) where
  -- one more phrase was read
  pub goes_on-step : (finish after : List A → B) (room : ℕ) (words : List Word) (target : Read B)
      (value : A) (left : ℕ) (rest : List Word) →
      GoesOn starts one finish room words target → starts words ≡ true →
      one room words ≡ Got value left rest →
      length rest < length words → ((values : List A) → finish (value ∷ values) ≡ after values) →
      GoesOn starts one after left rest target
  goes_on-step finish after room words target value left rest on begins read shorter same =
      step on.fuel on.fits on.same
    where
      step : (fuel : ℕ) → length words ≤ fuel →
          read_as finish (many_up_to fuel starts one room words) ≡ target →
          GoesOn starts one after left rest target
      step zero fits before = absurd (omega arith)
      step (suc fuel) fits before = record {
        fuel = fuel;
        fits = omega arith;
        same =
            let unrolled : read_as finish (many_up_to (suc fuel) starts one room words) ≡
            read_as finish (with_front value (many_up_to fuel starts one left rest)) =
            rw (begins, read) refl in
            sym (read_as-same (λ values. finish (value ∷ values)) after same
            (many_up_to fuel starts one left rest)) ∙
            sym (read_as-with_front finish value (many_up_to fuel starts one left rest)) ∙ sym unrolled ∙
            before;
      }

  -- a phrase that begins is refused
  pub goes_on-refused : (finish : List A → B) (room : ℕ) (words : List Word) (target : Read B) →
      GoesOn starts one finish room words target → 0 < length words → starts words ≡ true →
      HandsOn (one room words) target
  goes_on-refused finish room words target on some begins fault rest read = step on.fuel on.fits on.same
    where
      step : (fuel : ℕ) → length words ≤ fuel →
          read_as finish (many_up_to fuel starts one room words) ≡ target → target ≡ Refused fault rest
      step zero fits before = absurd (omega arith)
      step (suc fuel) fits before =
          let unrolled : read_as finish (many_up_to (suc fuel) starts one room words) ≡ Refused fault rest =
          rw (begins, read) refl in
          sym before ∙ unrolled

  -- no phrase begins any more
  pub goes_on-done : (finish : List A → B) (room : ℕ) (words : List Word) (target : Read B) →
      GoesOn starts one finish room words target → starts words ≡ false →
      target ≡ Got (finish []) room words
  goes_on-done finish room words target on begins = step on.fuel on.same
    where
      step : (fuel : ℕ) → read_as finish (many_up_to fuel starts one room words) ≡ target →
          target ≡ Got (finish []) room words
      step zero before = sym before
      step (suc fuel) before =
          let unrolled : read_as finish (many_up_to (suc fuel) starts one room words) ≡ Got
          (finish []) room words = rw begins refl in
          sym before ∙ unrolled

  -- a phrase that begins can't be read
  pub goes_on-error : (finish : List A → B) (room : ℕ) (words : List Word) (target : Read B)
      (left later : ℕ) (rest : List Word) (e : Stop) (result : Result B Stop) →
      GoesOn starts one finish room words target → 0 < length words → starts words ≡ true →
      Gives {A = A} (Err e) left rest (one room words) → IsErrAnd result (λ y. y ≡ e) →
      Gives result later rest target
  goes_on-error finish room words target left later rest e result on some begins gives exit =
      gives-error (one room words) target left later rest e result
      (goes_on-refused finish room words target on some begins) gives exit

  -- nothing was read yet
  pub goes_on-first : (finish : List A → B) (room : ℕ) (words : List Word) →
      GoesOn starts one finish room words (read_as finish (many starts one room words))
  goes_on-first finish room words = record { fuel = length words; fits = omega arith; same = refl }

-- Reading goes on at these words: behind these values it gives what was to be read.
pub record Collects {A : Type 0} (starts : List Word → Bool) (one : Reading A) (values : List A) (room : ℕ)
    (words : List Word) (target : Read (List A)) : Type 0 where
  pub on : GoesOn starts one (λ others. values ++ others) room words target

module _ {A : Type 0} (starts : List Word → Bool) (one : Reading A) where
  -- nothing was collected yet
  pub collects-first : (room : ℕ) (words : List Word) →
      Collects starts one [] room words (many starts one room words)
  collects-first room words = record {
    on = record {
      fuel = length words;
      fits = omega arith;
      same = read_as-id (λ others. [] ++ others) (λ others. refl) (many starts one room words);
    };
  }

  -- one value was there before
  pub collects-begun : (first : A) (values : List A) (room : ℕ) (words : List Word) → values ≡ first ∷ [] →
      Collects starts one values room words (read_as (with_first first) (many starts one room words))
  collects-begun first values room words is = record {
    on = rw is (record { fuel = length words; fits = omega arith; same = refl });
  }

  -- one more value was collected
  pub collects-step : {values after : List A} {room : ℕ} {words : List Word} {target : Read (List A)}
      {value : A} {left : ℕ} {rest : List Word} →
      Collects starts one values room words target → starts words ≡ true →
      one room words ≡ Got value left rest →
      length rest < length words → after ≡ values ++ value ∷ [] → Collects starts one after left rest target
  collects-step {values} {after} {room} {words} {target} {value} {left} {rest} so_far begins read shorter
      pushed = record {
        on = goes_on-step starts one (λ others. values ++ others)
            (λ others. after ++ others) room words target value left rest so_far.on begins read shorter
            (λ others. rw pushed (sym (append_assoc values (value ∷ []) others)));
      }

  -- no value begins any more
  pub collects-done : {values : List A} {room : ℕ} {words : List Word} {target : Read (List A)} →
      Collects starts one values room words target → starts words ≡ false → target ≡ Got values room words
  collects-done {values} {room} {words} {target} so_far begins =
      goes_on-done starts one (λ others. values ++ others) room words target so_far.on begins ∙
      ap (λ all. Got all room words) append_nil
    where
      append_nil : values ++ [] ≡ values
      append_nil = grind (arith, common_steps)

  -- a value that begins can't be read
  pub collects-error : {values : List A} {room : ℕ} {words : List Word} {target : Read (List A)}
      (left later : ℕ) (rest : List Word) (e : Stop) (result : Result (List A) Stop) →
      Collects starts one values room words target → 0 < length words → starts words ≡ true →
      Gives {A = A} (Err e) left rest (one room words) → IsErrAnd result (λ y. y ≡ e) →
      Gives result later rest target
  collects-error {values} {room} {words} {target} left later rest e result so_far some begins gives exit =
      goes_on-error starts one (λ others. values ++ others) room words target left later rest e result
      so_far.on some begins gives exit
