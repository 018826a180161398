-- What checks one after the other give, by what each of them gives.
use Rattle.std.proofs.Common.{◌≡◌, ℕ, List, [], ◌∷◌, inl, inr, refl, sym, ap, ◌∙◌, subst}
use Rattle.std.specs.Prelude.{Result, Ok, Err, IsErrAnd}
use Rattle.report_text.specs.declared.refusals.Refused.{Refused}
use Rattle.seuss_run.specs.declared.halt.Halt.{Halt}
use Rattle.seuss_run.specs.declared.halt.Halt.TheVariants as H
use Rattle.seuss_run.specs.Stages.{Stage, ◌>=>◌, makes, passes, first_of, second_of, IsOne}
use Rattle.seuss_run.specs.Loadings.{Meets}

-- where the first check passes, the next one tells
pub behind : {A B C M : Type 0} (first : Stage A B) (next : Stage B C) (given : A) (between : B)
    (view : M → C)
    (made : Result M Halt) →
    first given (Ok between) → Meets next between view made → Meets (first >=> next) given view made
behind first next given between view (Ok m) passed met = (between, passed, met)
behind first next given between view (Err (H.Refused why)) passed met = inr (between, passed, met)
behind first next given between view (Err H.Memory) passed met = tt

-- where the first check refuses, or memory is wanting, so it is
pub stopped : {A B C M N : Type 0} (first : Stage A B) (next : Stage B C) (given : A) (before : M → B)
    (view : N → C)
    (halt : Halt) → Meets first given before (Err halt) → Meets (first >=> next) given view (Err halt)
stopped first next given before view (H.Refused why) refused = inl refused
stopped first next given before view H.Memory refused = tt

-- a check of the first of two, and of the second
pub met_first : {A B C M : Type 0} (stage : Stage A B) (given : A) (other : C) (view : M → B)
    (made : Result M Halt) →
    Meets stage given view made → Meets (first_of stage) (given, other) (λ m. (view m, other)) made
met_first stage given other view (Ok m) met = (met, refl)
met_first stage given other view (Err (H.Refused why)) met = met
met_first stage given other view (Err H.Memory) met = tt

pub met_second : {A B C M : Type 0} (stage : Stage A B) (given : A) (other : C) (view : M → B)
    (made : Result M Halt) →
    Meets stage given view made → Meets (second_of stage) (other, given) (λ m. (other, view m)) made
met_second stage given other view (Ok m) met = (refl, met)
met_second stage given other view (Err (H.Refused why)) met = met
met_second stage given other view (Err H.Memory) met = tt

-- these lines begin with this one
abbrev pub BeginsWith : List ℕ → ℕ → Type 0
BeginsWith lines line = (others : List ℕ) × (lines ≡ line ∷ others)

-- a check that finds lines refuses at the first one
pub refuses : {A : Type 0} (lines : A → List ℕ) (refusal : ℕ → Refused) (given : A) (line : ℕ) →
    BeginsWith (lines given) line → passes lines refusal given (Err (refusal line))
refuses lines refusal given line (others, begins) = (line, others, begins, refl)

-- a check that finds none leaves the answer to the next one
pub passes_on : {A B : Type 0} (lines : A → List ℕ) (refusal : ℕ → Refused) (next : Stage A B) (given : A)
    (why : Refused) → lines given ≡ [] → next given (Err why) →
    (passes lines refusal >=> next) given (Err why)
passes_on lines refusal next given why none refused = inr (given, (refl, none), refused)

module _ {A B C : Type 0} (first : Stage A B) (next : Stage B C) (one_first : IsOne first)
    (one_next : (given : A) (between : B) → first given (Ok between) → (one other : Result C Refused) →
    next between one → next between other → one ≡ other) where
  one_refusal : (given : A) (why : Refused) (other : Result C Refused) →
      (first >=> next) given (Err why) → (first >=> next) given other → Err why ≡ other
  one_refusal given why (Ok made) (inl refused) (between, passed, met) =
      absurd (cc (one_first given (Err why) (Ok between) refused passed))
  one_refusal given why (Ok made) (inr (b, met, refused)) (between, passed, made_so) =
      let same : b ≡ between = cc (one_first given (Ok b) (Ok between) met passed) in
      one_next given between passed (Err why) (Ok made) (subst (λ x. next x (Err why)) same refused) made_so
  one_refusal given why (Err cause) (inl refused) (inl again) =
      cc (one_first given (Err why) (Err cause) refused again)
  one_refusal given why (Err cause) (inl refused) (inr (between, passed, again)) =
      absurd (cc (one_first given (Err why) (Ok between) refused passed))
  one_refusal given why (Err cause) (inr (b, met, refused)) (inl again) =
      absurd (cc (one_first given (Ok b) (Err cause) met again))
  one_refusal given why (Err cause) (inr (b, met, refused)) (inr (between, passed, again)) =
      let same : b ≡ between = cc (one_first given (Ok b) (Ok between) met passed) in
      cc (one_next given between passed (Err why) (Err cause)
      (subst (λ x. next x (Err why)) same refused) again)

  one_made : (given : A) (made : C) (other : Result C Refused) →
      (first >=> next) given (Ok made) → (first >=> next) given other → Ok made ≡ other
  one_made given made (Ok again) (b, met, done) (between, passed, made_so) =
      let same : b ≡ between = cc (one_first given (Ok b) (Ok between) met passed) in
      one_next given between passed (Ok made) (Ok again) (subst (λ x. next x (Ok made)) same done) made_so
  one_made given made (Err why) done refused = sym (one_refusal given why (Ok made) refused done)

  -- two checks one after the other give one answer, where the first does, and the second after it
  pub one_behind_met : IsOne (first >=> next)
  one_behind_met given (Ok made) other is other_is = one_made given made other is other_is
  one_behind_met given (Err why) other is other_is = one_refusal given why other is other_is

-- two checks one after the other give one answer, where each of them does
pub one_behind : {A B C : Type 0} (first : Stage A B) (next : Stage B C) → IsOne first → IsOne next →
    IsOne (first >=> next)
one_behind first next one_first one_next =
    one_behind_met first next one_first (λ given between met. one_next between)

-- what is made is one thing
pub one_makes : {A B : Type 0} (change : A → B) → IsOne (makes change)
one_makes change given (Ok made) (Ok again) is other_is = ap Ok (is ∙ sym other_is)
one_makes change given (Ok made) (Err why) is other_is = absurd other_is
one_makes change given (Err why) other is other_is = absurd is

-- the first line of a list is one
pub one_passes : {A : Type 0} (lines : A → List ℕ) (refusal : ℕ → Refused) → IsOne (passes lines refusal)
one_passes lines refusal given (Ok made) (Ok again) (is, none) (other_is, other_none) =
    ap Ok (is ∙ sym other_is)
one_passes lines refusal given (Ok made) (Err why) (is, none) (line, others, begins, told) =
    absurd (cc (none, begins))
one_passes lines refusal given (Err why) (Ok made) (line, others, begins, told) (is, none) =
    absurd (cc (none, begins))
one_passes lines refusal given (Err why) (Err cause) (line, others, begins, told) (n, ns, begins', told') =
    let same : line ≡ n = cc (begins, begins') in
    ap Err (told ∙ (ap refusal same ∙ sym told'))

module _ {A B C : Type 0} (stage : Stage A B) where
  pub one_first_of : IsOne stage → IsOne (first_of {C = C} stage)
  one_first_of one given (Ok (made, beside)) (Ok (again, other)) (is, kept) (is', kept') =
      let same : made ≡ again = cc (one given.0 (Ok made) (Ok again) is is') in
      let beside_is : beside ≡ other = kept ∙ sym kept' in
      cc (same, beside_is)
  one_first_of one given (Ok made) (Err why) (is, kept) refused =
      absurd (cc (one given.0 (Ok made.0) (Err why) is refused))
  one_first_of one given (Err why) (Ok made) refused (is, kept) =
      absurd (cc (one given.0 (Err why) (Ok made.0) refused is))
  one_first_of one given (Err why) (Err cause) refused again =
      cc (one given.0 (Err why) (Err cause) refused again)

  pub one_second_of : IsOne stage → IsOne (second_of {C = C} stage)
  one_second_of one given (Ok (beside, made)) (Ok (other, again)) (kept, is) (kept', is') =
      let same : made ≡ again = cc (one given.1 (Ok made) (Ok again) is is') in
      let beside_is : beside ≡ other = kept ∙ sym kept' in
      cc (same, beside_is)
  one_second_of one given (Ok made) (Err why) (kept, is) refused =
      absurd (cc (one given.1 (Ok made.1) (Err why) is refused))
  one_second_of one given (Err why) (Ok made) refused (kept, is) =
      absurd (cc (one given.1 (Err why) (Ok made.1) refused is))
  one_second_of one given (Err why) (Err cause) refused again =
      cc (one given.1 (Err why) (Err cause) refused again)

-- what comes of an error is this error
pub same_halt : {A C N : Type 0} (stage : Stage A C) (given : A) (view : N → C) (halt : Halt)
    (made : Result N Halt) →
    IsErrAnd made (λ cause. cause ≡ halt) → Meets stage given view (Err halt) → Meets stage given view made
same_halt stage given view halt (Ok m) is met = absurd is
same_halt stage given view halt (Err cause) is met =
    subst (λ (h : Halt). Meets stage given view (Err h)) (sym is) met
