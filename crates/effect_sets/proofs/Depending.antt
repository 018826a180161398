-- What a step of a procedure depends on, by the procedure's text.
use Rattle.std.proofs.Common.{◌≡◌, ℕ, zero, suc, ◌<◌, ◌⊎◌, inl, inr, Bool, true, false, ◌||◌, ◌==◌, List}
use Rattle.std.proofs.Common.{[], ◌∷◌, length, Option, None, Some, Result, Ok, Err, refl, sym, ap, ◌∙◌}
use Rattle.std.proofs.Common.{subst, subst₂, true≢false, arith}
use Rattle.std.specs.Prelude.{slice_get, option_map}
use Rattle.std.specs.List.{list_any}
use Rattle.std.proofs.lemmas.Bool.{eq-eqb}
use Rattle.seuss_base.specs.declared.outcome.Trap.{Trap}
use Rattle.seuss_program.specs.declared.tree.Ref.{Ref}
use Rattle.seuss_program.specs.declared.tree.Proc.{Proc}
use Rattle.seuss_program.specs.declared.tree.Form.{Form}
use Rattle.seuss_program.specs.declared.tree.Form.TheVariants as F
use Rattle.seuss_program.specs.declared.program.Program.{Program}
use Rattle.seuss_program.specs.declared.state.Value.{Value}
use Rattle.seuss_program.specs.Programs.{procedure_of}
use Rattle.seuss_program.specs.Keeping as K
use Rattle.method_code.specs.declared.instruction.CallCode.{CallCode}
use Rattle.method_code.specs.declared.instruction.Instruction.TheVariants as I
use Rattle.method_code.specs.declared.method.Method.{Method}
use Rattle.method_code.specs.declared.method.Entry.{Entry}
use Rattle.method_code.specs.declared.method.Entry.TheVariants as N
use Rattle.method_code.specs.declared.method.Head.{Head}
use Rattle.method_code.specs.declared.frame.Frame.{Frame}
use Rattle.method_code.specs.Codes.{entry_of, form_code, method_code, compiled, number_of}
use Rattle.method_code.specs.Steps as T
use Rattle.method_code.specs.Steps.{Stepped, step, step_in, runs, chosen_head, entered, from_place}
use Rattle.method_code.specs.Kinds as J
use Rattle.method_code.specs.Kinds.{Kind, Early, Commit, Late, kind_by, kind_of, is_late, calls_early}
use Rattle.method_code.specs.Kinds.{begins_total}
use Rattle.method_code.specs.Frames.{IsPlace, Entry as AtStart, Rejection, Result as AtResult}
use Rattle.method_code.specs.Frames.{Return as AtReturn, TakesAt}
use Rattle.method_code.specs.Beside.{SameResult, MayBegin, AtEntry, AtPlace}
use Rattle.method_code.proofs.IdleSteps.{runs_quiet, early_reads}
use Rattle.method_code.proofs.NumberLemmas.{code-found}
use Rattle.effect_sets.specs.Effects.{tests, reads, has_late}
use Rattle.effect_sets.specs.Depends.{StaysInSets, EarlyStaysInTests}
use Rattle.effect_sets.proofs.Agreeing.{Near, or_left, or_right}
use Rattle.effect_sets.proofs.CodeSets.{Inside, instruction_reads, early_mentions, entry_tests}
use Rattle.effect_sets.proofs.Running.{Steps, placed_alike, chosen_same, chosen_tests, HeadTests}
use Rattle.effect_sets.proofs.Running.{early_alike}
use Rattle.effect_sets.proofs.Keeping.{placed_stays, placed_many}
use Rattle.effect_sets.proofs.FormSets.{tests_is, reads_is, writes_is, takes_is, is_take}

-- a step that is alike on both has the same result
same_result : (set : ℕ → Bool) (s t : Stepped) → Steps set s t → SameResult s t
same_result set s t alike = record { frame = alike.frame; budget = alike.budget; end = alike.end }

or_cases : (a b : Bool) → (a || b) ≡ true → (a ≡ true) ⊎ (b ≡ true)
or_cases true b h = inl refl
or_cases false b h = inr h

-- A step that calls a preprocedure is alike on variables that agree where the procedure tests them.
module _ (set : ℕ → Bool) (m : Method) (method budget : ℕ) (vars others slots : List Value)
    (near : Near set vars others) where
  not_quiet : (at : ℕ) → calls_early (runs m method budget at vars slots).end ≡ true →
      Steps set (runs m method budget at vars slots) (runs m method budget at others slots)
  not_quiet at is = absurd (true≢false (sym is ∙ (runs_quiet m method budget at vars slots).0))

  chosen_early : (r : Result (Option Head) Trap) → HeadTests set r →
      calls_early (T.chosen m method budget r vars slots).end ≡ true →
      Steps set (T.chosen m method budget r vars slots) (T.chosen m method budget r others slots)
  chosen_early (Err t) tested is = absurd (true≢false (sym is))
  chosen_early (Ok None) tested is = absurd (true≢false (sym is))
  chosen_early (Ok (Some h)) tested is = by h.early tested is
    where
      by : (o : Option CallCode) → Inside (λ v. early_mentions v o) set →
          calls_early (T.begun m method budget h.start o vars slots).end ≡ true →
          Steps set (T.begun m method budget h.start o vars slots)
          (T.begun m method budget h.start o others slots)
      by None tested is = not_quiet h.start is
      by (Some call) tested is = early_alike set m method budget h.start call vars others slots tested near

  entered_early : (entry : Entry) → Inside (λ v. entry_tests v entry) set →
      calls_early (entered m method budget entry vars slots).end ≡ true →
      Steps set (entered m method budget entry vars slots) (entered m method budget entry others slots)
  entered_early N.Total tested is = not_quiet 0 is
  entered_early (N.Partial hs) tested is =
      subst (λ (r : Result (Option Head) Trap). Steps set
      (T.chosen m method budget (chosen_head hs vars slots) vars slots)
      (T.chosen m method budget r others slots))
      (chosen_same set hs vars others slots tested near)
      (chosen_early (chosen_head hs vars slots) (chosen_tests set hs vars slots tested) is)

early_alike_at : (set : ℕ → Bool) (m : Method) (method budget place : ℕ) (vars others slots : List Value) →
    Inside (λ v. entry_tests v m.entry) set → Near set vars others →
    calls_early (from_place m method budget place vars slots).end ≡ true →
    Steps set (from_place m method budget place vars slots)
    (from_place m method budget place others slots)
early_alike_at set m method budget zero vars others slots tested near is =
    entered_early set m method budget vars others slots near m.entry tested is
early_alike_at set m method budget (suc at) vars others slots tested near is =
    not_quiet set m method budget vars others slots near at is

module _ (code : List Method) (q : Proc Ref) (frame : Frame) (budget : ℕ)
    (coded : slice_get code frame.method ≡ Some (method_code q)) where
  abbrev left : List Value → Stepped
  left vars = from_place (method_code q) frame.method budget frame.place vars frame.slots

  -- a step is one of the procedure's code
  is_step : (vars : List Value) → step code frame budget vars ≡ left vars
  is_step vars = ap (λ (o : Option Method). step_in o frame budget vars) coded

  alike : (set : ℕ → Bool) (vars others : List Value) → Inside (λ v. reads v q.form) set →
      Near set vars others → Steps set (left vars) (left others)
  alike set vars others inside near =
      placed_alike set (method_code q) frame.method budget frame.place vars others frame.slots
      (λ v h. inside v (sym (reads_is v q.form)
      ∙ or_left (entry_tests v (entry_of q.form)) (list_any (instruction_reads v) (form_code q.form)) h))
      (λ v h. inside v (sym (reads_is v q.form)
      ∙ or_right (entry_tests v (entry_of q.form))
      (list_any (instruction_reads v) (form_code q.form)) h)) near

  -- the variables that a procedure reads, and one more
  abbrev and_one : ℕ → ℕ → Bool
  and_one at v = reads v q.form || (v == at)

  near_one : (vars others : List Value) (at : ℕ) → Near (λ v. reads v q.form) vars others →
      slice_get vars at ≡ slice_get others at → Near (and_one at) vars others
  near_one vars others at near same v h = by (or_cases (reads v q.form) (v == at) h)
    where
      by : (reads v q.form ≡ true) ⊎ ((v == at) ≡ true) → slice_get vars v ≡ slice_get others v
      by (inl read) = near v read
      by (inr is) = let e : v ≡ at = grind (arith, is) in
          subst (λ k. slice_get vars k ≡ slice_get others k) (sym e) same

  pub stays_in_sets : StaysInSets code q.form frame budget
  stays_in_sets = record {
    result = λ vars others agree. subst₂ SameResult (sym (is_step vars)) (sym (is_step others))
        (same_result (λ v. reads v q.form) (left vars) (left others)
        (alike (λ v. reads v q.form) vars others (λ v h. h) agree.values));
    written = λ vars others at agree same.
        let near : Steps (and_one at) (left vars) (left others) =
        alike (and_one at) vars others (λ v h. or_left (reads v q.form) (v == at) h)
        (near_one vars others at agree.values same) in
        ap (λ (s : Stepped). slice_get s.vars at) (is_step vars)
        ∙ (near.vars at (or_right (reads at q.form) (at == at) (eq-eqb at at refl))
        ∙ ap (λ (s : Stepped). slice_get s.vars at) (sym (is_step others)));
    others = λ vars at free. ap (λ (s : Stepped). slice_get s.vars at) (is_step vars)
        ∙ placed_stays (method_code q) frame.method budget frame.place vars frame.slots at
        (writes_is at q.form ∙ free);
    many = λ vars. ap (λ (s : Stepped). length s.vars) (is_step vars)
        ∙ placed_many (method_code q) frame.method budget frame.place vars frame.slots;
  }

  -- an early step ends by the call of a preprocedure
  early_calls : (late early : Bool) → kind_by late early ≡ Early → early ≡ true
  early_calls true early h = absurd (late_early h)
    where
      late_early : Late ≡ Early → ⊥
      late_early h = cc
  early_calls false true h = refl
  early_calls false false h = absurd (commit_early h)
    where
      commit_early : Commit ≡ Early → ⊥
      commit_early h = cc

  pub early_stays_in_tests : EarlyStaysInTests code q.form frame budget
  early_stays_in_tests = record {
    result = λ vars others agree is. subst₂ SameResult (sym (is_step vars)) (sym (is_step others))
        (same_result (λ v. tests v q.form) (left vars) (left others)
        (early_alike_at (λ v. tests v q.form)
        (method_code q) frame.method budget frame.place vars others frame.slots
        (λ v h. sym (tests_is v q.form) ∙ h) agree.values
        (ap (λ (s : Stepped). calls_early s.end) (sym (is_step vars))
        ∙ early_calls (is_late code frame) (calls_early (step code frame budget vars).end) is)));
    idle = λ vars is. (early_reads code frame budget vars
        (early_calls (is_late code frame) (calls_early (step code frame budget vars).end) is)).variables;
  }

-- a test that holds at one place
any_there : {X : Type 0} (test : X → Bool) (xs : List X) (at : ℕ) (x : X) → slice_get xs at ≡ Some x →
    test x ≡ true → list_any test xs ≡ true
any_there test [] at x there h = absurd (none_some there)
  where
    none_some : None ≡ Some x → ⊥
    none_some h = cc
any_there test (y ∷ xs) zero x there h = or_left (test y) (list_any test xs) (ap test (same there) ∙ h)
  where
    same : Some y ≡ Some x → y ≡ x
    same h = cc
any_there test (y ∷ xs) (suc at) x there h =
    or_right (test y) (list_any test xs) (any_there test xs at x there h)

-- a result is taken where a procedure calls
takes_late : (q : Proc Ref) (at : ℕ) → TakesAt q at → has_late q.form ≡ true
takes_late q at takes = sym (takes_is q.form)
    ∙ any_there is_take (form_code q.form) at (I.Take takes.0) takes.1 refl

-- A place that isn't the entry is behind a call, or where a preprocedure rejected.
pub later_place : (q : Proc Ref) (place : ℕ) (slots : List Value) → 0 < place → IsPlace q place slots →
    (has_late q.form ≡ true) ⊎ ((place ≡ 1) × (K.is_total q.form ≡ false))
later_place q place slots later (AtStart is fits) = absurd (omega (arith, later, is))
later_place q place slots later (Rejection is may fits) = inr (is, may)
later_place q place slots later (AtResult at is takes fits) = inl (takes_late q at takes)
later_place q place slots later (AtReturn at is takes fits) = inl (takes_late q at takes)

-- A late step is one of a total method, one behind a call, or one where a preprocedure rejected.
pub late_place : (p : Program) (box number : ℕ) (q : Proc Ref) (frame : Frame) →
    procedure_of p box number ≡ Some q → MayBegin p box number q frame →
    is_late (compiled p) frame ≡ true →
    (K.is_total q.form ≡ true) ⊎
    ((has_late q.form ≡ true) ⊎ ((frame.place ≡ 1) × (K.is_total q.form ≡ false)))
late_place p box number q frame there (AtEntry args are is) late =
    inl (form q.form (total (sym (ap (λ (f : Frame). is_late (compiled p) f) is) ∙ late)))
  where
    total : J.is_total (slice_get (compiled p) (number_of p box number)) ≡ true →
        begins_total (entry_of q.form) ≡ true
    total h = ap J.is_total (sym
        (code-found p box number ∙ ap (λ (o : Option (Proc Ref)). option_map method_code o) there)) ∙ h

    form : (f : Form Ref) → begins_total (entry_of f) ≡ true → K.is_total f ≡ true
    form (F.Total ss) h = refl
    form (F.Partial alts) h = h
    form (F.Action alts) h = h
late_place p box number q frame there (AtPlace is later place) late =
    inr (later_place q frame.place frame.slots later place)
