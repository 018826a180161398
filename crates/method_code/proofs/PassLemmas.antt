-- How a pass goes on in code: step by step, up to its end.
use Rattle.std.proofs.Common.{◌≡◌, ℕ, suc, List, Option, Some, Ok, sym, ap, subst, ◌∙◌}
use Rattle.std.specs.Prelude.{slice_get, slice_index_or, unwrap_or}
use Rattle.std.proofs.lemmas.Option.{get_or_from_slice_get}
use Rattle.seuss_base.specs.declared.outcome.PassEnd.{PassEnd}
use Rattle.seuss_program.specs.declared.program.Program.{Program}
use Rattle.seuss_program.specs.declared.program.ActionInfo.{ActionInfo}
use Rattle.seuss_program.specs.declared.state.State.{State}
use Rattle.seuss_program.specs.Programs.{vars_of}
use Rattle.seuss_program.specs.Attempts.{action_attempt}
use Rattle.method_code.specs.declared.frame.End.{End}
use Rattle.method_code.specs.declared.frame.Turn.{Turn}
use Rattle.method_code.specs.declared.frame.Turn.TheVariants as T
use Rattle.method_code.specs.declared.method.Method.{Method}
use Rattle.method_code.specs.declared.activation.Activation.{Activation}
use Rattle.method_code.specs.Answers.{StepsOn, Turns}
use Rattle.method_code.specs.Codes.{compiled}
use Rattle.method_code.specs.Steps.{Stepped, step}
use Rattle.method_code.specs.Chains.{Turned, Next, Over, Passed, begun, beginning, turned, with_vars}
use Rattle.method_code.specs.Chains.{went_on, chain, outcome_of}
use Rattle.method_code.specs.Passes.{EndsAs}

module _ (p : Program) (a : Activation) (σ : State) (budget : ℕ) where
  -- the next step of a pass
  abbrev next : Stepped
  next = step (compiled p) a.frame budget (vars_of σ a.box_number)

  -- a pass after its next step, by what that leaves
  pub chain-step : (m : ℕ) (a' : Activation) (σ' : State) (end : End) (left : ℕ) →
      a' ≡ record a { frame = next.frame } → σ' ≡ with_vars σ a.box_number next.vars → end ≡ next.end →
      left ≡ next.budget →
      chain p (suc m) a σ budget ≡ went_on (turned p a' end) σ' left (chain p m)
  chain-step m a' σ' end left h1 h2 h3 h4 =
      ap (λ (x : Activation). went_on (turned p x next.end) (with_vars σ a.box_number next.vars) next.budget
      (chain p m)) (sym h1)
      ∙ (ap (λ (x : State). went_on (turned p a' next.end) x next.budget (chain p m)) (sym h2)
      ∙ (ap (λ (x : End). went_on (turned p a' x) σ' next.budget (chain p m)) (sym h3)
      ∙ ap (λ (x : ℕ). went_on (turned p a' end) σ' x (chain p m)) (sym h4)))

-- where a pass goes on
pub goes-on : (p : Program) (m : ℕ) (t : Turned) (a : Activation) (σ : State) (left : ℕ) → t ≡ Next a →
    went_on t σ left (chain p m) ≡ chain p m a σ left
goes-on p m t a σ left h = ap (λ (x : Turned). went_on x σ left (chain p m)) h

-- where a pass is over
pub is-over : (p : Program) (m : ℕ) (t : Turned) (end : PassEnd) (σ : State) (left : ℕ) → t ≡ Over end →
    went_on t σ left (chain p m) ≡ Some (record { end = end; state = σ; budget = left })
is-over p m t end σ left h = ap (λ (x : Turned). went_on x σ left (chain p m)) h

-- what is found is one value
same-passed : (x y : Passed) → Some x ≡ Some y → x ≡ y
same-passed x y h = ap (λ o. unwrap_or o x) h

-- a pass that is over is the attempt
pub is-attempt : (p : Program) (action n : ℕ) (a : ActionInfo) (σ : State) (budget : ℕ) (passed : Passed) →
    slice_get p.actions action ≡ Some a →
    EndsAs (chain p n (begun p a) σ budget) (action_attempt p (Some a) σ budget) →
    chain p n (beginning p action) σ budget ≡ Some passed →
    (outcome_of passed.end ≡ (action_attempt p (slice_get p.actions action) σ budget).outcome)
    × (passed.state ≡ (action_attempt p (slice_get p.actions action) σ budget).state)
is-attempt p action n a σ budget passed there ends over =
    let there' : slice_index_or p.actions action (record { box_number = 0; procedure = 0 }) ≡ a =
    get_or_from_slice_get p.actions action a (record { box_number = 0; procedure = 0 }) there in
    let same : passed ≡ ends.passed = same-passed passed ends.passed
    (sym over ∙ (ap (λ (x : ActionInfo). chain p n (begun p x) σ budget) there' ∙ ends.over)) in (
      ap (λ (x : Passed). outcome_of x.end) same ∙
          (ends.outcome ∙ ap (λ (o : Option ActionInfo). (action_attempt p o σ budget).outcome)
          (sym there)),
      ap (λ (x : Passed). x.state) same ∙
          (ends.state ∙ ap (λ (o : Option ActionInfo). (action_attempt p o σ budget).state) (sym there)),
    )

-- what came after a step: the next one, or the end
pub turned-next : (f : Turn) (box : ℕ) (t : Turned) (a : Activation) → f ≡ T.Next box → Turns (Ok f) t a →
    t ≡ Next a
turned-next f box t a is turns = (subst (λ (f : Turn). Turns (Ok f) t a) is turns).0

-- a pass that is over turned so
pub turned-over : (f : Turn) (end : PassEnd) (t : Turned) (a : Activation) → f ≡ T.Over end →
    Turns (Ok f) t a → t ≡ Over end
turned-over f end t a is turns = subst (λ (f : Turn). Turns (Ok f) t a) is turns

-- a step by the compiled code
pub by-compiled : (p : Program) (code : List Method) (end : End) (a a' : Activation) (σ σ' : State)
    (budget left : ℕ) → code ≡ compiled p →
    StepsOn (Ok end) a σ (step code a.frame budget (vars_of σ a.box_number)) a' σ' left →
    StepsOn (Ok end) a σ (step (compiled p) a.frame budget (vars_of σ a.box_number)) a' σ' left
by-compiled p code end a a' σ σ' budget left is on =
    subst (λ (ms : List Method). StepsOn (Ok end) a σ (step ms a.frame budget (vars_of σ a.box_number)) a'
    σ' left) is on
