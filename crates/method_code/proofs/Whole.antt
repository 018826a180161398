-- The chain of an action is its attempt.
use Rattle.std.proofs.Common.{◌≡◌, ℕ, zero, suc, ◌+◌, ◌*◌, ◌≤◌, ℤ, Bool, true, false, if◌then◌else◌, []}
use Rattle.std.proofs.Common.{Option, None, Some, refl, arith, lt-suc_self}
use Rattle.seuss_base.specs.declared.outcome.PassEnd.TheVariants as P
use Rattle.seuss_base.specs.declared.outcome.Outcome.{Outcome}
use Rattle.seuss_base.specs.declared.outcome.Outcome.TheVariants as O
use Rattle.seuss_program.specs.declared.program.Program.{Program}
use Rattle.seuss_program.specs.declared.program.ActionInfo.{ActionInfo}
use Rattle.seuss_program.specs.declared.state.State.{State}
use Rattle.seuss_program.specs.Programs.{level_of, vars_of}
use Rattle.seuss_program.specs.Bodies.{Called}
use Rattle.seuss_program.specs.Attempts.{action_attempt}
use Rattle.seuss_program.specs.Keeping.{Keeps}
use Rattle.method_code.specs.declared.activation.Activation.{Activation}
use Rattle.method_code.specs.Codes.{number_of, compiled}
use Rattle.method_code.specs.Steps.{Stepped, step}
use Rattle.method_code.specs.Chains.{Passed, Turned, Next, Over, turned, went_on, with_vars, chain, begun}
use Rattle.method_code.specs.Chains.{outcome_of}
use Rattle.method_code.specs.Passes.{EndsAs}
use Rattle.method_code.proofs.Following.{CallFollows}
use Rattle.method_code.proofs.Attempting.{all_good}
use Rattle.method_code.proofs.LevelLemmas.{levels_few}

-- a pass that is over is over with more steps too
longer : (p : Program) (n m : ℕ) (a : Activation) (σ : State) (budget : ℕ) (passed : Passed) → n ≤ m →
    chain p n a σ budget ≡ Some passed → chain p m a σ budget ≡ Some passed
longer p zero m a σ budget passed le h = absurd (none_some h)
  where
    none_some : None ≡ Some passed → ⊥
    none_some h = cc
longer p (suc n) zero a σ budget passed le h = absurd (omega (arith, le))
longer p (suc n) (suc m) a σ budget passed le h =
    let s : Stepped = step (compiled p) a.frame budget (vars_of σ a.box_number) in
    by (λ next τ left. longer p n m next τ left passed (omega (arith, le)))
    (turned p (record a { frame = s.frame }) s.end) (with_vars σ a.box_number s.vars) s.budget h
  where
    by : ((next : Activation) (τ : State) (left : ℕ) → chain p n next τ left ≡ Some passed →
        chain p m next τ left ≡ Some passed) →
        (t : Turned) (τ : State) (left : ℕ) → went_on t τ left (chain p n) ≡ Some passed →
        went_on t τ left (chain p m) ≡ Some passed
    by goes (Next next) τ left h = goes next τ left h
    by goes (Over end) τ left h = h

module _ (p : Program) (a : ActionInfo) (σ : State) (budget steps : ℕ)
    (enough : 2 * budget + 2 * level_of p a.box_number + 1 ≤ steps) where
  -- a chain that is over ends as the attempt
  ends : (j : ℕ) (passed : Passed) (called : Called) → j ≤ 2 * budget + 2 * level_of p a.box_number →
      chain p (suc j) (begun p a) σ budget ≡ Some passed →
      outcome_of passed.end ≡ called.outcome → passed.state ≡ called.state → passed.budget ≡ called.budget →
      EndsAs (chain p steps (begun p a) σ budget) called
  ends j passed called le h o s b =
      record {
        passed = passed;
        over = longer p (suc j) steps (begun p a) σ budget passed
            (omega (arith, le, enough)) h;
        outcome = o;
        state = s;
        budget = b;
      }

  -- by the outcome of the attempt
  by_outcome : (outcome : Outcome) (found : Option ℤ) (τ : State) (left : ℕ) →
      CallFollows p a.box_number (number_of p a.box_number a.procedure) [] false false
      (λ n. chain p (suc n) (begun p a) σ budget) budget (2 * budget + 2 * level_of p a.box_number)
      outcome found τ left →
      EndsAs (chain p steps (begun p a) σ budget)
      (record { outcome = outcome; result = found; state = τ; budget = left })
  by_outcome O.Accepted found τ left f = let x = f.by 0 in
      ends x.0 (record { end = P.Accepted; state = τ; budget = left }) _ (omega (arith, x.1)) x.2 refl refl
      refl
  by_outcome O.Rejected found τ left f =
      let x = f.1.by 0 in ends x.0
      (record { end = if f.0 then P.PlainRejected else P.Rejected; state = τ; budget = left }) _
      (omega (arith, x.1)) x.2 (either f.0) refl refl
    where
      either : (b : Bool) → outcome_of (if b then P.PlainRejected else P.Rejected) ≡ O.Rejected
      either true = refl
      either false = refl
  by_outcome (O.Trapped t) found τ left f = let x = f.by in
      ends x.0 (record { end = P.Trapped t; state = τ; budget = left }) _ x.1 x.2 refl refl refl
  by_outcome O.Spent found τ left f = let x = f.by in
      ends x.0 (record { end = P.Spent; state = τ; budget = left }) _ x.1 x.2 refl refl refl

-- a chain of enough steps is the attempt
pub chain-attempt : (p : Program) → Keeps p → (a : ActionInfo) (σ : State) (budget steps : ℕ) →
    2 * budget + 2 * level_of p a.box_number + 1 ≤ steps →
    EndsAs (chain p steps (begun p a) σ budget) (action_attempt p (Some a) σ budget)
chain-attempt p keeps a σ budget steps enough =
    let called : Called = action_attempt p (Some a) σ budget in
    by_outcome p a σ budget steps enough called.outcome called.result called.state called.budget
    ((all_good p keeps (suc (level_of p a.box_number)) a.box_number a.procedure (lt-suc_self _)).any.by [] σ
    budget [] false)

-- with a budget of at most 1,000,000 it is over after 2,000,300 steps
pub chain_soon-over : (p : Program) → Keeps p → (a : ActionInfo) (σ : State) (budget steps : ℕ) →
    budget ≤ 1000000 → 2000300 ≤ steps →
    EndsAs (chain p steps (begun p a) σ budget) (action_attempt p (Some a) σ budget)
chain_soon-over p keeps a σ budget steps small many =
    let few : level_of p a.box_number ≤ 128 = levels_few p keeps a.box_number in
    chain-attempt p keeps a σ budget steps (omega (arith, few, small, many))
