-- A pass follows the recursive meaning: after enough more steps it is where that meaning is.
use Rattle.std.proofs.Common.{◌≡◌, ℕ, suc, ◌+◌, ◌*◌, ◌≤◌, ℤ, Bool, true, false, List, [], Option, Some, ◌∙◌}
use Rattle.std.proofs.Common.{arith}
use Rattle.seuss_base.specs.declared.outcome.PassEnd.{PassEnd}
use Rattle.seuss_base.specs.declared.outcome.PassEnd.TheVariants as P
use Rattle.seuss_base.specs.declared.outcome.Outcome.{Outcome}
use Rattle.seuss_base.specs.declared.outcome.Outcome.TheVariants as O
use Rattle.seuss_program.specs.declared.program.Program.{Program}
use Rattle.seuss_program.specs.declared.state.Value.{Value}
use Rattle.seuss_program.specs.declared.state.State.{State}
use Rattle.seuss_program.specs.Bodies.{Finish, Done, Trapped, Spent, Ran, Called, Callee, Meaning, resumed}
use Rattle.method_code.specs.declared.activation.Waiting.{Waiting}
use Rattle.method_code.specs.declared.activation.Activation.{Activation}
use Rattle.method_code.specs.Codes.{number_of, compiled}
use Rattle.method_code.specs.Steps.{entry}
use Rattle.method_code.specs.Chains.{Passed, went_on, chain, accepted, rejected, last_of}

-- a pass by the number of steps that it may still make
abbrev pub Going : Type 0
Going = ℕ → Option Passed

-- a pass that is over
abbrev pub over : PassEnd → State → ℕ → Option Passed
over end σ budget = Some (record { end = end; state = σ; budget = budget })

-- One pass comes to be another one. Of the steps that it is allowed, two are left for each 1 of the
-- budget that is left.
pub record Leads (here there : Going) (budget allowed left : ℕ) : Type 0 where
  pub less : left ≤ budget
  pub by : (k : ℕ) → (j : ℕ) × (j + 2 * left ≤ k + allowed) × (here j ≡ there k)

-- a pass is over after at most so many steps
pub record Ends (here : Going) (allowed : ℕ) (passed : Option Passed) : Type 0 where
  pub by : (j : ℕ) × (j ≤ allowed) × (here j ≡ passed)

-- where statements that end so leave a pass
abbrev pub Follows : Going → (State → List Value → ℕ → Going) → ℕ → ℕ → State → List Value → ℕ → Finish →
    Type 0
Follows here there budget allowed σ slots left Done = Leads here (there σ slots left) budget allowed left
Follows here there budget allowed σ slots left (Trapped t) = Ends here allowed (over (P.Trapped t) σ left)
Follows here there budget allowed σ slots left Spent = Ends here allowed (over P.Spent σ left)

-- code follows what a body ran to
abbrev pub FollowsRan : Going → (State → List Value → ℕ → Going) → ℕ → ℕ → Ran → Type 0
FollowsRan here there budget allowed ran = Follows here there budget allowed ran.state ran.slots ran.budget
    ran.finish

-- code that leads to code that leads on leads on
pub leads_then : (here mid there : Going) (budget allowed middle left : ℕ) →
    Leads here mid budget allowed middle → Leads mid there middle (2 * middle) left →
    Leads here there budget allowed left
leads_then here mid there budget allowed middle left a b = record {
  less = omega (arith, a.less, b.less);
  by = λ k. let y = b.by k in let x = a.by y.0 in (x.0, omega (arith, x.1, y.1), x.2 ∙ y.2);
}

-- code that leads to code that ends ends
pub ends_then : (here mid : Going) (budget allowed middle : ℕ) (passed : Option Passed) →
    Leads here mid budget allowed middle → Ends mid (2 * middle) passed → Ends here allowed passed
ends_then here mid budget allowed middle passed a b =
    let y = b.by in let x = a.by y.0 in record { by = (x.0, omega (arith, x.1, y.1), x.2 ∙ y.2) }

-- what a pass comes to be follows, so it follows
pub follows_then : (here mid : Going) (there : State → List Value → ℕ → Going) (budget allowed middle : ℕ)
    (σ : State) (slots : List Value) (left : ℕ) (f : Finish) →
    Leads here mid budget allowed middle → Follows mid there middle (2 * middle) σ slots left f →
    Follows here there budget allowed σ slots left f
follows_then here mid there budget allowed middle σ slots left Done a b =
    leads_then here mid (there σ slots left) budget allowed middle left a b
follows_then here mid there budget allowed middle σ slots left (Trapped t) a b =
    ends_then here mid budget allowed middle _ a b
follows_then here mid there budget allowed middle σ slots left Spent a b =
    ends_then here mid budget allowed middle _ a b

-- one meaning after another
pub in_order : (here : Going) (mid there : State → List Value → ℕ → Going) (budget allowed : ℕ) (σ : State)
    (slots : List Value) (left : ℕ) (f : Finish) (next : Meaning) →
    Follows here mid budget allowed σ slots left f →
    ((τ : State) (ss : List Value) (b : ℕ) → b ≤ budget →
    FollowsRan (mid τ ss b) there b (2 * b) (next τ ss b)) →
    FollowsRan here there budget allowed
    (resumed f (record { state = σ; slots = slots; budget = left; finish = f }) next)
in_order here mid there budget allowed σ slots left Done next a b =
    follows_then here (mid σ slots left) there budget allowed left _ _ _ _ a (b σ slots left a.less)
in_order here mid there budget allowed σ slots left (Trapped t) next a b = a
in_order here mid there budget allowed σ slots left Spent next a b = a

-- a pass that is the same, and a place that is the same
pub follows_as : (here here' : Going) (there there' : State → List Value → ℕ → Going) (budget allowed : ℕ)
    (σ : State) (slots : List Value) (left : ℕ) (f : Finish) →
    ((n : ℕ) → here n ≡ here' n) → ((n : ℕ) → there' σ slots left n ≡ there σ slots left n) →
    Follows here' there' budget allowed σ slots left f →
    Follows here there budget allowed σ slots left f
follows_as here here' there there' budget allowed σ slots left Done e d a =
    record { less = a.less; by = λ k. let x = a.by k in (x.0, x.1, e x.0 ∙ (x.2 ∙ d k)) }
follows_as here here' there there' budget allowed σ slots left (Trapped t) e d a = let x = a.by in
    record { by = (x.0, x.1, e x.0 ∙ x.2) }
follows_as here here' there there' budget allowed σ slots left Spent e d a = let x = a.by in
    record { by = (x.0, x.1, e x.0 ∙ x.2) }

-- after 1 was paid
pub follows_paid : (here : Going) (there : State → List Value → ℕ → Going) (budget : ℕ) (σ : State)
    (slots : List Value) (left : ℕ) (f : Finish) →
    Follows here there budget (2 * budget) σ slots left f →
    Follows here there (suc budget) (2 * suc budget) σ slots left f
follows_paid here there budget σ slots left Done a =
    record { less = omega (arith, a.less); by = λ k. let x = a.by k in (x.0, omega (arith, x.1), x.2) }
follows_paid here there budget σ slots left (Trapped t) a = let x = a.by in
    record { by = (x.0, omega (arith, x.1), x.2) }
follows_paid here there budget σ slots left Spent a = let x = a.by in
    record { by = (x.0, omega (arith, x.1), x.2) }

-- a pass that comes to be the same with no step
pub leads_as : (here there : Going) (budget : ℕ) → ((n : ℕ) → here n ≡ there n) →
    Leads here there budget (2 * budget) budget
leads_as here there budget e = record { less = omega arith; by = λ k. (k, omega arith, e k) }

-- the activation of a procedure that has just been left
abbrev pub left_at : ℕ → ℕ → List Waiting → Bool → Activation
left_at box method ws plain = record {
  box_number = box;
  frame = record { method = method; place = 0; slots = [] };
  waiting = ws;
  plain =
      plain;
}

-- an activation at its entry
abbrev pub start : Program → ℕ → ℕ → List Value → List Waiting → Bool → Activation
start p box number args ws plain = record {
  box_number = box;
  frame = entry (compiled p) (number_of p box number) args;
  waiting = ws;
  plain =
      plain;
}

module _ (p : Program) (box method : ℕ) (ws : List Waiting) (plain : Bool) where
  -- the procedure has accepted, or rejected
  abbrev pub accepting : Option ℤ → State → ℕ → Going
  accepting found σ left k = went_on (accepted (left_at box method ws plain) found (last_of ws)) σ left
      (chain p k)

  -- a caller goes on after a rejection
  abbrev pub rejecting : Bool → State → ℕ → Going
  rejecting plainly σ left k = went_on (rejected (left_at box method ws plain) plainly (last_of ws)) σ left
      (chain p k)

  -- where a call that ends so leaves a pass; a total one doesn't reject
  abbrev pub CallFollows : Bool → Going → ℕ → ℕ → Outcome → Option ℤ → State → ℕ → Type 0
  CallFollows total here budget allowed O.Accepted found σ left =
      Leads here (accepting found σ left) budget allowed left
  CallFollows true here budget allowed O.Rejected found σ left = ⊥
  CallFollows false here budget allowed O.Rejected found σ left =
      (plainly : Bool) × Leads here (rejecting plainly σ left) budget allowed left
  CallFollows total here budget allowed (O.Trapped t) found σ left =
      Ends here allowed (over (P.Trapped t) σ left)
  CallFollows total here budget allowed O.Spent found σ left = Ends here allowed (over P.Spent σ left)

  -- code follows what a call came to
  abbrev pub FollowsCalled : Bool → Going → ℕ → ℕ → Called → Type 0
  FollowsCalled total here budget allowed called =
      CallFollows total here budget allowed called.outcome called.result called.state called.budget

-- A procedure of a box does what the meaning of calls says, whoever waits for it. It may make so many
-- steps beside two for each 1 of the budget.
pub record Performs (p : Program) (callee : Callee) (total : Bool) (extra box number : ℕ) : Type 0 where
  pub by : (args : List Value) (σ : State) (budget : ℕ) (ws : List Waiting) (plain : Bool) →
      FollowsCalled p box (number_of p box number) ws plain total
      (λ n. chain p (suc n) (start p box number args ws plain) σ budget) budget (2 * budget + extra)
      (callee box number args σ budget)
