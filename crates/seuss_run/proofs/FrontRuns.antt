-- The front of a run that stops nowhere, executed one at a time.
use Rattle.std.proofs.Common.{◌≡◌, ℕ, ℤ, false, List, [], ◌∷◌, ◌++◌, refl, sym, ap, ◌∙◌, subst}
use Rattle.std.specs.Prelude.{slice_get}
use Rattle.std.proofs.lemmas.List.Elements.{All-head, All-tail}
use Rattle.seuss_base.specs.declared.outcome.Outcome.{Outcome}
use Rattle.seuss_base.specs.declared.outcome.Outcome.TheVariants as O
use Rattle.seuss_program.specs.declared.order.Placed.{Placed}
use Rattle.seuss_program.specs.declared.program.Program.{Program}
use Rattle.seuss_program.specs.declared.state.State.{State}
use Rattle.seuss_program.specs.Attempts.{tight, action_attempt}
use Rattle.seuss_program.specs.Initials.{initial}
use Rattle.seuss_program.specs.Orders.{stops}
use Rattle.safety_check.specs.declared.property.Property.{Property}
use Rattle.safety_check.specs.Properties.{All_ended, Ended, Holds}
use Rattle.seuss_run.specs.Holding.{HoldsAlong}
use Rattle.seuss_run.specs.Runs.{NoneStops, Reports, actions_of, outcomes_of}

-- the outcomes of a front of an order are those of executing its actions one at a time
front_outcomes : (p : Program) (front behind : List Placed) (state : State) (budget : ℕ) →
    (tight p (actions_of (front ++ behind)) state budget).outcomes ≡ outcomes_of (front ++ behind) →
    (tight p (actions_of front) state budget).outcomes ≡ outcomes_of front
front_outcomes p [] behind state budget same = refl
front_outcomes p (x ∷ front) behind state budget same =
    let left = action_attempt p (slice_get p.actions x.action) state budget in
    let first : left.outcome ≡ x.outcome = cc same in
    let others : (tight p (actions_of (front ++ behind)) left.state budget).outcomes ≡
    outcomes_of (front ++ behind) = cc same in
    ap (λ o. o ∷ (tight p (actions_of front) left.state budget).outcomes) first
    ∙ ap (λ os. x.outcome ∷ os) (front_outcomes p front behind left.state budget others)

-- what doesn't stop a run is accepted or rejected
goes_on : (o : Outcome) → stops o ≡ false → Ended o
goes_on O.Accepted none = tt
goes_on O.Rejected none = tt
goes_on (O.Trapped t) none = absurd (cc none)
goes_on O.Spent none = absurd (cc none)

all_go_on : (front : List Placed) → NoneStops front → All_ended (outcomes_of front)
all_go_on [] none = tt
all_go_on (x ∷ front) none = (
  goes_on x.outcome (All-head (λ (e : Placed). stops e.outcome ≡ false) x front none),
  all_go_on front (All-tail (λ (e : Placed). stops e.outcome ≡ false) x front none),
)

-- a property that holds after each row of attempts that are accepted or rejected holds all along what is
-- printed of a run
pub along : (p : Program) (property : Property) (input : List ℤ) (rounds budget status : ℕ)
    (order : List Placed) (state : State) (text : List ℕ) →
    ((actions : List ℕ) → All_ended (tight p actions (initial p input) budget).outcomes →
    Holds p property (tight p actions (initial p input) budget).state) →
    Reports p input rounds budget order state status text → HoldsAlong p property input budget order
along p property input rounds budget status order state text rows reports front behind split none =
    rows (actions_of front)
    (subst All_ended
    (sym (front_outcomes p front behind (initial p input) budget
    (subst (λ (o : List Placed). (tight p (actions_of o) (initial p input) budget).outcomes ≡ outcomes_of o)
    split reports.one_at_a_time.outcomes)))
    (all_go_on front none))
