-- What the calls of the interpreter answer, each by the meaning that it meets. Want of memory is free.
use Rattle.std.specs.Prelude.{◌≡◌, ℕ, ℤ, suc, List, None, Result, Ok, Err}
use Rattle.seuss_base.specs.declared.outcome.Trap.{Trap}
use Rattle.seuss_base.specs.declared.outcome.Outcome.TheVariants as O
use Rattle.seuss_program.specs.declared.state.Value.{Value}
use Rattle.seuss_program.specs.declared.state.Value.TheVariants as V
use Rattle.seuss_program.specs.declared.state.State.{State}
use Rattle.seuss_program.specs.Values.{Evaluated, Part}
use Rattle.seuss_program.specs.Bodies as B
use Rattle.seuss_program.specs.Bodies.{Ran, Called}
use Rattle.tight_order.specs.declared.stop.Stop.{Stop}
use Rattle.tight_order.specs.declared.stop.Stop.TheVariants as S
use Rattle.tight_order.specs.declared.frame.Frame.{Frame}
use Rattle.tight_order.specs.declared.frame.Reply.{Reply}
use Rattle.tight_order.specs.declared.frame.Reply.TheVariants as R

-- an evaluation gives the value, or stops by the trap
abbrev pub Evaluates : Result Value Stop → Evaluated → Type 0
Evaluates (Ok v) e = e ≡ Ok v
Evaluates (Err (S.Trapped t)) e = e ≡ Err t
Evaluates (Err S.Spent) e = ⊥
Evaluates (Err S.Memory) e = Unit {0}

-- the value of a part, in every place: beside a literal too, since no sequence in memory has a length
-- that 64 bits don't hold
pub record HasValue (result : Result Value Stop) (part : Part) (vars slots : List Value) : Type 0 where
  pub value : Evaluates result (part.value vars slots)
  pub beside : Evaluates result (part.beside vars slots)

-- a computation gives the number that is the value, or stops by the trap
abbrev pub EvaluatesNumber : Result ℤ Stop → Evaluated → Type 0
EvaluatesNumber (Ok z) e = e ≡ Ok (V.Int z)
EvaluatesNumber (Err (S.Trapped t)) e = e ≡ Err t
EvaluatesNumber (Err S.Spent) e = ⊥
EvaluatesNumber (Err S.Memory) e = Unit {0}

-- what is read of a value, where there is one
abbrev pub read_as : {A : Type 0} → (Value → A) → Result Value Stop → Result A Stop
read_as read (Ok v) = Ok (read v)
read_as read (Err s) = Err s

-- a result is what is read of the value of a part, in every place
pub record IsRead {A : Type 0} (read : Value → A) (result : Result A Stop) (part : Part)
    (vars slots : List Value) : Type 0 where
  pub whole : Result Value Stop
  pub has : HasValue whole part vars slots
  pub same : result ≡ read_as read whole

-- arguments give their values from left to right, or stop by the first trap
abbrev pub Gives : Result (List Value) Stop → Result (List Value) Trap → Type 0
Gives (Ok values) e = e ≡ Ok values
Gives (Err (S.Trapped t)) e = e ≡ Err t
Gives (Err S.Spent) e = ⊥
Gives (Err S.Memory) e = Unit {0}

-- a run of statements leaves this state, these slots and this budget, and is done or stopped
abbrev pub Ends : Result (Unit {0}) Stop → Ran → State → Frame → Type 0
Ends (Ok done) ran state frame = ran ≡ record
    { state = state; slots = frame.slots; budget = frame.budget; finish = B.Done }
Ends (Err (S.Trapped t)) ran state frame = ran ≡ record
    { state = state; slots = frame.slots; budget = frame.budget; finish = B.Trapped t }
Ends (Err S.Spent) ran state frame = ran ≡ record
    { state = state; slots = frame.slots; budget = frame.budget; finish = B.Spent }
Ends (Err S.Memory) ran state frame = Unit {0}

-- a cost of 1: it is paid, or nothing is left to pay it from
abbrev pub Pays : Result (Unit {0}) Stop → Frame → Frame → Type 0
Pays (Ok paid) old new = (new.slots ≡ old.slots) × (old.budget ≡ suc new.budget)
Pays (Err S.Spent) old new = (new ≡ old) × (old.budget ≡ 0)
Pays (Err (S.Trapped t)) old new = ⊥
Pays (Err S.Memory) old new = ⊥

-- an attempt leaves this state and this budget, and accepts, rejects or is stopped
abbrev pub Replies : Result Reply Stop → Called → State → ℕ → Type 0
Replies (Ok (R.Accepted result)) called state budget =
    called ≡ record { outcome = O.Accepted; result = result; state = state; budget = budget }
Replies (Ok R.Rejected) called state budget = called
    ≡ record { outcome = O.Rejected; result = None; state = state; budget = budget }
Replies (Err (S.Trapped t)) called state budget =
    called ≡ record { outcome = O.Trapped t; result = None; state = state; budget = budget }
Replies (Err S.Spent) called state budget = called
    ≡ record { outcome = O.Spent; result = None; state = state; budget = budget }
Replies (Err S.Memory) called state budget = Unit {0}
