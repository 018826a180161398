-- What the calls of this crate answer, each by the definition that it meets. Want of memory is free.
use Rattle.std.specs.Prelude.{◌≡◌, ℕ, List, Result, Ok, Err}
use Rattle.seuss_base.specs.declared.memory.Memory.{Memory}
use Rattle.seuss_program.specs.declared.state.Value.{Value}
use Rattle.method_code.specs.declared.instruction.Move.{Move}
use Rattle.method_code.specs.declared.frame.Frame.{Frame}
use Rattle.method_code.specs.declared.frame.End.{End}
use Rattle.method_code.specs.declared.frame.Turn.{Turn}
use Rattle.method_code.specs.declared.frame.Turn.TheVariants as T
use Rattle.method_code.specs.declared.activation.Activation.{Activation}
use Rattle.method_code.specs.Steps.{Acted, Halted, Stepped}
use Rattle.seuss_program.specs.declared.state.State.{State}
use Rattle.method_code.specs.Chains.{Turned, Next, Over, with_vars}

-- an instruction leaves these variables and slots, and goes on so
abbrev pub Acts : Result Move Memory → Acted → List Value → List Value → Type 0
Acts (Ok move) acted vars slots = acted ≡ record { vars = vars; slots = slots; move = move }
Acts (Err refused) acted vars slots = Unit {0}

-- instructions halt at this place, with these variables and slots
abbrev pub Halts : Result (ℕ × Move) Memory → Halted → List Value → List Value → Type 0
Halts (Ok found) halted vars slots = halted ≡ record
    { at = found.0; vars = vars; slots = slots; move = found.1 }
Halts (Err refused) halted vars slots = Unit {0}

-- a step leaves these variables, this frame and this budget, and ends so
abbrev pub Steps : Result End Memory → Stepped → List Value → Frame → ℕ → Type 0
Steps (Ok end) stepped vars frame budget = stepped
    ≡ record { vars = vars; frame = frame; budget = budget; end = end }
Steps (Err refused) stepped vars frame budget = Unit {0}

-- a step of a pass leaves the frame, the variables of its box and the budget, and ends so
abbrev pub StepsOn : Result End Memory → Activation → State → Stepped → Activation → State → ℕ → Type 0
StepsOn (Ok end) pass state stepped pass' state' budget' =
    (pass' ≡ record pass { frame = stepped.frame })
    × (state' ≡ with_vars state pass.box_number stepped.vars) × (end ≡ stepped.end)
    × (budget' ≡ stepped.budget)
StepsOn (Err refused) pass state stepped pass' state' budget' = Unit {0}

-- a pass goes on from this activation, on its box, or it is over
abbrev pub Turns : Result Turn Memory → Turned → Activation → Type 0
Turns (Ok (T.Next box)) turned a = (turned ≡ Next a) × (box ≡ a.box_number)
Turns (Ok (T.Over end)) turned a = turned ≡ Over end
Turns (Err refused) turned a = Unit {0}
