-- What contracts see of the threaded engine, and what it keeps: which turns its boxes lie in, and which ready queue.
use Rattle.std.specs.Prelude.{◌≡◌, ℕ, List, map, Some, slice_get}
use Rattle.atomic_table.specs.Seated.{TableId}
use Rattle.atomic_blocks.specs.Laid.{WebId}
use Rattle.seuss_program.specs.declared.state.State.{State}
use Rattle.seuss_program.specs.declared.state.Value.{Value}
use Rattle.method_code.specs.declared.method.Method.{Method}
use Rattle.method_code.specs.declared.plan.Plan.{Plan}
use Rattle.method_code.specs.Plans.{AreMadeFrom}
use Rattle.box_turn.specs.Seats as T
use Rattle.round_ledger.specs.Cells.{CellState}
use Rattle.pass_seats.specs.Names.{Names, AreNames}
use Rattle.worker_seats.specs.Workers.{Ring, WorkerState, ring_of}

-- which turn it is
abbrev pub name_of : T.TurnState ℕ → TableId
name_of t = t.name

-- the ring of these turns and this queue
abbrev pub ring_with : List (T.TurnState ℕ) → WebId → Ring
ring_with turns queue = record { turns = map name_of turns; queue = queue }

-- the turn of this box, at which each seat of the engine has a seat
pub record IsTurnOf (names : Names) (b : ℕ) (t : T.TurnState ℕ) : Type 0 where
  pub box : t.names ≡ b
  pub seats : t.seats ≡ names.seats

-- the turns of boxes, by their numbers
pub record AreTurns (names : Names) (turns : List (T.TurnState ℕ)) : Type 0 where
  pub each : (b : ℕ) (t : T.TurnState ℕ) → slice_get turns b ≡ Some t → IsTurnOf names b t

-- What an engine runs: the code and the plan of the program that its names are of, from their first state, with the
-- budget and the quit word of these names. The ledger has a part for each seat.
pub record IsSetUp (names : Names) (code : List Method) (first : ℕ → List Value) (parts : ℕ)
    (running : List Method) (plan : Plan) (from : State) (budget : ℕ) (quit : TableId) : Type 0 where
  pub named : AreNames names code first
  pub code_is : running ≡ code
  pub made : AreMadeFrom names.setting.program running plan
  pub from_is : from ≡ names.first
  pub budget_is : budget ≡ names.setting.budget
  pub quit_is : quit ≡ names.quit
  pub parts_is : parts ≡ names.seats

-- a seat of the engine with this ring
abbrev pub IsSeatOf : Ring → WorkerState → Type 0
IsSeatOf ring s = ring_of s ≡ ring

-- a cell of the engine's scheduler
pub record IsSchedOf (names : Names) (cell : CellState) : Type 0 where
  pub journal : cell.journal.name ≡ names.sched
  pub setting : cell.setting ≡ names.setting.scheduler
  pub seats : cell.seats ≡ names.seats
