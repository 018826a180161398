-- Which parts of an engine, and so which engines, may be shared.
use denote.Builtin.{u32}
use denote.Ref.{NamedLft}
use denote.RattleType.{RattleType}
use denote.Struct.Declared.{shape}
use denote.Param.Send.{IsSend, IsSync, recorded_sync, sendable, struct_sync, view_sync}
use Rattle.std.proofs.Crossing.{crosses}
use Rattle.std.proofs.Crossing as heap
use Rattle.std.specs.declared.sync.ledger.Ledger as ledger
use Rattle.std.proofs.option.Option.TheSendSync as option
use Rattle.std.proofs.sync.Mutex.TheSendSync as mutex
use Rattle.seuss_base.proofs.list.List.TheSendSync as list
use Rattle.seuss_base.proofs.boxed.Box.TheSendSync as boxed
use Rattle.seuss_program.proofs.state.State.TheSendSync as state
use Rattle.seuss_program.proofs.state.Value.TheSendSync as value
use Rattle.seuss_program.proofs.tree.Fun.TheSendSync as fun
use Rattle.seuss_program.proofs.tree.Op.TheSendSync as op
use Rattle.seuss_program.proofs.tree.Ref.TheSendSync as ref
use Rattle.seuss_program.proofs.tree.Node.TheLaws.TheKnot as knot
use Rattle.seuss_program.specs.contracts.tree.Ref as ref_type
use Rattle.seuss_program.specs.contracts.tree.Expr as expr_type
use Rattle.method_code.specs.contracts.instruction.CallCode as call_type
use Rattle.method_code.specs.contracts.instruction.Instruction as instruction_type
use Rattle.method_code.specs.contracts.method.Head as head_type
use Rattle.method_code.specs.contracts.method.Entry as entry_type
use Rattle.method_code.specs.contracts.method.Method as method_type
use Rattle.method_code.specs.contracts.code.Code as code_type
use Rattle.method_code.proofs.plan.Plan.TheSendSync as plan
use Rattle.box_lock.specs.declared.names.CellNames as cell_names
use Rattle.box_turn.proofs.turn.BoxTurn.TheSendSync as turn
use Rattle.quit_word.proofs.quit.QuitWord.TheSendSync as quit
use Rattle.ready_queue.proofs.ready_queue.ReadyQueue.TheSendSync as queue
use Rattle.pass_seats.specs.declared.names.EngineNames as engine_names
use Rattle.pass_seats.proofs.desks.SchedDesk.TheSendSync as sched
use Rattle.worker_seats.specs.contracts.turn_desk.TurnDeskKept.TheImpl as kept
use Rattle.worker_seats.specs.contracts.ready_item.ReadyItemQueued.TheImpl as queued
use Rattle.worker_seats.proofs.ready_item.ReadyItem.TheSendSync as item
use Rattle.worker_seats.proofs.turn_desk.TurnDesk.TheSendSync as desk
use Rattle.shared_engine.specs.contracts.engine.Running as running_type
use Rattle.shared_engine.specs.contracts.engine.Engine as engine_type
use Rattle.shared_engine.specs.contracts.engine.Engine.TheInside as engine_inside

-- expressions over names
expr_sync : IsSync (expr_type.the_row ref_type.the_row)
expr_sync = search (
  sendable,
  crosses,
  knot.sync-Expr,
  knot.sync-Node,
  ref.the_sync,
  ref.the_field_sync,
  fun.the_sync,
  fun.the_field_sync,
  op.the_sync,
  op.the_field_sync,
  boxed.the_sync,
) depth 20

expr_field_sync : IsSync (expr_type.the_field ref_type.the_row).row
expr_field_sync = search (
  sendable,
  crosses,
  knot.sync-Expr,
  knot.sync-Node,
  ref.the_sync,
  ref.the_field_sync,
  fun.the_sync,
  fun.the_field_sync,
  op.the_sync,
  op.the_field_sync,
  boxed.the_sync,
) depth 20

-- calls
call_sync : IsSync call_type.the_row
call_sync = search (sendable, crosses, list.the_sync, expr_sync) depth 20

call_field_sync : IsSync (call_type.the_field).row
call_field_sync = search (sendable, crosses, list.the_sync, expr_sync) depth 20

-- instructions
instruction_sync : IsSync instruction_type.the_row
instruction_sync = search (
  sendable,
  crosses,
  option.the_sync,
  option.the_field_sync,
  ref.the_sync,
  ref.the_field_sync,
  expr_sync,
  expr_field_sync,
  call_sync,
  call_field_sync,
) depth 20

-- beginnings of alternatives
head_sync : IsSync head_type.the_row
head_sync = search (
  sendable,
  crosses,
  option.the_sync,
  option.the_field_sync,
  expr_sync,
  expr_field_sync,
  call_sync,
  call_field_sync,
) depth 20

-- beginnings of procedures
entry_sync : IsSync entry_type.the_row
entry_sync = search (sendable, crosses, list.the_sync, head_sync) depth 20

entry_field_sync : IsSync (entry_type.the_field).row
entry_field_sync = search (sendable, crosses, list.the_sync, head_sync) depth 20

-- codes of procedures
method_sync : IsSync method_type.the_row
method_sync = search (
  sendable,
  crosses,
  option.the_sync,
  option.the_field_sync,
  list.the_sync,
  value.the_sync,
  value.the_field_sync,
  entry_sync,
  entry_field_sync,
  instruction_sync,
) depth 20

-- the code of a program may be read by several threads at once
pub code_sync : IsSync code_type.the_row
code_sync = search (sendable, crosses, list.the_sync, method_sync) depth 20

-- what an engine runs
running_sync : (k : NamedLft) → IsSync (running_type.the_row k)
running_sync k = search (
  sendable,
  crosses,
  code_sync,
  plan.the_sync,
  plan.the_field_sync,
  state.the_sync,
  state.the_field_sync,
) depth 20

running_field_sync : (k : NamedLft) → IsSync (running_type.the_field k).row
running_field_sync k = search (
  sendable,
  crosses,
  code_sync,
  plan.the_sync,
  plan.the_field_sync,
  state.the_sync,
  state.the_field_sync,
) depth 20

-- an engine may be shared
module _ (k : NamedLft) (N : RattleType) (names : engine_names.Ghosts N.Denot) (cells : cell_names.Ghosts N.Denot)
    (book : ledger.Ghosts N.Denot) where
  inside_sync : IsSync (engine_inside.the_row k N names cells book)
  inside_sync = recorded_sync (engine_inside.the_field k N names cells book).row _ _
      (engine_inside.the_type k N names cells book).to_one
      (struct_sync (shape (engine_inside.the_type k N names cells book)) (
        running_field_sync k,
        (
          heap.Vec-sync _ (turn.the_sync _ u32
              (kept.ghosts N names kept.no_dict cells kept.no_dict book kept.no_dict) (desk.the_send N names cells book)),
          (
            queue.the_sync _ (queued.ghosts N names queued.no_dict cells queued.no_dict book queued.no_dict)
                (item.the_send N names cells book),
            (mutex.the_sync _ (sched.the_send N names cells book), (quit.the_sync, tt)),
          ),
        ),
      ))

  pub engine_sync : IsSync (engine_type.the_row k N names cells book)
  engine_sync = view_sync _ _ _ _ _ inside_sync
