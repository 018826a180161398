use Rattle.std.proofs.Common.{List, subst}
use Rattle.std.proofs.lemmas.List.{take_all}
use Rattle.method_code.specs.declared.instruction.Instruction.{Instruction}
use Rattle.compat_matrix.specs.Members.{Adds, IsCalled}
use Rattle.compat_matrix.proofs.Adding.{called_none, called_step}
use Rattle.compat_matrix.proofs.members.add_calls.Goals as goal

pub loop-instruction-init : goal.loop-instruction-init
loop-instruction-init c = called_none c.args.program.now c.args.box_number c.args.members.now

pub loop-instruction-preserved : goal.loop-instruction-preserved
loop-instruction-preserved c =
    called_step c.args.program.now c.args.box_number c.args.instructions.now
    c.loop-instruction.instruction-index c.instruction-item.result
    c.args.members.now c.loop-instruction.members c.add_call.new.members c.loop-instruction-test.true
    c.instruction-item.is c.loop-instruction.invariant c.in_ok-add_call.ensures

pub returns : goal.returns
returns c =
    subst (λ (is : List Instruction). Adds c.args.program.now c.args.members.now c.loop-instruction.members
    (IsCalled c.args.program.now c.args.box_number is))
    (take_all c.loop-instruction.instruction-index c.args.instructions.now c.loop-instruction-test.false)
    c.loop-instruction.invariant
