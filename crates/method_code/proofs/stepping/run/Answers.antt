use Rattle.std.proofs.Common.{List, drop, sym, ap, ◌∙◌}
use Rattle.method_code.specs.declared.instruction.Instruction.{Instruction}
use Rattle.method_code.specs.declared.instruction.Move.{Move}
use Rattle.method_code.specs.Steps.{walk}
use Rattle.method_code.proofs.WalkLemmas.{runs-calls}
use Rattle.method_code.proofs.stepping.run.Goals as goal

pub returns-in-Call : goal.returns-in-Call
returns-in-Call c =
    let halted = ap (λ (is : List Instruction). walk (drop c.loop-halt.at is) c.loop-halt.at 0
    c.loop-halt.vars c.loop-halt.frame.slots) (sym c.as_slice-instructions.ensures)
    ∙ (c.in_ok-halt.ensures.halt ∙ ap
    (λ (m : Move). record
    { at = c.in_ok-halt.halt; vars = c.walk_on.new.vars; slots = c.walk_on.new.slots; move = m })
    c.in-Call.is) in
    let called = runs-calls c.args.method.now c.loop-halt.frame.method c.loop-halt.budget c.loop-halt.at
    c.loop-halt.vars c.loop-halt.frame.slots c.in_ok-halt.halt c.walk_on.new.vars c.walk_on.new.slots
    c.in-Call.target c.in-Call.method c.in-Call.args halted in
    sym c.loop-halt.invariant.same ∙ (called ∙ c.pay_call.ensures c.walk_on.new.vars)
