use Rattle.std.proofs.Common.{Ok, sym, ap, ◌∙◌}
use Rattle.method_code.specs.declared.instruction.Move.TheVariants as M
use Rattle.method_code.specs.Steps.{acted}
use Rattle.method_code.proofs.WalkLemmas.{walk-on, acts-so, drop-item}
use Rattle.method_code.proofs.acting.walk_on.Goals as goal

pub loop-instruction-preserved : goal.loop-instruction-preserved
loop-instruction-preserved c =
    let does = acts-so c.act.result
    (acted c.in-Some.instruction.now c.loop-instruction.vars c.loop-instruction.slots) c.act.new.vars
    c.act.new.slots (M.On c.in-On.many) (c.in_ok-halted.was ∙ ap Ok c.in-On.is) c.act.ensures in
    sym (walk-on c.args.instructions.now c.loop-instruction.at c.loop-instruction.vars
    c.loop-instruction.slots c.in-Some.instruction.now c.act.new.vars c.act.new.slots c.in-On.many
    (drop-item c.args.instructions.now c.loop-instruction.at c.in-Some.instruction.now
    c.in-Some.ensures.lookup.3.0 c.in-Some.ensures.lookup.1) does)
    ∙ c.loop-instruction.invariant
