use Rattle.std.proofs.lemmas.Result.{on_ok_weaker}
use Rattle.compat_matrix.proofs.Adding.{code_line, code_tail}
use Rattle.compat_matrix.proofs.members.add_called.Goals as goal

pub returns-in_ok-add_early-in-Line : goal.returns-in_ok-add_early-in-Line
returns-in_ok-add_early-in-Line c = on_ok_weaker c.add_calls.result (λ a.
    code_line c.args.program.now c.args.box_number c.args.method.now c.args.part
    c.as_slice-instructions.result.now
    c.args.members.now c.add_early.new.members c.add_calls.new.members c.in-Line.is
    c.as_slice-instructions.ensures c.in_ok-add_early-in-Line.ensures a) c.add_calls.ensures

pub returns-in-Tail : goal.returns-in-Tail
returns-in-Tail c = on_ok_weaker c.add_calls-in-Tail.result (λ a.
    code_tail c.args.program.now c.args.box_number c.args.method.now c.args.part
    c.as_slice-instructions.result.now
    c.args.members.now c.add_calls-in-Tail.new.members c.in-Tail.is c.as_slice-instructions.ensures a)
    c.add_calls-in-Tail.ensures
