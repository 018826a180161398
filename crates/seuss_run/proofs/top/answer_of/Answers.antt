use Rattle.seuss_run.proofs.AnswerLemmas.{done, halted}
use Rattle.seuss_run.proofs.top.answer_of.Goals as goal

-- the command was done
pub returns-in-Ok-clause-answers : goal.returns-in-Ok-clause-answers
returns-in-Ok-clause-answers c =
    done c.args.command.now c.args.bytes.now c.in-Ok.answer.status c.in-Ok.answer.text
    (rw c.in-Ok.is at c.requires)

-- the bytes are refused
pub returns-in-Err-clause-answers : goal.returns-in-Err-clause-answers
returns-in-Err-clause-answers c =
    halted c.args.command.now c.args.bytes.now c.in-Err.halt c.halted.result (rw c.in-Err.is at c.requires)
    c.halted.ensures.line
