use Rattle.std.proofs.Common.{map, string_bytes}
use Rattle.seuss_run.specs.Served.{IsStill}
use Rattle.seuss_run.proofs.TopLemmas.{answers_complete, answers_refused, answers_front}
use Rattle.seuss_run.proofs.top.seuss_still.Goals as goal

-- what is answered is complete
pub returns-in-Ok-write_all-clause-complete : goal.returns-in-Ok-write_all-clause-complete
returns-in-Ok-write_all-clause-complete g c =
    answers_complete c.one_verdict.ensures IsStill
    (map string_bytes c.args.words.now) (g.R.Source.left c.args.source.now)
    (g.R.Source.left c.answer_still.new.source) c.in-Ok.answer.status c.in-Ok.answer.text c.in-Ok.ensures.ends

-- the line of a refusal was written
pub returns-in-Ok-write_all-clause-refused : goal.returns-in-Ok-write_all-clause-refused
returns-in-Ok-write_all-clause-refused g c = λ three.
    answers_refused IsStill (map string_bytes c.args.words.now)
    (g.R.Source.left c.args.source.now) (g.R.Source.left c.answer_still.new.source)
    c.in-Ok.answer.status c.in-Ok.answer.text c.in-Ok.ensures.ends
    (g.W.Sink.written c.args.sink.now) (g.W.Sink.written c.write_all.new.sink) three
    (rw c.as_bytes.ensures at c.in-Ok-write_all.ensures.all)

-- a front of the text was written
pub returns-clause-write_fault : goal.returns-clause-write_fault
returns-clause-write_fault g c = λ six. (
  c.in-Err.ensures.failed,
  answers_front IsStill (map string_bytes c.args.words.now)
      (g.R.Source.left c.args.source.now) (g.R.Source.left c.answer_still.new.source)
      c.in-Ok.answer.status c.in-Ok.answer.text c.in-Ok.ensures.ends
      (g.W.Sink.written c.args.sink.now) (g.W.Sink.written c.write_all.new.sink)
      (rw c.as_bytes.ensures at c.in-Err.ensures.front),
)
