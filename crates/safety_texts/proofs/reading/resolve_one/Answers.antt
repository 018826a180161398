use Rattle.safety_texts.proofs.PropertyLemmas.{unknown_refused}
use Rattle.safety_texts.proofs.reading.resolve_one.Goals as goal

pub returns-in-Err-Unknown-clause-refuses : goal.returns-in-Err-Unknown-clause-refuses
returns-in-Err-Unknown-clause-refuses c = unknown_refused c.args.program.now c.args.text c.in_ok-cat.cat
    c.in_ok-cat.ensures c.in-Err-Unknown.line
    (rw c.in-Err-Unknown.field-0-is at c.in-Err-Unknown.ensures.resolves)
