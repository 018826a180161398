use Rattle.safety_texts.proofs.PropertyLemmas.{verdict_by}
use Rattle.safety_texts.proofs.reading.properties.Goals as goal

pub returns-clause-verdict : goal.returns-clause-verdict
returns-clause-verdict c = verdict_by c.args.program.now c.args.text.now c.in_ok-tokens.tokens
    c.in_ok-texts.texts c.checked.result c.in_ok-tokens.ensures c.in_ok-texts.ensures c.checked.ensures.read
