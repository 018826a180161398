use Rattle.seuss_run.specs.Verdicts.{has_tokens, has_tree}
use Rattle.seuss_run.proofs.StageLemmas.{behind}
use Rattle.seuss_run.proofs.loading.text_tree.Goals as goal

-- the text has tokens, and they tell
pub returns-clause-meets : goal.returns-clause-meets
returns-clause-meets c = behind has_tokens has_tree c.args.text.now
    (c.args.text.now, c.in_ok-tokens.tokens.list) (λ tree. tree) c.tokens_tree.result
    c.in_ok-tokens.ensures c.tokens_tree.ensures.meets
