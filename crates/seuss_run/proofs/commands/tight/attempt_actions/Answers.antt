use Rattle.std.proofs.Common.{sym, ap, ◌∙◌, length}
use Rattle.seuss_run.proofs.PerformLemmas.{as_many}
use Rattle.seuss_run.proofs.commands.tight.attempt_actions.Goals as goal

-- each action has an outcome
pub tight_text-requires : goal.tight_text-requires
tight_text-requires c =
    as_many c.args.job.now.program c.args.actions.now c.in_ok-state.state c.from.result
    ∙ ap length (sym c.in_ok-outcomes.ensures.outcomes)
