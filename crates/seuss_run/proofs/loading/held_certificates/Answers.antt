use Rattle.std.proofs.Common.{refl}
use Rattle.seuss_run.proofs.loading.held_certificates.Goals as goal

-- each certificate holds
pub returns-in-Ok-clause-meets : goal.returns-in-Ok-clause-meets
returns-in-Ok-clause-meets c =
    (refl, c.one_refusal.ensures.all c.args.program.now c.in-Ok.held c.in-Ok.ensures.found)
