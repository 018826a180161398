use Rattle.seuss_run.specs.Stages.{makes}
use Rattle.seuss_run.specs.Verdicts.{is_claimed, Proving}
use Rattle.seuss_run.specs.declared.claims.Claims.{Claims}
use Rattle.seuss_run.specs.declared.words.Command.TheVariants as C
use Rattle.seuss_run.proofs.PerformLemmas.{halts, goes}
use Rattle.seuss_run.proofs.commands.prove.perform.Goals as goal

-- the bytes are refused
pub returns-in_err-claims : goal.returns-in_err-claims
returns-in_err-claims c =
    halts C.Prove is_claimed (makes Proving) c.args.bytes.now
    (λ (claims : Claims). (claims.program, claims.properties)) c.in_err-claims.field-0.0
    c.from_residual.result c.from_residual.ensures.1 c.in_err-claims.ensures.meets

-- the properties are answered
pub returns : goal.returns
returns c =
    goes C.Prove is_claimed (makes Proving) c.args.bytes.now
    (c.in_ok-claims.claims.program, c.in_ok-claims.claims.properties) c.answer.result
    c.in_ok-claims.ensures.meets c.answer.ensures
