use Rattle.std.proofs.Common.{refl}
use Rattle.seuss_run.specs.Stages.{◌>=>◌}
use Rattle.seuss_run.specs.Verdicts.{is_read, is_split, is_claimed_parts}
use Rattle.seuss_run.specs.declared.claims.Claims.{Claims}
use Rattle.seuss_run.proofs.StageLemmas.{behind}
use Rattle.seuss_run.proofs.claims.load_claims.Goals as goal

-- the bytes are few enough, and have two parts, which tell
pub returns-clause-meets : goal.returns-clause-meets
returns-clause-meets c =
    behind is_read (is_split >=> is_claimed_parts) c.args.bytes.now c.args.bytes.now
    (λ (claims : Claims). (claims.program, claims.properties)) c.claims_of_parts.result (refl, c.requires)
    (behind is_split is_claimed_parts c.args.bytes.now (c.split.result.0.now, c.split.result.1.now)
    (λ (claims : Claims). (claims.program, claims.properties)) c.claims_of_parts.result c.split.ensures
    c.claims_of_parts.ensures.meets)
