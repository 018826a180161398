use Rattle.std.proofs.Common.{refl}
use Rattle.seuss_run.specs.Stages.{◌>=>◌}
use Rattle.seuss_run.specs.Verdicts.{is_read, is_split, is_loaded_parts}
use Rattle.seuss_run.proofs.StageLemmas.{behind}
use Rattle.seuss_run.proofs.loading.load.Goals as goal

-- the bytes are few enough, and have two parts, which tell
pub returns-clause-meets : goal.returns-clause-meets
returns-clause-meets c =
    behind is_read (is_split >=> is_loaded_parts) c.args.bytes.now c.args.bytes.now
    (λ job. (job.program, job.input)) c.load_parts.result
    (refl, c.requires)
    (behind is_split is_loaded_parts c.args.bytes.now (c.split.result.0.now, c.split.result.1.now)
    (λ job. (job.program, job.input))
    c.load_parts.result c.split.ensures c.load_parts.ensures.meets)
