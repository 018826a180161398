use Rattle.std.proofs.Common.{Err, arith, refl, subst}
use Rattle.seuss_program.specs.Attempts.{tight}
use Rattle.seuss_program.specs.Initials.{initial}
use Rattle.report_text.specs.TightReports.{tight_end}
use Rattle.seuss_run.specs.Loadings.{NamesActions}
use Rattle.seuss_run.specs.Verdicts.{Attempting, Loaded, are_actions}
use Rattle.seuss_run.specs.declared.words.Command.TheVariants as C
use Rattle.seuss_run.specs.declared.words.TheConstants.{DEFAULT_BUDGET}
use Rattle.seuss_run.proofs.PerformLemmas.{handed_on, unnamed, low_status}
use Rattle.seuss_run.proofs.commands.tight.attempt_names.Goals as goal

-- a name is that of no action
pub returns-in_err-actions : goal.returns-in_err-actions
returns-in_err-actions c =
    let names = c.args.names.now in
    let given : Loaded = (c.args.job.now.program, c.args.job.now.input) in
    let halt = c.in_err-actions.field-0.0 in
    handed_on (C.Tight names) (are_actions names) given halt c.from_residual.result
    c.from_residual.ensures.1
    (unnamed names given halt
    (subst (λ ns. NamesActions given.0 ns (Err halt)) c.as_slice.ensures c.in_err-actions.ensures))

-- the actions were attempted
pub returns : goal.returns
returns c =
    let given : Loaded = (c.args.job.now.program, c.args.job.now.input) in
    let report = rw c.as_slice-2.ensures at c.in_ok-attempt_actions.ensures in
    let run = tight given.0 c.in_ok-actions.actions (initial given.0 given.1) DEFAULT_BUDGET in (
      omega (arith, report.1, low_status (tight_end c.in_ok-actions.actions run.outcomes)),
      Attempting given c.in_ok-actions.actions,
      (c.in_ok-actions.actions, refl, rw c.as_slice.ensures at c.in_ok-actions.ensures),
      report,
    )
