use Rattle.std.proofs.Common.{Ok, Err, List, refl}
use Rattle.compat_matrix.specs.declared.certificate.Certificate.{Certificate}
use Rattle.seuss_run.specs.Stages.{first_of, second_of}
use Rattle.seuss_run.specs.Verdicts.{Loaded, has_input, is_certified, is_loaded_parts}
use Rattle.seuss_run.specs.declared.loading.Job.{Job}
use Rattle.seuss_run.proofs.StageLemmas.{stopped, met_first, met_second, same_halt}
use Rattle.seuss_run.proofs.LoadLemmas.{after_program, after_input}
use Rattle.seuss_run.proofs.loading.load_parts.Goals as goal

-- a program with its input
abbrev loaded : Job → Loaded
loaded job = (job.program, job.input)

-- the input is refused
pub returns-in_err-input-clause-meets : goal.returns-in_err-input-clause-meets
returns-in_err-input-clause-meets c =
    let program = c.in_ok-program.program in
    let rest = c.args.rest.now in
    let halt = c.in_err-input.field-0.0 in
    same_halt is_loaded_parts (c.args.text.now, rest) loaded halt c.from_residual-in_err-input.result
    c.from_residual-in_err-input.ensures.1
    (after_program c.args.text.now rest program loaded (Err halt) c.in_ok-program.ensures.meets
    (stopped (second_of has_input) (first_of is_certified) (program, rest)
    (λ numbers. (program, numbers)) loaded halt
    (met_second has_input rest program (λ numbers. numbers) (Err halt) c.in_err-input.ensures.meets)))

-- the certificates are refused
pub returns-in_err-certificates-clause-meets : goal.returns-in_err-certificates-clause-meets
returns-in_err-certificates-clause-meets c =
    let program = c.in_ok-program.program in
    let input = c.in_ok-input.input in
    let halt = c.in_err-certificates.field-0.0 in
    same_halt is_loaded_parts (c.args.text.now, c.args.rest.now) loaded halt
    c.from_residual-in_err-certificates.result c.from_residual-in_err-certificates.ensures.1
    (after_input c.args.text.now c.args.rest.now program loaded (Err halt) c.in_ok-program.ensures.meets
    input c.in_ok-input.ensures.meets
    (met_first {M = List Certificate} is_certified program input (λ certificates. program) (Err halt)
    c.in_err-certificates.ensures.meets))

-- all of it is accepted
pub returns-clause-meets : goal.returns-clause-meets
returns-clause-meets c =
    let job : Job = record {
      program = c.in_ok-program.program;
      input = c.in_ok-input.input;
      certificates = c.in_ok-certificates.certificates;
    } in
    after_input c.args.text.now c.args.rest.now job.program loaded (Ok job) c.in_ok-program.ensures.meets
    job.input c.in_ok-input.ensures.meets (c.in_ok-certificates.ensures.meets, refl)
