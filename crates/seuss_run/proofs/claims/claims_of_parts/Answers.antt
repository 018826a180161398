use Rattle.std.proofs.Common.{Ok, Err, List, refl}
use Rattle.compat_matrix.specs.declared.certificate.Certificate.{Certificate}
use Rattle.safety_check.specs.declared.property.Property.{Property}
use Rattle.seuss_run.specs.PropertyLists.{Claimed, has_properties}
use Rattle.seuss_run.specs.Stages.{◌>=>◌, first_of}
use Rattle.seuss_run.specs.Verdicts.{is_spelled, is_resolved, is_ordered, is_certified, is_claimed_parts}
use Rattle.seuss_run.specs.declared.claims.Claims.{Claims}
use Rattle.seuss_run.proofs.StageLemmas.{behind, stopped, met_first, same_halt}
use Rattle.seuss_run.proofs.claims.claims_of_parts.Goals as goal

-- a program with its properties
abbrev claimed : Claims → Claimed
claimed claims = (claims.program, claims.properties)

-- the properties are refused
pub returns-in_err-properties-clause-meets : goal.returns-in_err-properties-clause-meets
returns-in_err-properties-clause-meets c =
    let program = c.in_ok-program.program in
    let text = c.args.text.now in
    let rest = c.args.rest.now in
    let halt = c.in_err-properties.field-0.0 in
    same_halt is_claimed_parts (text, rest) claimed halt c.from_residual-in_err-properties.result
    c.from_residual-in_err-properties.ensures.1
    (behind (first_of (is_spelled >=> is_resolved >=> is_ordered)) (has_properties >=> first_of is_certified)
    (text, rest) (program, rest) claimed (Err halt) (c.in_ok-program.ensures.meets, refl)
    (stopped has_properties (first_of is_certified) (program, rest)
    (λ (found : List Property). (program, found)) claimed halt c.in_err-properties.ensures.meets))

-- the certificates are refused
pub returns-in_err-_held-clause-meets : goal.returns-in_err-_held-clause-meets
returns-in_err-_held-clause-meets c =
    let program = c.in_ok-program.program in
    let properties = c.in_ok-properties.properties in
    let text = c.args.text.now in
    let rest = c.args.rest.now in
    let halt = c.in_err-_held.field-0.0 in
    same_halt is_claimed_parts (text, rest) claimed halt c.from_residual-in_err-_held.result
    c.from_residual-in_err-_held.ensures.1
    (behind (first_of (is_spelled >=> is_resolved >=> is_ordered)) (has_properties >=> first_of is_certified)
    (text, rest) (program, rest) claimed (Err halt) (c.in_ok-program.ensures.meets, refl)
    (behind has_properties (first_of is_certified) (program, rest) (program, properties) claimed (Err halt)
    c.in_ok-properties.ensures.meets
    (met_first {M = List Certificate} is_certified program properties (λ certificates. program) (Err halt)
    c.in_err-_held.ensures.meets)))

-- all of it is accepted
pub returns-clause-meets : goal.returns-clause-meets
returns-clause-meets c =
    let claims : Claims = record {
      program = c.in_ok-program.program;
      properties = c.in_ok-properties.properties;
    } in
    let text = c.args.text.now in
    let rest = c.args.rest.now in
    behind (first_of (is_spelled >=> is_resolved >=> is_ordered)) (has_properties >=> first_of is_certified)
    (text, rest) (claims.program, rest) claimed (Ok claims) (c.in_ok-program.ensures.meets, refl)
    (behind has_properties (first_of is_certified) (claims.program, rest) (claimed claims) claimed (Ok claims)
    c.in_ok-properties.ensures.meets (c.in_ok-_held.ensures.meets, refl))
