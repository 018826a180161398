use Rattle.std.proofs.Common.{rules, ◌≡◌, ◌*◌, ◌<◌, ◌↔◌, length, max, IsTrue, nat_lt, subst}
use Rattle.seuss_program.specs.Orders.{slots_of}
use Rattle.seuss_run.specs.Verdicts.{attempts_in}
use Rattle.seuss_run.specs.declared.ends.TheConstants.{MOST_ATTEMPTS}
use Rattle.seuss_run.proofs.RecordReports.{slots_length}
use Rattle.seuss_run.proofs.ends.is_too_long.Goals as goal

-- there are as many slots as actions
pub returns : goal.returns
returns c =
    let most : c.max.result ≡ max (length (slots_of c.args.program.now)) 1 =
    rw (slots_length c.args.program.now) cc in
    let attempts : c.from.result * c.max.result ≡ attempts_in c.args.rounds c.args.program.now =
    cc (most, c.from.ensures) in
    subst (λ n. IsTrue (nat_lt MOST_ATTEMPTS (c.from.result * c.max.result)) ↔ (MOST_ATTEMPTS < n)) attempts
    (search rules)
