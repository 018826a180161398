use Rattle.std.proofs.Common.{arith}
use Rattle.shape_terms.proofs.PartLemmas.{leasts_apart}
use Rattle.shape_terms.proofs.telling.tell_apart.Goals as goal

pub returns-then-least : goal.returns-then-least
returns-then-least c =
    leasts_apart c.args.form.now c.args.other.now
    (λ e. absurd (omega (arith, c.least.ensures, c.least-2.ensures)))
