use Rattle.std.proofs.Common.{Err, ap, ◌∙◌, inr}
use Rattle.seuss_run.proofs.TopLemmas.{long_answers}
use Rattle.seuss_run.proofs.top.read_for.Goals as goal

-- more bytes were taken than are read
pub returns-in-Err-TooLong-clause-read : goal.returns-in-Err-TooLong-clause-read
returns-in-Err-TooLong-clause-read g c =
    let taken = c.read_all.ensures.too_long (c.in-Err-TooLong.is ∙ ap Err c.in-Err-TooLong.field-0-is) in
    let told = c.in_ok-refused-in-Err-TooLong.ensures in (
      taken.0,
      inr (taken.1, taken.2),
      long_answers c.args.command taken.0 c.in_ok-refused-in-Err-TooLong.field-0.status
          c.in_ok-refused-in-Err-TooLong.field-0.text taken.1.0 told.status told.text,
    )
