use Rattle.std.proofs.Common.{refl}
use Rattle.seuss_base.specs.declared.outcome.PassEnd.TheVariants as P
use Rattle.method_code.proofs.Rows.{plain_is, plain_idle}
use Rattle.method_code.proofs.laws.plain_pass_is_idle.Goals as goal

pub returns : goal.returns
returns c = record {
  exactly = λ p a row budget end keeps is over. plain_is p keeps a is row budget end over;
  idle = λ p a row budget keeps is over. plain_idle p keeps a is row budget P.PlainRejected over refl;
}
