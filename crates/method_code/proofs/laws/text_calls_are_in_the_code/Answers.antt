use Rattle.method_code.proofs.TextCalls.{bodies_called, pres_called}
use Rattle.method_code.proofs.laws.text_calls_are_in_the_code.Goals as goal

pub returns : goal.returns
returns c = record {
  bodies = λ s f call fit is. (bodies_called s f fit).each call is;
  preprocedures = λ s f call fit is. pres_called s f fit call is;
}
