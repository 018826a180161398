use Rattle.method_code.proofs.CodedCalls.{instruction_named, head_named, step_by_text}
use Rattle.method_code.proofs.laws.code_calls_what_its_text_calls.Goals as goal

pub returns : goal.returns
returns c = record {
  instructions = λ p box number q call keeps there is. instruction_named p keeps box number q there call is;
  alternatives = λ p box number q head call keeps there is early.
      head_named p keeps box number q there head call is early;
  steps = λ p box number q frame budget vars keeps there method.
      step_by_text p keeps box number q there frame budget vars method;
}
