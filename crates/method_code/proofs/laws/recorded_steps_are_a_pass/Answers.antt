use Rattle.method_code.specs.Codes.{compiled}
use Rattle.method_code.proofs.RecordLemmas.{ended, front_made, serial, whole_front}
use Rattle.method_code.proofs.laws.recorded_steps_are_a_pass.Goals as goal

pub returns : goal.returns
returns c = record {
  front = λ p a budget es row end chains made. front_made p es row a budget end chains made;
  end = λ p a budget es row end chains are. ended p es row a budget end chains are;
  steps = λ p a budget es row end chains are. front_made p es row a budget end chains
      (whole_front (compiled p) es row are);
  chain = λ p a budget es end s t chains makes. serial p es a budget end s t chains makes;
}
