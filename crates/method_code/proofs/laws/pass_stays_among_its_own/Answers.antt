use Rattle.method_code.specs.Kinds.{steps_made}
use Rattle.method_code.specs.Chains.{begun}
use Rattle.method_code.proofs.TypingLaws.{KindLaws}
use Rattle.method_code.proofs.Activations.{own_pass, own_may}
use Rattle.method_code.proofs.laws.pass_stays_among_its_own.Goals as goal

pub returns : goal.returns
returns c = record {
  own = λ p a row budget keeps is finds. own_pass laws p keeps a is row budget finds;
  may = λ p a row budget keeps is finds. own_may p a (steps_made p row (begun p a) budget)
      (own_pass laws p keeps a is row budget finds);
}
  where
    laws : KindLaws
    laws = record {
      values = c.values_have_kinds.ensures;
      set = c.names_are_there.ensures.set;
      entry = c.places_are_there.ensures.entry;
    }
