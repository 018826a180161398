use Rattle.method_code.proofs.TypingLaws.{KindLaws}
use Rattle.method_code.proofs.SafeProcedures.{step_fits}
use Rattle.method_code.proofs.laws.step_keeps_form.Goals as goal

pub returns : goal.returns
returns c = λ p box frame budget vars keeps is fit. step_fits laws p keeps box frame budget vars is fit
  where
    laws : KindLaws
    laws = record {
      values = c.values_have_kinds.ensures;
      set = c.names_are_there.ensures.set;
      entry = c.places_are_there.ensures.entry;
    }
