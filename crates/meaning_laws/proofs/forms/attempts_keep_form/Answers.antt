-- The clauses of `attempts_keep_form`, each by its lemma.
use Rattle.meaning_laws.proofs.ActionProcedures.{action-form, action-result, run-form}
use Rattle.meaning_laws.proofs.KeptForms.{attempt-keeps-form}
use Rattle.meaning_laws.proofs.Results.{attempt-has}
use Rattle.meaning_laws.proofs.forms.attempts_keep_form.Goals as goal

pub returns : goal.returns
returns c = record {
  state = λ p depth box number q args state budget keeps there typed form.
      ((attempt-keeps-form p keeps depth).by box number q args state budget there typed form).state_is;
  result = attempt-has;
  fits = λ p depth box number q args state budget keeps there typed form.
      ((attempt-keeps-form p keeps depth).by box number q args state budget there typed form).result_is;
  action = λ p action state budget keeps form. action-form p keeps action state budget form;
  action_result = λ p action state budget keeps. action-result p keeps action state budget;
  run = λ p actions state budget keeps form. run-form p keeps actions state budget form;
}
