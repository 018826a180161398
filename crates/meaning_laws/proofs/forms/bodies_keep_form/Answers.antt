-- The clauses of `bodies_keep_form`, each by its lemma.
use Rattle.seuss_program.specs.Attempts.{attempt}
use Rattle.meaning_laws.proofs.KeptForms.{attempt-keeps-form, statement-formed, body-formed}
use Rattle.meaning_laws.proofs.forms.bodies_keep_form.Goals as goal

pub returns : goal.returns
returns c = record {
  statements = λ p depth box cat q s state slots budget keeps at fits formed.
      (statement-formed p keeps (attempt p depth) (attempt-keeps-form p keeps depth) box cat at q s fits).by
      state slots budget formed;
  bodies = λ p depth box cat q ss state slots budget keeps at fits formed.
      (body-formed p keeps (attempt p depth) (attempt-keeps-form p keeps depth) box cat at q ss fits).by
      state slots budget formed;
}
