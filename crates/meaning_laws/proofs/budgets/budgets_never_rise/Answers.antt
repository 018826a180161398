-- The clauses of `budgets_never_rise`, each by its lemma.
use Rattle.seuss_program.specs.Attempts.{attempt}
use Rattle.meaning_laws.proofs.SpentBudgets.{attempt-never, statement-never, body-never}
use Rattle.meaning_laws.proofs.budgets.budgets_never_rise.Goals as goal

pub returns : goal.returns
returns c = record {
  attempts = λ p depth box number args state budget. (attempt-never p depth).by box number args state budget;
  statements =
      λ p depth box s state slots budget.
      statement-never p (attempt p depth) box (attempt-never p depth) s state slots budget;
  bodies =
      λ p depth box ss state slots budget.
      body-never p (attempt p depth) box (attempt-never p depth) ss state slots budget;
}
