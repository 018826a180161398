-- The clauses of `statements_mean`, each by its lemma.
use Rattle.meaning_laws.proofs.StatementMeanings.{let-means, assign-means, call-means, if-means, while-means}
use Rattle.meaning_laws.proofs.statements.statements_mean.Goals as goal

pub returns : goal.returns
returns c = record {
  declares =
      λ p callee box name kind e state slots budget. let-means p callee box state slots budget name kind e;
  assigns = λ p callee box name e state slots budget. assign-means p callee box state slots budget name e;
  calls = λ p callee box bind call state slots budget. call-means p callee box state slots budget bind call;
  branches =
      λ p callee box cond holds fails state slots budget.
      if-means p callee box state slots budget cond holds fails;
  loops = λ p callee box cond turn state slots budget. while-means p callee box state slots budget cond turn;
}
