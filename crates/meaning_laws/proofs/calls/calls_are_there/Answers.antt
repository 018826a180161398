-- The clauses of `calls_are_there`, each by its lemma.
use Rattle.seuss_program.specs.Keeping.{scope_of}
use Rattle.meaning_laws.proofs.CalledProcedures.{call-named, form-is, goes-down, call-matches}
use Rattle.meaning_laws.proofs.calls.calls_are_there.Goals as goal

pub returns : goal.returns
returns c = record {
  named = λ p box cat q form bind call fits. call-named (scope_of p.cats cat q) form bind call fits;
  there = λ p box cat q form bind call callee keeps at fits named.
      goes-down p keeps box cat at q form call callee named
      (form-is (scope_of p.cats cat q) form bind call fits callee named);
  matches =
      λ p box cat q form bind call callee fits named.
      call-matches (scope_of p.cats cat q) form bind call fits callee named;
}
