-- The clauses of `values_have_kinds`, each by its lemma.
use Rattle.meaning_laws.proofs.ValueKinds.{value-gives}
use Rattle.meaning_laws.proofs.kinds.values_have_kinds.Goals as goal

pub returns : goal.returns
returns c =
    λ s e k vars slots has typed_vars typed_slots. value-gives s vars slots typed_vars typed_slots e k has
