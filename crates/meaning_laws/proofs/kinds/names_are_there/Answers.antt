-- The clauses of `names_are_there`, each by its lemma.
use Rattle.meaning_laws.proofs.ValueKinds.{name-gives, name-stands, kind-set}
use Rattle.meaning_laws.proofs.kinds.names_are_there.Goals as goal

pub returns : goal.returns
returns c = record {
  there =
      λ s name k vars slots has typed_vars typed_slots.
      name-stands s vars slots typed_vars typed_slots name k has;
  kind =
      λ s name k vars slots has typed_vars typed_slots.
      name-gives s vars slots typed_vars typed_slots name k has;
  set = kind-set;
}
