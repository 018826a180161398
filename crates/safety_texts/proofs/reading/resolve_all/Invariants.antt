use Rattle.std.proofs.Common.{◌≡◌, ◌++◌, map, All}
use Rattle.std.specs.List.{flat_map}
use Rattle.safety_texts.specs.Readings.{HasKind}
use Rattle.safety_texts.specs.Verdicts.{unresolved, property_of}
use Rattle.safety_texts.proofs.reading.resolve_all.Given as goal

abbrev pub invariant-loop-text : goal.invariant-loop-text
invariant-loop-text l = record {
  same : flat_map (unresolved l.program) l.fn.texts
      ≡ flat_map (unresolved l.program) l.text-iterator.rest.items;
  made_so_far : map (property_of l.program) l.fn.texts
      ≡ l.made ++ map (property_of l.program) l.text-iterator.rest.items;
  kinds : All (HasKind l.program) l.made;
}
