use Rattle.std.proofs.Common.{◌≡◌, ◌++◌, List, map, All, Some}
use Rattle.loose_records.specs.declared.record.PassRecord.{PassRecord}
use Rattle.pass_gather.specs.Listing.{IsFilled, AreSorted}
use Rattle.pass_gather.proofs.listing.sort_records.Given as goal

abbrev pub invariant-loop-slot : goal.invariant-loop-slot
invariant-loop-slot l = record {
  passes : map Some l.passes ≡ l.yielded;
  filled : All IsFilled l.slot-iterator.rest.items;
  sorted : (made : List PassRecord) → map Some made ≡ l.yielded ++ l.slot-iterator.rest.items →
      AreSorted l.fn.records.items made;
}
