use Rattle.std.proofs.Common.{◌≡◌, ◌<◌, length, All}
use Rattle.pass_gather.specs.Listing.{HasSlots}
use Rattle.pass_gather.proofs.listing.put_records.Given as goal

abbrev pub invariant-loop-made : goal.invariant-loop-made
invariant-loop-made l = record {
  many : length l.slots.items ≡ length l.fn.records.items;
  slots : HasSlots l.yielded l.slots.items;
  few : All (λ r. r.ticket.pass < length l.fn.records.items) l.made-iterator.rest.items;
}
