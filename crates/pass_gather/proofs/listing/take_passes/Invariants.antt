use Rattle.std.proofs.Common.{◌≡◌, ◌++◌, map}
use Rattle.pass_gather.specs.Given.{pass_note, pass_share}
use Rattle.pass_gather.specs.Listing.{AreTold}
use Rattle.pass_gather.proofs.listing.take_passes.Given as goal

abbrev pub invariant-loop-pass : goal.invariant-loop-pass
invariant-loop-pass l = record {
  notes : l.notes ≡ l.initial.notes ++ map pass_note l.yielded;
  shares : l.shares ≡ l.initial.shares ++ map pass_share l.yielded;
  records : AreTold l.yielded l.records.items;
}
