use Rattle.std.proofs.Common.{◌≡◌, map}
use Rattle.pass_gather.specs.Closing.{note_of, share_of}
use Rattle.pass_gather.proofs.closing.split_places.Given as goal

abbrev pub invariant-loop-place : goal.invariant-loop-place
invariant-loop-place l = (l.notes ≡ map note_of l.yielded) × (l.shares ≡ map share_of l.yielded)
