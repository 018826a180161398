use Rattle.std.proofs.Common.{◌≡◌, ℕ, ◌<◌, Some, true, slice_get}
use Rattle.method_code.specs.Kinds.{calls_early}
use Rattle.method_code.specs.Records.{Recorded}
use Rattle.loose_records.specs.declared.record.Claim.{Claim}
use Rattle.loose_records.specs.Entries.{claimed}
use Rattle.turn_runs.proofs.reading.first_other.Given as goal

abbrev pub invariant-loop-number : goal.invariant-loop-number
invariant-loop-number l = (k : ℕ) (c : Claim) (e : Recorded) → k < l.number →
    slice_get l.claims k ≡ Some c → claimed l.made c ≡ Some e → calls_early e.end ≡ true
