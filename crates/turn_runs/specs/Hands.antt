-- What this crate holds of passes that go on, in the words of records in the making.
use Rattle.std.specs.Prelude.{◌≡◌, ◌<◌, ℕ, true, false, List, Option, None, Some, slice_get}
use Rattle.method_code.specs.declared.frame.Frame.{Frame}
use Rattle.method_code.specs.declared.frame.End.{End}
use Rattle.method_code.specs.Kinds.{calls_early}
use Rattle.method_code.specs.Records.{Recorded}
use Rattle.loose_records.specs.declared.record.BoxEntry.{BoxEntry}
use Rattle.loose_records.specs.declared.record.Claim.{Claim}
use Rattle.loose_records.specs.declared.record.Record.{Record}
use Rattle.loose_records.specs.Entries.{claimed}
use Rattle.loose_records.specs.Growing.{Status, Going, Through}
use Rattle.turn_runs.specs.declared.hand.Hand.{Hand}
use Rattle.turn_runs.specs.declared.hand.Progress.{Progress}
use Rattle.turn_runs.specs.declared.hand.Progress.TheVariants as P

-- how far the pass in hand is
abbrev pub status_now : Progress → Status
status_now (P.Going at left) = Going at left
status_now (P.Through end) = Through end

-- the number of the pass that a worker has
abbrev pub pass_held : Option Hand → Option ℕ
pass_held None = None
pass_held (Some hand) = Some hand.ticket.pass

-- the entry of a step: the numbers of its pass and in its pass, the frame and the budget before and
-- after, its end and its stamp
abbrev pub entry_with : ℕ → ℕ → Frame → ℕ → Frame → ℕ → End → ℕ → BoxEntry
entry_with pass number before budget after left end stamp = record {
  pass = pass;
  number = number;
  before = before;
  budget_before = budget;
  after = after;
  budget_after = left;
  end = end;
  stamp = stamp;
}

-- Of these claims the one with this number is the first whose step doesn't end by the call of a
-- preprocedure, or there is none and this is how many they are.
pub record IsFirstOther (r : Record) (claims : List Claim) (number : ℕ) : Type 0 where
  pub earlier : (k : ℕ) (c : Claim) (e : Recorded) → k < number → slice_get claims k ≡ Some c →
      claimed r c ≡ Some e → calls_early e.end ≡ true
  pub here : (c : Claim) (e : Recorded) → slice_get claims number ≡ Some c → claimed r c ≡ Some e →
      calls_early e.end ≡ false
