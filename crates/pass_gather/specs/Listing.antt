-- The records of finished passes, put in the order of their numbers.
use Rattle.std.specs.Prelude.{◌≡◌, ℕ, ◌<◌, List, length, All, Option, Some, slice_get, Contains}
use Rattle.seuss_base.specs.declared.outcome.PassEnd.{PassEnd}
use Rattle.loose_records.specs.declared.record.PassRecord.{PassRecord}
use Rattle.pass_seats.specs.declared.pass.Done.{Done}
use Rattle.pass_seats.specs.declared.pass.SeatPass.{SeatPass}
use Rattle.pass_gather.specs.Given.{Tells}

-- the pass has a commit step, an end and a finish
pub record IsThrough (p : SeatPass) : Type 0 where
  pub commit : ℕ
  pub commit_is : p.commit ≡ Some commit
  pub end : PassEnd
  pub end_is : p.over ≡ Some end
  pub done : Done
  pub done_is : p.done ≡ Some done

-- the records of these passes, in the order in which these stand
pub record AreTold (passes : List SeatPass) (records : List PassRecord) : Type 0 where
  pub many : length records ≡ length passes
  pub each : (j : ℕ) (r : PassRecord) → slice_get records j ≡ Some r →
      (p : SeatPass) × (slice_get passes j ≡ Some p) × Tells p r

-- the number of a record's pass
abbrev pub number_of : PassRecord → ℕ
number_of r = r.ticket.pass

-- there is something
abbrev pub IsFilled : Option PassRecord → Type 0
IsFilled slot = (r : PassRecord) × (slot ≡ Some r)

-- Slots with some of these records, each at the number of its pass, where one with the number of each stands.
pub record HasSlots (records : List PassRecord) (slots : List (Option PassRecord)) : Type 0 where
  pub own : (i : ℕ) (r : PassRecord) → slice_get slots i ≡ Some (Some r) →
      Contains records r × (r.ticket.pass ≡ i)
  pub filled : (j : ℕ) (r : PassRecord) → slice_get records j ≡ Some r →
      (q : PassRecord) × (slice_get slots r.ticket.pass ≡ Some (Some q))

-- the numbers of these records are those below their count
pub record AreNumbered (records : List PassRecord) : Type 0 where
  pub below : All (λ (r : PassRecord). r.ticket.pass < length records) records
  pub each : (i : ℕ) → i < length records →
      (j : ℕ) × (r : PassRecord) × (slice_get records j ≡ Some r) × (r.ticket.pass ≡ i)

-- these records in the order of their numbers
pub record AreSorted (records passes : List PassRecord) : Type 0 where
  pub many : length passes ≡ length records
  pub each : (i : ℕ) (r : PassRecord) → slice_get passes i ≡ Some r →
      Contains records r × (r.ticket.pass ≡ i)
