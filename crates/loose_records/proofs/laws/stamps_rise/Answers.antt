use Rattle.loose_records.proofs.Clocks.{object_rises, pass_rises}
use Rattle.loose_records.proofs.laws.stamps_rise.Goals as goal

pub returns : goal.returns
returns c = record { object = object_rises; pass = pass_rises }
