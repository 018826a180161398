use Rattle.loose_records.specs.Settings.{RunSetting}
use Rattle.loose_records.specs.Turns.{turning_begun}
use Rattle.loose_records.proofs.GrowingTurns.{Grows, turns_grow}
use Rattle.loose_records.proofs.LowStamps.{turns_low, begun_low, stamps_left}
use Rattle.loose_records.proofs.laws.stamps_stay_low.Goals as goal

pub returns : goal.returns
returns c = record {
  low = λ s state width workers x form turns.
      turns_low s (grows s) workers (turning_begun s state width) x (c.records_grow.ensures.begins s state
      form) (begun_low state) turns;
  left = λ s state width workers x keeps small many form turns.
      let begins = c.records_grow.ensures.begins s state form in
      let growing = turns_grow s (grows s) workers (turning_begun s state width) x begins turns in
      stamps_left s x growing
      (turns_low s (grows s) workers (turning_begun s state width) x begins (begun_low state) turns)
      (c.events_are_few.ensures.all s x.made x.statuses x.machine keeps small many growing);
}
  where
    grows : (s : RunSetting) → Grows s
    grows s = record {
      starts = c.records_grow.ensures.starts s;
      steps = c.records_grow.ensures.steps s;
      finishes = c.records_grow.ensures.finishes s;
    }
