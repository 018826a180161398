use Rattle.std.proofs.Common.{map, sym, subst, ap, ◌∙◌}
use Rattle.std.specs.List.{range_with_len}
use Rattle.loose_records.specs.declared.record.Record.{Record}
use Rattle.loose_records.specs.Settings.{RunSetting}
use Rattle.loose_records.specs.LooseRecords.{IsLoose}
use Rattle.loose_records.specs.Turns.{worker_of, turning_begun}
use Rattle.loose_records.proofs.GrowingTurns.{Grows, turns_grow, turns_first}
use Rattle.loose_records.proofs.laws.record_of_turns_is_loose.Goals as goal

pub returns : goal.returns
returns c = record {
  loose = λ s state width digits r form is. subst (λ (r : Record). IsLoose s r) (sym is.is)
      (c.records_grow.ensures.loose s is.end.made is.end.statuses is.end.machine
      (turns_grow s (grows s) (map (worker_of width digits) (range_with_len 0 is.turns))
      (turning_begun s state width) is.end (c.records_grow.ensures.begins s state form) is.made) is.over);
  first = λ s state width digits r is. ap (λ (r : Record). r.first) is.is
      ∙ turns_first s (map (worker_of width digits) (range_with_len 0 is.turns)) (turning_begun s state width)
      is.end is.made;
}
  where
    grows : (s : RunSetting) → Grows s
    grows s = record {
      starts = c.records_grow.ensures.starts s;
      steps = c.records_grow.ensures.steps s;
      finishes = c.records_grow.ensures.finishes s;
    }
