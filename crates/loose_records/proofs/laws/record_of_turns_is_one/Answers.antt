use Rattle.std.proofs.Common.{ap, sym, ◌∙◌}
use Rattle.seuss_program.specs.Keeping.{Keeps}
use Rattle.loose_records.specs.Settings.{RunSetting}
use Rattle.loose_records.specs.Turns.{Turning, worker_of, turning_begun}
use Rattle.loose_records.proofs.OneRecord.{TurnLaws, turns_once}
use Rattle.loose_records.proofs.laws.record_of_turns_is_one.Goals as goal

pub returns : goal.returns
returns c = λ s state width digits r other keeps form is also.
    is.is ∙ (ap (λ (t : Turning). t.made) (turns_once s (laws s keeps) (worker_of width digits) 0 is.turns
    also.turns
    (turning_begun s state width) is.end also.end (c.records_grow.ensures.begins s state form) is.made
    also.made is.over also.over)
    ∙ sym also.is)
  where
    laws : (s : RunSetting) → Keeps s.program → TurnLaws s
    laws s keeps = record {
      grows = record {
        starts = c.records_grow.ensures.starts s;
        steps = c.records_grow.ensures.steps s;
        finishes = c.records_grow.ensures.finishes s;
      };
      runs = record {
        more = c.runs_go_on.ensures.more s.scheduler;
        numbered = c.passes_are_numbered.ensures s.scheduler;
        finishes = c.open_passes_run.ensures.finishes s.scheduler;
        all = c.passes_finish_or_run.ensures.all s.scheduler;
      };
      next = c.machine_is_determined.ensures.next s.scheduler;
      one = c.machine_is_determined.ensures.run s.scheduler;
      starts_once = c.tickets_start_once.ensures s.scheduler;
      commits = λ r statuses m i pass end g at status. c.open_pass_commits.ensures s r statuses m i pass end
          keeps g at status;
    }
