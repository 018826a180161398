use Rattle.std.proofs.Common.{◌∙◌}
use Rattle.loose_records.specs.Entries.{events_of}
use Rattle.turn_runs.specs.RunStates.{turning_of}
use Rattle.still_turns.proofs.RecordsGathered.{all_given, gathered_is}
use Rattle.still_turns.proofs.RunsShown.{ended_over, run_ended, run_numbered}
use Rattle.still_turns.proofs.showing.workers_made_the_record.Goals as goal

pub returns : goal.returns
returns c = record {
  going = λ names width digits turns e seats held worked. worked.shows.going;
  workers = λ names width digits turns e seats held worked.
      (worked.shows.workers, worked.shows.workers.all ∙ worked.workers);
  held = λ names width digits turns e seats held worked.
      worked.shows.in_hand.many ∙ (worked.shows.workers.all ∙ worked.workers);
  setting = λ names width digits turns e seats held worked. worked.shows.sched.setting;
  given = λ names width digits turns e seats held worked.
      all_given names e seats held worked.run worked.hands worked.shows
      (run_numbered names width digits turns e seats held worked c.passes_are_numbered.ensures);
  made = λ names width digits turns e seats held r worked ended gathered. record {
    turns = turns;
    end = turning_of worked.run worked.hands worked.turned.statuses;
    made = worked.turned.made;
    over = ended_over c.an_ended_run_stays.ensures.quiet names.setting (events_of worked.run.made)
        worked.run.core.machine worked.turned.grows.run
        (run_ended names width digits turns e seats held worked ended);
    is = gathered_is names e seats held worked.run worked.hands worked.shows
        (run_numbered names width digits turns e seats held worked c.passes_are_numbered.ensures) r gathered;
  };
}
