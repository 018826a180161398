use Rattle.seuss_program.specs.declared.program.Program.{Program}
use Rattle.seuss_program.specs.Keeping.{Keeps}
use Rattle.compat_scheduler.specs.Settings.{Setting}
use Rattle.loose_core.proofs.LowerLaws.{StepLaws, SchedLaws}
use Rattle.loose_records.specs.declared.record.Record.{Record}
use Rattle.loose_records.specs.Settings.{RunSetting, IsSetting}
use Rattle.loose_records.specs.LooseRecords.{IsLoose}
use Rattle.loose_core.proofs.MadeEntries.{Facts}
use Rattle.loose_core.proofs.LawfulOrders.{lawful}
use Rattle.loose_core.proofs.TightRuns.{reduced}
use Rattle.loose_core.proofs.LastStates.{last_form, committed}
use Rattle.loose_core.proofs.laws.reduction.Goals as goal

pub returns : goal.returns
returns c = record {
  order = λ s r setting loose. lawful s r (facts s r setting loose);
  tight = λ s r setting loose. reduced s r (facts s r setting loose);
  last = λ s r setting loose. last_form s r (facts s r setting loose);
  committed = λ s r setting loose. committed s r (facts s r setting loose);
}
  where
    steps : (p : Program) → Keeps p → StepLaws p
    steps p keeps = record {
      keeps_form =
          λ box frame budget vars is vs. c.step_keeps_form.ensures p box frame budget vars keeps is vs;
      commits = λ a row budget end is over. c.pass_commits_once.ensures p a row budget end keeps is over;
      plainly =
          λ a row budget end is over. c.plain_pass_is_idle.ensures.exactly p a row budget end keeps is over;
      idle = λ a row budget is over. c.plain_pass_is_idle.ensures.idle p a row budget keeps is over;
      own = λ a row budget is finds. c.pass_stays_among_its_own.ensures.own p a row budget keeps is finds;
      may = λ a row budget is finds. c.pass_stays_among_its_own.ensures.may p a row budget keeps is finds;
      is_action = λ number a there. c.actions_are_actions.ensures p number a keeps there;
      ended = c.recorded_steps_are_a_pass.ensures.end p;
      front = c.recorded_steps_are_a_pass.ensures.front p;
      made = c.recorded_steps_are_a_pass.ensures.steps p;
      chains = c.recorded_steps_are_a_pass.ensures.chain p;
      for_good = c.chain_is_over_for_good.ensures p;
      attempts = λ a state budget steps within many. c.chain_is_attempt.ensures.at_most p a state budget
          steps keeps within many;
    }

    sched : (s : Setting) → SchedLaws s
    sched s = record {
      numbered = c.passes_are_numbered.ensures s;
      modes = c.modes_are_lawful.ensures.loose_or_firm s;
      rounds = c.rounds_dont_interleave.ensures s;
      stopped = c.stops_for_good.ensures.stopped s;
      last_round = c.stops_for_good.ensures.last_round s;
      newcomer = c.overlaps_are_allowed.ensures.newcomer s;
      other = c.overlaps_are_allowed.ensures.other s;
      newcomer_kept = c.overlaps_are_allowed.ensures.newcomer_kept s;
      other_kept = c.overlaps_are_allowed.ensures.other_kept s;
      once = c.attempts_are_kept_once.ensures s;
      within = c.tickets_are_lawful.ensures.attempt s;
      of_slot = c.tickets_are_lawful.ensures.action s;
      finishes = c.open_passes_run.ensures.finishes s;
      void_plain = c.void_passes_are_plain.ensures s;
    }

    facts : (s : RunSetting) (r : Record) → IsSetting s → IsLoose s r → Facts s r
    facts s r setting loose = record {
      setting = setting;
      steps = steps s.program setting.keeps;
      sched = sched s.scheduler;
      loose = loose;
    }
