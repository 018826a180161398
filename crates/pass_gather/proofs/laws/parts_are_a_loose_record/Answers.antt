use Rattle.seuss_program.specs.declared.program.Program.{Program}
use Rattle.seuss_program.specs.Keeping.{Keeps}
use Rattle.round_ledger.specs.Cells.{log_events}
use Rattle.pass_gather.proofs.Commits.{PassLaws}
use Rattle.pass_gather.proofs.Recording.{gathered}
use Rattle.pass_gather.proofs.laws.parts_are_a_loose_record.Goals as goal

pub returns : goal.returns
returns c = λ names code first last logs sched machine seats passes named are boxes scheduler lists.
    gathered names code first last logs sched machine seats named are boxes scheduler
    (c.passes_are_numbered.ensures names.setting.scheduler (log_events sched) machine scheduler.run)
    (laws names.setting.program named.keeps) passes lists
  where
    laws : (p : Program) → Keeps p → PassLaws p
    laws p keeps = record {
      in_order = λ a row budget end is over. c.pass_commits_once.ensures p a row budget end keeps is over;
      is_action = λ number a there. c.actions_are_actions.ensures p number a keeps there;
      ended = c.recorded_steps_are_a_pass.ensures.end p;
      made = c.recorded_steps_are_a_pass.ensures.steps p;
    }
