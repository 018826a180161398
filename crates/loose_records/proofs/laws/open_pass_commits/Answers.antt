use Rattle.seuss_program.specs.declared.program.Program.{Program}
use Rattle.seuss_program.specs.Keeping.{Keeps}
use Rattle.loose_records.proofs.CommitSteps.{PassLaws, commits}
use Rattle.loose_records.proofs.laws.open_pass_commits.Goals as goal

pub returns : goal.returns
returns c = λ s r statuses m i pass end keeps g at status.
    commits s r statuses m g (laws s.program keeps) i pass end at status
  where
    laws : (p : Program) → Keeps p → PassLaws p
    laws p keeps = record {
      in_order = λ a row budget end is over. c.pass_commits_once.ensures p a row budget end keeps is over;
      is_action = λ number a there. c.actions_are_actions.ensures p number a keeps there;
      ended = c.recorded_steps_are_a_pass.ensures.end p;
      made = c.recorded_steps_are_a_pass.ensures.steps p;
    }
