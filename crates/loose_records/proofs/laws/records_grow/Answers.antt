use Rattle.loose_records.proofs.GrowingSteps.{starts, finishes, steps, loose}
use Rattle.loose_records.proofs.laws.records_grow.Goals as goal

pub returns-clause-starts : goal.returns-clause-starts
returns-clause-starts c = λ s. starts s (record {
  more = c.runs_go_on.ensures.more s.scheduler;
  numbered = c.passes_are_numbered.ensures s.scheduler;
  finishes = c.open_passes_run.ensures.finishes s.scheduler;
  all = c.passes_finish_or_run.ensures.all s.scheduler;
})

pub returns-clause-steps : goal.returns-clause-steps
returns-clause-steps c = λ s old new before after m i e g a. steps s
    (record {
      on = c.open_pass_goes_on.ensures.on s.program;
      over = c.open_pass_goes_on.ensures.over s.program;
    })
    (record {
      more = c.runs_go_on.ensures.more s.scheduler;
      numbered = c.passes_are_numbered.ensures s.scheduler;
      finishes = c.open_passes_run.ensures.finishes s.scheduler;
      all = c.passes_finish_or_run.ensures.all s.scheduler;
    }) old before after m i e g new a

pub returns-clause-finishes : goal.returns-clause-finishes
returns-clause-finishes c = λ s. finishes s (record {
  more = c.runs_go_on.ensures.more s.scheduler;
  numbered = c.passes_are_numbered.ensures s.scheduler;
  finishes = c.open_passes_run.ensures.finishes s.scheduler;
  all = c.passes_finish_or_run.ensures.all s.scheduler;
})

pub returns-clause-loose : goal.returns-clause-loose
returns-clause-loose c = λ s. loose s (record {
  more = c.runs_go_on.ensures.more s.scheduler;
  numbered = c.passes_are_numbered.ensures s.scheduler;
  finishes = c.open_passes_run.ensures.finishes s.scheduler;
  all = c.passes_finish_or_run.ensures.all s.scheduler;
})
