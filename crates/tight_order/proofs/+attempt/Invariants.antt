use Rattle.std.proofs.Common.{◌≡◌, ◌≤◌, ◌+◌, ◌*◌, ℕ, drop}
use Rattle.seuss_program.specs.Bodies.{body, looped}
use Rattle.seuss_program.specs.Attempts.{attempt, choice}
use Rattle.tight_order.proofs.StatementLemmas.{weight, sum_of}
use Rattle.tight_order.proofs.WeightLemmas.{alternative_weight, form_weight, program_weight}
use Rattle.tight_order.proofs.+attempt.Given as goal

abbrev pub decreases-attempt::attempt : goal.decreases-attempt::attempt
decreases-attempt::attempt l = program_weight l.place.now.program.now * l.place.now.depth

abbrev pub decreases-body::run_call : goal.decreases-body::run_call
decreases-body::run_call l = program_weight l.place.now.program.now * l.place.now.depth + 1

abbrev pub decreases-body::run_body : goal.decreases-body::run_body
decreases-body::run_body l = program_weight l.place.now.program.now * l.place.now.depth +
    (2 * sum_of weight l.statements.now + 1)

abbrev pub decreases-body::run_loop : goal.decreases-body::run_loop
decreases-body::run_loop l = program_weight l.place.now.program.now * l.place.now.depth +
    (2 * sum_of weight l.turn.now + 2)

abbrev pub decreases-body::run_statement : goal.decreases-body::run_statement
decreases-body::run_statement l = program_weight l.place.now.program.now * l.place.now.depth + 2 * weight
    l.statement.now

abbrev pub decreases-attempt::finish : goal.decreases-attempt::finish
decreases-attempt::finish l = program_weight l.place.now.program.now * l.place.now.depth +
    (2 * alternative_weight l.alternative.now + 2)

abbrev pub decreases-attempt::prepare : goal.decreases-attempt::prepare
decreases-attempt::prepare l = program_weight l.place.now.program.now * l.place.now.depth +
    (2 * alternative_weight l.alternative.now + 3)

abbrev pub decreases-attempt::take : goal.decreases-attempt::take
decreases-attempt::take l = program_weight l.place.now.program.now * l.place.now.depth +
    (2 * alternative_weight l.alternative.now + 4)

abbrev pub decreases-attempt::choose : goal.decreases-attempt::choose
decreases-attempt::choose l = program_weight l.place.now.program.now * l.place.now.depth +
    (2 * sum_of alternative_weight l.alternatives.now + 5)

abbrev pub decreases-attempt::perform : goal.decreases-attempt::perform
decreases-attempt::perform l = program_weight l.place.now.program.now * l.place.now.depth +
    (2 * form_weight l.proc.now.form + 6)

-- what is left to do from here gives the same as the whole
abbrev pub invariant-body::run_body-loop-statement : goal.invariant-body::run_body-loop-statement
invariant-body::run_body-loop-statement l = record {
  budget : l.frame.budget ≤ l.initial.frame.budget;
  same : body l.place.program.now (attempt l.place.program.now l.place.depth) l.place.box_number
      (drop l.statement-index l.statements) l.state l.frame.slots l.frame.budget
      ≡ body l.place.program.now (attempt l.place.program.now l.place.depth) l.place.box_number l.statements
      l.initial.state l.initial.frame.slots l.initial.frame.budget;
}

abbrev pub invariant-attempt::choose-loop-alternative : goal.invariant-attempt::choose-loop-alternative
invariant-attempt::choose-loop-alternative l = record {
  budget : l.frame.budget ≤ l.initial.frame.budget;
  same : choice l.place.program.now (attempt l.place.program.now l.place.depth) l.place.box_number l.proc
      (drop l.alternative-index l.alternatives) l.state l.frame.slots l.frame.budget
      ≡ choice l.place.program.now (attempt l.place.program.now l.place.depth) l.place.box_number l.proc
      l.alternatives l.initial.state l.initial.frame.slots l.initial.frame.budget;
}

-- there are turns enough for the budget, and what is left to do from here gives the same as the whole
abbrev pub invariant-body::run_loop-loop-frame : goal.invariant-body::run_loop-loop-frame
invariant-body::run_loop-loop-frame l = record {
  budget : l.frame.budget ≤ l.initial.frame.budget;
  turns : (k : ℕ) × (l.frame.budget ≤ k)
      × (looped l.place.box_number k l.cond
      (body l.place.program.now (attempt l.place.program.now l.place.depth) l.place.box_number l.turn)
      l.state l.frame.slots l.frame.budget
      ≡ looped l.place.box_number l.initial.frame.budget l.cond
      (body l.place.program.now (attempt l.place.program.now l.place.depth) l.place.box_number l.turn)
      l.initial.state l.initial.frame.slots l.initial.frame.budget);
}

abbrev pub decreases-body::run_loop-loop-frame : goal.decreases-body::run_loop-loop-frame
decreases-body::run_loop-loop-frame l = l.frame.budget
