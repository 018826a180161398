use Rattle.std.proofs.Common.{sym, ap, subst, ◌∙◌}
use Rattle.std.specs.Prelude.{IfOk}
use Rattle.loose_records.specs.Turns.{IsRecordOfTurns}
use Rattle.pass_seats.specs.Names.{Names}
use Rattle.turn_runs.specs.RunStates.{IsTurnSetting}
use Rattle.turn_runs.proofs.SettingsOfTurns.{is_setting}
use Rattle.still_turns.proofs.running.run_named.Goals as goal

pub take_turns-requires-clause-setting : goal.take_turns-requires-clause-setting
take_turns-requires-clause-setting g c =
    subst IsTurnSetting (sym (ap (λ (n : Names). n.setting) c.requires.names))
    (is_setting c.args.program.now c.args.rows c.args.rounds c.args.budget c.requires.keeps c.requires.small
    c.requires.few)

pub take_turns-requires-clause-seats : goal.take_turns-requires-clause-seats
take_turns-requires-clause-seats g c = (
  ap (λ (n : Names). n.seats) c.requires.names,
  sym c.requires.ledger.1 ∙ c.requires.ledger.2,
)

pub returns : goal.returns
returns g c = record {
  made = subst (λ (n : Names). IfOk c.take_turns.result
      (IsRecordOfTurns n.setting n.first c.args.width c.args.digits.now)) c.requires.names
      c.take_turns.ensures;
}
