-- What the report of the commit order of a record tells.
use Rattle.std.proofs.Common.{◌≡◌, ℕ, ℤ, ◌*◌, ◌≤◌, max, List, length, ap, ◌∙◌, subst, arith}
use Rattle.std.specs.Prelude.{Result, Ok, Err, IfOk}
use Rattle.std.proofs.Math.Nat.{mul-le-mul_left}
use Rattle.std.proofs.lemmas.List.FromFn.{length-range_with_len}
use Rattle.seuss_program.specs.declared.program.Program.{Program}
use Rattle.seuss_program.specs.declared.state.State.{State}
use Rattle.seuss_program.specs.declared.order.Placed.{Placed}
use Rattle.seuss_base.specs.Tables.{Table}
use Rattle.seuss_program.specs.Attempts.{tight, TightRun}
use Rattle.seuss_program.specs.Initials.{initial}
use Rattle.seuss_program.specs.Orders.{IsLawful, slots_of}
use Rattle.seuss_program.specs.Reports.{report, last_line}
use Rattle.compat_matrix.specs.declared.certificate.Certificate.{Certificate}
use Rattle.compat_matrix.specs.Certificates.{AreLevels}
use Rattle.loose_records.specs.declared.record.Record.{Record}
use Rattle.loose_records.specs.Orders.{commit_order}
use Rattle.loose_records.specs.Turns.{IsRecordOfTurns}
use Rattle.loose_records.specs.Settings.{setting_of}
use Rattle.seuss_run.specs.declared.answer.Answer.{Answer}
use Rattle.seuss_run.specs.Runs.{IsReport, IsTight, Reports, actions_of, outcomes_of, status_of}
use Rattle.seuss_run.specs.Simulations.{IsSimulated}
use Rattle.seuss_run.specs.Verdicts.{Loaded, attempts_in}

-- the slots of a program are as many as its actions
pub slots_length : (p : Program) → length (slots_of p) ≡ length p.actions
slots_length p = length-range_with_len 0 (length p.actions)

-- attempts that are few are few for each round of actions
pub few_attempts : (p : Program) (rounds : ℕ) → attempts_in rounds p ≤ 100000 →
    rounds * length p.actions ≤ 10000000
few_attempts p rounds few =
    let many : length p.actions ≤ max (length p.actions) 1 = omega arith in
    let each : rounds * length p.actions ≤ rounds * max (length p.actions) 1 =
    mul-le-mul_left rounds many in
    let all : rounds * max (length p.actions) 1 ≤ 100000 = rw slots_length at few in
    omega (arith, each, all)

-- an order whose tight run gives its outcomes and this state
pub tight_from : (p : Program) (start first : State) (budget : ℕ) (order : List Placed) (state : State) →
    first ≡ start →
    tight p (actions_of order) first budget ≡ record { outcomes = outcomes_of order; state = state } →
    IsTight p start budget order state
tight_from p start first budget order state same run =
    subst (λ s. IsTight p s budget order state) same (record {
      outcomes = ap (λ (t : TightRun). t.outcomes) run;
      boxes = ap (λ (t : TightRun). t.state) run;
    })

module _ (p : Program) (input : List ℤ) (rounds budget : ℕ) (made : Record)
    (first : made.first ≡ initial p input)
    (lawful : IsLawful (slots_of p) rounds (commit_order made))
    (run : tight p (actions_of (commit_order made)) made.first budget
    ≡ record { outcomes = outcomes_of (commit_order made); state = made.last }) where
  -- the report of the commit order of a record
  pub reported : {E : Type 0} (order : List Placed) (answer : Result Answer E) → order ≡ commit_order made →
      IfOk answer (λ a. a.text ≡ report p rounds order made.last) →
      IfOk answer (λ a. a.status ≡ status_of (last_line order)) →
      IfOk answer (λ a. Reports p input rounds budget (commit_order made) made.last a.status a.text)
  reported order (Ok a) is printed ended = record {
    lawful = lawful;
    one_at_a_time = tight_from p (initial p input) made.first budget (commit_order made) made.last first run;
    printed = printed ∙ ap (λ (o : List Placed). report p rounds o made.last) is;
    ended = ended ∙ ap (λ (o : List Placed). status_of (last_line o)) is;
  }
  reported order (Err e) is printed ended = tt

-- the report of the record of turns
pub simulated : {E : Type 0} (given : Loaded) (rounds width : ℕ) (turns : List ℕ) (budget : ℕ)
    (es : List Certificate) (rows : Table) (made : Record) (answer : Result Answer E) →
    AreLevels given.0 es rows →
    IsRecordOfTurns (setting_of given.0 rows rounds budget) (initial given.0 given.1) width turns made →
    IfOk answer (λ a. Reports given.0 given.1 rounds budget (commit_order made) made.last a.status a.text) →
    IfOk answer (λ a. IsSimulated given rounds width turns budget a.status a.text)
simulated given rounds width turns budget es rows made (Ok a) levels by_turns reports = record {
  certificates = es;
  levels = rows;
  are_levels = levels;
  made = made;
  by_turns = by_turns;
  reports = reports;
}
simulated given rounds width turns budget es rows made (Err e) levels by_turns reports = tt

-- the report of a record is that of a run
pub is_report : {E : Type 0} (p : Program) (input : List ℤ) (rounds budget : ℕ) (made : Record)
    (answer : Result Answer E) →
    IfOk answer (λ a. Reports p input rounds budget (commit_order made) made.last a.status a.text) →
    IfOk answer (λ a. IsReport p input rounds budget a.status a.text)
is_report p input rounds budget made (Ok a) reports = (commit_order made, made.last, reports)
is_report p input rounds budget made (Err e) reports = tt
