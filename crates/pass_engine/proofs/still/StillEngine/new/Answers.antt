use Rattle.std.proofs.Common.{◌≡◌, ℕ, List, Some, length, ap, sym, ◌∙◌, subst, arith, None}
use Rattle.std.specs.Prelude.{slice_get}
use Rattle.seuss_program.specs.declared.program.Program.{Program}
use Rattle.method_code.specs.Plans.{AreMadeFrom}
use Rattle.compat_scheduler.specs.Settings.{one_slot_each}
use Rattle.loose_records.specs.Settings.{RunSetting}
use Rattle.pass_seats.specs.Names.{Names}
use Rattle.pass_seats.specs.Seats.{SeatState}
use Rattle.pass_seats.specs.Opening.{names_of}
use Rattle.pass_engine.specs.Engines.{engine_of}
use Rattle.pass_engine.specs.Beginnings.{AreNewWorkers}
use Rattle.pass_engine.proofs.Beginning.{are_names, new_engine, new_keeps, fresh_of}
use Rattle.pass_engine.proofs.still.StillEngine.new.Goals as goal

pub open-requires-clause-named : goal.open-requires-clause-named
open-requires-clause-named g c =
    let a = c.args in
    let r = c.requires in
    are_names a.program.now a.code.now a.plan.now a.rows a.state a.rounds a.budget a.seats a.blank
    g.N.EngineNames.names g.N.CellNames.code g.N.CellNames.first r.names r.keeps r.made r.form r.small
    r.code r.first r.tables

pub open-requires-clause-names : goal.open-requires-clause-names
open-requires-clause-names g c =
    let a = c.args in
    c.requires.names ∙ ap (λ (s : RunSetting). names_of a.blank a.seats s a.state)
    (sym (ap (λ (n : Names). n.setting) c.requires.names))

pub open-requires-clause-setting : goal.open-requires-clause-setting
open-requires-clause-setting g c =
    let a = c.args in
    let count : c.len-actions.result ≡ length a.program.now.actions = omega (arith, c.len-actions.ensures) in
    c.in_ok-core.ensures.setting ∙ ap (λ (n : ℕ). one_slot_each a.rows n a.rounds) count
    ∙ sym (ap (λ (n : Names). n.setting.scheduler) c.requires.names)

pub invariant_of-engine : goal.invariant_of-engine
invariant_of-engine g c =
    let a = c.args in
    let r = c.requires in
    let names = g.N.EngineNames.names in
    let shop = c.in_ok-shop.shop in
    let e = c.in_ok-shop.ensures in
    let named = are_names a.program.now a.code.now a.plan.now a.rows a.state a.rounds a.budget a.seats
    a.blank names g.N.CellNames.code g.N.CellNames.first r.names r.keeps r.made r.form r.small r.code r.first
    r.tables in
    let made : AreMadeFrom names.setting.program a.code.now a.plan.now =
    subst (λ (p : Program). AreMadeFrom p a.code.now a.plan.now)
    (sym (ap (λ (n : Names). n.setting.program) r.names)) r.made in (
      record {
        named = named;
        code_is = r.code;
        made = made;
        from_is = sym (ap (λ (n : Names). n.first) r.names);
        budget_is = sym (ap (λ (n : Names). n.setting.budget) r.names);
        quit_is = e.quit;
        parts_is = sym r.ledger.1 ∙ r.ledger.2 ∙ sym (ap (λ (n : Names). n.seats) r.names);
      },
      new_keeps names (engine_of shop.boxes.items shop.sched None)
          (new_engine names shop.boxes.items shop.sched a.seats e.many e.boxes e.sched
          (ap (λ (n : Names). n.seats) r.names)),
    )

pub returns-clause-engine : goal.returns-clause-engine
returns-clause-engine g c =
    let e = c.in_ok-shop.ensures in
    let shop = c.in_ok-shop.shop in
    new_engine g.N.EngineNames.names shop.boxes.items shop.sched c.args.seats e.many e.boxes e.sched
    (ap (λ (n : Names). n.seats) c.requires.names)

pub returns-clause-seats : goal.returns-clause-seats
returns-clause-seats g c =
    let e = c.in_ok-shop.ensures in
    let fresh : AreNewWorkers c.args.seats c.in_ok-shop.shop.seats.items =
    record { all = e.all; each = e.seats.each } in
    subst (λ (l : List SeatState). AreNewWorkers c.args.seats l) (sym c.in_ok-workers.ensures) fresh

pub returns-clause-of : goal.returns-clause-of
returns-clause-of g c = λ w s at.
    let shop = c.in_ok-shop.shop in
    fresh_of (engine_of shop.boxes.items shop.sched None) shop.seats.items c.in_ok-shop.ensures.seats w s
    (subst (λ (l : List SeatState). slice_get l w ≡ Some s) c.in_ok-workers.ensures at)
