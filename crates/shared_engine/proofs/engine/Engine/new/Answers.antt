use Rattle.std.proofs.Common.{◌≡◌, ℕ, [], List, length, refl, sym, ap, ◌∙◌, subst, arith}
use Rattle.compat_scheduler.specs.Settings.{one_slot_each}
use Rattle.loose_records.specs.Settings.{RunSetting}
use Rattle.box_turn.specs.Seats as T
use Rattle.ready_queue.specs.Seats as Q
use Rattle.pass_seats.specs.Names.{Names}
use Rattle.pass_seats.specs.Opening.{fresh_sched, names_of}
use Rattle.worker_seats.specs.Workers.{WorkerState}
use Rattle.shared_engine.specs.Rings.{AreTurns, ring_with}
use Rattle.shared_engine.specs.Beginnings.{AreSeats}
use Rattle.shared_engine.proofs.Beginning.{are_names, is_set_up}
use Rattle.shared_engine.proofs.engine.Engine.new.Goals as goal

pub open-requires-clause-named : goal.open-requires-clause-named
open-requires-clause-named g c =
    let a = c.args in
    let r = c.requires in
    are_names a.program.now a.code.now a.plan.now a.rows a.state a.rounds a.budget a.seats a.blank
    g.N.EngineNames.names g.N.CellNames.code g.N.CellNames.first r.names r.keeps r.made r.form r.small
    r.code r.first r.tables

pub open-requires-clause-names : goal.open-requires-clause-names
open-requires-clause-names g c =
    let a = c.args in
    c.requires.names ∙ ap (λ (s : RunSetting). names_of a.blank a.seats s a.state)
    (sym (ap (λ (n : Names). n.setting) c.requires.names))

pub open-requires-clause-setting : goal.open-requires-clause-setting
open-requires-clause-setting g c =
    let a = c.args in
    let count : c.len-actions.result ≡ length a.program.now.actions = omega (arith, c.len-actions.ensures) in
    c.in_ok-core.ensures.setting ∙ ap (λ (n : ℕ). one_slot_each a.rows n a.rounds) count
    ∙ sym (ap (λ (n : Names). n.setting.scheduler) c.requires.names)

pub open_turns-requires-clause-all : goal.open_turns-requires-clause-all
open_turns-requires-clause-all g c = sym (ap (λ (n : Names). n.seats) c.requires.names)

pub seat_all-requires-clause-many : goal.seat_all-requires-clause-many
seat_all-requires-clause-many g c = c.in_ok-turns.ensures.many ∙ c.in_ok-shop.ensures.many

pub begin-requires-clause-named : goal.begin-requires-clause-named
begin-requires-clause-named g c =
    let a = c.args in
    let r = c.requires in
    are_names a.program.now a.code.now a.plan.now a.rows a.state a.rounds a.budget a.seats a.blank
    g.N.EngineNames.names g.N.CellNames.code g.N.CellNames.first r.names r.keeps r.made r.form r.small
    r.code r.first r.tables

pub begin-requires-clause-desk : goal.begin-requires-clause-desk
begin-requires-clause-desk g c =
    let names = g.N.EngineNames.names in
    c.in_ok-shop.ensures.sched ∙ ap (fresh_sched names.sched names.setting.scheduler)
    (sym (ap (λ (n : Names). n.seats) c.requires.names))

pub begin-requires-clause-some : goal.begin-requires-clause-some
begin-requires-clause-some g c = omega (arith, c.requires.some, ap (λ (n : Names). n.seats) c.requires.names)

pub begin-requires-clause-many : goal.begin-requires-clause-many
begin-requires-clause-many g c =
    c.in_ok-workers.ensures.many ∙ c.in_ok-shop.ensures.all ∙ sym (ap (λ (n : Names). n.seats) c.requires.names)

pub begin-requires-clause-new : goal.begin-requires-clause-new
begin-requires-clause-new g c =
    (ring_with c.in_ok-turns.turns.items c.in_ok-queue.queue, refl, c.in_ok-workers.ensures.seats)

pub begin-requires-clause-line : goal.begin-requires-clause-line
begin-requires-clause-line g c =
    let view : ℕ → Q.FirstState = λ n. record { queue = c.in_ok-queue.queue; rows = []; given = n } in
    c.in_ok-workers.ensures.line
    ∙ ap view (c.in_ok-shop.ensures.all ∙ sym (ap (λ (n : Names). n.seats) c.requires.names))

pub invariant_of-engine : goal.invariant_of-engine
invariant_of-engine g c =
    let a = c.args in
    let r = c.requires in
    let names = g.N.EngineNames.names in
    let turns : c.in_ok-turns_alone.field-0.items ≡ c.in_ok-turns.turns.items =
    c.in_ok-turns_alone.ensures ∙ c.in_ok-workers.ensures.turns in (
      is_set_up a.program.now a.code.now a.plan.now a.rows a.state a.rounds a.budget a.seats a.blank names
          g.N.CellNames.code g.N.CellNames.first r.names r.keeps r.made r.form r.small r.code r.first r.tables
          g.N.Ledger.parts c.in_ok-shop.shop.quit c.in_ok-shop.ensures.quit (sym r.ledger.1 ∙ r.ledger.2),
      ap length turns ∙ c.in_ok-turns.ensures.many ∙ c.in_ok-shop.ensures.many,
      subst (AreTurns names) (sym turns) c.in_ok-turns.ensures.turns,
    )

pub returns : goal.returns
returns g c =
    let names = g.N.EngineNames.names in
    let queue = c.in_ok-queue.queue in
    let turns : c.in_ok-turns_alone.field-0.items ≡ c.in_ok-turns.turns.items =
    c.in_ok-turns_alone.ensures ∙ c.in_ok-workers.ensures.turns in
    let ring = ring_with c.in_ok-turns.turns.items queue in
    let begun : AreSeats names (ring_with c.in_ok-turns_alone.field-0.items queue) c.begin.new.seats.items =
    subst (λ (l : List (T.TurnState ℕ)). AreSeats names (ring_with l queue) c.begin.new.seats.items) (sym turns)
    (c.in_ok-begin.ensures ring c.in_ok-workers.ensures.seats) in
    record {
      seats = subst (λ (l : List WorkerState). AreSeats names (ring_with c.in_ok-turns_alone.field-0.items queue) l)
          (sym c.from_vec.ensures) begun;
    }
