-- The action of a started ticket.
use Rattle.std.proofs.Common.{◌≡◌, ℕ, zero, suc, ◌*◌, ◌<◌, List, length, All, arith, sym, subst}
use Rattle.std.specs.Prelude.{Contains}
use Rattle.std.proofs.lemmas.Nat.{mod_below}
use Rattle.seuss_program.specs.declared.state.Value.{Value}
use Rattle.method_code.specs.declared.method.Method.{Method}
use Rattle.compat_scheduler.specs.declared.ticket.Ticket.{Ticket}
use Rattle.compat_scheduler.specs.Settings.{Setting, copies, action_of}
use Rattle.compat_scheduler.specs.Machines.{Machine, slot_of}
use Rattle.compat_scheduler.specs.Runs.{Event, IsRun}
use Rattle.compat_scheduler.specs.Runs.Event.{Start as Starts}
use Rattle.step_journal.specs.Histories.{entries_of}
use Rattle.loose_records.specs.declared.record.SchedEntry.TheVariants.{Start}
use Rattle.loose_records.specs.Entries.{event_of}
use Rattle.round_ledger.specs.Cells.{CellState, log_events}
use Rattle.pass_seats.specs.Names.{Names, AreNames}
use Rattle.pass_seats.proofs.Lists.{at-map, at-contains, place_of}
use Rattle.pass_seats.proofs.Owns.{entry-there}

-- where something is below a product, its factors aren't 0
some_copies : (a r c : ℕ) → a < r * c → 0 < c
some_copies a r zero less = absurd (omega (arith, less))
some_copies a r (suc c) less = omega arith

-- the action of a slot is one of the program
action_there : (s : Setting) (high : ℕ) (t : Ticket) → All (λ (a : ℕ). a < high) s.actions →
    t.attempt < s.rounds * copies s → t.action ≡ action_of s (slot_of s t) → t.action < high
action_there s high t all within is =
    let slot = mod_below t.attempt (copies s) (some_copies t.attempt s.rounds (copies s) within) in
    subst (λ (n : ℕ). n < high) (sym is) (all (slot_of s t) 0 slot)

-- the action of a started ticket is one of the program
pub started_there : (names : Names) (code : List Method) (first : ℕ → List Value) (cell : CellState) (maker : ℕ)
    (t : Ticket) (stamp : ℕ) → AreNames names code first → cell.setting ≡ names.setting.scheduler →
    IsRun cell.setting (log_events cell.journal.log) cell.machine →
    Contains cell.journal.log (maker, Start t stamp) →
    ((s : Setting) (events : List Event) (m : Machine) (u : Ticket) → IsRun s events m →
    Contains events (Starts u) → u.attempt < s.rounds * copies s) →
    ((s : Setting) (events : List Event) (m : Machine) (u : Ticket) → IsRun s events m →
    Contains events (Starts u) → u.action ≡ action_of s (slot_of s u)) →
    t.action < length names.setting.program.actions
started_there names code first cell maker t stamp named same run has attempt action =
    let log = cell.journal.log in
    let at = place_of (entries_of log) (Start t stamp) (entry-there log maker (Start t stamp) has) in
    let event : Contains (log_events log) (Starts t) =
    at-contains (log_events log) at.0 (Starts t) (at-map event_of (entries_of log) at.0 (Start t stamp) at.1) in
    action_there cell.setting (length names.setting.program.actions) t
    (subst (λ (s : Setting). All (λ (a : ℕ). a < length names.setting.program.actions) s.actions) (sym same)
    named.actions) (attempt cell.setting (log_events log) cell.machine t run event)
    (action cell.setting (log_events log) cell.machine t run event)
