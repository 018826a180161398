-- The modes of passes, over whole runs.
use Rattle.std.proofs.Common.{◌≡◌, ℕ, Bool, true, false, List, [], ◌∷◌, refl, subst, ◌⊎◌, inl, inr, ⊎_elim}
use Rattle.std.specs.Prelude.{Contains}
use Rattle.seuss_base.specs.declared.level.Level.{Level}
use Rattle.seuss_base.specs.declared.level.Level.TheVariants.{Never, Loose, Firm}
use Rattle.seuss_base.specs.declared.outcome.PassEnd.{PassEnd}
use Rattle.seuss_base.specs.declared.outcome.PassEnd.TheVariants.{Accepted, PlainRejected, Rejected}
use Rattle.seuss_base.specs.declared.outcome.PassEnd.TheVariants.{Trapped, Spent}
use Rattle.compat_scheduler.specs.declared.slot.Slot.TheVariants.{Pending, Running}
use Rattle.compat_scheduler.specs.declared.ticket.Ticket.{Ticket}
use Rattle.compat_scheduler.specs.declared.ticket.FinishVerdict.TheVariants.{Void}
use Rattle.compat_scheduler.specs.Settings.{Setting}
use Rattle.compat_scheduler.specs.Machines.{Machine, slot_of}
use Rattle.compat_scheduler.specs.Finishes.{verdict_on}
use Rattle.compat_scheduler.specs.Soundness.{IsSoundSlot, IsSoundMachine}
use Rattle.compat_scheduler.specs.Runs.{Event, Leads, Runs}
use Rattle.compat_scheduler.specs.Runs.Event.{Start, Finish}
use Rattle.compat_scheduler.proofs.Memberships.{contains_nothing, contains_cases}
use Rattle.compat_scheduler.proofs.RunLemmas.{sound-leads}

-- what waits waits in mode loose or firm
pending_mode : (mode : Level) → IsSoundSlot (Pending mode) → (mode ≡ Loose) ⊎ (mode ≡ Firm)
pending_mode Never lawful = absurd lawful
pending_mode Loose lawful = inl refl
pending_mode Firm lawful = inr refl

-- a pass starts in mode loose or firm
start_mode : (s : Setting) (old : Machine) (event : Event) (new : Machine)
    (t : Ticket) → IsSoundMachine s old → Leads s old event new →
    event ≡ Start t → (t.mode ≡ Loose) ⊎ (t.mode ≡ Firm)
start_mode s old event new t sound leads same =
    let starts : Leads s old (Start t) new = subst (λ (e : Event). Leads s old e new) same leads in
    pending_mode t.mode (subst IsSoundSlot starts.next.first.may.pending (sound.lawful (slot_of s t)))

-- in a run each pass starts in mode loose or firm
pub start_modes : (s : Setting) (events : List Event) (old new : Machine) (t : Ticket) →
    IsSoundMachine s old → Runs s old events new →
    Contains events (Start t) → (t.mode ≡ Loose) ⊎ (t.mode ≡ Firm)
start_modes s [] old new t sound run h = absurd (contains_nothing (Start t) h)
start_modes s (event ∷ events) old new t sound run h =
    ⊎_elim (λ (same : event ≡ Start t). start_mode s old event run.0 t sound run.1 same)
    (λ (later : Contains events (Start t)).
    start_modes s events run.0 new t (sound-leads s old event run.0 sound run.1) run.2 later)
    (contains_cases event events (Start t) h)

-- the flag of a void pass was down
flag_of_void : (clean : Bool) (end : PassEnd) → Void ≡ verdict_on clean end → clean ≡ false
flag_of_void false end e = refl
flag_of_void true Accepted e = absurd (cc)
flag_of_void true PlainRejected e = absurd (cc)
flag_of_void true Rejected e = absurd (cc)
flag_of_void true (Trapped trap) e = absurd (cc)
flag_of_void true Spent e = absurd (cc)

-- a pass whose flag is down runs in mode loose
mode_of_flag : (pass : ℕ) (mode : Level) (clean : Bool) → IsSoundSlot (Running pass mode clean) →
    clean ≡ false → mode ≡ Loose
mode_of_flag pass Never clean lawful down = absurd lawful
mode_of_flag pass Loose clean lawful down = refl
mode_of_flag pass Firm true lawful down = absurd (cc)
mode_of_flag pass Firm false lawful down = absurd lawful

-- a void pass ran in mode loose
void_mode : (s : Setting) (old : Machine) (event : Event) (new : Machine) (t : Ticket) (end : PassEnd) →
    IsSoundMachine s old →
    Leads s old event new → event ≡ Finish t end Void → t.mode ≡ Loose
void_mode s old event new t end sound leads same =
    let finishes : Leads s old (Finish t end Void) new =
    subst (λ (e : Event). Leads s old e new) same leads in
    mode_of_flag t.pass t.mode finishes.judged.running.clean
    (subst IsSoundSlot finishes.judged.running.slot (sound.lawful (slot_of s t)))
    (flag_of_void finishes.judged.running.clean end finishes.judged.given)

-- in a run each void pass ran in mode loose
pub void_modes : (s : Setting) (events : List Event) (old new : Machine) (t : Ticket) (end : PassEnd) →
    IsSoundMachine s old →
    Runs s old events new → Contains events (Finish t end Void) → t.mode ≡ Loose
void_modes s [] old new t end sound run h = absurd (contains_nothing (Finish t end Void) h)
void_modes s (event ∷ events) old new t end sound run h =
    ⊎_elim (λ (same : event ≡ Finish t end Void). void_mode s old event run.0 t end sound run.1 same)
    (λ (later : Contains events (Finish t end Void)).
    void_modes s events run.0 new t end (sound-leads s old event run.0 sound run.1) run.2 later)
    (contains_cases event events (Finish t end Void) h)
