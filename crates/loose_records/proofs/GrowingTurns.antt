-- Turns keep what holds of a record in the making.
use Rattle.std.proofs.Common.{ℕ, List, [], ◌∷◌, sym, subst, ◌≡◌, ap, ◌∙◌}
use Rattle.seuss_base.specs.declared.outcome.PassEnd.{PassEnd}
use Rattle.compat_scheduler.specs.declared.ticket.Ticket.{Ticket}
use Rattle.compat_scheduler.specs.declared.ticket.FinishVerdict.{FinishVerdict}
use Rattle.compat_scheduler.specs.Machines.{Machine}
use Rattle.compat_scheduler.specs.Starts.{Starts}
use Rattle.compat_scheduler.specs.Finishes.{Finishes}
use Rattle.loose_records.specs.declared.record.BoxEntry.{BoxEntry}
use Rattle.loose_records.specs.declared.record.Record.{Record}
use Rattle.loose_records.specs.Settings.{RunSetting}
use Rattle.loose_records.specs.Growing.{Status, IsGrowing, AddsStart, AddsStep, AddsFinish}
use Rattle.loose_records.specs.Turns.{Turning, IsTurn, Waits, Begins, Moves, Ends, AreTurns}

-- what the events of a run keep
pub record Grows (s : RunSetting) : Type 0 where
  pub starts : (old new : Record) (before after : List Status) (m n : Machine) (t : Ticket) (stamp : ℕ) →
      IsGrowing s old before m →
      Starts s.scheduler m t n → AddsStart s old before t stamp new after → IsGrowing s new after n
  pub steps : (old new : Record) (before after : List Status) (m : Machine) (i : ℕ) (e : BoxEntry) →
      IsGrowing s old before m →
      AddsStep s old before i e new after → IsGrowing s new after m
  pub finishes : (old new : Record) (before after : List Status) (m n : Machine) (i : ℕ) (t : Ticket)
      (end : PassEnd) (verdict : FinishVerdict) (stamp : ℕ) →
      IsGrowing s old before m → Finishes s.scheduler m t end verdict n →
      AddsFinish s old before i t end verdict stamp new after → IsGrowing s new after n

-- the record of a run by turns is one in the making
abbrev pub GrowsNow : RunSetting → Turning → Type 0
GrowsNow s x = IsGrowing s x.made x.statuses x.machine

-- a turn keeps a record in the making
pub turn_grows : (s : RunSetting) → Grows s → (worker : ℕ) (old new : Turning) → GrowsNow s old →
    IsTurn s worker old new → GrowsNow s new
turn_grows s laws worker old new g (Waits free none is) = subst (GrowsNow s) (sym is) g
turn_grows s laws worker old new g (Begins free t stamp starts adds rule holds) =
    laws.starts old.made new.made old.statuses new.statuses old.machine new.machine t stamp g starts adds
turn_grows s laws worker old new g (Moves i holds e adds clock of rule still same) =
    subst (λ (m : Machine). IsGrowing s new.made new.statuses m) (sym still) (laws.steps old.made new.made
    old.statuses new.statuses old.machine i e g adds)
turn_grows s laws worker old new g (Ends i holds t end verdict stamp finishes adds clock of rule free) =
    laws.finishes old.made new.made old.statuses new.statuses old.machine new.machine i t end verdict stamp
    g finishes adds

-- so do turns
pub turns_grow : (s : RunSetting) → Grows s → (workers : List ℕ) (old new : Turning) → GrowsNow s old →
    AreTurns s workers old new → GrowsNow s new
turns_grow s laws [] old new g turns = subst (GrowsNow s) (sym turns) g
turns_grow s laws (worker ∷ workers) old new g turns =
    turns_grow s laws workers turns.1.0 new (turn_grows s laws worker old turns.1.0 g turns.1.1) turns.1.2

-- a turn leaves the first state as it was
turn_first : (s : RunSetting) (worker : ℕ) (old new : Turning) → IsTurn s worker old new →
    new.made.first ≡ old.made.first
turn_first s worker old new (Waits free none is) = ap (λ (x : Turning). x.made.first) is
turn_first s worker old new (Begins free t stamp starts adds rule holds) =
    ap (λ (r : Record). r.first) adds.is
turn_first s worker old new (Moves i holds e adds clock of rule still same) =
    ap (λ (r : Record). r.first) adds.is
turn_first s worker old new (Ends i holds t end verdict stamp finishes adds clock of rule free) =
    ap (λ (r : Record). r.first) adds.is

-- so do turns
pub turns_first : (s : RunSetting) (workers : List ℕ) (old new : Turning) → AreTurns s workers old new →
    new.made.first ≡ old.made.first
turns_first s [] old new turns = ap (λ (x : Turning). x.made.first) turns
turns_first s (worker ∷ workers) old new turns =
    turns_first s workers turns.1.0 new turns.1.2 ∙ turn_first s worker old turns.1.0 turns.1.1
