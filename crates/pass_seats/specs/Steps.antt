-- What a step of a pass does: to the box, to the seat's place there, and to the pass.
use Rattle.std.specs.Prelude.{◌≡◌, ℕ, ◌<◌, ◌^◌, true, false, if◌then◌else◌, List, [], ◌∷◌, ◌++◌, length}
use Rattle.std.specs.Prelude.{Option, Some, None, slice_get, slice_set}
use Rattle.seuss_base.specs.declared.outcome.PassEnd.{PassEnd}
use Rattle.seuss_program.specs.declared.program.Program.{Program}
use Rattle.seuss_program.specs.declared.state.Value.{Value}
use Rattle.method_code.specs.declared.method.Method.{Method}
use Rattle.method_code.specs.declared.frame.End.{End}
use Rattle.method_code.specs.declared.activation.Activation.{Activation}
use Rattle.method_code.specs.Chains.{Turned, Next, Over, turned}
use Rattle.method_code.specs.Kinds.{calls_early}
use Rattle.step_journal.specs.declared.refusal.CellRefusal as R
use Rattle.step_journal.specs.declared.refusal.CellRefusal.TheVariants as C
use Rattle.step_journal.specs.Histories.{Log, own_entries, IsNoteOf}
use Rattle.step_journal.specs.Journals.{IsPair, longer}
use Rattle.loose_records.specs.declared.record.BoxEntry.{BoxEntry}
use Rattle.loose_records.specs.Entries.{gives}
use Rattle.box_lock.specs.Cells.{CellState, IsHistory, Sees, next_stamp}
use Rattle.pass_seats.specs.declared.pass.Place.{Place}
use Rattle.pass_seats.specs.declared.pass.Progress as P
use Rattle.pass_seats.specs.declared.pass.Progress.TheVariants as V
use Rattle.pass_seats.specs.declared.pass.SeatPass.{SeatPass}
use Rattle.pass_seats.specs.declared.refusal.EngineRefusal as E
use Rattle.pass_seats.specs.declared.refusal.EngineRefusal.TheVariants as X
use Rattle.pass_seats.specs.Desks.{HasSeen}
use Rattle.pass_seats.specs.Seats.{SeatState}

-- where a pass is, with the frame that a step has left
abbrev pub moved : Activation → BoxEntry → Activation
moved a e = record a { frame = e.after }

-- a pass goes on from here, or it is over
abbrev pub GoesOn : Turned → P.Progress → Option PassEnd → Activation → Type 0
GoesOn (Next a) V.Stepped over control = (over ≡ None) × (control ≡ a)
GoesOn (Next a) V.Over over control = ⊥
GoesOn (Over end) V.Stepped over control = ⊥
GoesOn (Over end) V.Over over control = over ≡ Some end

-- the number of the commit step, after the step with this number has ended so
abbrev pub commit_after : Option ℕ → ℕ → End → Option ℕ
commit_after (Some k) number end = Some k
commit_after None number end = if calls_early end then None else Some number

-- One step of a pass on a box with this history: the entry says what the step is given and gives, on the box's
-- variables; it has the next number of the pass, and the stamp after both clocks. The pass goes on from what the
-- step gives, and claims the entry.
pub record Steps (program : Program) (code : List Method) (b : ℕ) (log : Log BoxEntry) (vars next : List Value)
    (pass after : SeatPass) (entry : BoxEntry) (progress : P.Progress) : Type 0 where
  pub step : gives code b entry vars next
  pub box : pass.control.box_number ≡ b
  pub before : entry.before ≡ pass.control.frame
  pub budget_before : entry.budget_before ≡ pass.budget
  pub own : entry.pass ≡ pass.ticket.pass
  pub number : entry.number ≡ length pass.claims
  pub stamp : entry.stamp ≡ next_stamp pass.clock log
  pub fits : entry.stamp < 2 ^ 63
  pub goes : GoesOn (turned program (moved pass.control entry) entry.end) progress after.over after.control
  pub after_is : after ≡ record pass {
    clock = entry.stamp;
    budget = entry.budget_after;
    control = after.control;
    over = after.over;
    claims = pass.claims ++ record { box_number = b; place = length log; stamp = entry.stamp } ∷ [];
    commit = commit_after pass.commit (length pass.claims) entry.end;
  }

-- A step of a pass on a cell, by the place of a seat: what the place had seen is a beginning of the cell's history,
-- which is legal and leads to the cell's variables. The entry is its new end, made by the place's maker.
pub record Stepped (program : Program) (code : List Method) (first : ℕ → List Value) (cell new : CellState)
    (place seen : Place) (pass after : SeatPass) (progress : P.Progress) : Type 0 where
  pub entry : BoxEntry
  pub whole : (cell.broken ≡ false) × (new.broken ≡ false)
  pub before : IsNoteOf cell.journal.log place.note.maker place.note.seen
  pub history : IsHistory code cell.number (first cell.number) cell.journal.log cell.vars
  pub steps : Steps program code cell.number cell.journal.log cell.vars new.vars pass after entry progress
  pub cell_is : new ≡ record cell {
    vars = new.vars;
    journal = longer cell.journal place.note.maker entry;
  }
  pub seen_is : seen.note ≡ record place.note { seen = cell.journal.log ++ (place.note.maker, entry) ∷ [] }

-- Why a step was refused, and what then holds of the pass and of the place. The stamp that is worn is the one after
-- the clocks of the pass and of the cell.
abbrev pub StepRefused : CellState → Place → SeatPass → Place → SeatPass → R.CellRefusal → Type 0
StepRefused cell place pass seen after C.Memory = Unit {0}
StepRefused cell place pass seen after (C.Worn stamp) = (after ≡ pass) × (seen.share ≡ place.share)
    × Sees cell.journal.log place.note seen.note × (stamp ≡ 2 ^ 63)
    × (stamp ≡ next_stamp pass.clock cell.journal.log)
StepRefused cell place pass seen after C.Broken = (after ≡ pass) × (seen ≡ place) × (cell.broken ≡ true)

-- a cell is as it was, unless the refusal was for want of memory
abbrev pub IsStill : CellState → CellState → R.CellRefusal → Type 0
IsStill old new C.Memory = Unit {0}
IsStill old new (C.Worn stamp) = new ≡ old
IsStill old new C.Broken = new ≡ old

-- the place is still that of the same maker at the same journal
pub record IsStillPlace (old new : Place) : Type 0 where
  pub journal : new.note.journal ≡ old.note.journal
  pub maker : new.note.maker ≡ old.note.maker
  pub pair : IsPair new.note new.share

-- the pass in this slot of the seat isn't over, and its next step is on this box
pub record IsOpen (s : SeatState) (slot b : ℕ) : Type 0 where
  pub pass : SeatPass
  pub there : slice_get s.passes slot ≡ Some pass
  pub going : pass.over ≡ None
  pub box : pass.control.box_number ≡ b

-- A step of the pass in a slot, as its seat sees it, on a box with this history and these variables: what the seat
-- had seen there is a beginning of the history, with all of the seat's own entries; it has then seen the whole, with
-- the step's entry, its own, at the end. No other place, pass or part of the seat has changed.
pub record Advanced (program : Program) (code : List Method) (first : ℕ → List Value) (log : Log BoxEntry)
    (vars next : List Value) (old new : SeatState) (slot b : ℕ) (entry : BoxEntry) (progress : P.Progress)
    : Type 0 where
  pub place : Place
  pub seen : Place
  pub pass : SeatPass
  pub after : SeatPass
  pub at_place : slice_get old.places b ≡ Some place
  pub at_pass : slice_get old.passes slot ≡ Some pass
  pub before : IsNoteOf log old.number place.note.seen
  pub history : IsHistory code b (first b) log vars
  pub steps : Steps program code b log vars next pass after entry progress
  pub seen_is : seen.note ≡ record place.note { seen = log ++ (old.number, entry) ∷ [] }
  pub own : own_entries old.number seen.note.seen ≡ own_entries old.number place.note.seen ++ entry ∷ []
  pub new_is : new ≡ record old {
    places = slice_set old.places b seen;
    passes = slice_set old.passes slot after;
  }

-- a step of the pass in a slot at a cell, which has then the step's entry and the variables that the step leaves
pub record AdvancedAt (program : Program) (code : List Method) (first : ℕ → List Value) (cell after : CellState)
    (old new : SeatState) (slot : ℕ) (progress : P.Progress) : Type 0 where
  pub entry : BoxEntry
  pub whole : (cell.broken ≡ false) × (after.broken ≡ false)
  pub advanced : Advanced program code first cell.journal.log cell.vars after.vars old new slot cell.number entry
      progress
  pub cell_is : after ≡ record cell {
    vars = after.vars;
    journal = longer cell.journal old.number entry;
  }

-- the cell is still that of the same box, with the same makers
pub record IsSameBox (old new : CellState) : Type 0 where
  pub number : new.number ≡ old.number
  pub name : new.journal.name ≡ old.journal.name
  pub makers : new.journal.makers ≡ old.journal.makers

-- the seat has seen the whole history of a box, and all else of it is as it was
pub record SawBox (log : Log BoxEntry) (b : ℕ) (old new : SeatState) : Type 0 where
  pub place : Place
  pub seen : Place
  pub there : slice_get old.places b ≡ Some place
  pub sees : Sees log place.note seen.note
  pub share : seen.share ≡ place.share
  pub new_is : new ≡ record old { places = slice_set old.places b seen }

-- the stamp of the next step of the pass in a slot would be 2^63
pub record IsWorn (log : Log BoxEntry) (s : SeatState) (slot stamp : ℕ) : Type 0 where
  pub pass : SeatPass
  pub there : slice_get s.passes slot ≡ Some pass
  pub stamp_is : stamp ≡ next_stamp pass.clock log
  pub worn : stamp ≡ 2 ^ 63

-- the seat gave the engine up for want of memory
pub record Tears (old new : SeatState) : Type 0 where
  pub torn : new.torn ≡ true
  pub seen : HasSeen new.quit.seen
  pub number : new.number ≡ old.number

-- why a step was refused by a cell, and what then holds of the seat
abbrev pub AdvanceRefused : CellState → SeatState → SeatState → ℕ → R.CellRefusal → Type 0
AdvanceRefused cell old new slot C.Memory = Tears old new
AdvanceRefused cell old new slot (C.Worn stamp) =
    IsWorn cell.journal.log old slot stamp × SawBox cell.journal.log cell.number old new
AdvanceRefused cell old new slot C.Broken = (new ≡ old) × (cell.broken ≡ true)

-- the seat has seen who gave up, and all else of it is as it was
abbrev pub sees_quit : SeatState → ℕ → SeatState
sees_quit s by = record s { quit = record s.quit { seen = Some by } }

-- Why a step was refused at a desk, and what then holds of the seat. Another seat is found to have given up where
-- the cell is broken.
abbrev pub DeskRefused : CellState → SeatState → SeatState → ℕ → E.EngineRefusal → Type 0
DeskRefused cell old new slot (X.GivenUp by) = (new ≡ sees_quit old by) × (cell.broken ≡ true)
DeskRefused cell old new slot X.Memory = Tears old new
DeskRefused cell old new slot (X.Worn stamp) =
    IsWorn cell.journal.log old slot stamp × SawBox cell.journal.log cell.number old new

-- a cell is as it was, unless the refusal at its desk was for want of memory
abbrev pub IsStillBy : CellState → CellState → E.EngineRefusal → Type 0
IsStillBy old new (X.GivenUp by) = new ≡ old
IsStillBy old new X.Memory = Unit {0}
IsStillBy old new (X.Worn stamp) = new ≡ old
