-- The seats of an engine once each has seen the scheduler's whole list, and the record that they make.
use Rattle.std.proofs.Common.{◌≡◌, ℕ, List, [], ◌∷◌, ◌++◌, map, All, Some, false, refl, sym, ap, ◌∙◌}
use Rattle.std.proofs.Common.{subst, append_assoc, get_or}
use Rattle.std.specs.Prelude.{Result, Ok, Err, IfOk, MatchResult, slice_get}
use Rattle.std.proofs.lemmas.List.{length-map, map-append}
use Rattle.std.proofs.lemmas.Option.{slice_get_within, get_or_from_slice_get, slice_get-get_or}
use Rattle.seuss_program.specs.declared.state.State.{State}
use Rattle.step_journal.specs.Histories.{Log, entries_of, IsNoteOf, IsPrefix}
use Rattle.loose_records.specs.declared.record.BoxEntry.{BoxEntry}
use Rattle.loose_records.specs.declared.record.SchedEntry.{SchedEntry}
use Rattle.loose_records.specs.declared.record.Record.{Record}
use Rattle.box_lock.specs.Cells as B
use Rattle.round_ledger.specs.Cells as S
use Rattle.round_ledger.specs.declared.standing.Standing.{Standing}
use Rattle.pass_seats.specs.declared.pass.SeatPass.{SeatPass}
use Rattle.pass_seats.specs.declared.refusal.EngineRefusal as E
use Rattle.pass_seats.specs.declared.refusal.EngineRefusal.TheVariants as X
use Rattle.pass_seats.specs.Names.{Names}
use Rattle.pass_seats.specs.Seats.{SeatState, IsSeat}
use Rattle.pass_seats.specs.Starts.{sees_sched}
use Rattle.pass_seats.specs.Finishes.{Stands, StandingRefusedBy}
use Rattle.pass_seats.proofs.Lists.{at-map, map-at}
use Rattle.pass_gather.specs.Given.{given_of, IsSeatAt, AreSeats, TookItsOwn, Lists}
use Rattle.pass_gather.specs.Gathered.{IsGathered}
use Rattle.pass_gather.specs.Made.{IsOwn, IsMadeOnce, SeatsMade}
use Rattle.pass_engine.specs.Engines.{IsWorker}
use Rattle.pass_engine.specs.Gathering.{IsWholeAt, AreAllSeats, SeesAll, seen_with}
use Rattle.pass_engine.proofs.Keeping.{not_both}

-- what holds of each holds of the one at a place
at_place : {A : Type 0} (P : A → Type 0) (xs : List A) (k : ℕ) (x : A) → All P xs →
    slice_get xs k ≡ Some x → P x
at_place P xs k x all at = subst P (get_or_from_slice_get xs k x x at) (all k x (slice_get_within xs k x at))

-- the entries of a beginning of a list are a beginning of what its entries begin
entries_on : (xs ys : Log SchedEntry) (es : List SchedEntry) → IsPrefix xs ys → IsPrefix (entries_of ys) es →
    IsPrefix (entries_of xs) es
entries_on xs ys es p q = (
  entries_of p.0 ++ q.0,
  sym (append_assoc (entries_of xs) (entries_of p.0) q.0)
      ∙ ap (λ (l : List SchedEntry). l ++ q.0)
      (sym (map-append (λ (e : ℕ × SchedEntry). e.1) xs p.0) ∙ ap (entries_of {E = SchedEntry}) p.1)
      ∙ q.1,
)

-- whoever was told whether the run goes on, where the scheduler's cell is whole, has seen the whole list
pub told_sees : (cell : S.CellState) (seat core : SeatState) (told : Result Standing E.EngineRefusal) →
    IfOk told (Stands cell seat core) → MatchResult told (λ _. ℕ) (StandingRefusedBy cell seat core) →
    cell.broken ≡ false → (core ≡ sees_sched seat cell.journal.log)
    × IsNoteOf cell.journal.log seat.number seat.note.seen
told_sees cell seat core (Ok answer) stands refused working = (stands.new_is, stands.before)
told_sees cell seat core (Err X.Memory) stands refused working = absurd refused
told_sees cell seat core (Err (X.GivenUp by)) stands refused working = not_both cell.broken working refused.1
told_sees cell seat core (Err (X.Worn stamp)) stands refused working = absurd refused

-- a worker's seat has then started the passes that it was given
pub sees_all : (names : Names) (log : Log SchedEntry) (seat core : SeatState) → seat.torn ≡ false →
    core ≡ sees_sched seat log → IsNoteOf log seat.number seat.note.seen → IsWorker seat →
    IsSeat names core → SeesAll names log seat
sees_all names log seat core whole is before worker kept = record {
  before = before;
  took = sym before.own ∙ worker.took whole;
  kept = subst (IsSeat names) is kept;
}

-- none of all seats is torn
pub none_torn : (names : Names) (seats : List SeatState) → AreAllSeats names seats →
    All (λ (s : SeatState). s.torn ≡ false) seats
none_torn names seats are = λ k d less.
    (are.each k (get_or seats k d) (slice_get-get_or seats k d less)).untorn

-- with a list seen the seats were given the same passes
pub given_same : (log : Log SchedEntry) (seats : List SeatState) →
    given_of (map (seen_with log) seats) ≡ given_of seats
given_same log [] = refl
given_same log (s ∷ seats) = ap (λ (ps : List SeatPass). s.passes ++ ps) (given_same log seats)

-- all seats of an engine, each with the scheduler's whole list seen
module _ (names : Names) (log : Log SchedEntry) (seats : List SeatState)
    (see : All (SeesAll names log) seats) where
  -- their cores
  abbrev cores : List SeatState
  cores = map (seen_with log) seats

  -- the core of a seat
  core_at : (w : ℕ) (s : SeatState) → slice_get seats w ≡ Some s → IsWholeAt w s →
      IsSeatAt names w (seen_with log s)
  core_at w s at is =
      let kept = (at_place (SeesAll names log) seats w s see at).kept in
      record {
        number_is = is.number_is;
        seat = kept;
        untorn = is.untorn;
        unmarked = kept.unmarked is.untorn;
      }

  -- the cores are all seats
  pub cores_are : AreAllSeats names seats → AreSeats names cores
  cores_are are = record {
    many = length-map seats (seen_with log) ∙ are.many;
    each = λ w c at.
        let s = map-at (seen_with log) seats w c at in
        subst (IsSeatAt names w) s.2 (core_at w s.0 s.1 (are.each w s.0 s.1));
  }

  -- and each was given just the passes that it has started
  pub cores_took : AreAllSeats names seats → (w : ℕ) (c : SeatState) → slice_get cores w ≡ Some c →
      (c.number ≡ w) × TookItsOwn log c
  cores_took are w c at =
      let s = map-at (seen_with log) seats w c at in
      subst (λ (t : SeatState). (t.number ≡ w) × TookItsOwn log t) s.2
      ((are.each w s.0 s.1).number_is, (at_place (SeesAll names log) seats w s.0 see s.1).took)

  -- what the cores made the seats have made
  pub seats_made : (r : Record) → SeatsMade cores r → SeatsMade seats r
  seats_made r made = record {
    boxes = λ w b s p at there.
        made.boxes w b (seen_with log s) p (at-map (seen_with log) seats w s at) there;
    sched = λ w s at.
        entries_on s.note.seen log r.sched (at_place (SeesAll names log) seats w s see at).before.front
        (made.sched w (seen_with log s) (at-map (seen_with log) seats w s at));
    made = λ b place e at. once b place e (made.made b place e at);
  }
    where
      once : (b place : ℕ) (e : BoxEntry) → IsMadeOnce cores b place e → IsMadeOnce seats b place e
      once b place e m =
          let s = map-at (seen_with log) seats m.number m.seat m.there in
          record {
            number = m.number;
            seat = s.0;
            there = s.1;
            own = subst (λ (t : SeatState). IsOwn t b place e) (sym s.2) m.own;
            only = λ w t f at own. m.only w (seen_with log t) f (at-map (seen_with log) seats w t at) own;
          }

-- the record of the cores is that of the seats
pub seats_gathered : (first : State) (cells : List B.CellState) (sched : S.CellState) (log : Log SchedEntry)
    (seats : List SeatState) (r : Record) → IsGathered first cells sched (map (seen_with log) seats) r →
    IsGathered first cells sched seats r
seats_gathered first cells sched log seats r gathered = record {
  passes = subst (λ (ps : List SeatPass). Lists ps sched.machine.starts r.passes) (given_same log seats)
      gathered.passes;
  record_is = gathered.record_is;
}
