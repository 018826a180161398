-- Given passes with their seats, and entries of boxes with the seats that made them.
use Rattle.std.proofs.Common.{◌≡◌, ℕ, zero, suc, ◌<◌, ◌≤◌, List, [], ◌∷◌, ◌++◌, map, length}
use Rattle.std.proofs.Common.{refl, sym, ap, ◌∙◌, subst, ◌⊎◌, inl, inr, arith, Some}
use Rattle.std.specs.Prelude.{slice_get, slice_index_or, Contains}
use Rattle.std.specs.List.{range_with_len}
use Rattle.std.proofs.lemmas.List.{length-map}
use Rattle.std.proofs.lemmas.List.Elements.{All-contains}
use Rattle.seuss_program.specs.declared.state.State.{State}
use Rattle.seuss_program.specs.declared.state.Value.{Value}
use Rattle.seuss_program.specs.Programs.{vars_of}
use Rattle.method_code.specs.Codes.{compiled}
use Rattle.compat_scheduler.specs.declared.ticket.Ticket.{Ticket}
use Rattle.compat_scheduler.specs.Machines.{Machine}
use Rattle.compat_scheduler.specs.Runs.{started}
use Rattle.step_journal.specs.Histories.{Log, entries_of, IsNoteOf, IsPrefix}
use Rattle.loose_records.specs.declared.record.BoxEntry.{BoxEntry}
use Rattle.loose_records.specs.declared.record.SchedEntry.{SchedEntry}
use Rattle.loose_records.specs.declared.record.SchedEntry.TheVariants.{Start, Finish}
use Rattle.loose_records.specs.declared.record.PassRecord.{PassRecord}
use Rattle.loose_records.specs.Entries.{gives, event_of}
use Rattle.round_ledger.specs.Cells.{log_events}
use Rattle.pass_seats.specs.declared.pass.Place.{Place}
use Rattle.pass_seats.specs.declared.pass.SeatPass.{SeatPass}
use Rattle.pass_seats.specs.Names.{Names}
use Rattle.pass_seats.specs.Passes.{log_at}
use Rattle.pass_seats.specs.Seats.{SeatState, IsWhole, logs_of}
use Rattle.pass_gather.specs.Given.{given_of, AreSeats, IsSeatAt}
use Rattle.pass_gather.specs.Gathers.{GathersBoxes, GathersSched, record_of}
use Rattle.pass_gather.specs.Made.{IsOwn, IsMadeOnce, SeatsMade}
use Rattle.pass_gather.proofs.Lists.{none_some, some_same, less_or, get_front, get_prefix, map_prefix}
use Rattle.pass_gather.proofs.Lists.{get_map}
use Rattle.pass_gather.proofs.Lists.{get_unmap, get_or_get, get_below, get_there, get_past}
use Rattle.pass_gather.proofs.Lists.{get_contains, contains_get, contains_prefix}
use Rattle.pass_gather.proofs.Owns.{own_within, entry_get}
use Rattle.pass_gather.proofs.Counting.{numbered_at}
use Rattle.pass_gather.proofs.Commits.{legal_at}

-- what a seat keeps of its passes, no call with which was refused for want of memory
pub whole_at : (names : Names) (number : ℕ) (s : SeatState) → IsSeatAt names number s → IsWhole names s
whole_at names number s is = is.seat.whole is.untorn

-- a given pass with its seat, and its slot there
pub record IsGiven (seats : List SeatState) (p : SeatPass) : Type 0 where
  pub number : ℕ
  pub seat : SeatState
  pub there : slice_get seats number ≡ Some seat
  pub slot : ℕ
  pub here : slice_get seat.passes slot ≡ Some p

-- a given pass is a pass of some seat
pub given_seat : (seats : List SeatState) (j : ℕ) (p : SeatPass) → slice_get (given_of seats) j ≡ Some p →
    IsGiven seats p
given_seat [] j p at = absurd (none_some p at)
given_seat (s ∷ seats) j p at =
    either s.passes j (λ k there. record { number = 0; seat = s; there = refl; slot = k; here = there })
    (λ i e. later (given_seat seats i p e)) at
  where
    later : IsGiven seats p → IsGiven (s ∷ seats) p
    later g = record { number = suc g.number; seat = g.seat; there = g.there; slot = g.slot; here = g.here }

    either : (front : List SeatPass) (i : ℕ) →
        ((k : ℕ) → slice_get front k ≡ Some p → IsGiven (s ∷ seats) p) →
        ((i : ℕ) → slice_get (given_of seats) i ≡ Some p → IsGiven (s ∷ seats) p) →
        slice_get (front ++ given_of seats) i ≡ Some p → IsGiven (s ∷ seats) p
    either [] i here rest e = rest i e
    either (q ∷ front) zero here rest e = here 0 e
    either (q ∷ front) (suc i) here rest e = either front i (λ k there. here (suc k) there) rest e

-- a pass of a seat was given
pub seat_given : (seats : List SeatState) (w : ℕ) (s : SeatState) (k : ℕ) (p : SeatPass) →
    slice_get seats w ≡ Some s → slice_get s.passes k ≡ Some p →
    (j : ℕ) × (slice_get (given_of seats) j ≡ Some p)
seat_given [] w s k p at there = absurd (none_some s at)
seat_given (t ∷ seats) zero s k p at there = (
  k,
  get_front t.passes (given_of seats) k p
      (ap (λ (u : SeatState). slice_get u.passes k) (some_same t s at) ∙ there),
)
seat_given (t ∷ seats) (suc w) s k p at there = after t.passes (seat_given seats w s k p at there)
  where
    after : (front : List SeatPass) → (j : ℕ) × (slice_get (given_of seats) j ≡ Some p) →
        (j : ℕ) × (slice_get (front ++ given_of seats) j ≡ Some p)
    after [] h = h
    after (q ∷ front) h = let r = after front h in (suc r.0, r.1)

-- a start in the journal is among the started
start_there : (es : List SchedEntry) (k : ℕ) (t : Ticket) (stamp : ℕ) →
    slice_get es k ≡ Some (Start t stamp) →
    (j : ℕ) × (slice_get (started (map event_of es)) j ≡ Some t)
start_there [] k t stamp at = absurd (none_some (Start t stamp) at)
start_there (Start u s ∷ es) zero t stamp at = let q : u ≡ t = cc at in (0, ap Some q)
start_there (Finish u end verdict s ∷ es) zero t stamp at = cc at
start_there (Start u s ∷ es) (suc k) t stamp at = let r = start_there es k t stamp at in (suc r.0, r.1)
start_there (Finish u end verdict s ∷ es) (suc k) t stamp at = start_there es k t stamp at

-- a pass whose start its note has seen is among the started, at its number
pub pass_started : (sched : Log SchedEntry) (starts : ℕ) (p : SeatPass) →
    map (λ (t : Ticket). t.pass) (started (log_events sched)) ≡ range_with_len 0 starts →
    IsNoteOf sched p.note.maker p.note.seen → Contains (entries_of p.note.seen) (Start p.ticket p.started) →
    Contains (entries_of sched) (Start p.ticket p.started)
    × (slice_get (started (log_events sched)) p.ticket.pass ≡ Some p.ticket) × (p.ticket.pass < starts)
pass_started sched starts p numbers note has =
    let there = contains_prefix (entries_of p.note.seen) (entries_of sched) (Start p.ticket p.started)
    (map_prefix (λ (q : ℕ × SchedEntry). q.1) p.note.seen sched note.front) has in
    let c = get_contains (entries_of sched) (Start p.ticket p.started) there in
    let t = start_there (entries_of sched) c.0 p.ticket p.started c.1 in
    let n = numbered_at (started (log_events sched)) starts t.0 p.ticket numbers t.1 in (
      there,
      subst (λ (i : ℕ). slice_get (started (log_events sched)) i ≡ Some p.ticket) (sym n.0) t.1,
      omega (arith, n.0, n.1),
    )

-- the boxes, with all seats
module _ (names : Names) (last : State) (logs : List (Log BoxEntry)) (seats : List SeatState)
    (are : AreSeats names seats) (g : GathersBoxes names last logs seats) where
  -- the journals of the boxes
  abbrev boxes : List (List BoxEntry)
  boxes = map entries_of logs

  -- the journal of a box is the entries of its log
  pub journal_is : (b : ℕ) (log : Log BoxEntry) → slice_get logs b ≡ Some log →
      slice_index_or boxes b [] ≡ entries_of log
  journal_is b log at = get_or_get boxes b (entries_of log) [] (get_map entries_of logs b log at)

  -- past the boxes there is none
  no_journal : (b : ℕ) → length logs ≤ b → slice_index_or boxes b [] ≡ []
  no_journal b past =
      get_past boxes b [] (omega (arith, past, length-map logs (entries_of {E = BoxEntry})))

  -- what a seat has seen of a box
  seen_is : (b : ℕ) (s : SeatState) (p : Place) → slice_get s.places b ≡ Some p →
      log_at (logs_of s.places) b ≡ p.note.seen
  seen_is b s p at = get_or_get (logs_of s.places) b p.note.seen []
      (get_map (λ (q : Place). q.note.seen) s.places b p at)

  -- past its places a seat has seen nothing
  nothing_seen : (b : ℕ) (s : SeatState) → length s.places ≤ b → log_at (logs_of s.places) b ≡ []
  nothing_seen b s past =
      get_past (logs_of s.places) b [] (omega (
        arith,
        past,
        length-map s.places (λ (q : Place). q.note.seen),
      ))

  -- what stands in what a seat has seen stands in the journal
  pub step_there : (w b place m : ℕ) (s : SeatState) (e : BoxEntry) → slice_get seats w ≡ Some s →
      slice_get (log_at (logs_of s.places) b) place ≡ Some (m, e) →
      slice_get (slice_index_or boxes b []) place ≡ Some e
  step_there w b place m s e at there = by_place (less_or b (length s.places))
    where
      by_place : (b < length s.places) ⊎ (length s.places ≤ b) →
          slice_get (slice_index_or boxes b []) place ≡ Some e
      by_place (inl less) =
          let seat = (are.each w s at).seat in
          let p = get_there s.places b less in
          let log = get_there logs b (omega (arith, less, seat.many, g.many)) in
          let note = g.notes w b s log.0 p.0 at log.1 p.1 in
          let in_log = get_prefix p.0.note.seen log.0 place (m, e) note.front
          (subst (λ (l : Log BoxEntry). slice_get l place ≡ Some (m, e)) (seen_is b s p.0 p.1) there) in
          subst (λ (es : List BoxEntry). slice_get es place ≡ Some e) (sym (journal_is b log.0 log.1))
          (entry_get log.0 place m e in_log)
      by_place (inr past) =
          absurd (none_some (m, e) (subst (λ (l : Log BoxEntry). slice_get l place ≡ Some (m, e))
          (nothing_seen b s past) there))

  -- an entry of a box was made from some variables
  pub made_at : (b place : ℕ) (e : BoxEntry) → slice_get (slice_index_or boxes b []) place ≡ Some e →
      (v : List Value) × (w : List Value) × gives (compiled names.setting.program) b e v w
  made_at b place e at = by_box (less_or b (length logs))
    where
      by_box : (b < length logs) ⊎ (length logs ≤ b) →
          (v : List Value) × (w : List Value) × gives (compiled names.setting.program) b e v w
      by_box (inl less) =
          let log = get_there logs b less in
          legal_at (gives (compiled names.setting.program) b) (vars_of names.first b) (vars_of last b)
          (entries_of log.0) (g.legal b log.0 log.1) place e
          (subst (λ (es : List BoxEntry). slice_get es place ≡ Some e) (journal_is b log.0 log.1) at)
      by_box (inr past) =
          absurd (none_some e (subst (λ (es : List BoxEntry). slice_get es place ≡ Some e) (no_journal b
          past)
          at))

  -- who made an entry: the seat, which has seen it at the same place
  pub owner : (b place : ℕ) (e : BoxEntry) → slice_get (slice_index_or boxes b []) place ≡ Some e →
      IsMadeOnce seats b place e
  owner b place e at = by_box (less_or b (length logs))
    where
      here : (m : ℕ) (log : Log BoxEntry) (s : SeatState) (p : Place) → slice_get logs b ≡ Some log →
          slice_get log place ≡ Some (m, e) → slice_get seats m ≡ Some s → slice_get s.places b ≡ Some p →
          IsOwn s b place e
      here m log s p at_log at_entry at_seat at_place =
          let is = are.each m s at_seat in
          let note = g.notes m b s log p at_seat at_log at_place in
          let mine : p.note.maker ≡ m = (is.seat.places b p at_place).maker ∙ is.number_is in
          let own = own_within log p.note.seen m e place
          (subst (λ (n : ℕ). IsNoteOf log n p.note.seen) mine note) at_entry in
          subst (λ (n : ℕ). slice_get (log_at (logs_of s.places) b) place ≡ Some (n, e)) (sym is.number_is)
          (subst (λ (l : Log BoxEntry). slice_get l place ≡ Some (m, e)) (sym (seen_is b s p at_place)) own)

      only : (m : ℕ) (log : Log BoxEntry) → slice_get logs b ≡ Some log → slice_get log place ≡ Some (m, e) →
          (w : ℕ) (s : SeatState) (f : BoxEntry) → slice_get seats w ≡ Some s → IsOwn s b place f → w ≡ m
      only m log at_log at_entry w s f at_seat own = by_place (less_or b (length s.places))
        where
          by_place : (b < length s.places) ⊎ (length s.places ≤ b) → w ≡ m
          by_place (inl less) =
              let p = get_there s.places b less in
              let note = g.notes w b s log p.0 at_seat at_log p.1 in
              let in_log = get_prefix p.0.note.seen log place (s.number, f) note.front
              (subst (λ (l : Log BoxEntry). slice_get l place ≡ Some (
                s.number,
                f,
              )) (seen_is b s p.0 p.1) own) in
              let same = some_same (s.number, f) (m, e) (sym in_log ∙ at_entry) in
              sym (are.each w s at_seat).number_is ∙ ap (λ (q : ℕ × BoxEntry). q.0) same
          by_place (inr past) =
              absurd (none_some (s.number, f) (subst (λ (l : Log BoxEntry).
              slice_get l place ≡ Some (s.number, f)) (nothing_seen b s past) own))

      by_box : (b < length logs) ⊎ (length logs ≤ b) → IsMadeOnce seats b place e
      by_box (inr past) =
          absurd (none_some e (subst (λ (es : List BoxEntry). slice_get es place ≡ Some e) (no_journal b
          past)
          at))
      by_box (inl less) =
          let log = get_there logs b less in
          let q = get_unmap (λ (q : ℕ × BoxEntry). q.1) log.0 place e
          (subst (λ (es : List BoxEntry). slice_get es place ≡ Some e) (journal_is b log.0 log.1) at) in
          let at_entry : slice_get log.0 place ≡ Some (q.0.0, e) = q.1 ∙ ap (λ x. Some (q.0.0, x)) q.2 in
          let maker : q.0.0 < names.seats = All-contains (λ (q : ℕ × BoxEntry). q.0 < names.seats) log.0
          (q.0.0, e) (g.makers b log.0 log.1) (contains_get log.0 place (q.0.0, e) at_entry) in
          let seat = get_there seats q.0.0 (omega (arith, maker, are.many)) in
          let place_of = get_there seat.0.places b
          (omega (arith, less, (are.each q.0.0 seat.0 seat.1).seat.many, g.many)) in
          record {
            number = q.0.0;
            seat = seat.0;
            there = seat.1;
            own = here q.0.0 log.0 seat.0 place_of.0 log.1 at_entry seat.1 place_of.1;
            only = only q.0.0 log.0 log.1 at_entry;
          }

  -- the seats made what was gathered
  pub made_by_seats : (sched : Log SchedEntry) (machine : Machine) (passes : List PassRecord) →
      GathersSched names sched machine seats → SeatsMade seats (record_of names.first last logs sched passes)
  made_by_seats sched machine passes h = record {
    boxes = λ w b s p at there.
        let is = (are.each w s at).seat in
        let log = get_there logs b (omega (arith, get_below s.places b p there, is.many, g.many)) in
        subst (λ (es : List BoxEntry). IsPrefix (entries_of p.note.seen) es) (sym (journal_is b log.0 log.1))
        (map_prefix (λ (q : ℕ × BoxEntry). q.1) p.note.seen log.0 (g.notes w b s log.0 p at log.1
        there).front);
    sched = λ w s at. map_prefix (λ (q : ℕ × SchedEntry). q.1) s.note.seen sched (h.fronts w s at).front;
    made = owner;
  }
