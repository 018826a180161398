-- What a cell keeps when its journal grows.
use Rattle.std.proofs.Common.{◌≡◌, ◌≢◌, ℕ, ◌+◌, ◌<◌, ◌^◌, ◌==◌, Bool, true, false, ◌&&◌, not, List, []}
use Rattle.std.proofs.Common.{◌∷◌}
use Rattle.std.proofs.Common.{◌++◌, map, length, All, refl, sym, ap, ◌∙◌, subst, ◌⊎◌, inl, inr, ⊎_elim}
use Rattle.std.proofs.Common.{arith}
use Rattle.std.specs.Prelude.{Contains, max, Option, None, Some, MatchOption}
use Rattle.std.specs.List.{list_all}
use Rattle.std.proofs.lemmas.List.{map-append}
use Rattle.std.proofs.lemmas.List.Elements.{All-map, All-contains, All-push, All-weaker}
use Rattle.std.proofs.lemmas.List.Elements.{Contains-append_left}
use Rattle.std.proofs.lemmas.Bool.Decides.{nat_tests}
use Rattle.seuss_base.specs.declared.outcome.PassEnd.{PassEnd}
use Rattle.compat_scheduler.specs.declared.ticket.Ticket.{Ticket}
use Rattle.compat_scheduler.specs.declared.ticket.FinishVerdict.{FinishVerdict}
use Rattle.compat_scheduler.specs.Settings.{Setting}
use Rattle.compat_scheduler.specs.Machines.{Machine, IsRunning, flag_of, slot_of}
use Rattle.compat_scheduler.specs.Starts.{Starts, IsNext, NoneStarts}
use Rattle.compat_scheduler.specs.Finishes.{Finishes, IsVerdict, verdict_on, slot_finished, settled}
use Rattle.compat_scheduler.specs.Finishes.{is_ended}
use Rattle.compat_scheduler.specs.Runs.{Event, IsRun, Leads}
use Rattle.step_journal.specs.Histories.{Log, entries_of, own_entries, IsNoteOf}
use Rattle.step_journal.specs.Journals.{JournalState, NoteState, longer}
use Rattle.step_journal.proofs.Owns.{own_entries-append, length-own_entries-push}
use Rattle.loose_records.specs.declared.record.SchedEntry.{SchedEntry}
use Rattle.loose_records.specs.declared.record.SchedEntry.TheVariants.{Start, Finish}
use Rattle.loose_records.specs.Entries.{event_of, stamp_of, AreStamps}
use Rattle.loose_records.specs.Turns.{clock_of}
use Rattle.loose_records.proofs.Clocks.{stamps_after, clock_push}
use Rattle.round_ledger.specs.Cells.{CellState, IsCell, IsOwned, IsOpenOrOver, IsTicketNote, log_events}
use Rattle.round_ledger.specs.Cells.{log_stamps}

-- a list without elements is empty
nil_from_length : {A : Type 0} (xs : List A) → length xs ≡ 0 → xs ≡ []
nil_from_length [] none = refl
nil_from_length (x ∷ xs) none = absurd (omega (arith, none))

-- a started ticket whose maker has made no entry still runs
pub still_runs : (s : Setting) (m : Machine) (seats : ℕ) (log : Log SchedEntry) (t : Ticket)
    (note : NoteState SchedEntry) → All (λ p. IsOpenOrOver s m seats log p.1) log →
    IsNoteOf log note.maker note.seen → IsTicketNote seats t note →
    length (own_entries note.maker note.seen) ≡ 0 → IsRunning s m t
still_runs s m seats log t note tickets sees given none =
    let start = Start t given.started.0 in
    let whole : entries_of log ≡ entries_of note.seen ++ entries_of sees.front.0 =
    ap entries_of (sym sees.front.1) ∙ map-append (λ (p : ℕ × SchedEntry). p.1) note.seen sees.front.0 in
    let in_log : Contains (entries_of log) start =
    subst (λ (es : List SchedEntry). Contains es start) (sym whole)
    (Contains-append_left (entries_of note.seen) (entries_of sees.front.0) start given.started.1) in
    let fact = All-contains (IsOpenOrOver s m seats log) (entries_of log) start
    (All-map (IsOpenOrOver s m seats log) (λ (p : ℕ × SchedEntry). p.1) log tickets) in_log in
    let nothing : own_entries (seats + t.pass) log ≡ [] =
    ap (λ n. own_entries n log) (sym given.maker) ∙ sym sees.own
    ∙ nil_from_length (own_entries note.maker note.seen) none in
    ⊎_elim (λ (r : IsRunning s m t). r)
    (λ (some : own_entries (seats + t.pass) log ≢ []). absurd (some nothing)) fact

-- what is not empty stays so
append_some : {A : Type 0} (xs ys : List A) → xs ≢ [] → (xs ++ ys) ≢ []
append_some [] ys some = absurd (some refl)
append_some (x ∷ xs) ys some = λ none. absurd (omega (arith, ap length none))

-- a maker with an entry has one in the longer journal
own_stays : (m : ℕ) (log : Log SchedEntry) (p : ℕ × SchedEntry) → own_entries m log ≢ [] →
    own_entries m (log ++ p ∷ []) ≢ []
own_stays m log p some =
    subst (λ (es : List SchedEntry). es ≢ []) (sym (own_entries-append m log (p ∷ [])))
    (append_some (own_entries m log) (own_entries m (p ∷ [])) some)

-- the maker of an entry has one
own_made : (m : ℕ) (log : Log SchedEntry) (e : SchedEntry) → own_entries m (log ++ (m, e) ∷ []) ≢ []
own_made m log e none = absurd (omega (arith, ap length none, length-own_entries-push m log e))

-- the entries of the longer journal
entries_push : (log : Log SchedEntry) (maker : ℕ) (e : SchedEntry) →
    entries_of (log ++ (maker, e) ∷ []) ≡ entries_of log ++ e ∷ []
entries_push log maker e = map-append (λ (p : ℕ × SchedEntry). p.1) log ((maker, e) ∷ [])

-- its events
events_push : (log : Log SchedEntry) (maker : ℕ) (e : SchedEntry) →
    log_events (log ++ (maker, e) ∷ []) ≡ log_events log ++ event_of e ∷ []
events_push log maker e =
    ap (map event_of) (entries_push log maker e) ∙ map-append event_of (entries_of log) (e ∷ [])

-- and its stamps
log_stamps_push : (log : Log SchedEntry) (maker : ℕ) (e : SchedEntry) →
    log_stamps (log ++ (maker, e) ∷ []) ≡ log_stamps log ++ stamp_of e ∷ []
log_stamps_push log maker e =
    ap (map stamp_of) (entries_push log maker e) ∙ map-append stamp_of (entries_of log) (e ∷ [])

-- settling keeps the count of starts
starts-settled : (s : Setting) (m : Machine) → (settled s m).starts ≡ m.starts
starts-settled s m = by_test (list_all is_ended m.slots && not m.stopped) refl
  where
    by_test : (b : Bool) → (list_all is_ended m.slots && not m.stopped) ≡ b →
        (settled s m).starts ≡ m.starts
    by_test true e = rw e refl
    by_test false e = rw e refl

-- the verdict on a running pass is one
same_verdict : (s : Setting) (m : Machine) (t : Ticket) (end : PassEnd) (v w : FinishVerdict) →
    IsVerdict s m t end v → IsVerdict s m t end w → v ≡ w
same_verdict s m t end v w one other =
    one.given ∙ ap (λ b. verdict_on b end) (ap flag_of (sym one.running.slot ∙ other.running.slot))
    ∙ sym other.given

-- so a finish has the verdict that was asked for before it
pub same_finish : (s : Setting) (m : Machine) (t : Ticket) (end : PassEnd) (v w : FinishVerdict)
    (new : Machine) → IsVerdict s m t end v → Finishes s m t end w new → Finishes s m t end v new
same_finish s m t end v w new one finishes =
    subst (λ (x : FinishVerdict). Finishes s m t end x new)
    (same_verdict s m t end w v finishes.judged one) finishes

-- a run with one event more is a run
abbrev RunsGoOn : Type 0
RunsGoOn = (s : Setting) (events : List Event) (m n : Machine) (event : Event) → IsRun s events m →
    Leads s m event n → IsRun s (events ++ event ∷ []) n

-- what a cell keeps of its clock and stamps, with one entry more
record KeepsTime (log : Log SchedEntry) (maker : ℕ) (e : SchedEntry) (now : ℕ) : Type 0 where
  stamps : AreStamps (log_stamps (log ++ (maker, e) ∷ []))
  clock_is : now ≡ clock_of (log_stamps (log ++ (maker, e) ∷ []))

-- an entry with the stamp after both clocks keeps them
keeps_time : (clock : ℕ) (old : CellState) (maker : ℕ) (e : SchedEntry) (other now : ℕ) →
    IsCell clock old → now ≡ 1 + max other clock → now < 2 ^ 63 → stamp_of e ≡ now →
    KeepsTime old.journal.log maker e now
keeps_time clock old maker e other now cell stamp fits at =
    let log = old.journal.log in
    let stamps = log_stamps log in
    let is : log_stamps (log ++ (maker, e) ∷ []) ≡ stamps ++ now ∷ [] =
    log_stamps_push log maker e ∙ ap (λ n. stamps ++ n ∷ []) at in
    let next : now ≡ 1 + max other (clock_of stamps) = stamp ∙ ap (λ c. 1 + max other c) cell.clock_is in
    record {
      stamps = subst AreStamps (sym is)
          (stamps_after other stamps now cell.stamps next fits);
      clock_is = sym (ap clock_of is ∙ clock_push stamps now (omega (arith, cell.clock_is, stamp)));
    }

-- a finish keeps the cell
pub finished : RunsGoOn → (clock : ℕ) (old : CellState) (t : Ticket) (end : PassEnd)
    (verdict : FinishVerdict) (maker other now : ℕ) (setting : Setting) (machine : Machine)
    (journal : JournalState SchedEntry) → IsCell clock old → setting ≡ old.setting →
    Finishes old.setting old.machine t end verdict machine →
    ((u : Ticket) → IsRunning old.setting old.machine u → u.pass ≢ t.pass → IsRunning setting machine u) →
    maker ≡ old.seats + t.pass → now ≡ 1 + max other clock → now < 2 ^ 63 →
    journal ≡ longer old.journal maker (Finish t end verdict now) →
    IsCell now (record {
      setting = setting;
      machine = machine;
      journal = journal;
      seats = old.seats;
      broken = old.broken;
    })
finished go_on clock old t end verdict maker other now setting machine journal cell same finishes others
    maker_is stamp fits longer_is =
    let e = Finish t end verdict now in
    let log = old.journal.log in
    let log_is : journal.log ≡ log ++ (maker, e) ∷ [] = ap (λ j. j.log) longer_is in
    let time = keeps_time clock old maker e other now cell stamp fits refl in
    let still : (p : ℕ × SchedEntry) → IsOpenOrOver old.setting old.machine old.seats log p.1 →
    IsOpenOrOver setting machine old.seats (log ++ (maker, e) ∷ []) p.1 = λ p fact. stays p.0 p.1 fact in
    record {
      run = subst (λ (k : Setting). IsRun k (log_events journal.log) machine) (sym same)
          (rw (log_is, events_push log maker e)
          (go_on old.setting (log_events log) old.machine machine (event_of e) cell.run finishes));
      stamps = rw log_is time.stamps;
      clock_is = rw log_is time.clock_is;
      fits = fits;
      owners = subst (All (IsOwned old.seats)) (sym log_is)
          (All-push (IsOwned old.seats) log (maker, e) cell.owners maker_is);
      tickets = subst (λ (l : Log SchedEntry). All (λ p. IsOpenOrOver setting machine old.seats l p.1) l)
          (sym log_is)
          (All-push (λ (p : ℕ × SchedEntry).
          IsOpenOrOver setting machine old.seats (log ++ (maker, e) ∷ []) p.1) log (maker, e)
          (All-weaker (λ (p : ℕ × SchedEntry). IsOpenOrOver old.setting old.machine old.seats log p.1)
          (λ (p : ℕ × SchedEntry). IsOpenOrOver setting machine old.seats (log ++ (maker, e) ∷ []) p.1)
          still log cell.tickets) tt);
      makers = λ whole. ap (λ j. j.makers) longer_is ∙ cell.makers whole ∙ ap (λ n. old.seats + n)
          (sym (ap (λ k. k.starts) finishes.after
          ∙ starts-settled old.setting (slot_finished old.machine (slot_of old.setting t) end verdict)));
    }
  where
    either : (u : Ticket) (b : Bool) → (u.pass == t.pass) ≡ b → IsRunning old.setting old.machine u →
        IsRunning setting machine u
        ⊎ (own_entries (old.seats + u.pass) (old.journal.log ++ (maker, Finish t end verdict now) ∷ []) ≢
        [])
    either u true is runs =
        let pass : u.pass ≡ t.pass = grind (arith, nat_tests) in
        inr (subst (λ (n : ℕ).
        own_entries n (old.journal.log ++ (maker, Finish t end verdict now) ∷ []) ≢ [])
        (maker_is ∙ ap (λ n. old.seats + n) (sym pass))
        (own_made maker old.journal.log (Finish t end verdict now)))
    either u false is runs = inl (others u runs (λ pass. absurd (grind (arith, nat_tests))))

    stays : (m : ℕ) (x : SchedEntry) → IsOpenOrOver old.setting old.machine old.seats old.journal.log x →
        IsOpenOrOver setting machine old.seats
        (old.journal.log ++ (maker, Finish t end verdict now) ∷ []) x
    stays m (Start u stamp) fact =
        ⊎_elim (λ (r : IsRunning old.setting old.machine u). either u (u.pass == t.pass) refl r)
        (λ (some : own_entries (old.seats + u.pass) old.journal.log ≢ []).
        inr (own_stays (old.seats + u.pass) old.journal.log (maker, Finish t end verdict now) some)) fact
    stays m (Finish u end verdict stamp) fact = tt

-- a start keeps the cell
pub started : RunsGoOn → (clock : ℕ) (old : CellState) (t : Ticket) (maker other now : ℕ)
    (setting : Setting) (machine : Machine) (journal : JournalState SchedEntry) → IsCell clock old →
    setting ≡ old.setting → Starts old.setting old.machine t machine → IsRunning setting machine t →
    ((u : Ticket) → IsRunning old.setting old.machine u → IsRunning setting machine u) →
    maker < old.seats → now ≡ 1 + max other clock → now < 2 ^ 63 →
    journal.log ≡ old.journal.log ++ (maker, Start t now) ∷ [] →
    journal.makers ≡ old.journal.makers + 1 →
    IsCell now (record {
      setting = setting;
      machine = machine;
      journal = journal;
      seats = old.seats;
      broken = old.broken;
    })
started go_on clock old t maker other now setting machine journal cell same starts here others worker
    stamp
    fits log_is makers_is =
    let e = Start t now in
    let log = old.journal.log in
    let time = keeps_time clock old maker e other now cell stamp fits refl in
    let still : (p : ℕ × SchedEntry) → IsOpenOrOver old.setting old.machine old.seats log p.1 →
    IsOpenOrOver setting machine old.seats (log ++ (maker, e) ∷ []) p.1 = λ p fact. stays p.0 p.1 fact in
    record {
      run = subst (λ (k : Setting). IsRun k (log_events journal.log) machine) (sym same)
          (rw (log_is, events_push log maker e)
          (go_on old.setting (log_events log) old.machine machine (event_of e) cell.run starts));
      stamps = rw log_is time.stamps;
      clock_is = rw log_is time.clock_is;
      fits = fits;
      owners = subst (All (IsOwned old.seats)) (sym log_is)
          (All-push (IsOwned old.seats) log (maker, e) cell.owners worker);
      tickets = subst (λ (l : Log SchedEntry). All (λ p. IsOpenOrOver setting machine old.seats l p.1) l)
          (sym log_is)
          (All-push (λ (p : ℕ × SchedEntry).
          IsOpenOrOver setting machine old.seats (log ++ (maker, e) ∷ []) p.1) log (maker, e)
          (All-weaker (λ (p : ℕ × SchedEntry). IsOpenOrOver old.setting old.machine old.seats log p.1)
          (λ (p : ℕ × SchedEntry). IsOpenOrOver setting machine old.seats (log ++ (maker, e) ∷ []) p.1)
          still log cell.tickets) (inl here));
      makers = λ whole. omega (arith, makers_is, cell.makers whole, starts.starts);
    }
  where
    stays : (m : ℕ) (x : SchedEntry) → IsOpenOrOver old.setting old.machine old.seats old.journal.log x →
        IsOpenOrOver setting machine old.seats (old.journal.log ++ (maker, Start t now) ∷ []) x
    stays m (Start u stamp) fact =
        ⊎_elim (λ (r : IsRunning old.setting old.machine u). inl (others u r))
        (λ (some : own_entries (old.seats + u.pass) old.journal.log ≢ []).
        inr (own_stays (old.seats + u.pass) old.journal.log (maker, Start t now) some)) fact
    stays m (Finish u end verdict stamp) fact = tt

-- the ticket that comes next is the one that starts
pub starts_next : (s : Setting) (m new : Machine) (t : Ticket) (r : Option Ticket) →
    ((t u : Ticket) → IsNext s m t → IsNext s m u → t ≡ u) → IsNext s m t →
    MatchOption r (NoneStarts s m × (new ≡ m)) (λ u. Starts s m u new) → (r ≡ Some t) × Starts s m t new
starts_next s m new t None one next h = absurd (h.0 t next)
starts_next s m new t (Some u) one next h =
    let same = one t u next h.next in
    (ap Some (sym same), subst (λ (x : Ticket). Starts s m x new) (sym same) h)
