-- What a seat has started, as the scheduler's list grows, and that its pass numbers rise.
use Rattle.std.proofs.Common.{◌≡◌, ℕ, zero, suc, ◌+◌, ◌<◌, ◌≤◌, ◌==◌, Bool, true, false, cond, List, [], ◌∷◌}
use Rattle.std.proofs.Common.{◌++◌, map, length, filter, refl, sym, ap, ◌∙◌, subst, arith, append_assoc}
use Rattle.std.proofs.Common.{drop}
use Rattle.std.specs.List.{range_with_len, slice_index}
use Rattle.std.specs.List.Sorted.{IsStrictlyIncreasing}
use Rattle.std.proofs.lemmas.Bool.Decides.{nat_tests}
use Rattle.compat_scheduler.specs.declared.ticket.Ticket.{Ticket}
use Rattle.compat_scheduler.specs.Runs.{started}
use Rattle.step_journal.specs.Histories.{Log, own_entries, IsNoteOf}
use Rattle.loose_records.specs.declared.record.SchedEntry.{SchedEntry}
use Rattle.loose_records.specs.declared.record.SchedEntry.TheVariants.{Start, Finish}
use Rattle.round_ledger.specs.Cells.{log_events}
use Rattle.ready_queue.specs.declared.view.Mark.{Mark}
use Rattle.ready_queue.specs.Rules.{passes}
use Rattle.pass_seats.proofs.Owns.{own-push}
use Rattle.worker_seats.specs.Marks.{entry_marks, marks_in, own_marks}

-- the marks of the starts among the entries of a maker
abbrev marks_of : ℕ → List SchedEntry → List Mark
marks_of maker [] = []
marks_of maker (e ∷ es) = entry_marks maker e ++ marks_of maker es

-- of two lists, one after the other
marks_of-append : (k : ℕ) (es fs : List SchedEntry) → marks_of k (es ++ fs) ≡ marks_of k es ++ marks_of k fs
marks_of-append k [] fs = refl
marks_of-append k (e ∷ es) fs =
    ap (λ (l : List Mark). entry_marks k e ++ l) (marks_of-append k es fs)
    ∙ sym (append_assoc (entry_marks k e) (marks_of k es) (marks_of k fs))

-- a seat's marks are those of its own entries
own_marks_are : (k : ℕ) (log : Log SchedEntry) → own_marks k log ≡ marks_of k (own_entries k log)
own_marks_are k [] = refl
own_marks_are k ((j, Start t stamp) ∷ log) = by_case (own_marks_are k log) (j == k) refl
  where
    by_case : own_marks k log ≡ marks_of k (own_entries k log) → (b : Bool) → (j == k) ≡ b →
        own_marks k ((j, Start t stamp) ∷ log) ≡ marks_of k (own_entries k ((j, Start t stamp) ∷ log))
    by_case rest true is =
        let same : j ≡ k = grind (arith, nat_tests) in
        rw is (λ i. record { ticket = t; seat = same i } ∷ rest i)
    by_case rest false is = rw is rest
own_marks_are k ((j, Finish t end v stamp) ∷ log) = by_case (own_marks_are k log) (j == k) refl
  where
    by_case : own_marks k log ≡ marks_of k (own_entries k log) → (b : Bool) → (j == k) ≡ b →
        own_marks k ((j, Finish t end v stamp) ∷ log) ≡ marks_of k (own_entries k ((j, Finish t end v stamp) ∷ log))
    by_case rest true is = rw is rest
    by_case rest false is = rw is rest

-- what others did adds nothing to what a seat has started
pub marks_seen : (k : ℕ) (seen log : Log SchedEntry) → IsNoteOf log k seen → own_marks k seen ≡ own_marks k log
marks_seen k seen log note =
    own_marks_are k seen ∙ ap (marks_of k) note.own ∙ sym (own_marks_are k log)

-- one start more
pub marks_push : (k : ℕ) (log : Log SchedEntry) (t : Ticket) (stamp : ℕ) →
    own_marks k (log ++ (k, Start t stamp) ∷ []) ≡ own_marks k log ++ record { ticket = t; seat = k } ∷ []
marks_push k log t stamp =
    own_marks_are k (log ++ (k, Start t stamp) ∷ [])
    ∙ ap (marks_of k) (own-push k log (Start t stamp))
    ∙ marks_of-append k (own_entries k log) (Start t stamp ∷ [])
    ∙ ap (λ (l : List Mark). l ++ record { ticket = t; seat = k } ∷ []) (sym (own_marks_are k log))

-- pass numbers that rise from this one on
abbrev Rising : ℕ → List Mark → Type 0
Rising low [] = Unit {0}
Rising low (m ∷ ms) = (low ≤ m.ticket.pass) × Rising (m.ticket.pass + 1) ms

-- they rise from a lower one
lower : (low high : ℕ) (ms : List Mark) → low ≤ high → Rising high ms → Rising low ms
lower low high [] le r = tt
lower low high (m ∷ ms) le r = (omega (arith, r.0), r.1)

-- and so do some of them
rising_filter : (p : Mark → Bool) (low : ℕ) (ms : List Mark) → Rising low ms → Rising low (filter p ms)
rising_filter p low [] r = tt
rising_filter p low (m ∷ ms) r = by_case (p m) (rising_filter p (m.ticket.pass + 1) ms r.1)
  where
    by_case : (b : Bool) → Rising (m.ticket.pass + 1) (filter p ms) →
        Rising low (cond b (m ∷ filter p ms) (filter p ms))
    by_case true rest = (r.0, rest)
    by_case false rest = lower low (m.ticket.pass + 1) (filter p ms) (omega (arith, r.0)) rest

-- numbers one after the other rise
rising_range : (ms : List Mark) (a n : ℕ) → passes ms ≡ range_with_len a n → Rising a ms
rising_range [] a n e = tt
rising_range (m ∷ ms) a zero e = absurd (omega (arith, ap length e))
rising_range (m ∷ ms) a (suc n) e =
    let head : m.ticket.pass ≡ a = ap (λ (l : List ℕ). slice_index l 0) e in (
      omega (arith, head),
      subst (λ (i : ℕ). Rising (i + 1) ms) (sym head) (rising_range ms (a + 1) n (ap (drop 1) e)),
    )

-- what rises is strictly increasing
rising_up : (low : ℕ) (ms : List Mark) → Rising low ms → IsStrictlyIncreasing (passes ms)
rising_up low [] r k within = absurd (omega arith)
rising_up low (m ∷ []) r k within = absurd (omega arith)
rising_up low (m ∷ n ∷ ms) r zero within = omega (arith, r.1.0)
rising_up low (m ∷ n ∷ ms) r (suc k) within =
    let e : suc k + 1 ≡ suc (k + 1) = omega arith in
    subst (λ (i : ℕ). slice_index (passes (n ∷ ms)) k < slice_index (passes (m ∷ n ∷ ms)) i) (sym e)
    (rising_up (m.ticket.pass + 1) (n ∷ ms) r.1 k (omega arith))

-- the marks of a list are of its started passes
pub all_passes : (log : Log SchedEntry) →
    passes (marks_in log) ≡ map (λ (t : Ticket). t.pass) (started (log_events log))
all_passes [] = refl
all_passes ((k, Start t stamp) ∷ log) = ap (λ (l : List ℕ). t.pass ∷ l) (all_passes log)
all_passes ((k, Finish t end v stamp) ∷ log) = all_passes log

-- the numbers of the passes that a seat has started rise
pub own_rise : (k : ℕ) (log : Log SchedEntry) (n : ℕ) →
    map (λ (t : Ticket). t.pass) (started (log_events log)) ≡ range_with_len 0 n →
    IsStrictlyIncreasing (passes (own_marks k log))
own_rise k log n e =
    rising_up 0 (own_marks k log)
    (rising_filter (λ (m : Mark). m.seat == k) 0 (marks_in log) (rising_range (marks_in log) 0 n (all_passes log ∙ e)))
