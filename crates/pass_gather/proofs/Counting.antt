-- No pass is open: by counts of starts and finishes.
use Rattle.std.proofs.Common.{◌≡◌, ◌≢◌, ℕ, zero, suc, ◌+◌, ◌<◌, ◌≤◌, List, [], ◌∷◌, ◌++◌, map, length, All}
use Rattle.std.proofs.Common.{Bool, true, false, ◌==◌, refl, sym, ap, ◌∙◌, subst, ⊎_elim, arith, Some}
use Rattle.std.proofs.Common.{length-append, sum_by, count_by, cond}
use Rattle.std.specs.Prelude.{slice_get, slice_index_or}
use Rattle.std.specs.List.{range_with_len}
use Rattle.std.proofs.lemmas.List.{length-map}
use Rattle.std.proofs.lemmas.List.FromFn.{length-range_with_len, get_or-range_with_len}
use Rattle.std.proofs.lemmas.List.Elements.{All-head, All-tail, All-contains, All-map}
use Rattle.std.proofs.lemmas.List.Sums.{sum_by-cons, count_by-le-length}
use Rattle.std.proofs.lemmas.Bool.Decides.{nat_tests}
use Rattle.compat_scheduler.specs.declared.ticket.Ticket.{Ticket}
use Rattle.compat_scheduler.specs.declared.slot.Slot.{Slot}
use Rattle.compat_scheduler.specs.Settings.{Setting}
use Rattle.compat_scheduler.specs.Machines.{Machine, IsRunning, running_count, is_running, slot_at, slot_of}
use Rattle.compat_scheduler.specs.Runs.{started}
use Rattle.step_journal.specs.Histories.{Log, entries_of, own_entries}
use Rattle.loose_records.specs.declared.record.SchedEntry.{SchedEntry}
use Rattle.loose_records.specs.declared.record.SchedEntry.TheVariants.{Start, Finish}
use Rattle.loose_records.specs.Entries.{event_of}
use Rattle.round_ledger.specs.Cells.{IsOwned, IsOpenOrOver, log_events}
use Rattle.pass_seats.specs.Desks.{finish_of, finishes_in}
use Rattle.pass_seats.specs.Seats.{SeatState, is_done, start_of}
use Rattle.pass_gather.specs.Given.{given_of, TookItsOwn, AllFinished}
use Rattle.pass_gather.proofs.Lists.{none_some, some_same, get_map, get_below, get_there, contains_get}
use Rattle.pass_gather.proofs.Lists.{get_or_get}
use Rattle.pass_gather.proofs.Lists.{nil_from_length, bit}

-- the number of a pass is its place among the started
pub numbered_at : (ts : List Ticket) (n j : ℕ) (t : Ticket) →
    map (λ (u : Ticket). u.pass) ts ≡ range_with_len 0 n → slice_get ts j ≡ Some t → (t.pass ≡ j) × (j < n)
numbered_at ts n j t is at =
    let there : slice_get (range_with_len 0 n) j ≡ Some t.pass =
    subst (λ (l : List ℕ). slice_get l j ≡ Some t.pass) is (get_map (λ (u : Ticket). u.pass) ts j t at) in
    let below = get_below (range_with_len 0 n) j t.pass there in
    let less : j < n = omega (arith, below, length-range_with_len 0 n) in (
      sym (get_or_get (range_with_len 0 n) j t.pass 0 there) ∙ get_or-range_with_len 0 n j 0 less
          ∙ omega arith,
      less,
    )

-- as many were started as the machine has counted
pub started_many : (ts : List Ticket) (n : ℕ) → map (λ (u : Ticket). u.pass) ts ≡ range_with_len 0 n →
    length ts ≡ n
started_many ts n is =
    omega (arith, ap length is, length-range_with_len 0 n, length-map ts (λ (u : Ticket). u.pass))

-- how many entries makers n up to before n + k have
abbrev own_sum : {E : Type 0} → ℕ → ℕ → Log E → ℕ
own_sum n zero log = 0
own_sum n (suc k) log = length (own_entries n log) + own_sum (n + 1) k log

-- 1 where m is one of these makers
abbrev hits : ℕ → ℕ → ℕ → ℕ
hits n zero m = 0
hits n (suc k) m = bit (m == n) + hits (n + 1) k m

-- a maker below them is none of them
hits_below : (n k m : ℕ) → m < n → hits n k m ≡ 0
hits_below n zero m less = refl
hits_below n (suc k) m less =
    omega (arith, one (m == n) refl, hits_below (n + 1) k m (omega (arith, less)))
  where
    one : (b : Bool) → (m == n) ≡ b → bit (m == n) ≡ 0
    one true is = absurd (grind (arith, nat_tests))
    one false is = ap bit is

-- a maker is one of them once at most
hits_few : (n k m : ℕ) → hits n k m ≤ 1
hits_few n zero m = omega arith
hits_few n (suc k) m = one (m == n) refl (hits_few (n + 1) k m)
  where
    one : (b : Bool) → (m == n) ≡ b → hits (n + 1) k m ≤ 1 → bit (m == n) + hits (n + 1) k m ≤ 1
    one true is few =
        let m_is : m ≡ n = grind (arith, nat_tests) in
        omega (arith, ap bit is, hits_below (n + 1) k m (omega (arith, m_is)))
    one false is few = omega (arith, ap bit is, few)

-- a maker after them is none of them
hits_above : (n k m : ℕ) → n + k ≤ m → hits n k m ≡ 0
hits_above n zero m more = refl
hits_above n (suc k) m more =
    omega (arith, one (m == n) refl, hits_above (n + 1) k m (omega (arith, more)))
  where
    one : (b : Bool) → (m == n) ≡ b → bit (m == n) ≡ 0
    one true is = absurd (grind (arith, nat_tests))
    one false is = ap bit is

-- a maker among them is one of them
hits_one : (n k m : ℕ) → n ≤ m → m < n + k → hits n k m ≡ 1
hits_one n zero m more less = absurd (omega (arith, more, less))
hits_one n (suc k) m more less =
    one (m == n) refl (λ apart. hits_one (n + 1) k m (omega (arith, more, apart)) (omega (arith, less)))
  where
    one : (b : Bool) → (m == n) ≡ b → (m ≢ n → hits (n + 1) k m ≡ 1) → bit (m == n) + hits (n + 1) k m ≡ 1
    one true is rest =
        let m_is : m ≡ n = grind (arith, nat_tests) in
        omega (arith, ap bit is, hits_below (n + 1) k m (omega (arith, m_is)))
    one false is rest =
        let apart : m ≢ n = grind (arith, nat_tests) in
        omega (arith, ap bit is, rest apart)

-- where there are no entries makers have none
own_sum_nil : (E : Type 0) (n k : ℕ) → own_sum {E = E} n k [] ≡ 0
own_sum_nil E n zero = refl
own_sum_nil E n (suc k) =
    let z : length (own_entries {E = E} n []) ≡ 0 = refl in omega (arith, z, own_sum_nil E (n + 1) k)

module _ {E : Type 0} where
  -- one entry more, for one maker
  own_one : (n : ℕ) (p : ℕ × E) (log : Log E) →
      length (own_entries n (p ∷ log)) ≡ bit (p.0 == n) + length (own_entries n log)
  own_one n p log = by_test (p.0 == n) refl
    where
      by_test : (b : Bool) → (p.0 == n) ≡ b →
          length (own_entries n (p ∷ log)) ≡ bit (p.0 == n) + length (own_entries n log)
      by_test true is = rw is (omega arith)
      by_test false is = rw is (omega arith)

  -- one entry more, for these makers
  own_sum_cons : (n k : ℕ) (p : ℕ × E) (log : Log E) →
      own_sum n k (p ∷ log) ≡ hits n k p.0 + own_sum n k log
  own_sum_cons n zero p log = refl
  own_sum_cons n (suc k) p log = omega (arith, own_one n p log, own_sum_cons (n + 1) k p log)

  -- makers have no more entries than a weight that gives each of theirs 1
  own_sum_le : (f : ℕ × E → ℕ) (n k : ℕ) (log : Log E) → All (λ p. hits n k p.0 ≤ f p) log →
      own_sum n k log ≤ sum_by f log
  own_sum_le f n k [] each = omega (arith, own_sum_nil E n k)
  own_sum_le f n k (p ∷ log) each =
      omega (
        arith,
        own_sum_cons n k p log,
        sum_by-cons f p log,
        All-head (λ (q : ℕ × E). hits n k q.0 ≤ f q) p log each,
        own_sum_le f n k log (All-tail (λ (q : ℕ × E). hits n k q.0 ≤ f q) p log each),
      )

  -- makers have as many entries as a weight that gives each of theirs 1 and all others 0
  own_sum_is : (f : ℕ × E → ℕ) (n k : ℕ) (log : Log E) → All (λ p. hits n k p.0 ≡ f p) log →
      own_sum n k log ≡ sum_by f log
  own_sum_is f n k [] each = let z : sum_by f [] ≡ 0 = refl in omega (arith, own_sum_nil E n k, z)
  own_sum_is f n k (p ∷ log) each =
      omega (
        arith,
        own_sum_cons n k p log,
        sum_by-cons f p log,
        All-head (λ (q : ℕ × E). hits n k q.0 ≡ f q) p log each,
        own_sum_is f n k log (All-tail (λ (q : ℕ × E). hits n k q.0 ≡ f q) p log each),
      )

  -- where each has some, there are as many as makers
  own_sum_some : (n k : ℕ) (log : Log E) → ((i : ℕ) → i < k → own_entries (n + i) log ≢ []) →
      k ≤ own_sum n k log
  own_sum_some n zero log some = omega arith
  own_sum_some n (suc k) log some =
      omega (
        arith,
        one (length (own_entries n log)) refl,
        own_sum_some (n + 1) k log (λ i less.
            let same : n + 1 + i ≡ n + (i + 1) = omega arith in
            subst (λ (m : ℕ). own_entries m log ≢ []) (sym same) (some (i + 1) (omega (arith, less)))),
      )
    where
      one : (l : ℕ) → length (own_entries n log) ≡ l → 1 ≤ length (own_entries n log)
      one zero is =
          let z : n + 0 ≡ n = omega arith in
          absurd (some 0 (omega arith)
          (ap (λ m. own_entries m log) z ∙ nil_from_length (own_entries n log) is))
      one (suc l) is = omega (arith, is)

-- a start counts
abbrev start_in : ℕ × SchedEntry → ℕ
start_in (m, Start t stamp) = 1
start_in (m, Finish t end verdict stamp) = 0

-- the starts, counted
starts_counted : (log : Log SchedEntry) → sum_by start_in log ≡ length (started (log_events log))
starts_counted [] = refl
starts_counted ((m, Start t stamp) ∷ log) =
    omega (arith, sum_by-cons start_in (m, Start t stamp) log, starts_counted log)
starts_counted ((m, Finish t end verdict stamp) ∷ log) =
    omega (arith, sum_by-cons start_in (m, Finish t end verdict stamp) log, starts_counted log)

-- workers make starts alone, and each start is made by one of them
worker_hits : (seats : ℕ) (p : ℕ × SchedEntry) → IsOwned seats p → hits 0 seats p.0 ≡ start_in p
worker_hits seats (m, Start t stamp) owned = hits_one 0 seats m (omega arith) (omega (arith, owned))
worker_hits seats (m, Finish t end verdict stamp) owned =
    omega (arith, hits_above 0 seats m (omega (arith, owned)))

-- passes make finishes alone
pass_hits : (seats n : ℕ) (p : ℕ × SchedEntry) → IsOwned seats p → hits seats n p.0 ≤ finish_of p
pass_hits seats n (m, Start t stamp) owned = omega (arith, hits_below seats n m owned)
pass_hits seats n (m, Finish t end verdict stamp) owned = hits_few seats n m

-- a slot that runs is counted
running_counts : (slots : List Slot) (i : ℕ) → is_running (slot_at slots i) ≡ true →
    1 ≤ count_by is_running slots
running_counts [] i runs = absurd (grind (arith, runs))
running_counts (s ∷ slots) zero runs =
    omega (arith, sum_by-cons (λ (x : Slot). cond (is_running x) 1 0) s slots, ap bit runs)
running_counts (s ∷ slots) (suc i) runs =
    omega (arith, sum_by-cons (λ (x : Slot). cond (is_running x) 1 0) s slots, running_counts slots i runs)

-- where nothing runs, no ticket does
none_runs : (s : Setting) (m : Machine) (t : Ticket) → running_count m ≡ 0 → IsRunning s m t → ⊥
none_runs s m t none runs =
    absurd (omega (arith, none, running_counts m.slots (slot_of s t) (ap is_running runs.slot)))

-- the start of each number stands there
start_of_number : (log : List SchedEntry) (j : ℕ) (t : Ticket) →
    slice_get (started (map event_of log)) j ≡ Some t →
    (k : ℕ) × (stamp : ℕ) × (slice_get log k ≡ Some (Start t stamp))
start_of_number [] j t at = absurd (none_some t at)
start_of_number (Start u stamp ∷ log) zero t at =
    (0, stamp, ap (λ x. Some (Start x stamp)) (some_same u t at))
start_of_number (Start u stamp ∷ log) (suc j) t at =
    let r = start_of_number log j t at in (suc r.0, r.1, r.2)
start_of_number (Finish u end verdict stamp ∷ log) j t at =
    let r = start_of_number log j t at in (suc r.0, r.1, r.2)

module _ (seats : ℕ) (setting : Setting) (machine : Machine) (sched : Log SchedEntry)
    (owners : All (IsOwned seats) sched)
    (tickets : All (λ p. IsOpenOrOver setting machine seats sched p.1) sched)
    (numbers : map (λ (t : Ticket). t.pass) (started (log_events sched)) ≡ range_with_len 0 machine.starts)
    (quiet : running_count machine ≡ 0) where
  -- each pass has finished
  each_finished : (i : ℕ) → i < machine.starts → own_entries (seats + i) sched ≢ []
  each_finished i less =
      let many = started_many (started (log_events sched)) machine.starts numbers in
      let t = get_there (started (log_events sched)) i (omega (arith, less, many)) in
      let there = start_of_number (entries_of sched) i t.0 t.1 in
      let fact = All-contains (IsOpenOrOver setting machine seats sched) (entries_of sched) (Start t.0
      there.1)
      (All-map (IsOpenOrOver setting machine seats sched) (λ (p : ℕ × SchedEntry). p.1) sched tickets)
      (contains_get (entries_of sched) there.0 (Start t.0 there.1) there.2) in
      subst (λ (n : ℕ). own_entries (seats + n) sched ≢ [])
      (numbered_at (started (log_events sched)) machine.starts i t.0 numbers t.1).0
      (⊎_elim (λ (r : IsRunning setting machine t.0). absurd (none_runs setting machine t.0 quiet r))
      (λ (some : own_entries (seats + t.0.pass) sched ≢ []). some) fact)

  -- so there are as many finishes as starts, at least
  pub starts_finished : machine.starts ≤ finishes_in sched
  starts_finished =
      omega (
        arith,
        own_sum_some seats machine.starts sched each_finished,
        own_sum_le finish_of seats machine.starts sched (λ k d less.
            pass_hits seats machine.starts (slice_index_or sched k d) (owners k d less)),
      )

-- workers made as many starts as there are
starts_made : (seats : ℕ) (machine : Machine) (sched : Log SchedEntry) → All (IsOwned seats) sched →
    map (λ (t : Ticket). t.pass) (started (log_events sched)) ≡ range_with_len 0 machine.starts →
    own_sum 0 seats sched ≡ machine.starts
starts_made seats machine sched owners numbers =
    omega (
      arith,
      own_sum_is start_in 0 seats sched (λ k d less.
          worker_hits seats (slice_index_or sched k d) (owners k d less)),
      starts_counted sched,
      started_many (started (log_events sched)) machine.starts numbers,
    )

-- the passes that seats from number n on were given, by their starts
given_sum : (n : ℕ) (sched : Log SchedEntry) (seats : List SeatState) →
    ((w : ℕ) (s : SeatState) → slice_get seats w ≡ Some s →
    own_entries (n + w) sched ≡ map start_of s.passes) →
    length (given_of seats) ≡ own_sum n (length seats) sched
given_sum n sched [] starts = refl
given_sum n sched (s ∷ seats) starts =
    let z : n + 0 ≡ n = omega arith in
    let here : own_entries n sched ≡ map start_of s.passes =
    ap (λ m. own_entries m sched) (sym z) ∙ starts 0 s refl in
    let rest = given_sum (n + 1) sched seats (λ w t at.
    let same : n + 1 + w ≡ n + suc w = omega arith in
    ap (λ m. own_entries m sched) same ∙ starts (suc w) t at) in
    omega (
      arith,
      length-append s.passes (given_of seats),
      rest,
      ap length here,
      length-map s.passes start_of,
    )

-- a count over two lists
count_by-append : {A : Type 0} (p : A → Bool) (xs ys : List A) →
    count_by p (xs ++ ys) ≡ count_by p xs + count_by p ys
count_by-append p [] ys = let z : count_by p [] ≡ 0 = refl in omega (arith, z)
count_by-append p (x ∷ xs) ys =
    omega (
      arith,
      sum_by-cons (λ y. cond (p y) 1 0) x (xs ++ ys),
      sum_by-cons (λ y. cond (p y) 1 0) x xs,
      count_by-append p xs ys,
    )

-- the seats' finished passes are the given ones that have finished
done_sum : (seats : List SeatState) →
    sum_by (λ s. count_by is_done s.passes) seats ≡ count_by is_done (given_of seats)
done_sum [] = refl
done_sum (s ∷ seats) =
    omega (
      arith,
      sum_by-cons (λ (t : SeatState). count_by is_done t.passes) s seats,
      count_by-append is_done s.passes (given_of seats),
      done_sum seats,
    )

-- where a test passes as often as there are elements, it passes at the first one, and so on
all_first : {A : Type 0} (p : A → Bool) (y : A) (ys : List A) → length (y ∷ ys) ≤ count_by p (y ∷ ys) →
    (p y ≡ true) × (length ys ≤ count_by p ys)
all_first p y ys all =
    let count = sum_by-cons (λ z. cond (p z) 1 0) y ys in
    let few = count_by-le-length p ys in
    one (p y) refl count few
  where
    one : (b : Bool) → p y ≡ b → count_by p (y ∷ ys) ≡ bit (p y) + count_by p ys →
        count_by p ys ≤ length ys → (p y ≡ true) × (length ys ≤ count_by p ys)
    one true is count few = (is, omega (arith, all, count, ap bit is))
    one false is count few = absurd (omega (arith, all, count, ap bit is, few))

-- it passes at each
all_pass : {A : Type 0} (p : A → Bool) (xs : List A) → length xs ≤ count_by p xs → (i : ℕ) (x : A) →
    slice_get xs i ≡ Some x → p x ≡ true
all_pass p [] all i x at = absurd (none_some x at)
all_pass p (y ∷ ys) all zero x at = ap p (sym (some_same y x at)) ∙ (all_first p y ys all).0
all_pass p (y ∷ ys) all (suc i) x at = all_pass p ys (all_first p y ys all).1 i x at

-- where each seat was given the passes that it has started, all started ones were given
pub all_given : (machine : Machine) (sched : Log SchedEntry) (seats : List SeatState) →
    All (IsOwned (length seats)) sched →
    map (λ (t : Ticket). t.pass) (started (log_events sched)) ≡ range_with_len 0 machine.starts →
    ((w : ℕ) (s : SeatState) → slice_get seats w ≡ Some s → (s.number ≡ w) × TookItsOwn sched s) →
    length (given_of seats) ≡ machine.starts
all_given machine sched seats owners numbers took =
    given_sum 0 sched seats (λ w s at.
    let z : 0 + w ≡ s.number = omega (arith, (took w s at).0) in
    ap (λ m. own_entries m sched) z ∙ (took w s at).1)
    ∙ starts_made (length seats) machine sched owners numbers

-- so no given pass is open
pub none_open : (setting : Setting) (machine : Machine) (sched : Log SchedEntry) (seats : List SeatState)
    (count : ℕ) → All (IsOwned count) sched →
    All (λ p. IsOpenOrOver setting machine count sched p.1) sched →
    map (λ (t : Ticket). t.pass) (started (log_events sched)) ≡ range_with_len 0 machine.starts →
    running_count machine ≡ 0 → length (given_of seats) ≡ machine.starts →
    sum_by (λ s. count_by is_done s.passes) seats ≡ finishes_in sched → AllFinished (given_of seats)
none_open setting machine sched seats count owners tickets numbers quiet given ledger =
    let more = starts_finished count setting machine sched owners tickets numbers quiet in
    let done = done_sum seats in
    record { done = all_pass is_done (given_of seats) (omega (arith, more, given, done, ledger)) }

-- where nothing runs, and so many were finished as the scheduler has finishes, that many were started at most
pub starts_done : (setting : Setting) (machine : Machine) (sched : Log SchedEntry) (count done : ℕ) →
    All (IsOwned count) sched → All (λ p. IsOpenOrOver setting machine count sched p.1) sched →
    map (λ (t : Ticket). t.pass) (started (log_events sched)) ≡ range_with_len 0 machine.starts →
    running_count machine ≡ 0 → (0 < count → done ≡ finishes_in sched) → machine.starts ≤ done
starts_done setting machine sched zero done owners tickets numbers quiet counted =
    let none : 0 ≡ machine.starts = starts_made 0 machine sched owners numbers in omega (arith, none)
starts_done setting machine sched (suc n) done owners tickets numbers quiet counted =
    let some : 0 < suc n = omega arith in
    omega (arith, starts_finished (suc n) setting machine sched owners tickets numbers quiet, counted some)
