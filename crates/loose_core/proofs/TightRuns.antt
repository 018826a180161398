-- The tight run of the commit order gives the outcomes and the last state.
use Rattle.std.proofs.Common.{◌≡◌, ℕ, zero, suc, ◌+◌, ◌<◌, ◌≤◌, inl, inr, List, [], ◌∷◌, Bool, true, false}
use Rattle.std.proofs.Common.{◌&&◌, ◌||◌, ◌==◌, set, sym, subst, ap, refl, length, slice_get, Option, Some}
use Rattle.std.proofs.Common.{arith, ◌∙◌, map, eq-eqb, true-eqb}
use Rattle.std.specs.Prelude.{nat_lt, nat_le, option_map}
use Rattle.std.specs.List.{AllByRecursion, filter}
use Rattle.std.specs.Option.{unwrap_or}
use Rattle.std.proofs.lemmas.Bool.Decides.{nat_tests}
use Rattle.std.proofs.lemmas.Option.{slice_get_within, get_or_from_slice_get}
use Rattle.seuss_base.specs.declared.outcome.Outcome.{Outcome}
use Rattle.seuss_base.specs.declared.outcome.PassEnd.TheVariants.{PlainRejected}
use Rattle.seuss_program.specs.declared.program.Program.{Program}
use Rattle.seuss_program.specs.declared.program.ActionInfo.{ActionInfo}
use Rattle.seuss_program.specs.declared.state.Value.{Value}
use Rattle.seuss_program.specs.declared.state.Vars.{Vars}
use Rattle.seuss_program.specs.declared.state.State.{State}
use Rattle.seuss_program.specs.declared.order.Placed.{Placed}
use Rattle.seuss_program.specs.Programs.{vars_of}
use Rattle.seuss_program.specs.Attempts.{action_attempt, tight, TightRun}
use Rattle.method_code.specs.Codes.{compiled}
use Rattle.method_code.specs.Chains.{begun, chain, Passed, outcome_of}
use Rattle.method_code.specs.Frames.{HasVars, IsFrame}
use Rattle.method_code.specs.Records.{does, Makes as MakesState}
use Rattle.compat_scheduler.specs.declared.ticket.FinishVerdict.{FinishVerdict}
use Rattle.compat_scheduler.specs.declared.ticket.FinishVerdict.TheVariants.{Kept, Void}
use Rattle.compat_scheduler.specs.Runs.Event.{Finish}
use Rattle.step_journal.specs.Histories.{IsLegal as Legal}
use Rattle.loose_records.specs.declared.record.BoxEntry.{BoxEntry}
use Rattle.loose_records.specs.declared.record.SchedEntry.TheVariants as S
use Rattle.loose_records.specs.declared.record.PassRecord.{PassRecord}
use Rattle.loose_records.specs.declared.record.Record.{Record}
use Rattle.loose_records.specs.Entries.{gives, journal, event_of, events_of}
use Rattle.loose_records.specs.Orders.{is_kept, is_kept_by, commit_stamp, comes_before, sort_by, placed_of}
use Rattle.loose_records.specs.Orders.{commit_order}
use Rattle.loose_records.specs.Settings.{RunSetting}
use Rattle.loose_records.specs.LooseRecords.{IsPass}
use Rattle.loose_core.proofs.lists.Words.{Pairs, Exchanges, IsIdle, on_box, Makes, Serial, Both, Boxwise}
use Rattle.loose_core.proofs.lists.Words.{In}
use Rattle.loose_core.proofs.LowerLaws.{StepLaws}
use Rattle.loose_core.proofs.lists.Exchanges.{idle_dropped, Pairs-filter}
use Rattle.loose_core.proofs.lists.SerialRuns.{serialized}
use Rattle.loose_core.proofs.lists.Places.{some_same, at-contains, at-map}
use Rattle.loose_core.proofs.lists.Rising.{In-get, get-In, All-In, All-from_In, RisesFrom-filter}
use Rattle.loose_core.proofs.lists.Rising.{In-filter}
use Rattle.loose_core.proofs.lists.Rising.{filter-In, In-sort, sort-In, sort-pairs, rising_pairs}
use Rattle.loose_core.proofs.lists.Rising.{rising_same}
use Rattle.loose_core.proofs.ClaimedEntries.{entries_of, claim_of_entry, entries_rise, In-on_box, on_box-In}
use Rattle.loose_core.proofs.ClaimedEntries.{on_box_rises, suc_rises}
use Rattle.loose_core.proofs.SafeSteps.{acts, recorded, keeps_vars}
use Rattle.loose_core.proofs.MadeEntries.{Facts, tick, named_of, pass_rises, pass_chain, box_rises}
use Rattle.loose_core.proofs.MadeEntries.{journal_within, all_made}
use Rattle.loose_core.proofs.InvertedEntries.{PassInfo, pass_info, EntryInfo, entry_info, inverted}
use Rattle.loose_core.proofs.InvertedEntries.{sched_places}

-- the kept passes, in commit order
abbrev pub kept_order : Record → List PassRecord
kept_order r = sort_by comes_before (filter is_kept r.passes)

-- whether the pass of this number is kept
abbrev pub kept_at : Record → ℕ → Bool
kept_at r i = unwrap_or (option_map is_kept (slice_get r.passes i)) false

-- the entries of the pass of this number
abbrev pub steps_at : Record → ℕ → List (ℕ × BoxEntry)
steps_at r i = unwrap_or (option_map (entries_of r) (slice_get r.passes i)) []

-- the entries of kept passes in the journal of a box
abbrev pub kept_journal : Record → ℕ → List BoxEntry
kept_journal r b = filter (λ e. kept_at r e.pass) (journal r b)

-- the pass of a number was kept where it was kept
kept_is : (r : Record) (i : ℕ) (p : PassRecord) → slice_get r.passes i ≡ Some p → kept_at r i ≡ is_kept p
kept_is r i p h = ap (λ (o : Option PassRecord). unwrap_or (option_map is_kept o) false) h

-- the steps of the pass of a number are those of the pass
steps_is : (r : Record) (i : ℕ) (p : PassRecord) → slice_get r.passes i ≡ Some p →
    steps_at r i ≡ entries_of r p
steps_is r i p h = ap (λ (o : Option PassRecord). unwrap_or (option_map (entries_of r) o) []) h

-- a pass that was kept
pub is_kept_true : (p : PassRecord) → is_kept p ≡ true → p.verdict ≡ Kept
is_kept_true p = go p.verdict
  where
    go : (v : FinishVerdict) → is_kept_by v ≡ true → v ≡ Kept
    go Kept h = refl
    go Void h = cc h

-- a pass that was void
is_kept_false : (p : PassRecord) → is_kept p ≡ false → p.verdict ≡ Void
is_kept_false p = go p.verdict
  where
    go : (v : FinishVerdict) → is_kept_by v ≡ false → v ≡ Void
    go Kept h = cc h
    go Void h = refl

-- both at each box
both_at : {V : Type 0} (R : V → V → Type 0) (s t : List V) (b : ℕ) → length t ≡ length s →
    ((v w : V) → slice_get s b ≡ Some v → slice_get t b ≡ Some w → R v w) →
    Both R (slice_get s b) (slice_get t b)
both_at R [] [] b e f = tt
both_at R [] (y ∷ t) b e f = absurd (omega (arith, e))
both_at R (x ∷ s) [] b e f = absurd (omega (arith, e))
both_at R (x ∷ s) (y ∷ t) zero e f = f x y refl refl
both_at R (x ∷ s) (y ∷ t) (suc b) e f = both_at R s t b (omega (arith, e)) f

-- a legal history by frames of the code, from variables of the box, is one on variables of the box
formed : (p : Program) → StepLaws p → (b : ℕ) (v w : List Value) (es : List BoxEntry) → HasVars p b v →
    AllByRecursion (λ e. IsFrame p b e.before) es → Legal (gives (compiled p) b) v es w →
    Legal (acts p b) (record { values = v }) es (record { values = w })
formed p laws b v w [] vars frames legal = ap (λ (v : List Value). record { values = v }) legal
formed p laws b v w (e ∷ es) vars frames legal = (
  record { values = legal.0 },
  (vars, frames.0, legal.1),
  formed p laws b legal.0 w es
      (keeps_vars p laws b e v legal.0 frames.0 vars legal.1) frames.1 legal.2,
)

-- the variables of a box of a state
vars_at : (state : State) (b : ℕ) (v : Vars) → slice_get state.boxes b ≡ Some v →
    record { values = vars_of state b } ≡ v
vars_at state b v h =
    ap (λ (v : Vars). record { values = v.values }) (get_or_from_slice_get state.boxes b v
    (record { values = [] }) h)

-- void passes are left out
pub kept_legal : (s : RunSetting) (r : Record) (g : Facts s r) →
    Boxwise (λ b v w. Legal (acts s.program b) v (kept_journal r b) w) r.first.boxes r.last.boxes
kept_legal s r g b =
    both_at (λ v w. Legal (acts s.program b) v (kept_journal r b) w) r.first.boxes r.last.boxes b
    g.loose.last
    (λ v w at_v at_w.
    let l = slice_get_within r.first.boxes b v at_v in
    let whole = formed s.program g.steps b (vars_of r.first b) (vars_of r.last b) (journal r b)
    (g.loose.first.values b (omega (arith, l, g.loose.first.count)))
    (All-from_In (λ e. IsFrame s.program b e.before) (journal r b)
    (λ e i. (all_made s r g b e i).2.1)) (g.loose.legal b (omega (arith, l, g.loose.many))) in
    idle_dropped (acts s.program b) (λ e. kept_at r e.pass) (journal r b) v w idle
    (subst (λ w. Legal (acts s.program b) v (journal r b) w) (vars_at r.last b w at_w)
    (subst (λ v. Legal (acts s.program b) v (journal r b) (record { values = vars_of r.last b }))
    (vars_at r.first b v at_v) whole)))
  where
    idle_at : (e : BoxEntry) → EntryInfo s r g b e → kept_at r e.pass ≡ false → IsIdle (acts s.program b) e
    idle_at e i off =
        let void : i.at.pass.verdict ≡ Void =
        is_kept_false i.at.pass (sym (kept_is r e.pass i.at.pass i.at.at_pass) ∙ off) in
        let x = sched_places s r g i.at.pass i.info.is in
        let plain : i.at.pass.end ≡ PlainRejected =
        g.sched.void_plain (events_of r) g.loose.end i.at.pass.ticket i.at.pass.end g.loose.run
        (at-contains (events_of r) x.finish (Finish i.at.pass.ticket i.at.pass.end Void)
        (at-map event_of r.sched x.finish (S.Finish i.at.pass.ticket i.at.pass.end i.at.pass.verdict
        i.info.is.finish) x.finishes ∙ ap (λ (v : FinishVerdict). Some
        (Finish i.at.pass.ticket i.at.pass.end v)) void)) in
        All-In (λ x. IsIdle (acts s.program x.0) x.1) (entries_of r i.at.pass) (b, e)
        (i.info.phases.void plain) (get-In (b, e) (entries_of r i.at.pass) e.number i.at.at_entry)

    idle : AllByRecursion (λ e. kept_at r e.pass ≡ false → IsIdle (acts s.program b) e) (journal r b)
    idle = All-from_In (λ e. kept_at r e.pass ≡ false → IsIdle (acts s.program b) e) (journal r b)
        (λ e i. idle_at e (entry_info s r g b e i))

-- the numbers of the kept passes, in commit order
abbrev pub order_numbers : Record → List ℕ
order_numbers r = map (λ (p : PassRecord). p.ticket.pass) (kept_order r)

-- the number of an element is one of the numbers
pub In-map : {A : Type 0} (f : A → ℕ) (x : A) (xs : List A) → In x xs → In (f x) (map f xs)
In-map f x [] h = absurd h
In-map f x (y ∷ xs) (inl e) = inl (ap f e)
In-map f x (y ∷ xs) (inr i) = inr (In-map f x xs i)

-- each of the numbers is that of an element
pub map-In : {A : Type 0} (f : A → ℕ) (n : ℕ) (xs : List A) → In n (map f xs) →
    (x : A) × In x xs × (n ≡ f x)
map-In f n [] h = absurd h
map-In f n (y ∷ xs) (inl e) = (y, inl refl, e)
map-In f n (y ∷ xs) (inr i) = let r = map-In f n xs i in (r.0, inr r.1, r.2)

-- a pass of the commit order
pub in_order : (r : Record) (p : PassRecord) → In p (kept_order r) → (i : ℕ) × (slice_get r.passes i
    ≡ Some p) × (is_kept p ≡ true)
in_order r p h =
    let k = In-filter is_kept p r.passes (In-sort comes_before p (filter is_kept r.passes) h) in
    let g = In-get p r.passes k.0 in (g.0, g.1, k.1)

-- a number of the order is that of a kept pass
number_in_order : (s : RunSetting) (r : Record) (g : Facts s r) → (i : ℕ) → In i (order_numbers r) →
    (p : PassRecord) × (slice_get r.passes i ≡ Some p) × (is_kept p ≡ true) × PassInfo s r i p
number_in_order s r g i h =
    let m = map-In (λ (p : PassRecord). p.ticket.pass) i (kept_order r) h in
    let k = in_order r m.0 m.1 in
    let info = pass_info s r g k.0 m.0 k.1 in
    let e : k.0 ≡ i = sym info.number ∙ sym m.2 in
    let here : slice_get r.passes i ≡ Some m.0 = subst (λ j. slice_get r.passes j ≡ Some m.0) e k.1 in
    (m.0, here, k.2, pass_info s r g i m.0 here)

-- the entries of a kept pass on a box are its steps there
pub own_entries : (s : RunSetting) (r : Record) (g : Facts s r) → (i b : ℕ) → In i (order_numbers r) →
    filter (λ e. e.pass == i) (kept_journal r b) ≡ on_box b (steps_at r i)
own_entries s r g i b h =
    let k = number_in_order s r g i h in
    let p = k.0 in let info = k.3 in
    rw (steps_is r i p k.1)
    (rising_same tick 0 (suc info.is.start) (filter (λ e. e.pass == i) (kept_journal r b))
    (on_box b (entries_of r p))
    (RisesFrom-filter tick (λ e. e.pass == i) 0 (kept_journal r b) (RisesFrom-filter tick
    (λ e. kept_at r e.pass) 0 (journal r b) (box_rises s r g b)))
    (on_box_rises tick b (suc info.is.start) (entries_of r p) (suc_rises (λ (y : ℕ × BoxEntry). y.1.stamp)
    info.is.start (entries_of r p)
    (entries_rise r p.claims info.is.start info.is.finish (λ k x h. let n = info.is.claims k x h in
    (n.entry, n.there, n.when)) (pass_rises s r p info.is))))
    (λ e at_e. there k e (In-filter (λ e. e.pass == i) e (kept_journal r b) at_e))
    (λ e at_e. back k e (In-on_box b e (entries_of r p) at_e)))
  where
    there : (k : (p : PassRecord) × (slice_get r.passes i ≡ Some p) × (is_kept p ≡ true) × PassInfo s r i p)
        (e : BoxEntry) → In e (kept_journal r b) × ((e.pass == i) ≡ true) →
        In e (on_box b (entries_of r k.0))
    there k e at_e =
        let x = In-filter (λ e. kept_at r e.pass) e (journal r b) at_e.0 in
        let ei = entry_info s r g b e x.0 in
        let n : e.pass ≡ i = true-eqb e.pass i (sym at_e.1) in
        let same : ei.at.pass ≡ k.0 = some_same ei.at.pass k.0 (slice_get r.passes i)
        (subst (λ j. slice_get r.passes j ≡ Some ei.at.pass) n ei.at.at_pass) k.1 in
        on_box-In b e (entries_of r k.0) (subst (λ (p : PassRecord). In (b, e) (entries_of r p)) same
        (get-In (b, e) (entries_of r ei.at.pass) e.number ei.at.at_entry))

    back : (k : (p : PassRecord) × (slice_get r.passes i ≡ Some p) × (is_kept p ≡ true) × PassInfo s r i p)
        (e : BoxEntry) → In (b, e) (entries_of r k.0) → In e (filter (λ e. e.pass == i) (kept_journal r b))
    back k e at_e =
        let q = In-get (b, e) (entries_of r k.0) at_e in
        let x = claim_of_entry r k.0.claims (named_of s r k.0 k.3.is) q.0 (b, e) q.1 in
        let y = k.3.is.claims q.0 x.0 x.1 in
        let same : y.entry ≡ e =
        some_same y.entry e (slice_get (journal r x.0.box_number) x.0.place) y.there x.3 in
        let n : e.pass ≡ i = sym (ap (λ (e : BoxEntry). e.pass) same) ∙ (y.own ∙ k.3.number) in
        let at_b : slice_get (journal r b) x.0.place ≡ Some e =
        subst (λ q. slice_get (journal r q) x.0.place ≡ Some e) (sym x.2) x.3 in
        let on : kept_at r e.pass ≡ true = ap (kept_at r) n ∙ (kept_is r i k.0 k.1 ∙ k.2) in
        filter-In (λ e. e.pass == i) e (kept_journal r b) (filter-In (λ e. kept_at r e.pass) e (journal r b)
        (get-In e (journal r b) x.0.place at_b) on) (eq-eqb e.pass i n)

-- i stands before j in the order
abbrev pub Before : Record → ℕ → ℕ → Type 0
Before r i j =
    (p q : PassRecord) → slice_get r.passes i ≡ Some p → slice_get r.passes j ≡ Some q →
    commit_stamp p ≤ commit_stamp q

-- entries of kept passes that stand against the commit order may change places
pub swaps : (s : RunSetting) (r : Record) (g : Facts s r) → (b : ℕ) → Pairs (λ e f. (e.pass ≡ f.pass → ⊥) →
    Before r f.pass e.pass → Exchanges (acts s.program b) e f) (kept_journal r b)
swaps s r g b =
    rising_pairs tick (λ e. In e (journal r b) × (kept_at r e.pass ≡ true)) (λ e f. (e.pass ≡ f.pass → ⊥) →
    Before r f.pass e.pass → Exchanges (acts s.program b) e f)
    (λ e f at_e at_f below differ before. swap e f (entry_info s r g b e at_e.0)
    (entry_info s r g b f at_f.0) at_e.1 (omega (arith, below)) differ before)
    0 (kept_journal r b) (RisesFrom-filter tick (λ e. kept_at r e.pass) 0 (journal r b)
    (box_rises s r g b))
    (All-from_In (λ e. In e (journal r b) × (kept_at r e.pass ≡ true)) (kept_journal r b)
    (λ e i. In-filter (λ e. kept_at r e.pass) e (journal r b) i))
  where
    swap : (e f : BoxEntry) (ei : EntryInfo s r g b e) (fi : EntryInfo s r g b f) →
        kept_at r e.pass ≡ true → e.stamp < f.stamp → (e.pass ≡ f.pass → ⊥) → Before r f.pass e.pass →
        Exchanges (acts s.program b) e f
    swap e f ei fi on below differ before =
        inverted s r g b e f ei fi (is_kept_true ei.at.pass (sym (kept_is r e.pass ei.at.pass ei.at.at_pass)
        ∙ on)) below differ (before fi.at.pass ei.at.pass fi.at.at_pass ei.at.at_pass)

-- the order by stamp and attempt
before_total : (p q : PassRecord) → comes_before p q ≡ false → comes_before q p ≡ true
before_total p q h = total (commit_stamp p) (commit_stamp q) p.ticket.attempt q.ticket.attempt h
  where
    total : (a b m n : ℕ) → (nat_lt a b || ((a == b) && nat_le m n)) ≡ false →
        (nat_lt b a || ((b == a) && nat_le n m)) ≡ true
    total a b m n h = grind (arith, nat_tests)

-- the order by stamp and attempt is transitive
before_trans : (p q s : PassRecord) → comes_before p q ≡ true → comes_before q s ≡ true →
    comes_before p s ≡ true
before_trans p q s h g =
    trans (commit_stamp p) (commit_stamp q) (commit_stamp s) p.ticket.attempt q.ticket.attempt
    s.ticket.attempt h g
  where
    trans : (a b c m n o : ℕ) → (nat_lt a b || ((a == b) && nat_le m n)) ≡ true →
        (nat_lt b c || ((b == c) && nat_le n o)) ≡ true → (nat_lt a c || ((a == c) && nat_le m o)) ≡ true
    trans a b c m n o h g = grind (arith, nat_tests)

-- what may stand before has no higher stamp
pub before_stamp : (p q : PassRecord) → comes_before p q ≡ true → commit_stamp p ≤ commit_stamp q
before_stamp p q h = le (commit_stamp p) (commit_stamp q) p.ticket.attempt q.ticket.attempt h
  where
    le : (a b m n : ℕ) → (nat_lt a b || ((a == b) && nat_le m n)) ≡ true → a ≤ b
    le a b m n h = grind (arith, nat_tests)

-- passes of different places have different numbers
numbers_differ : (k : ℕ) (ps : List PassRecord) → ((i : ℕ) (p : PassRecord) → slice_get ps i ≡ Some p →
    p.ticket.pass ≡ k + i) → Pairs (λ p q. q.ticket.pass ≡ p.ticket.pass → ⊥) ps
numbers_differ k [] f = tt
numbers_differ k (p ∷ ps) f = (
  All-from_In (λ q. q.ticket.pass ≡ p.ticket.pass → ⊥) ps (λ q i e. apart q (In-get q ps i) e),
  numbers_differ (suc k) ps (λ i q h. let z : q.ticket.pass ≡ k + suc i = f (suc i) q h in omega arith),
)
  where
    apart : (q : PassRecord) → (i : ℕ) × (slice_get ps i ≡ Some q) → q.ticket.pass ≡ p.ticket.pass → ⊥
    apart q i e =
        let a : q.ticket.pass ≡ k + suc i.0 = f (suc i.0) q i.1 in
        let b : p.ticket.pass ≡ k + 0 = f 0 p refl in omega arith

-- each two of a map
pub Pairs-map : {A B : Type 0} (f : A → B) (P : A → Type 0) (R : A → A → Type 0) (Q : B → B → Type 0) →
    ((x y : A) → P x → P y → R x y → Q (f x) (f y)) → (xs : List A) → AllByRecursion P xs → Pairs R xs →
    Pairs Q (map f xs)
Pairs-map f P R Q g [] all pairs = tt
Pairs-map {A = A} f P R Q g (x ∷ xs) all pairs =
    (row xs all.1 pairs.0, Pairs-map f P R Q g xs all.1 pairs.1)
  where
    row : (ys : List A) → AllByRecursion P ys → AllByRecursion (R x) ys →
        AllByRecursion (Q (f x)) (map f ys)
    row [] p q = tt
    row (y ∷ ys) p q = (g x y all.0 p.0 q.0, row ys p.1 q.1)

-- each pass of the order stands before those after it, and has another number
pub order_pairs : (s : RunSetting) (r : Record) (g : Facts s r) → Pairs (λ p q. (comes_before p q ≡ true)
    × (q.ticket.pass ≡ p.ticket.pass → ⊥)) (kept_order r)
order_pairs s r g =
    sort-pairs comes_before (λ p q. q.ticket.pass ≡ p.ticket.pass → ⊥) (λ p q. (comes_before p q ≡ true)
    × (q.ticket.pass ≡ p.ticket.pass → ⊥))
    (λ p q d. (λ h. (h, d), λ h. (before_total p q h, λ e. d (sym e))))
    (λ x y z r h. before_trans x y z h r.0)
    (filter is_kept r.passes)
    (Pairs-filter (λ p q. q.ticket.pass ≡ p.ticket.pass → ⊥) is_kept r.passes (numbers_differ 0 r.passes
    (λ i p h. let n = (pass_info s r g i p h).number in omega arith)))

-- the numbers of the order stand in order, and differ
order_sorted : (s : RunSetting) (r : Record) (g : Facts s r) →
    Pairs (λ i j. Before r i j × (j ≡ i → ⊥)) (order_numbers r)
order_sorted s r g =
    Pairs-map (λ (p : PassRecord). p.ticket.pass) (λ p. slice_get r.passes p.ticket.pass ≡ Some p)
    (λ p q. (comes_before p q ≡ true) × (q.ticket.pass ≡ p.ticket.pass → ⊥)) (λ i j. Before r i j
    × (j ≡ i → ⊥))
    (λ p q at_p at_q h. (λ x y at_x at_y. same p q x y at_p at_q at_x at_y (before_stamp p q h.0), h.1))
    (kept_order r)
    (All-from_In (λ p. slice_get r.passes p.ticket.pass ≡ Some p) (kept_order r)
    (λ p i. place p (in_order r p i)))
    (order_pairs s r g)
  where
    place : (p : PassRecord) → (i : ℕ) × (slice_get r.passes i ≡ Some p) × (is_kept p ≡ true) →
        slice_get r.passes p.ticket.pass ≡ Some p
    place p k = subst (λ j. slice_get r.passes j ≡ Some p) (sym (pass_info s r g k.0 p k.1).number) k.1

    same : (p q x y : PassRecord) → slice_get r.passes p.ticket.pass ≡ Some p →
        slice_get r.passes q.ticket.pass ≡ Some q → slice_get r.passes p.ticket.pass ≡ Some x →
        slice_get r.passes q.ticket.pass ≡ Some y → commit_stamp p ≤ commit_stamp q →
        commit_stamp x ≤ commit_stamp y
    same p q x y at_p at_q at_x at_y h =
        let e : p ≡ x = some_same p x (slice_get r.passes p.ticket.pass) at_p at_x in
        let f : q ≡ y = some_same q y (slice_get r.passes q.ticket.pass) at_q at_y in
        let e' : commit_stamp p ≡ commit_stamp x = ap commit_stamp e in
        let f' : commit_stamp q ≡ commit_stamp y = ap commit_stamp f in omega arith

-- each entry of a kept pass is of a pass of the order
known_owner : (s : RunSetting) (r : Record) (g : Facts s r) → (b : ℕ) →
    AllByRecursion (λ e. In e.pass (order_numbers r)) (kept_journal r b)
known_owner s r g b =
    All-from_In (λ e. In e.pass (order_numbers r)) (kept_journal r b) (λ e i. let k = In-filter
    (λ e. kept_at r e.pass) e (journal r b) i in owner e (entry_info s r g b e k.0) k.1)
  where
    owner : (e : BoxEntry) → EntryInfo s r g b e → kept_at r e.pass ≡ true → In e.pass (order_numbers r)
    owner e ei on =
        let kept : is_kept ei.at.pass ≡ true = sym (kept_is r e.pass ei.at.pass ei.at.at_pass) ∙ on in
        let i : In ei.at.pass (kept_order r) = sort-In comes_before ei.at.pass (filter is_kept r.passes)
        (filter-In is_kept ei.at.pass r.passes (get-In ei.at.pass r.passes e.pass ei.at.at_pass) kept) in
        subst (λ n. In n (order_numbers r)) ei.info.number (In-map (λ (p : PassRecord). p.ticket.pass)
        ei.at.pass (kept_order r) i)

-- the steps of the passes of the order are on boxes of the state
within_boxes : (s : RunSetting) (r : Record) (g : Facts s r) →
    AllByRecursion (λ i. AllByRecursion (λ x. x.0 < length r.first.boxes) (steps_at r i)) (order_numbers r)
within_boxes s r g =
    All-from_In (λ i. AllByRecursion (λ x. x.0 < length r.first.boxes) (steps_at r i)) (order_numbers r)
    (λ i h. of_pass i (number_in_order s r g i h))
  where
    box : (b k : ℕ) (e : BoxEntry) → slice_get (journal r b) k ≡ Some e → b < length r.first.boxes
    box b k e h = omega (arith, journal_within r b k e h, g.loose.many)

    of_pass : (i : ℕ) → (p : PassRecord) × (slice_get r.passes i ≡ Some p) × (is_kept p
        ≡ true) × PassInfo s r i p → AllByRecursion (λ x. x.0 < length r.first.boxes) (steps_at r i)
    of_pass i k =
        rw (steps_is r i k.0 k.1) (All-from_In (λ x. x.0 < length r.first.boxes) (entries_of r k.0)
        (λ y at_y. one y (In-get y (entries_of r k.0) at_y)))
      where
        one : (y : ℕ × BoxEntry) → (j : ℕ) × (slice_get (entries_of r k.0) j ≡ Some y) →
            y.0 < length r.first.boxes
        one y q =
            let x = claim_of_entry r k.0.claims (named_of s r k.0 k.3.is) q.0 y q.1 in
            box y.0 x.0.place y.1 (subst (λ b. slice_get (journal r b) x.0.place ≡ Some y.1) (sym x.2) x.3)

-- the kept passes, one after the other in the commit order, lead from the first state to the last one
pub serial : (s : RunSetting) (r : Record) (g : Facts s r) → Serial (acts s.program) r.first.boxes (map
    (steps_at r) (order_numbers r)) r.last.boxes
serial s r g =
    serialized (acts s.program) (λ (e : BoxEntry). e.pass) (Before r) (steps_at r) (order_numbers r)
    (kept_journal r) r.first.boxes r.last.boxes
    (order_sorted s r g)
    (within_boxes s r g)
    (λ i b h. own_entries s r g i b h)
    (known_owner s r g)
    (swaps s r g)
    (kept_legal s r g)

-- steps on the boxes of a state
makes_state : (p : Program) (xs : List (ℕ × BoxEntry)) (s t : List Vars) → Makes (acts p) s xs t →
    MakesState p (record { boxes = s }) (map recorded xs) (record { boxes = t })
makes_state p [] s t h = ap (λ (s : List Vars). record { boxes = s }) h
makes_state p (x ∷ xs) s t h =
    let v : Vars = h.0 in
    let u : Vars = h.1 in
    let here : vars_of (record { boxes = s }) x.0 ≡ v.values =
    ap (λ (v : Vars). v.values) (get_or_from_slice_get s x.0 v (record { values = [] }) h.2) in (
      u.values,
      subst (λ vs. does (compiled p) (recorded x) vs u.values) (sym here) h.3.2,
      makes_state p xs
          (set s x.0 u) t h.4,
    )

-- a kept pass as an attempt
attempt_is : (s : RunSetting) (r : Record) (g : Facts s r) (p : PassRecord) (is : IsPass s r p)
    (a b : List Vars) → Makes (acts s.program) a (entries_of r p) b →
    (outcome_of p.end ≡ (action_attempt s.program (Some is.action) (record { boxes = a }) s.budget).outcome)
    × (record { boxes = b } ≡ (action_attempt s.program (Some is.action) (record { boxes = a })
    s.budget).state)
attempt_is s r g p is a b makes =
    let es = map recorded (entries_of r p) in
    let n = length es in
    let ch = g.steps.chains (begun s.program is.action) s.budget es p.end (record { boxes = a })
    (record { boxes = b }) (pass_chain s r p is) (makes_state s.program (entries_of r p) a b makes) in
    let passed : Passed = record { end = p.end; state = record { boxes = b }; budget = ch.0 } in
    let more = g.steps.for_good n 2000300 (begun s.program is.action) (record { boxes = a }) s.budget passed
    ch.1 in
    let at = g.steps.attempts is.action (record { boxes = a }) s.budget (n + 2000300) g.setting.within
    (omega arith) in
    let same : at.passed ≡ passed =
    some_same at.passed passed (chain s.program (n + 2000300) (begun s.program is.action)
    (record { boxes = a }) s.budget) at.over more in (
      ap (λ (x : Passed). outcome_of x.end) (sym same) ∙ at.outcome,
      ap (λ (x : Passed). x.state) (sym same)
          ∙ at.state,
    )

-- a tight run after its first attempt
run_on : Program → ℕ → List ℕ → Outcome → State → TightRun
run_on p budget actions outcome state =
    let rest = tight p actions state budget in
    record { outcomes = outcome ∷ rest.outcomes; state = rest.state }

-- a tight run is its first attempt and the run of the others
tight_first : (p : Program) (budget n : ℕ) (actions : List ℕ) (state : State) →
    tight p (n ∷ actions) state budget ≡ run_on p budget actions (action_attempt p (slice_get p.actions n)
    state budget).outcome (action_attempt p (slice_get p.actions n) state budget).state
unfolding run_on
tight_first p budget n actions state = refl

-- the outcomes and the state of such a run
run_on_is : (p : Program) (budget : ℕ) (actions : List ℕ) (outcome : Outcome) (state : State) (x : TightRun)
    → tight p actions state budget ≡ x →
    run_on p budget actions outcome state ≡ record { outcomes = outcome ∷ x.outcomes; state = x.state }
unfolding run_on
run_on_is p budget actions outcome state x e = ap (λ (x : TightRun). record {
  outcomes = outcome ∷ x.outcomes;
  state = x.state;
}) e

-- the tight run of passes that follow one another
tight_of : (s : RunSetting) (r : Record) (g : Facts s r) (ps : List PassRecord) (a b : List Vars) →
    AllByRecursion (λ p. (steps_at r p.ticket.pass ≡ entries_of r p) × IsPass s r p) ps →
    Serial (acts s.program) a (map (steps_at r) (map (λ (p : PassRecord). p.ticket.pass) ps)) b →
    tight s.program (map (λ (x : Placed). x.action) (map placed_of ps)) (record { boxes = a }) s.budget
    ≡ record { outcomes = map (λ (x : Placed). x.outcome) (map placed_of ps); state = record { boxes = b } }
tight_of s r g [] a b all serial = ap (λ (a : List Vars). record {
  outcomes = [];
  state = record { boxes = a };
}) serial
tight_of s r g (p ∷ ps) a b all serial =
    let is = all.0.1 in
    let at = attempt_is s r g p is a serial.0 (subst (λ xs. Makes (acts s.program) a xs serial.0) all.0.0
    serial.1) in
    let actions : List ℕ = map (λ (x : Placed). x.action) (map placed_of ps) in
    tight_first s.program s.budget p.ticket.action actions (record { boxes = a })
    ∙ (ap (λ (o : Option ActionInfo). run_on s.program s.budget actions (action_attempt s.program o
    (record { boxes = a }) s.budget).outcome (action_attempt s.program o (record { boxes = a })
    s.budget).state) is.there
    ∙ (ap (λ (o : Outcome). run_on s.program s.budget actions o (action_attempt s.program (Some is.action)
    (record { boxes = a }) s.budget).state) (sym at.0)
    ∙ (ap (λ (x : State). run_on s.program s.budget actions (outcome_of p.end) x) (sym at.1)
    ∙ run_on_is s.program s.budget actions (outcome_of p.end) (record { boxes = serial.0 })
    (record {
      outcomes = map (λ (x : Placed). x.outcome) (map placed_of ps);
      state = record { boxes = b };
    })
    (tight_of s r g ps serial.0 b all.1 serial.2))))

-- THE REDUCTION
pub reduced : (s : RunSetting) (r : Record) (g : Facts s r) →
    tight s.program (map (λ (x : Placed). x.action) (commit_order r)) r.first s.budget
    ≡ record { outcomes = map (λ (x : Placed). x.outcome) (commit_order r); state = r.last }
reduced s r g =
    tight_of s r g (kept_order r) r.first.boxes r.last.boxes
    (All-from_In (λ p. (steps_at r p.ticket.pass ≡ entries_of r p) × IsPass s r p) (kept_order r)
    (λ p i. one p (in_order r p i)))
    (serial s r g)
  where
    one : (p : PassRecord) → (i : ℕ) × (slice_get r.passes i ≡ Some p) × (is_kept p ≡ true) →
        (steps_at r p.ticket.pass ≡ entries_of r p) × IsPass s r p
    one p k =
        let info = pass_info s r g k.0 p k.1 in
        (ap (steps_at r) info.number ∙ steps_is r k.0 p k.1, info.is)
