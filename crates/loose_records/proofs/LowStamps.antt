-- No stamp is above the number of events.
use Rattle.std.proofs.Common.{◌≡◌, ℕ, zero, suc, ◌+◌, ◌<◌, ◌≤◌, ◌⊎◌, inl, inr, List, [], ◌∷◌, ◌++◌, sym}
use Rattle.std.proofs.Common.{subst, ap, refl, length, slice_get, Some, arith, map, get_or, replicate}
use Rattle.std.specs.Prelude.{max, sum_by, slice_set, ◌^◌, Contains}
use Rattle.std.proofs.lemmas.Bool.{cases_eq}
use Rattle.std.proofs.lemmas.List.{length-append, get_or-set_same, get_or-set_other}
use Rattle.std.proofs.lemmas.List.Sums.{sum_by_push, sum_by-set}
use Rattle.std.proofs.lemmas.Option.{slice_get_within, get_or_from_slice_get}
use Rattle.seuss_base.specs.declared.outcome.PassEnd.{PassEnd}
use Rattle.seuss_program.specs.declared.state.State.{State}
use Rattle.compat_scheduler.specs.declared.ticket.Ticket.{Ticket}
use Rattle.compat_scheduler.specs.declared.ticket.FinishVerdict.{FinishVerdict}
use Rattle.loose_records.specs.declared.record.BoxEntry.{BoxEntry}
use Rattle.loose_records.specs.declared.record.SchedEntry.{SchedEntry}
use Rattle.loose_records.specs.declared.record.SchedEntry.TheVariants as S
use Rattle.loose_records.specs.declared.record.Claim.{Claim}
use Rattle.loose_records.specs.declared.record.PassRecord.{PassRecord}
use Rattle.loose_records.specs.declared.record.Record.{Record}
use Rattle.loose_records.specs.Entries.{stamp_of, journal, claim_stamps}
use Rattle.loose_records.specs.Settings.{RunSetting}
use Rattle.loose_records.specs.LooseRecords.{NamesEntry}
use Rattle.loose_records.specs.Growing.{Going, Through, IsOpenPass, AddsStart, AddsStep, AddsFinish}
use Rattle.loose_records.specs.Growing.{pass_begun, with_claim, empty_record, Status, Finished, IsPassAt}
use Rattle.loose_records.specs.Stamps.{events_in}
use Rattle.loose_records.specs.Turns.{Turning, IsTurn, Waits, Begins, Moves, Ends, AreTurns, IsClock}
use Rattle.loose_records.specs.Turns.{clock_of}
use Rattle.loose_records.specs.Stamps.{IsLow, HasStampsLeft}
use Rattle.loose_records.proofs.Lists.{push-cases, place_of, at-within}
use Rattle.loose_records.proofs.GrowingTurns.{Grows, GrowsNow, turn_grows}

-- the clock of low stamps is low
clock_low : (xs : List ℕ) (n : ℕ) → ((k x : ℕ) → slice_get xs k ≡ Some x → x ≤ n) → clock_of xs ≤ n
clock_low [] n low = omega arith
clock_low (x ∷ xs) n low =
    let a = low 0 x refl in let b = clock_low xs n (λ k. low (suc k)) in omega (arith, a, b)

-- what is low at each element is low in the map
from_map : {A : Type 0} (f : A → ℕ) (xs : List A) (n : ℕ) → ((k : ℕ) (x : A) → slice_get xs k ≡ Some x →
    f x ≤ n) → (k y : ℕ) → slice_get (map f xs) k ≡ Some y → y ≤ n
from_map f [] n low k y h = cc h
from_map f (x ∷ xs) n low zero y h = let q : f x ≡ y = cc h in let a = low 0 x refl in omega (arith, q, a)
from_map f (x ∷ xs) n low (suc k) y h = from_map f xs n (λ k. low (suc k)) k y h

module _ (s : RunSetting) where
  -- the clock of the scheduler is low
  sched_low : (r : Record) (n : ℕ) → IsLow r n → clock_of (map stamp_of r.sched) ≤ n
  sched_low r n low = clock_low (map stamp_of r.sched) n (from_map stamp_of r.sched n low.times)

  -- so is the clock of a box
  box_low : (r : Record) (n b : ℕ) → IsLow r n → clock_of (map (λ (e : BoxEntry). e.stamp)
      (journal r b)) ≤ n
  box_low r n b low =
      clock_low (map (λ (e : BoxEntry). e.stamp) (journal r b)) n (from_map (λ (e : BoxEntry). e.stamp)
      (journal r b) n (low.stamps b))

  -- and the clock of a pass
  pass_low : (r : Record) (n : ℕ) → IsLow r n → (p : PassRecord) →
      ((k : ℕ) (c : Claim) → slice_get p.claims k ≡ Some c → NamesEntry r p k c) → (clock : ℕ) →
      IsClock r p clock → clock ≤ n
  pass_low r n low p names clock is =
      let k = place_of r.sched (S.Start p.ticket is.0) is.1 in
      let a : is.0 ≤ n = low.times k.0 (S.Start p.ticket is.0) k.1 in
      let b : clock_of (claim_stamps p) ≤ n =
      clock_low (claim_stamps p) n (from_map (λ (c : Claim). c.stamp) p.claims n
      (λ k c h. let m = names k c h in let e = low.stamps c.box_number c.place m.entry m.there in
      omega (arith, e, m.when))) in
      omega (arith, a, b, is.2)

  -- one entry more of the scheduler
  pushed : (r : Record) (x : SchedEntry) (passes : List PassRecord) (n : ℕ) → IsLow r n →
      stamp_of x ≤ n + 1 →
      IsLow (record r { sched = r.sched ++ x ∷ []; passes = passes }) (n + 1)
  pushed r x passes n low h = record {
    times = λ k y e. go y (push-cases r.sched x y k e);
    stamps = λ b k e f. let a = low.stamps b k e f in omega (arith, a);
  }
    where
      go : (y : SchedEntry) {k : ℕ} → (slice_get r.sched k ≡ Some y) ⊎ ((k ≡ length r.sched) × (x ≡ y)) →
          stamp_of y ≤ n + 1
      go y {k} (inl e) = let a = low.times k y e in omega (arith, a)
      go y {k} (inr e) = subst (λ (y : SchedEntry). stamp_of y ≤ n + 1) e.1 h

  -- a start raises the stamps by one at most
  start_low : (old new : Turning) (t : Ticket) (stamp : ℕ) →
      AddsStart s old.made old.statuses t stamp new.made new.statuses →
      IsLow old.made (events_in old.made) →
      stamp ≡ 1 + clock_of (map stamp_of old.made.sched) → IsLow new.made (events_in new.made)
  start_low old new t stamp a low rule =
      let c = sched_low old.made (events_in old.made) low in
      let grown = pushed old.made (S.Start t stamp) (old.made.passes ++ pass_begun t ∷ [])
      (events_in old.made) low (omega (arith, c, rule)) in
      subst (λ (r : Record). IsLow r (events_in r)) (sym a.is)
      (subst (λ n. IsLow (record old.made {
        sched = old.made.sched ++ S.Start t stamp ∷ [];
        passes = old.made.passes ++ pass_begun t ∷ [];
      }) n)
      (omega (
        arith,
        length-append old.made.sched (S.Start t stamp ∷ []),
        sum_by_push
            (λ (p : PassRecord). length p.claims) old.made.passes (pass_begun t),
      )) grown)

  -- so does a finish
  finish_low : (old new : Turning) (i : ℕ) (t : Ticket) (end : PassEnd) (v : FinishVerdict) (stamp : ℕ) →
      GrowsNow s old →
      (a : AddsFinish s old.made old.statuses i t end v stamp new.made new.statuses) →
      IsLow old.made (events_in old.made) → (clock : ℕ) → IsClock old.made a.pass clock →
      stamp ≡ 1 + max clock (clock_of (map stamp_of old.made.sched)) → IsLow new.made (events_in new.made)
  finish_low old new i t end v stamp g a low clock is rule =
      let opened : IsOpenPass s old.made a.pass (Through end) =
      g.passes i a.pass (Through end) a.there a.through in
      let c = sched_low old.made (events_in old.made) low in
      let d = pass_low old.made (events_in old.made) low a.pass opened.claims clock is in
      let done : PassRecord = record a.pass { commit = a.commit; end = end; verdict = v } in
      let grown = pushed old.made (S.Finish t end v stamp) (slice_set old.made.passes i done)
      (events_in old.made) low (omega (arith, c, d, rule)) in
      let w = slice_get_within old.made.passes i a.pass a.there in
      let e : length (get_or old.made.passes i a.pass).claims ≡ length a.pass.claims =
      ap (λ (p : PassRecord). length p.claims) (get_or_from_slice_get old.made.passes i a.pass a.pass
      a.there) in
      subst (λ (r : Record). IsLow r (events_in r)) (sym a.is)
      (subst (λ n. IsLow (record old.made {
        sched = old.made.sched ++ S.Finish t end v stamp ∷ [];
        passes = slice_set old.made.passes i done;
      }) n)
      (omega (
        arith,
        e,
        length-append old.made.sched (S.Finish t end v stamp ∷ []),
        sum_by-set
            (λ (p : PassRecord). length p.claims) old.made.passes i done a.pass w,
      )) grown)

  -- and a step
  step_low : (old new : Turning) (i : ℕ) (e : BoxEntry) → GrowsNow s old →
      (a : AddsStep s old.made old.statuses i e new.made new.statuses) →
      IsLow old.made (events_in old.made) → (clock : ℕ) → IsClock old.made a.pass clock →
      e.stamp ≡ 1 + max clock
      (clock_of (map (λ (z : BoxEntry). z.stamp) (journal old.made a.at.box_number))) →
      IsLow new.made (events_in new.made)
  step_low old new i e g a low clock is rule =
      let opened : IsOpenPass s old.made a.pass (Going a.at a.left) =
      g.passes i a.pass (Going a.at a.left) a.there a.going in
      let c = box_low old.made (events_in old.made) a.at.box_number low in
      let d = pass_low old.made (events_in old.made) low a.pass opened.claims clock is in
      let w = slice_get_within old.made.passes i a.pass a.there in
      let f : length (get_or old.made.passes i a.pass).claims ≡ length a.pass.claims =
      ap (λ (p : PassRecord). length p.claims) (get_or_from_slice_get old.made.passes i a.pass a.pass
      a.there) in
      subst (λ (r : Record). IsLow r (events_in r)) (sym a.is) (record {
        times = λ k x h. let z = low.times k x h in let y = more w f in omega (arith, z, y);
        stamps = λ b k x h. let z = here b k x (omega (arith, c, d, rule)) h (cases_eq b a.at.box_number) in
            let y = more w f in omega (arith, z, y);
      })
    where
      longer : PassRecord
      longer = with_claim a.pass a.claim

      more : i < length old.made.passes → length (get_or old.made.passes i a.pass).claims
          ≡ length a.pass.claims →
          events_in old.made + 1 ≡ length old.made.sched + sum_by (λ (p : PassRecord). length p.claims)
          (slice_set old.made.passes i longer)
      more w f =
          omega (
            arith,
            f,
            length-append a.pass.claims (a.claim ∷ []),
            sum_by-set
                (λ (p : PassRecord). length p.claims) old.made.passes i longer a.pass w,
          )

      here : (b k : ℕ) (x : BoxEntry) → e.stamp ≤ events_in old.made + 1 →
          slice_get (get_or (slice_set old.made.boxes a.at.box_number (journal old.made a.at.box_number
          ++ e ∷ [])) b []) k ≡ Some x →
          (b ≡ a.at.box_number) ⊎ (b ≡ a.at.box_number → ⊥) → x.stamp ≤ events_in old.made + 1
      here b k x high h (inr other) =
          let z = low.stamps b k x (subst (λ (es : List BoxEntry). slice_get es k ≡ Some x)
          (get_or-set_other old.made.boxes a.at.box_number b (journal old.made a.at.box_number ++ e ∷ []) []
          other) h) in omega (arith, z)
      here b k x high h (inl same) =
          by (push-cases (journal old.made a.at.box_number) e x k
          (subst (λ (es : List BoxEntry). slice_get es k ≡ Some x) (get_or-set_same old.made.boxes
          a.at.box_number (journal old.made a.at.box_number ++ e ∷ []) [] a.box)
          (subst (λ b. slice_get (get_or (slice_set old.made.boxes a.at.box_number
          (journal old.made a.at.box_number ++ e ∷ [])) b []) k ≡ Some x) same h)))
        where
          by : (slice_get (journal old.made a.at.box_number) k ≡ Some x)
              ⊎ ((k ≡ length (journal old.made a.at.box_number)) × (e ≡ x)) →
              x.stamp ≤ events_in old.made + 1
          by (inl y) = let z = low.stamps a.at.box_number k x y in omega (arith, z)
          by (inr y) = subst (λ (x : BoxEntry). x.stamp ≤ events_in old.made + 1) y.1 high

  -- and each turn
  turn_low : (w : ℕ) (old new : Turning) → GrowsNow s old → IsLow old.made (events_in old.made) →
      IsTurn s w old new → IsLow new.made (events_in new.made)
  turn_low w old new g low (Waits f n is) =
      subst (λ (x : Turning). IsLow x.made (events_in x.made)) (sym is) low
  turn_low w old new g low (Begins f t stamp st a rule h) = start_low old new t stamp a low rule
  turn_low w old new g low (Moves i h e a clock is rule m o) = step_low old new i e g a low clock is rule
  turn_low w old new g low (Ends i h t end v stamp fi a clock is rule o) =
      finish_low old new i t end v stamp g a low clock is rule

  -- along turns no stamp is above the number of events
  pub turns_low : Grows s → (ws : List ℕ) (old new : Turning) → GrowsNow s old →
      IsLow old.made (events_in old.made) → AreTurns s ws old new → IsLow new.made (events_in new.made)
  turns_low laws [] old new g low turns =
      subst (λ (x : Turning). IsLow x.made (events_in x.made)) (sym turns) low
  turns_low laws (w ∷ ws) old new g low turns =
      turns_low laws ws turns.1.0 new (turn_grows s laws w old turns.1.0 g turns.1.1)
      (turn_low w old turns.1.0 g low turns.1.1) turns.1.2

-- an empty journal has no entry
empty_at : {A : Type 0} (n b k : ℕ) (x : A) → slice_get (get_or (replicate n []) b []) k ≡ Some x → ⊥
empty_at zero b k x h = cc h
empty_at (suc n) zero k x h = cc h
empty_at (suc n) (suc b) k x h = empty_at n b k x h

-- at the beginning there is no stamp
pub begun_low : (state : State) → IsLow (empty_record state) (events_in (empty_record state))
begun_low state = record {
  times = λ k x h. cc h;
  stamps = λ b k e h. absurd (empty_at (length state.boxes) b k e h);
}

-- what the claims of a pass of a record in the making name
claims_named : (s : RunSetting) (r : Record) (p : PassRecord) (status : Status) → IsPassAt s r p status →
    (k : ℕ) (c : Claim) → slice_get p.claims k ≡ Some c → NamesEntry r p k c
claims_named s r p (Going at left) is = is.claims
claims_named s r p (Through end) is = is.claims
claims_named s r p Finished is = is.claims

-- where no stamp is above the number of events, and these are few, stamps are left
pub stamps_left : (s : RunSetting) (x : Turning) → GrowsNow s x → IsLow x.made (events_in x.made) →
    events_in x.made + 1 < 2 ^ 63 → HasStampsLeft x.made
stamps_left s x g low few = record {
  start = omega (arith, few, sched_low s x.made (events_in x.made) low);
  step = λ p clock box in_passes is. omega (
    arith,
    few,
    clock_is p clock in_passes is,
    box_low s x.made (events_in x.made) box low,
  );
  finish = λ p clock in_passes is. omega (
    arith,
    few,
    clock_is p clock in_passes is,
    sched_low s x.made (events_in x.made) low,
  );
}
  where
    clock_is : (p : PassRecord) (clock : ℕ) → Contains x.made.passes p → IsClock x.made p clock →
        clock ≤ events_in x.made
    clock_is p clock in_passes is =
        let i = place_of x.made.passes p in_passes in
        let status = at-within x.statuses i.0
        (omega (arith, slice_get_within x.made.passes i.0 p i.1, g.each)) in
        pass_low s x.made (events_in x.made) low p
        (claims_named s x.made p status.0 (g.passes i.0 p status.0 i.1 status.1)) clock is
