-- What the list of a run's events says of passes, by places.
use Rattle.std.proofs.Common.{◌≡◌, ℕ, suc, ◌<◌, ◌≤◌, ◌⊎◌, inl, inr, List, ◌∷◌, ◌++◌, subst, slice_get, Some}
use Rattle.std.proofs.Common.{arith, take, drop}
use Rattle.std.specs.Prelude.{Contains}
use Rattle.std.proofs.lemmas.Bool.{cases_lt}
use Rattle.seuss_base.specs.Levels.{IsAtLeast}
use Rattle.seuss_base.specs.declared.level.Level.TheVariants.{Firm}
use Rattle.seuss_base.specs.declared.outcome.PassEnd.{PassEnd}
use Rattle.seuss_base.specs.declared.outcome.PassEnd.TheVariants.{PlainRejected}
use Rattle.compat_scheduler.specs.declared.ticket.Ticket.{Ticket}
use Rattle.compat_scheduler.specs.declared.ticket.FinishVerdict.{FinishVerdict}
use Rattle.compat_scheduler.specs.declared.ticket.FinishVerdict.TheVariants.{Kept}
use Rattle.compat_scheduler.specs.Settings.{Setting, level}
use Rattle.compat_scheduler.specs.Machines.{Machine}
use Rattle.compat_scheduler.specs.Runs.{Event, IsRun, IsOpen}
use Rattle.compat_scheduler.specs.Runs.Event.{Start, Finish}
use Rattle.loose_core.proofs.LowerLaws.{SchedLaws}
use Rattle.loose_core.proofs.lists.Places.{some_same, place_of, at-contains, around, before-take}
use Rattle.loose_core.proofs.lists.Places.{take-before}
use Rattle.loose_core.proofs.lists.Places.{drop-later}

module _ (s : Setting) (laws : SchedLaws s) (es : List Event) (m : Machine) (run : IsRun s es m) where
  -- a pass is open before its finish
  open_before : (j : ℕ) (t : Ticket) (end : PassEnd) (v : FinishVerdict) →
      slice_get es j ≡ Some (Finish t end v) → IsOpen (take j es) t
  open_before j t end v at =
      laws.finishes (take j es) (drop (suc j) es) m t end v (subst (λ xs. IsRun s xs m)
      (around es j (Finish t end v) at) run)

  -- a pass finishes at one place
  pub finish_once : (i j : ℕ) (t : Ticket) (e f : PassEnd) (v w : FinishVerdict) →
      slice_get es i ≡ Some (Finish t e v) →
      slice_get es j ≡ Some (Finish t f w) → i ≡ j
  finish_once i j t e f v w at_i at_j = go (cases_lt i j) (cases_lt j i)
    where
      go : (i < j) ⊎ (j ≤ i) → (j < i) ⊎ (i ≤ j) → i ≡ j
      go (inl h) k =
          absurd ((open_before j t f w at_j).unfinished e v (at-contains (take j es) i (Finish t e v)
          (before-take es j i (Finish t e v) at_i h)))
      go (inr h) (inl k) =
          absurd ((open_before i t e v at_i).unfinished f w (at-contains (take i es) j (Finish t f w)
          (before-take es i j (Finish t f w) at_j k)))
      go (inr h) (inr k) = omega arith

  -- and started before
  pub started_before : (j : ℕ) (t : Ticket) (end : PassEnd) (v : FinishVerdict) →
      slice_get es j ≡ Some (Finish t end v) →
      (i : ℕ) × (slice_get es i ≡ Some (Start t)) × (i < j)
  started_before j t end v at =
      let k = place_of (take j es) (Start t) (open_before j t end v at).opened in
      let b = take-before es j k.0 (Start t) k.1 in (k.0, b.0, b.1)

  -- a pass is open at each place between its start and its finish
  open_between : (t : Ticket) (end : PassEnd) (v : FinishVerdict) (i k j : ℕ) →
      slice_get es i ≡ Some (Start t) → slice_get es j ≡ Some (Finish t end v) →
      i < k → k ≤ j → IsOpen (take k es) t
  open_between t end v i k j at_i at_j h l = record {
    opened = at-contains (take k es) i (Start t) (before-take es k i (Start t) at_i h);
    unfinished = λ f w c.
        let p = place_of (take k es) (Finish t f w) c in
        let b = take-before es k p.0 (Finish t f w) p.1 in
        let e = finish_once p.0 j t f end w v b.0 at_j in omega (arith, b.1, e, l);
  }

  -- the run around a start
  cut : (k : ℕ) (t : Ticket) → slice_get es k ≡ Some (Start t) →
      IsRun s (take k es ++ Start t ∷ drop (suc k) es) m
  cut k t at = subst (λ xs. IsRun s xs m) (around es k (Start t) at) run

  -- an event after a place is in the rest of the run
  later : (k j : ℕ) (x : Event) → slice_get es j ≡ Some x → k < j → Contains (drop (suc k) es) x
  later k j x at h = let i = drop-later es k j x at h in at-contains (drop (suc k) es) i.0 x i.1

  -- passes that overlap were allowed beside one another
  pub allowed : (p q : Ticket) (e f : PassEnd) (v w : FinishVerdict) (ip fp iq fq : ℕ) → (p ≡ q → ⊥) →
      slice_get es ip ≡ Some (Start p) → slice_get es fp ≡ Some (Finish p e v) →
      slice_get es iq ≡ Some (Start q) → slice_get es fq ≡ Some (Finish q f w) →
      ip < fp → ip < fq → iq < fp →
      IsAtLeast (level s p.action q.action) p.mode × (e ≡ PlainRejected → v ≡ Kept →
      level s p.action q.action ≡ Firm)
  allowed p q e f v w ip fp iq fq ne sp ep sq eq own h l = go (cases_lt ip iq) (cases_lt iq ip)
    where
      kept : e ≡ PlainRejected → v ≡ Kept → Finish p e v ≡ Finish p PlainRejected Kept
      kept a b = cc (a, b)

      go : (ip < iq) ⊎ (iq ≤ ip) → (iq < ip) ⊎ (ip ≤ iq) → IsAtLeast (level s p.action q.action) p.mode × (e
          ≡ PlainRejected → v ≡ Kept → level s p.action q.action ≡ Firm)
      go (inl a) b =
          let o = open_between p e v ip iq fp sp ep a (omega (arith, l)) in (
            laws.other (take iq es) (drop (suc iq) es) m p q (cut iq q sq) o,
            λ x y. laws.other_kept (take iq es) (drop (suc iq) es) m p q (cut iq q sq) o
                (subst (Contains (drop (suc iq) es)) (kept x y) (later iq fp (Finish p e v) ep l)),
          )
      go (inr a) (inl b) =
          let o = open_between q f w iq ip fq sq eq b (omega (arith, h)) in (
            laws.newcomer (take ip es) (drop (suc ip) es) m q p (cut ip p sp) o,
            λ x y. laws.newcomer_kept (take ip es) (drop (suc ip) es) m q p (cut ip p sp) o
                (subst (Contains (drop (suc ip) es)) (kept x y) (later ip fp (Finish p e v) ep own)),
          )
      go (inr a) (inr b) =
          let k : ip ≡ iq = omega arith in
          let same : Start p ≡ Start q = some_same (Start p) (Start q) (slice_get es iq)
          (subst (λ i. slice_get es i ≡ Some (Start p)) k sp) sq in
          absurd (ne (cc same))
