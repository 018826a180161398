-- The passes that are shown, after one of them has changed, or one more was given.
use Rattle.std.proofs.Common.{◌≡◌, ℕ, ◌<◌, ◌⊎◌, inl, inr, List, [], ◌∷◌, ◌++◌, length, refl, sym, ap, ◌∙◌, Some}
use Rattle.std.proofs.Common.{slice_get, subst, arith}
use Rattle.std.specs.Prelude.{slice_set}
use Rattle.std.proofs.lemmas.Option.{slice_get_within}
use Rattle.std.proofs.lemmas.List.{length-append, length-set}
use Rattle.compat_scheduler.specs.declared.ticket.Ticket.{Ticket}
use Rattle.loose_records.specs.declared.record.PassRecord.{PassRecord}
use Rattle.loose_records.specs.declared.record.Record.{Record}
use Rattle.pass_seats.specs.declared.pass.SeatPass.{SeatPass}
use Rattle.pass_seats.specs.Seats.{SeatState}
use Rattle.turn_runs.proofs.ListLemmas.{set-other, at-append}
use Rattle.still_turns.specs.Shown.{IsShown, IsSlot, ShowPasses}
use Rattle.still_turns.proofs.ListPlaces.{given_set}
use Rattle.still_turns.proofs.ClaimsShown.{Grows, named_grows, commit_grows}
use Rattle.still_turns.proofs.SlotsShown.{slot_same, slot_set, slot_push}

-- a pass whose record stays is shown still
pub shown_grows : (r after : Record) (p : SeatPass) → Grows r after → (shown : IsShown r p) →
    slice_get after.passes p.ticket.pass ≡ Some shown.pass → IsShown after p
shown_grows r after p grows shown there = record {
  pass = shown.pass;
  there = there;
  ticket = shown.ticket;
  claims = shown.claims;
  named = named_grows r after grows p.claims shown.named;
  commit = commit_grows r after grows p.claims shown.named p.commit shown.commit;
  told = shown.told;
}

module _ (seats : List SeatState) (r : Record) (shows : ShowPasses seats r) (w : ℕ) (s after : SeatState)
    (at : slice_get seats w ≡ Some s) where
  -- a seat whose passes are the same shows the same
  pub passes_same : after.passes ≡ s.passes → ShowPasses (slice_set seats w after) r
  passes_same same = record {
    each = λ v k x is. shows.each v k x (slot_same seats w s after at same v k x is);
    once = λ u v j k x y a b e.
        shows.once u v j k x y (slot_same seats w s after at same u j x a)
        (slot_same seats w s after at same v k y b) e;
    many =
        let a = given_set seats w s after at in
        let b = ap (λ (ps : List SeatPass). length ps) same in
        let c = shows.many in
        omega (arith, a, b, c);
  }

  module _ (slot : ℕ) (p q : SeatPass) (there : slice_get s.passes slot ≡ Some p)
      (passes : after.passes ≡ slice_set s.passes slot q) (ticket : q.ticket ≡ p.ticket) where
    -- the slot of the pass
    mine : IsSlot seats w slot p
    mine = record { seat = s; there = at; here = there }

    -- what stands in a slot has the number of what stood there
    was : (v k : ℕ) (x : SeatPass) → IsSlot (slice_set seats w after) v k x →
        (y : SeatPass) × IsSlot seats v k y × (y.ticket.pass ≡ x.ticket.pass)
    was v k x is = go (slot_set seats w s after at slot p q there passes v k x is)
      where
        go : ((v ≡ w) × (k ≡ slot) × (q ≡ x)) ⊎ (((v ≡ w) → (k ≡ slot) → ⊥) × IsSlot seats v k x) →
            (y : SeatPass) × IsSlot seats v k y × (y.ticket.pass ≡ x.ticket.pass)
        go (inl this) = (
          p,
          subst (λ (m : ℕ). IsSlot seats m k p) (sym this.0)
              (subst (λ (n : ℕ). IsSlot seats w n p) (sym this.1) mine),
          ap (λ (t : Ticket). t.pass) (sym ticket) ∙ ap (λ (y : SeatPass). y.ticket.pass) this.2,
        )
        go (inr other) = (x, other.1, refl)

    -- one pass has changed, with its record
    pub passes_set : (new : Record) (m : PassRecord) → Grows r new →
        new.passes ≡ slice_set r.passes p.ticket.pass m → IsShown new q →
        ShowPasses (slice_set seats w after) new
    passes_set new m grows records shown = record {
      each = λ v k x is. each v k x (slot_set seats w s after at slot p q there passes v k x is);
      once = λ u v j k x y a b e.
          let c = was u j x a in
          let d = was v k y b in
          shows.once u v j k c.0 d.0 c.1 d.1 (c.2 ∙ (e ∙ sym d.2));
      many =
          let a = given_set seats w s after at in
          let b = ap (λ (ps : List SeatPass). length ps) passes in
          let c = length-set s.passes slot q in
          let d = ap (λ (ps : List PassRecord). length ps) records in
          let f = length-set r.passes p.ticket.pass m in
          let g = shows.many in
          omega (arith, a, b, c, d, f, g);
    }
      where
        each : (v k : ℕ) (x : SeatPass) → ((v ≡ w) × (k ≡ slot) × (q ≡ x))
            ⊎ (((v ≡ w) → (k ≡ slot) → ⊥) × IsSlot seats v k x) → IsShown new x
        each v k x (inl this) = subst (λ (y : SeatPass). IsShown new y) this.2 shown
        each v k x (inr other) =
            let old = shows.each v k x other.1 in
            let apart : x.ticket.pass ≡ p.ticket.pass → ⊥ =
            λ e. let one = shows.once v w k slot x p other.1 mine e in other.0 one.0 one.1 in
            shown_grows r new x grows old
            (ap (λ (ps : List PassRecord). slice_get ps x.ticket.pass) records
            ∙ (set-other r.passes p.ticket.pass x.ticket.pass m apart ∙ old.there))

  -- one pass more was given, with its record
  pub passes_push : (q : SeatPass) → after.passes ≡ s.passes ++ q ∷ [] → (new : Record) (m : PassRecord) →
      Grows r new → new.passes ≡ r.passes ++ m ∷ [] → q.ticket.pass ≡ length r.passes → IsShown new q →
      ShowPasses (slice_set seats w after) new
  passes_push q passes new m grows records number shown = record {
    each = λ v k x is. each v k x (slot_push seats w s after at q passes v k x is);
    once = λ u v j k x y a b e.
        once u v j k x y e (slot_push seats w s after at q passes u j x a)
        (slot_push seats w s after at q passes v k y b);
    many =
        let a = given_set seats w s after at in
        let b = ap (λ (ps : List SeatPass). length ps) passes in
        let c = length-append s.passes (q ∷ []) in
        let d = ap (λ (ps : List PassRecord). length ps) records in
        let f = length-append r.passes (m ∷ []) in
        let g = shows.many in
        omega (arith, a, b, c, d, f, g);
  }
    where
      each : (v k : ℕ) (x : SeatPass) → ((v ≡ w) × (k ≡ length s.passes) × (q ≡ x)) ⊎ IsSlot seats v k x →
          IsShown new x
      each v k x (inl this) = subst (λ (y : SeatPass). IsShown new y) this.2 shown
      each v k x (inr is) =
          let old = shows.each v k x is in
          shown_grows r new x grows old
          (ap (λ (ps : List PassRecord). slice_get ps x.ticket.pass) records
          ∙ at-append r.passes (m ∷ []) x.ticket.pass old.pass old.there)

      -- a pass that was there has a lower number
      low : (v k : ℕ) (x : SeatPass) → IsSlot seats v k x → x.ticket.pass < length r.passes
      low v k x is =
          let old = shows.each v k x is in slice_get_within r.passes x.ticket.pass old.pass old.there

      once : (u v j k : ℕ) (x y : SeatPass) → x.ticket.pass ≡ y.ticket.pass →
          ((u ≡ w) × (j ≡ length s.passes) × (q ≡ x)) ⊎ IsSlot seats u j x →
          ((v ≡ w) × (k ≡ length s.passes) × (q ≡ y)) ⊎ IsSlot seats v k y → (u ≡ v) × (j ≡ k)
      once u v j k x y e (inl a) (inl b) = (a.0 ∙ sym b.0, a.1 ∙ sym b.1)
      once u v j k x y e (inr a) (inr b) = shows.once u v j k x y a b e
      once u v j k x y e (inl a) (inr b) =
          let n = ap (λ (z : SeatPass). z.ticket.pass) a.2 in
          let l = low v k y b in absurd (omega (arith, n, l, e, number))
      once u v j k x y e (inr a) (inl b) =
          let n = ap (λ (z : SeatPass). z.ticket.pass) b.2 in
          let l = low u j x a in absurd (omega (arith, n, l, e, number))
