-- The claims of passes, and the commit steps among them.
use Rattle.std.proofs.Common.{◌≡◌, ℕ, ◌+◌, ◌<◌, ◌⊎◌, inl, inr, Bool, true, false, List, [], ◌∷◌, ◌++◌, length, refl, sym, ap}
use Rattle.std.proofs.Common.{◌∙◌, Some, None, slice_get, arith}
use Rattle.std.specs.Prelude.{Option, if◌then◌else◌}
use Rattle.std.proofs.lemmas.Option.{same_Some, slice_get_within}
use Rattle.std.proofs.lemmas.List.{length-append}
use Rattle.method_code.specs.Kinds.{calls_early}
use Rattle.method_code.specs.Records.{Recorded}
use Rattle.loose_records.specs.declared.record.Claim.{Claim}
use Rattle.loose_records.specs.declared.record.Record.{Record}
use Rattle.loose_records.specs.Entries.{claimed}
use Rattle.pass_seats.specs.Steps.{commit_after}
use Rattle.turn_runs.proofs.ListLemmas.{push-cases}
use Rattle.still_turns.specs.Shown.{AreNamed, AreEarly, IsCommitSoFar}

-- a record names what another one does
abbrev pub Grows : Record → Record → Type 0
Grows r after = (c : Claim) (e : Recorded) → claimed r c ≡ Some e → claimed after c ≡ Some e

module _ (r after : Record) (grows : Grows r after) (claims : List Claim) (named : AreNamed r claims) where
  -- what is named later was named before
  was : (k : ℕ) (c : Claim) (e : Recorded) → slice_get claims k ≡ Some c → claimed after c ≡ Some e →
      claimed r c ≡ Some e
  was k c e at is =
      let n = named.each k c at in n.1 ∙ ap Some (same_Some n.0 e (sym (grows c n.0 n.1) ∙ is))

  -- claims name entries still
  pub named_grows : AreNamed after claims
  named_grows = record { each = λ k c at. let n = named.each k c at in (n.0, grows c n.0 n.1) }

  -- the commit step stays
  pub commit_grows : (commit : Option ℕ) → IsCommitSoFar r claims commit → IsCommitSoFar after claims commit
  commit_grows None old = record { each = λ k c e at is. old.each k c e at (was k c e at is) }
  commit_grows (Some number) old = (
    old.0,
    record {
      earlier = λ k c e low at is. old.1.earlier k c e low at (was k c e at is);
      here = λ c e at is. old.1.here c e at (was number c e at is);
    },
  )

module _ (r : Record) (claims : List Claim) (c : Claim) (e : Recorded) (is : claimed r c ≡ Some e) where
  -- one claim more names an entry too
  pub named_push : AreNamed r claims → AreNamed r (claims ++ c ∷ [])
  named_push named = record { each = λ k x at. go k x (push-cases claims c x k at) }
    where
      go : (k : ℕ) (x : Claim) → (slice_get claims k ≡ Some x) ⊎ ((k ≡ length claims) × (c ≡ x)) →
          (f : Recorded) × (claimed r x ≡ Some f)
      go k x (inl old) = named.each k x old
      go k x (inr new) = (e, ap (claimed r) (sym new.1) ∙ is)

  -- what the claim names is this
  this : (x : Claim) (f : Recorded) → c ≡ x → claimed r x ≡ Some f → e ≡ f
  this x f same at = same_Some e f (sym is ∙ (ap (claimed r) same ∙ at))

  -- there is one claim more
  one_more : length (claims ++ c ∷ []) ≡ length claims + 1
  one_more = length-append claims (c ∷ [])

  -- a commit step that there is stays
  kept : (number : ℕ) → IsCommitSoFar r claims (Some number) →
      IsCommitSoFar r (claims ++ c ∷ []) (Some number)
  kept number old = (
    omega (arith, old.0, one_more),
    record {
      earlier = λ k x f low at names. early k x f low names (push-cases claims c x k at);
      here = λ x f at names. late x f names (push-cases claims c x number at);
    },
  )
    where
      early : (k : ℕ) (x : Claim) (f : Recorded) → k < number → claimed r x ≡ Some f →
          (slice_get claims k ≡ Some x) ⊎ ((k ≡ length claims) × (c ≡ x)) → calls_early f.end ≡ true
      early k x f low names (inl there) = old.1.earlier k x f low there names
      early k x f low names (inr new) = absurd (omega (arith, low, new.0, old.0))

      late : (x : Claim) (f : Recorded) → claimed r x ≡ Some f →
          (slice_get claims number ≡ Some x) ⊎ ((number ≡ length claims) × (c ≡ x)) →
          calls_early f.end ≡ false
      late x f names (inl there) = old.1.here x f there names
      late x f names (inr new) = absurd (omega (arith, new.0, old.0))

  -- where all so far end by the call of a preprocedure, the next one is the commit step or does so too
  next : AreEarly r claims → (b : Bool) → calls_early e.end ≡ b →
      IsCommitSoFar r (claims ++ c ∷ []) (if b then None else Some (length claims))
  next old true end = record { each = λ k x f at names. by k x f names (push-cases claims c x k at) }
    where
      by : (k : ℕ) (x : Claim) (f : Recorded) → claimed r x ≡ Some f →
          (slice_get claims k ≡ Some x) ⊎ ((k ≡ length claims) × (c ≡ x)) → calls_early f.end ≡ true
      by k x f names (inl there) = old.each k x f there names
      by k x f names (inr new) = ap (λ (g : Recorded). calls_early g.end) (sym (this x f new.1 names)) ∙ end
  next old false end = (
    omega (arith, one_more),
    record {
      earlier = λ k x f low at names. early k x f low names (push-cases claims c x k at);
      here = λ x f at names. late x f names (push-cases claims c x (length claims) at);
    },
  )
    where
      early : (k : ℕ) (x : Claim) (f : Recorded) → k < length claims → claimed r x ≡ Some f →
          (slice_get claims k ≡ Some x) ⊎ ((k ≡ length claims) × (c ≡ x)) → calls_early f.end ≡ true
      early k x f low names (inl there) = old.each k x f there names
      early k x f low names (inr new) = absurd (omega (arith, low, new.0))

      late : (x : Claim) (f : Recorded) → claimed r x ≡ Some f →
          (slice_get claims (length claims) ≡ Some x) ⊎ ((length claims ≡ length claims) × (c ≡ x)) →
          calls_early f.end ≡ false
      late x f names (inl there) =
          let within = slice_get_within claims (length claims) x there in absurd (omega (arith, within))
      late x f names (inr new) =
          ap (λ (g : Recorded). calls_early g.end) (sym (this x f new.1 names)) ∙ end

  -- the commit step after one step more
  pub commit_push : (commit : Option ℕ) → IsCommitSoFar r claims commit →
      IsCommitSoFar r (claims ++ c ∷ []) (commit_after commit (length claims) e.end)
  commit_push None old = next old (calls_early e.end) refl
  commit_push (Some number) old = kept number old
