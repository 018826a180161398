-- The own entries of a maker, in a journal and in what its note has seen.
use Rattle.std.proofs.Common.{◌≡◌, ◌≢◌, ℕ, zero, suc, ◌⊎◌, inl, inr, ⊎_elim, List, [], ◌∷◌, ◌++◌}
use Rattle.std.proofs.Common.{sym, ap, ◌∙◌, refl, subst, length, length-append, arith, Bool, true, false, ◌==◌}
use Rattle.std.specs.Prelude.{Some, slice_get, Contains}
use Rattle.std.proofs.lemmas.List.{map-append}
use Rattle.std.proofs.lemmas.List.Elements.{Contains-append_left}
use Rattle.std.proofs.lemmas.Bool.Decides.{nat_tests}
use Rattle.step_journal.specs.Histories.{Log, entries_of, own_entries, IsNoteOf}
use Rattle.step_journal.specs.Journals.{NoteState, ShareState, IsPair}
use Rattle.step_journal.proofs.Owns.{own_entries-append}
use Rattle.pass_seats.proofs.Lists.{at-map, at-contains, place_of}
use Rattle.pass_seats.proofs.Lists.{none_some, some_same, nil_from_length}

module _ {E : Type 0} where
  -- an entry of the maker is its own
  own-one : (m : ℕ) (e : E) → own_entries m ((m, e) ∷ []) ≡ e ∷ []
  own-one m e = by_test (m == m) refl
    where
      by_test : (b : Bool) → (m == m) ≡ b → own_entries m ((m, e) ∷ []) ≡ e ∷ []
      by_test true is = rw is refl
      by_test false is = absurd (grind (arith, nat_tests))

  -- one more entry of a maker
  pub own-push : (m : ℕ) (log : Log E) (e : E) → own_entries m (log ++ (m, e) ∷ []) ≡ own_entries m log ++ e ∷ []
  own-push m log e =
      own_entries-append m log ((m, e) ∷ []) ∙ ap (λ es. own_entries m log ++ es) (own-one m e)

  -- own entries, from the first on
  own-cons : (m : ℕ) (p : ℕ × E) (log : Log E) →
      own_entries m (p ∷ log) ≡ own_entries m (p ∷ []) ++ own_entries m log
  own-cons m p log = own_entries-append m (p ∷ []) log

  -- a maker with an entry there has some
  own-some : (m : ℕ) (e : E) (log : Log E) (i : ℕ) → slice_get log i ≡ Some (m, e) → own_entries m log ≢ []
  own-some m e [] i at none = none_some (m, e) at
  own-some m e (p ∷ log) zero at none =
      let here : own_entries m (p ∷ []) ≡ e ∷ [] =
      ap (λ q. own_entries m (q ∷ [])) (some_same p (m, e) at) ∙ own-one m e in
      absurd (omega (
        arith,
        ap length here,
        ap length (sym (own-cons m p log) ∙ none),
        length-append (own_entries m (p ∷ [])) (own_entries m log),
      ))
  own-some m e (p ∷ log) (suc i) at none =
      own-some m e log i at (nil_from_length (own_entries m log)
      (omega (
        arith,
        ap length (sym (own-cons m p log) ∙ none),
        length-append (own_entries m (p ∷ [])) (own_entries m log),
      )))

  -- the rest after a note has no entry of its maker
  own-rest : (m : ℕ) (seen rest log : Log E) → seen ++ rest ≡ log → own_entries m seen ≡ own_entries m log →
      own_entries m rest ≡ []
  own-rest m seen rest log is own =
      nil_from_length (own_entries m rest)
      (omega (
        arith,
        ap length (own ∙ ap (own_entries m) (sym is) ∙ own_entries-append m seen rest),
        length-append (own_entries m seen) (own_entries m rest),
      ))

  -- what stands in two lists stands in one of them
  append-cases : (seen rest : Log E) (i : ℕ) (x : ℕ × E) → slice_get (seen ++ rest) i ≡ Some x →
      (slice_get seen i ≡ Some x) ⊎ ((j : ℕ) × (slice_get rest j ≡ Some x))
  append-cases [] rest i x at = inr (i, at)
  append-cases (y ∷ seen) rest zero x at = inl at
  append-cases (y ∷ seen) rest (suc i) x at = append-cases seen rest i x at

  -- an entry of the note's maker stands in what the note has seen, at the same place
  pub own-within : (log seen : Log E) (m : ℕ) (e : E) (i : ℕ) → IsNoteOf log m seen →
      slice_get log i ≡ Some (m, e) → slice_get seen i ≡ Some (m, e)
  own-within log seen m e i note at =
      ⊎_elim (λ (h : slice_get seen i ≡ Some (m, e)). h)
      (λ (h : (j : ℕ) × (slice_get note.front.0 j ≡ Some (m, e))). absurd (own-some m e note.front.0 h.0 h.1
      (own-rest m seen note.front.0 log note.front.1 note.own)))
      (append-cases seen note.front.0 i (m, e)
      (subst (λ (l : Log E). slice_get l i ≡ Some (m, e)) (sym note.front.1) at))

  -- what a beginning contains the whole contains
  pub entries-front : (seen rest log : Log E) (e : E) → seen ++ rest ≡ log → Contains (entries_of seen) e →
      Contains (entries_of log) e
  entries-front seen rest log e is has =
      subst (λ (es : List E). Contains es e)
      (sym (ap entries_of (sym is) ∙ map-append (λ (p : ℕ × E). p.1) seen rest))
      (Contains-append_left (entries_of seen) (entries_of rest) e has)

  -- an entry with its maker is an entry
  pub entry-there : (log : Log E) (m : ℕ) (e : E) → Contains log (m, e) → Contains (entries_of log) e
  entry-there log m e has =
      let at = place_of log (m, e) has in
      at-contains (entries_of log) at.0 e (at-map (λ (p : ℕ × E). p.1) log at.0 (m, e) at.1)

  -- a note that has seen the whole journal goes with the same share
  pub pair-seen : (log : Log E) (note new : NoteState E) (share : ShareState) → IsPair note share →
      IsNoteOf log note.maker note.seen → new ≡ record { maker = note.maker; seen = log; journal = note.journal } →
      IsPair new share
  pair-seen log note new share pair sees is =
      subst (λ (n : NoteState E). IsPair n share) (sym is)
      (record { maker = pair.maker; count = pair.count ∙ ap length sees.own })
