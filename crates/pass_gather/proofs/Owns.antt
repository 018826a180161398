-- Own entries of a maker: in what it has seen, and where they stand.
use Rattle.std.proofs.Common.{◌≡◌, ◌≢◌, ℕ, zero, suc, List, [], ◌∷◌, ◌++◌, length, Bool, true}
use Rattle.std.proofs.Common.{false}
use Rattle.std.proofs.Common.{◌==◌, refl, sym, ap, ◌∙◌, subst, ⊎_elim, arith, Some}
use Rattle.std.proofs.Common.{length-append}
use Rattle.std.specs.Prelude.{slice_get}
use Rattle.std.proofs.lemmas.Bool.Decides.{nat_tests}
use Rattle.step_journal.specs.Histories.{Log, entries_of, own_entries, IsNoteOf}
use Rattle.step_journal.proofs.Owns.{own_entries-append}
use Rattle.pass_gather.proofs.Lists.{none_some, some_same, nil_from_length, get_map, get_either}

module _ {E : Type 0} where
  -- an own entry comes first among the own ones
  own_here : (m : ℕ) (e : E) (log : Log E) → own_entries m ((m, e) ∷ log) ≡ e ∷ own_entries m log
  own_here m e log = by_test (m == m) refl
    where
      by_test : (b : Bool) → (m == m) ≡ b → own_entries m ((m, e) ∷ log) ≡ e ∷ own_entries m log
      by_test true is = rw is refl
      by_test false is = absurd (grind (arith, nat_tests))

  -- the own entries of a list by its first one
  own_cons : (m : ℕ) (p : ℕ × E) (log : Log E) →
      own_entries m (p ∷ log) ≡ own_entries m (p ∷ []) ++ own_entries m log
  own_cons m p log = own_entries-append m (p ∷ []) log

  -- a maker with an entry there has some
  own_some : (m : ℕ) (e : E) (log : Log E) (i : ℕ) → slice_get log i ≡ Some (m, e) → own_entries m log ≢ []
  own_some m e [] i at none = none_some (m, e) at
  own_some m e (p ∷ log) zero at none =
      let here : own_entries m (p ∷ log) ≡ e ∷ own_entries m log =
      ap (λ q. own_entries m (q ∷ log)) (some_same p (m, e) at) ∙ own_here m e log in
      absurd (omega (arith, ap length (sym here ∙ none)))
  own_some m e (p ∷ log) (suc i) at none =
      own_some m e log i at (nil_from_length (own_entries m log) (omega (
        arith,
        ap length
            (sym (own_cons m p log) ∙ none),
        length-append (own_entries m (p ∷ [])) (own_entries m log),
      )))

  -- the rest after a note has no entry of its maker
  own_rest : (m : ℕ) (seen rest log : Log E) → seen ++ rest ≡ log → own_entries m seen ≡ own_entries m log →
      own_entries m rest ≡ []
  own_rest m seen rest log is own =
      nil_from_length (own_entries m rest)
      (omega (
        arith,
        ap length (own ∙ ap (own_entries m) (sym is) ∙ own_entries-append m seen rest),
        length-append (own_entries m seen) (own_entries m rest),
      ))

  -- an entry of the note's maker stands in what the note has seen, at the same place
  pub own_within : (log seen : Log E) (m : ℕ) (e : E) (i : ℕ) → IsNoteOf log m seen →
      slice_get log i ≡ Some (m, e) → slice_get seen i ≡ Some (m, e)
  own_within log seen m e i note at =
      ⊎_elim (λ (h : slice_get seen i ≡ Some (m, e)). h)
      (λ (h : (j : ℕ) × (slice_get note.front.0 j ≡ Some (m, e))). absurd (own_some m e note.front.0 h.0 h.1
      (own_rest m seen note.front.0 log note.front.1 note.own)))
      (get_either seen note.front.0 i (m, e)
      (subst (λ (l : Log E). slice_get l i ≡ Some (m, e)) (sym note.front.1) at))

  -- an entry of a journal stands among its entries
  pub entry_get : (log : Log E) (i m : ℕ) (e : E) → slice_get log i ≡ Some (m, e) →
      slice_get (entries_of log) i ≡ Some e
  entry_get log i m e at = get_map (λ (p : ℕ × E). p.1) log i (m, e) at

  -- the first own entry of a journal is one of its entries
  pub own_first : (m : ℕ) (log : Log E) (e : E) (rest : List E) → own_entries m log ≡ e ∷ rest →
      (k : ℕ) × (slice_get (entries_of log) k ≡ Some e)
  own_first m [] e rest is = absurd (omega (arith, ap length is))
  own_first m (p ∷ log) e rest is = by_test (p.0 == m) refl (λ same. own_first m log e rest same)
    where
      by_test : (b : Bool) → (p.0 == m) ≡ b →
          (own_entries m log ≡ e ∷ rest → (k : ℕ) × (slice_get (entries_of log) k ≡ Some e)) →
          (k : ℕ) × (slice_get (entries_of (p ∷ log)) k ≡ Some e)
      by_test true same later =
          let here : own_entries m (p ∷ log) ≡ p.1 ∷ own_entries m log = rw same refl in
          let q : p.1 ∷ own_entries m log ≡ e ∷ rest = sym here ∙ is in
          let first : p.1 ≡ e = cc q in
          (0, ap Some first)
      by_test false other later =
          let here : own_entries m (p ∷ log) ≡ own_entries m log = rw other refl in
          let r = later (sym here ∙ is) in (suc r.0, r.1)
