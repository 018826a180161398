-- The entries of one maker in a journal that grows, and the notes of it.
use Rattle.std.proofs.Common.{◌≡◌, ◌≢◌, ℕ, ◌+◌, ◌<◌, ◌≤◌, List, [], ◌∷◌, ◌++◌, map, length, filter, All}
use Rattle.std.proofs.Common.{cond, true, false, ◌==◌, Bool, refl, sym, ap, ◌∙◌, append-nil, append_assoc}
use Rattle.std.proofs.Common.{length-append, subst, arith}
use Rattle.std.proofs.lemmas.List.{map-append, length-map}
use Rattle.std.proofs.lemmas.List.Elements.{filter-append, All-nil, All-cons, All-head, All-tail}
use Rattle.std.proofs.lemmas.List.Sums.{sum_by-cons, count_by-le-length, length-filter}
use Rattle.std.proofs.lemmas.Bool.Decides.{nat_tests}
use Rattle.step_journal.specs.Histories.{Log, own_entries, IsNoteOf}
use Rattle.step_journal.specs.Desks.{DeskState}
use Rattle.step_journal.specs.Rules.{lists_of, once_below, IsSound}

module _ {E : Type 0} where
  -- the entries of a maker in two lists, one after the other
  pub own_entries-append : (m : ℕ) (xs ys : Log E) → own_entries m (xs ++ ys) ≡ own_entries m xs ++
      own_entries m ys
  own_entries-append m xs ys =
      ap (map (λ (p : ℕ × E). p.1)) (filter-append (λ (p : ℕ × E). p.0 == m) xs ys)
      ∙ map-append (λ (p : ℕ × E). p.1) (filter (λ p. p.0 == m) xs) (filter (λ p. p.0 == m) ys)

  -- an entry of another maker is none of this one's
  one_other : (m : ℕ) (p : ℕ × E) (b : Bool) → p.0 ≢ m → (p.0 == m) ≡ b → own_entries m (p ∷ []) ≡ []
  one_other m p true apart is = absurd (apart (grind (arith, nat_tests)))
  one_other m p false apart is = rw is refl

  pub own_entries_other : (m : ℕ) (log : Log E) (p : ℕ × E) → p.0 ≢ m →
      own_entries m (log ++ p ∷ []) ≡ own_entries m log
  own_entries_other m log p apart =
      own_entries-append m log (p ∷ []) ∙ ap (λ r. own_entries m log ++ r)
      (one_other m p (p.0 == m) apart refl) ∙ append-nil (own_entries m log)

  -- a note of a journal is one of the longer journal, where the entry is of another maker
  pub note_longer : (log : Log E) (m : ℕ) (seen : Log E) (p : ℕ × E) → p.0 ≢ m → IsNoteOf log m seen →
      IsNoteOf (log ++ p ∷ []) m seen
  note_longer log m seen p apart note = record {
    front = (
      note.front.0 ++ p ∷ [],
      sym (append_assoc seen note.front.0 (p ∷ []))
          ∙ ap (λ l. l ++ p ∷ []) note.front.1,
    );
    own = note.own ∙ sym (own_entries_other m log p apart);
  }

  -- the whole journal is a note of it
  pub note_whole : (log : Log E) (m : ℕ) → IsNoteOf log m log
  note_whole log m = record { front = ([], append-nil log); own = refl }

  -- lists of other makers stay such notes
  pub olds_longer : (log : Log E) (m : ℕ) (e : E) (olds : List (ℕ × Log E)) → lists_of m olds ≡ 0 →
      All (λ o. IsNoteOf log o.0 o.1) olds → All (λ o. IsNoteOf (log ++ (m, e) ∷ []) o.0 o.1) olds
  olds_longer log m e [] none notes = All-nil (λ o. IsNoteOf (log ++ (m, e) ∷ []) o.0 o.1)
  olds_longer log m e (o ∷ olds) none notes =
      let count = sum_by-cons (λ (q : ℕ × Log E). cond (q.0 == m) 1 0) o olds in
      let apart : m ≢ o.0 = λ same. absurd (grind (arith, nat_tests)) in
      All-cons (λ q. IsNoteOf (log ++ (m, e) ∷ []) q.0 q.1) o olds
      (note_longer log o.0 o.1 (m, e) apart (All-head (λ q. IsNoteOf log q.0 q.1) o olds notes))
      (olds_longer log m e olds (omega (arith, count)) (All-tail (λ q. IsNoteOf log q.0 q.1) o olds notes))

-- one number more
pub once_below-suc : (m n : ℕ) → once_below m (n + 1) ≡ once_below m n + cond (n == m) 1 0
once_below-suc m n = grind (arith, nat_tests)

pub once_below-le : (m n : ℕ) → once_below m n ≤ 1
once_below-le m n = grind (arith, nat_tests)

pub below_from_once : (m n : ℕ) → 1 ≤ once_below m n → m < n
below_from_once m n h = grind (arith, nat_tests)

module _ {E : Type 0} where
  -- a number that no entry has for its maker has none
  pub own_entries_none : (m : ℕ) (log : Log E) → All (λ p. p.0 < m) log → own_entries m log ≡ []
  own_entries_none m [] below = refl
  own_entries_none m (p ∷ log) below =
      none (p.0 == m) refl (All-head (λ (q : ℕ × E). q.0 < m) p log below)
      (own_entries_none m log (All-tail (λ (q : ℕ × E). q.0 < m) p log below))
    where
      none : (b : Bool) → (p.0 == m) ≡ b → p.0 < m → own_entries m log ≡ [] → own_entries m (p ∷ log) ≡ []
      none true is less rest = absurd (grind (arith, nat_tests))
      none false is less rest = rw is rest

  -- one more entry is its maker's
  pub length-own_entries-push : (m : ℕ) (log : Log E) (e : E) →
      length (own_entries m (log ++ (m, e) ∷ [])) ≡ length (own_entries m log) + 1
  length-own_entries-push m log e =
      ap length (own_entries-append m log ((m, e) ∷ [])) ∙ length-append (own_entries m log)
      (own_entries m ((m, e) ∷ []))
      ∙ ap (λ n. length (own_entries m log) + n) (mine (m == m) refl)
    where
      mine : (b : Bool) → (m == m) ≡ b → length (own_entries m ((m, e) ∷ [])) ≡ 1
      mine true is = rw is refl
      mine false is = absurd (grind (arith, nat_tests))

  -- no maker has more entries than there are
  pub length-own_entries-le : (m : ℕ) (log : Log E) → length (own_entries m log) ≤ length log
  length-own_entries-le m log =
      omega (
        arith,
        length-map (filter (λ (p : ℕ × E). p.0 == m) log) (λ p. p.1),
        length-filter (λ (p : ℕ × E). p.0 == m) log,
        count_by-le-length (λ (p : ℕ × E). p.0 == m) log,
      )

  -- what a look says of the list that was taken in last
  pub first_note : (d : DeskState E) (log : Log E) (m : ℕ) (seen : Log E) (rest : List (ℕ × Log E)) →
      IsSound d.log d.olds d.given → d.olds ≡ (m, seen) ∷ rest → d.log ≡ log → IsNoteOf log m seen
  first_note d log m seen rest sound olds same =
      subst (λ (l : Log E). IsNoteOf l m seen) same
      (All-head (λ (o : ℕ × Log E). IsNoteOf d.log o.0 o.1) (m, seen) rest
      (subst (λ (os : List (ℕ × Log E)). All (λ o. IsNoteOf d.log o.0 o.1) os) olds sound.fronts))

  -- a share that counts one more, beside a note that has seen one entry of its maker more
  pub count_longer : (log : Log E) (m : ℕ) (seen : Log E) (e : E) (count : ℕ) → IsNoteOf log m seen →
      count ≡ length (own_entries m seen) →
      count + 1 ≡ length (own_entries m (log ++ (m, e) ∷ []))
  count_longer log m seen e count note is = omega
      (arith, ap length note.own, length-own_entries-push m log e)
