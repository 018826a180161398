-- What the notes and shares of a journal count together.
use Rattle.std.proofs.Common.{◌≡◌, ℕ, ◌+◌, ◌<◌, List, [], ◌∷◌, ◌++◌, map, length, All, sum_by, count_by}
use Rattle.std.proofs.Common.{cond, true, false, ◌==◌, Bool, refl, sym, ap, ◌∙◌, append_assoc, subst, arith}
use Rattle.std.specs.List.{AllZip}
use Rattle.std.proofs.lemmas.List.{map-append, length-map}
use Rattle.std.proofs.lemmas.List.Elements.{All-nil, All-cons, All-head, All-tail}
use Rattle.std.proofs.lemmas.List.Sums.{sum_by-cons}
use Rattle.std.proofs.lemmas.Bool.Decides.{nat_tests}
use Rattle.step_journal.specs.Histories.{Log, own_entries, IsNoteOf}
use Rattle.step_journal.specs.Journals.{NoteState, ShareState, IsPair}
use Rattle.step_journal.specs.Desks.{DeskState, list_of}
use Rattle.step_journal.specs.Rules.{lists_of, once_below, IsSound}

-- the last one of a list goes to the front of the others
pub map_last : {A B : Type 0} (f : A → B) (all left : List A) (last : A) (olds : List B) →
    all ≡ left ++ last ∷ [] →
    map f left ++ (f last ∷ olds) ≡ map f all ++ olds
map_last f all left last olds is =
    sym (append_assoc (map f left) (f last ∷ []) olds)
    ∙ ap (λ l. l ++ olds) (sym (map-append f left (last ∷ []))) ∙ ap (λ l. map f l ++ olds) (sym is)

-- what holds of all elements holds of the first ones
pub All_front : {A : Type 0} (P : A → Type 0) (all xs ys : List A) → all ≡ xs ++ ys → All P all → All P xs
All_front P all xs ys is h = front xs (subst (All P) is h)
  where
    front : (xs : List _) → All P (xs ++ ys) → All P xs
    front [] h = All-nil P
    front (x ∷ xs) h = All-cons P x xs (All-head P x (xs ++ ys) h) (front xs (All-tail P x (xs ++ ys) h))

-- equal terms have equal totals
total_same : {A : Type 0} (f g : A → ℕ) → ((x : A) → f x ≡ g x) → (xs : List A) → sum_by f xs ≡ sum_by g xs
total_same f g same [] = refl
total_same f g same (x ∷ xs) =
    omega (arith, sum_by-cons f x xs, sum_by-cons g x xs, same x, total_same f g same xs)

-- the total of sums is the sum of totals
total_sum : {A : Type 0} (f g : A → ℕ) (xs : List A) → sum_by (λ x. f x + g x) xs ≡ sum_by f xs + sum_by g xs
total_sum f g [] = refl
total_sum f g (x ∷ xs) =
    omega (
      arith,
      sum_by-cons f x xs,
      sum_by-cons g x xs,
      sum_by-cons (λ y. f y + g y) x xs,
      total_sum f g
          xs,
    )

-- the total of nothing
total_none : {A : Type 0} (xs : List A) → sum_by (λ (x : A). 0) xs ≡ 0
total_none [] = refl
total_none {A} (x ∷ xs) = omega (arith, sum_by-cons (λ (y : A). 0) x xs, total_none xs)

module _ {E : Type 0} where
  -- an entry counts where it is its maker's
  length-own_entries-cons : (m : ℕ) (p : ℕ × E) (log : Log E) → length (own_entries m (p ∷ log)) ≡ cond
      (m == p.0) 1 0 + length (own_entries m log)
  length-own_entries-cons m p log = by_case (p.0 == m) refl (m == p.0) refl
    where
      by_case : (b : Bool) → (p.0 == m) ≡ b → (d : Bool) → (m == p.0) ≡ d →
          length (own_entries m (p ∷ log)) ≡ cond (m == p.0) 1 0 + length (own_entries m log)
      by_case true is true also = rw (is, also) (omega arith)
      by_case false is false also = rw (is, also) (omega arith)
      by_case true is false also = absurd (grind (arith, nat_tests))
      by_case false is true also = absurd (grind (arith, nat_tests))

  -- where each maker has one note, the entries of their makers are all entries
  pub total_of_makers : (notes : List (NoteState E)) (makers : ℕ) (log : Log E) →
      ((m : ℕ) → m < makers → count_by (λ n. n.maker == m) notes ≡ 1) →
      All (λ p. p.0 < makers) log → sum_by (λ n. length (own_entries n.maker log)) notes ≡ length log
  total_of_makers notes makers [] once below = total_none notes
  total_of_makers notes makers (p ∷ log) once below =
      let here = once p.0 (All-head (λ (q : ℕ × E). q.0 < makers) p log below) in
      let rest = total_of_makers notes makers log once (All-tail (λ (q : ℕ × E). q.0 < makers) p log below)
      in
      let each = total_same (λ (n : NoteState E). length (own_entries n.maker (p ∷ log)))
      (λ n. cond (n.maker == p.0) 1 0 + length (own_entries n.maker log))
      (λ n. length-own_entries-cons n.maker p log) notes in
      let both = total_sum (λ (n : NoteState E). cond (n.maker == p.0) 1 0)
      (λ n. length (own_entries n.maker log)) notes in
      omega (arith, here, rest, each, both)

  -- what the shares count together
  pub total_of_shares : (notes : List (NoteState E)) (shares : List ShareState) (log : Log E) →
      AllZip IsPair notes shares → All (λ n. IsNoteOf log n.maker n.seen) notes →
      sum_by (λ s. s.count) shares ≡ sum_by (λ n. length (own_entries n.maker log)) notes
  total_of_shares [] [] log pairs fronts = refl
  total_of_shares [] (s ∷ shares) log pairs fronts = absurd pairs
  total_of_shares (n ∷ notes) [] log pairs fronts = absurd pairs
  total_of_shares (n ∷ notes) (s ∷ shares) log pairs fronts =
      let front = All-head (λ (q : NoteState E). IsNoteOf log q.maker q.seen) n notes fronts in
      let rest = total_of_shares notes shares log pairs.1
      (All-tail (λ (q : NoteState E). IsNoteOf log q.maker q.seen) n notes fronts) in
      omega (
        arith,
        sum_by-cons (λ (t : ShareState). t.count) s shares,
        sum_by-cons (λ (q : NoteState E). length (own_entries q.maker log)) n notes,
        pairs.0.count,
        ap length front.own,
        rest,
      )

  -- each share counts the entries of its maker
  pub counts_of_shares : (notes : List (NoteState E)) (shares : List ShareState) (log : Log E) →
      AllZip IsPair notes shares → All (λ n. IsNoteOf log n.maker n.seen) notes →
      All (λ s. s.count ≡ length (own_entries s.maker log)) shares
  counts_of_shares [] [] log pairs fronts = All-nil (λ s. s.count ≡ length (own_entries s.maker log))
  counts_of_shares [] (s ∷ shares) log pairs fronts = absurd pairs
  counts_of_shares (n ∷ notes) [] log pairs fronts = absurd pairs
  counts_of_shares (n ∷ notes) (s ∷ shares) log pairs fronts =
      let front = All-head (λ (q : NoteState E). IsNoteOf log q.maker q.seen) n notes fronts in
      All-cons (λ t. t.count ≡ length (own_entries t.maker log)) s shares
      (pairs.0.count ∙ ap length front.own ∙ ap (λ m. length (own_entries m log)) (sym pairs.0.maker))
      (counts_of_shares notes shares log pairs.1
      (All-tail (λ (q : NoteState E). IsNoteOf log q.maker q.seen) n notes fronts))

  -- the notes, from the lists that were taken in
  pub notes_from_lists : (notes : List (NoteState E)) (log : Log E) → All (λ o. IsNoteOf log o.0 o.1)
      (map list_of notes) → All (λ n. IsNoteOf log n.maker n.seen) notes
  notes_from_lists [] log fronts = All-nil (λ n. IsNoteOf log n.maker n.seen)
  notes_from_lists (n ∷ notes) log fronts =
      All-cons (λ q. IsNoteOf log q.maker q.seen) n notes
      (All-head (λ (o : ℕ × Log E). IsNoteOf log o.0 o.1) (list_of n) (map list_of notes) fronts)
      (notes_from_lists notes log (All-tail (λ (o : ℕ × Log E). IsNoteOf log o.0 o.1) (list_of n)
      (map list_of notes) fronts))

  -- as many lists of a maker as notes
  pub lists_of-map : (m : ℕ) (notes : List (NoteState E)) → lists_of m (map list_of notes) ≡ count_by
      (λ n. n.maker == m) notes
  lists_of-map m [] = refl
  lists_of-map m (n ∷ notes) =
      omega (
        arith,
        sum_by-cons (λ (o : ℕ × Log E). cond (o.0 == m) 1 0) (list_of n) (map list_of notes),
        sum_by-cons (λ (q : NoteState E). cond (q.maker == m) 1 0) n notes,
        lists_of-map m notes,
      )

  -- what the notes and shares of a journal say at its end
  pub record Ends (log : Log E) (makers : ℕ) (notes : List (NoteState E)) (shares : List ShareState) : Type
      0 where
    pub below : All (λ p. p.0 < makers) log
    pub notes_are : All (λ n. IsNoteOf log n.maker n.seen) notes
    pub each_once : (m : ℕ) → m < makers → count_by (λ n. n.maker == m) notes ≡ 1
    pub counts : All (λ s. s.count ≡ length (own_entries s.maker log)) shares
    pub total : sum_by (λ s. s.count) shares ≡ length log

  -- all of it follows from a look at a desk that took all notes in
  pub ends : (desk : DeskState E) (log : Log E) (makers : ℕ) (notes : List (NoteState E))
      (shares : List ShareState) → IsSound desk.log desk.olds desk.given →
      desk.log ≡ log → desk.olds ≡ map list_of notes → desk.given ≡ makers → length notes ≡ makers →
      AllZip IsPair notes shares → Ends log makers notes shares
  ends desk log makers notes shares sound log_is olds_are given_is all pairs =
      let fronts : All (λ o. IsNoteOf log o.0 o.1) (map list_of notes) =
      subst (λ (l : Log E). All (λ o. IsNoteOf l o.0 o.1) (map list_of notes)) log_is
      (subst (All (λ o. IsNoteOf desk.log o.0 o.1)) olds_are sound.fronts) in
      let notes_are = notes_from_lists notes log fronts in
      let below : All (λ p. p.0 < makers) log =
      subst (All (λ p. p.0 < makers)) log_is
      (subst (λ (g : ℕ). All (λ p. p.0 < g) desk.log) given_is sound.makers) in
      let full : length desk.olds ≡ desk.given = ap length olds_are ∙ length-map notes list_of ∙ all
      ∙ sym given_is in
      let once : (m : ℕ) → m < makers → count_by (λ n. n.maker == m) notes ≡ 1 = λ m less.
      sym (lists_of-map m notes) ∙ ap (lists_of m) (sym olds_are) ∙ sound.each_once full m
      ∙ ap (once_below m) given_is ∙ once_is m makers less in
      record {
        below = below;
        notes_are = notes_are;
        each_once = once;
        counts = counts_of_shares notes shares log pairs notes_are;
        total = total_of_shares notes shares log pairs notes_are ∙ total_of_makers notes makers log once
            below;
      }
    where
      once_is : (m n : ℕ) → m < n → once_below m n ≡ 1
      once_is m n less = grind (arith, nat_tests)
