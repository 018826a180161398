-- Each kind of step keeps the rule of a journal's table.
use Rattle.std.proofs.Common.{◌≡◌, ◌≢◌, ℕ, ◌+◌, ◌%◌, ◌^◌, ◌<◌, ◌≤◌, List, [], ◌∷◌, ◌++◌, length, set}
use Rattle.std.proofs.Common.{get_or, cond, ◌==◌, refl, sym, ap, ◌∙◌, subst, ⊎_elim, arith, le_refl}
use Rattle.std.proofs.Common.{mod-eq_of_lt}
use mathlib.Core.Option.{some}
use lib.ListN.{get_elem?}
use Rattle.std.proofs.lemmas.List.{length_push}
use Rattle.std.proofs.lemmas.List.Elements.{All-cons, All-tail, All-push}
use Rattle.std.proofs.lemmas.List.Sums.{sum_by-cons, sum_by_push, count_by-le-length}
use Rattle.std.proofs.lemmas.Bool.Decides.{nat_tests}
use Rattle.atomic_table.specs.Table.{State, Me, step, Allows, Splits, Joins}
use Rattle.atomic_table.specs.Table.Act.{keeps}
use Rattle.atomic_table.proofs.Lists.{at_set, at_snoc, set_again, set_else}
use Rattle.step_journal.specs.declared.view.View.{View}
use Rattle.step_journal.specs.declared.view.View.TheVariants.{Spent, Noted, Writer}
use Rattle.step_journal.specs.Histories.{Log, IsNoteOf}
use Rattle.step_journal.specs.Rules.{lists_of, writers_in, lists_in, own_lists_in, Fits, Stands, IsKept}
use Rattle.step_journal.specs.Rules.{IsSound, Tells, Looks, longer_by, Appends, with_next, next_note}
use Rattle.step_journal.specs.Rules.{without_last, last_note, with_list}
use Rattle.step_journal.proofs.Totals.{total_set, total_one, total_two, total_others}
use Rattle.step_journal.proofs.Owns.{note_longer, note_whole, olds_longer, once_below-suc, once_below-le}
use Rattle.step_journal.proofs.Owns.{below_from_once}

-- what holds of each view, after a change of one
fits_set : {V : Type 0} (P : V → Type 0) (views : List V) (id : ℕ) (w : V) → P w →
    ((j : ℕ) (u : V) → j ≢ id → get_elem? views j ≡ some u → P u) → (j : ℕ) (u : V) →
    get_elem? (set views id w) j ≡ some u → P u
fits_set {V} P views id w here others j u at =
    ⊎_elim (λ (t : (j ≡ id) × (w ≡ u)). subst P t.1 here)
    (λ (t : (j ≢ id) × (get_elem? views j ≡ some u)). others j u t.0 t.1) (at_set views id j w u at)

-- and with one view more
fits_push : {V : Type 0} (P : V → Type 0) (views : List V) (w : V) → P w →
    ((j : ℕ) (u : V) → get_elem? views j ≡ some u → P u) → (j : ℕ) (u : V) → get_elem? (views ++ w ∷ [])
    j ≡ some u → P u
fits_push {V} P views w here others j u at =
    ⊎_elim (λ (t : get_elem? views j ≡ some u). others j u t) (λ (t : w ≡ u). subst P t here)
    (at_snoc views w u j at)

module _ {E : Type 0} (log : Log E) (olds : List (ℕ × Log E)) (given : ℕ) where
  abbrev Pen : View E
  Pen = Writer log olds given

  -- the rule, at the writer's journal
  pub at_writer : (words : List ℕ) (views : List (View E)) (id : ℕ) → IsKept words views →
      get_elem? views id ≡ some Pen → Stands log given words views
  at_writer words views id kept at =
      let mine = kept.stands.fits id Pen at in
      subst (λ (l : Log E). Stands l given words views) (sym mine.0)
      (subst (λ (g : ℕ). Stands kept.log g words views) (sym mine.1) kept.stands)

  -- there is one writer
  no_other : (words : List ℕ) (views : List (View E)) (id j : ℕ) (u : View E) →
      Stands log given words views → get_elem? views id ≡ some Pen →
      j ≢ id → get_elem? views j ≡ some u → writers_in u ≡ 0
  no_other words views id j u s at apart there =
      omega (arith, s.one_writer, total_two writers_in views id j Pen u apart at there)

  -- a look tells the truth
  pub sound : (words : List ℕ) (views : List (View E)) (id : ℕ) → Stands log given words views →
      get_elem? views id ≡ some Pen → IsSound log olds given
  sound words views id s at = record {
    fronts = (s.fits id Pen at).2;
    makers = s.makers;
    each_once = λ all m.
        let le = total_others (own_lists_in m) lists_in (own_le m) views id Pen at in
        let one = total_one (own_lists_in m) views id Pen at in
        omega (arith, s.each_once m, s.all_lists, le, one);
  }
    where
      own_le : (m : ℕ) (v : View E) → own_lists_in m v ≤ lists_in v
      own_le m Spent = le_refl 0
      own_le m (Noted k seen) = grind (arith, nat_tests)
      own_le m (Writer l os g) = count_by-le-length (λ (o : ℕ × Log E). o.0 == m) os

  -- the rule after a look
  pub looked : (words : List ℕ) (views : List (View E)) (id : ℕ) → Stands log given words views →
      get_elem? views id ≡ some Pen →
      Stands log given (set words 0 (get_or words 0 0)) (set views id Pen)
  looked words views id s at =
      subst (λ (vs : List (View E)). Stands log given (set words 0 (get_or words 0 0)) vs)
      (sym (set_again views id Pen at))
      (subst (λ (ws : List ℕ). Stands log given ws views)
      (s.word ∙ ap (λ (ws : List ℕ). set ws 0 (get_or ws 0 0)) (sym s.word)) s)

  -- a look keeps the rule
  pub looks : {S : Type 0} (slots id : ℕ) (me : Me S (View E)) → me.0 ≡ Pen →
      Allows (λ (s : State S (View E)). IsKept s.words s.views) slots id me 0 (λ n. n)
      (Looks (step slots 0 0 0 mathlib.Core.Option.none) me)
  looks {S} slots id me is s kept homes at bound =
      let here : get_elem? s.views id ≡ some Pen = at ∙ ap some is in
      let stands = at_writer s.words s.views id kept here in
      let told : Tells Pen (get_or s.words 0 0) =
      (ap (λ (ws : List ℕ). get_or ws 0 0) stands.word, sound s.words s.views id stands here) in (
        me.0,
        keeps,
        tt,
        record {
          log = log;
          given = given;
          stands = subst (λ (v : View E). Stands log given (set s.words 0 (get_or s.words 0 0))
              (set s.views id v)) (sym is) (looked s.words s.views id stands here);
        },
        (refl, subst (λ (v : View E). Tells v (get_or s.words 0 0)) (sym is) told),
      )

  -- the rule after a note with a new number
  pub noted : (words : List ℕ) (views : List (View E)) (id : ℕ) → Stands log given words views →
      get_elem? views id ≡ some Pen →
      Stands log (given + 1) words (set views id (with_next Pen) ++ next_note Pen ∷ [])
  noted words views id s at =
      let w : View E = Writer log olds (given + 1) in
      let n : View E = Noted given log in
      record {
        word = s.word;
        one_writer = omega (
          arith,
          s.one_writer,
          sum_by_push writers_in (set views id w) n,
          total_set writers_in views id Pen w at,
        );
        fits = fits_push (Fits log (given + 1)) (set views id w) n (note_whole log given)
            (fits_set (Fits log (given + 1)) views id w (refl, refl, (s.fits id Pen at).2)
            (λ j u apart there. old u (no_other words views id j u s at apart there) (s.fits j u there)));
        each_once = λ m. omega (
          arith,
          s.each_once m,
          sum_by_push (own_lists_in m) (set views id w) n,
          total_set (own_lists_in m) views id Pen w at,
          once_below-suc m given,
        );
        all_lists = omega (
          arith,
          s.all_lists,
          sum_by_push lists_in (set views id w) n,
          total_set lists_in views id Pen w at,
        );
        makers = λ k d h. let below = s.makers k d h in omega arith;
      }
    where
      old : (u : View E) → writers_in u ≡ 0 → Fits log given u → Fits log (given + 1) u
      old Spent none fit = tt
      old (Noted k seen) none fit = fit
      old (Writer l os g) none fit = absurd (omega arith)

  -- a new note keeps the rule
  pub notes : {S : Type 0} (id : ℕ) (v : View E) → v ≡ Pen →
      Splits (λ (s : State S (View E)). IsKept s.words s.views) id v (with_next v) (next_note v)
  notes {S} id v is s kept at =
      let here : get_elem? s.views id ≡ some Pen = at ∙ ap some is in
      record {
        log = log;
        given = given + 1;
        stands = subst (λ (u : View E). Stands log (given + 1) s.words
            (set s.views id (with_next u) ++ next_note u ∷ [])) (sym is)
            (noted s.words s.views id (at_writer s.words s.views id kept here) here);
      }

  -- the rule after a note was taken in
  pub taken : (words : List ℕ) (views : List (View E)) (id other : ℕ) (m : ℕ) (seen : Log E) →
      Stands log given words views → get_elem? views id ≡ some Pen →
      other ≢ id → get_elem? views other ≡ some (Noted m seen) →
      Stands log given words (set (set views id (Writer log ((m, seen) ∷ olds) given)) other Spent)
  taken words views id other m seen s at apart there =
      let w : View E = Writer log ((m, seen) ∷ olds) given in
      let n : View E = Noted m seen in
      let still : get_elem? (set views id w) other ≡ some n = set_else views id other w apart ∙ there in
      record {
        word = s.word;
        one_writer = omega (
          arith,
          s.one_writer,
          total_set writers_in views id Pen w at,
          total_set writers_in (set views id w) other n Spent still,
        );
        fits = fits_set (Fits log given) (set views id w) other Spent tt (λ j u _ e.
            fits_set (Fits log given) views id w (
              refl,
              refl,
              All-cons (λ o. IsNoteOf log o.0 o.1) (m, seen) olds (s.fits other n there)
                  (s.fits id Pen at).2,
            ) (λ k x _ f. s.fits k x f) j u e);
        each_once = λ k. omega (
          arith,
          s.each_once k,
          total_set (own_lists_in k) views id Pen w at,
          total_set (own_lists_in k) (set views id w) other n Spent still,
          sum_by-cons (λ (o : ℕ × Log E). cond (o.0 == k) 1 0) (m, seen) olds,
        );
        all_lists = omega (
          arith,
          s.all_lists,
          total_set lists_in views id Pen w at,
          total_set lists_in (set views id w) other n Spent still,
        );
        makers = s.makers;
      }

  -- taking in a note keeps the rule
  pub takes : {S : Type 0} (id other : ℕ) (v u : View E) (m : ℕ) (seen : Log E) → v ≡ Pen →
      u ≡ Noted m seen →
      Joins (λ (s : State S (View E)). IsKept s.words s.views) id v other u (with_list v u) Spent
  takes {S} id other v u m seen is note s kept at apart there =
      let here : get_elem? s.views id ≡ some Pen = at ∙ ap some is in
      let theirs : get_elem? s.views other ≡ some (Noted m seen) =
      sym (set_else s.views id other (with_list v u) apart) ∙ there ∙ ap some note in
      record {
        log = log;
        given = given;
        stands = subst (λ (x : View E). Stands log given s.words
            (set (set s.views id (with_list x u)) other Spent)) (sym is)
            (subst (λ (y : View E). Stands log given s.words
            (set (set s.views id (with_list Pen y)) other Spent)) (sym note)
            (taken s.words s.views id other m seen (at_writer s.words s.views id kept here) here apart
            theirs));
      }

-- steps of the writer that took in a list last
module _ {E : Type 0} (log : Log E) (m : ℕ) (seen : Log E) (olds : List (ℕ × Log E)) (given : ℕ) where
  abbrev Before : View E
  Before = Writer log ((m, seen) ∷ olds) given

  -- the rule after the note with its number was split off
  pub given_back : (words : List ℕ) (views : List (View E)) (id : ℕ) → Stands log given words views →
      get_elem? views id ≡ some Before →
      Stands log given words (set views id (Writer log olds given) ++ Noted m log ∷ [])
  given_back words views id s at =
      let w : View E = Writer log olds given in
      let n : View E = Noted m log in
      record {
        word = s.word;
        one_writer = omega (
          arith,
          s.one_writer,
          sum_by_push writers_in (set views id w) n,
          total_set writers_in views id Before w at,
        );
        fits = fits_push (Fits log given) (set views id w) n (note_whole log m)
            (fits_set (Fits log given) views id w
            (refl, refl, All-tail (λ o. IsNoteOf log o.0 o.1) (m, seen) olds (s.fits id Before at).2)
            (λ j u _ there. s.fits j u there));
        each_once = λ k. omega (
          arith,
          s.each_once k,
          sum_by_push (own_lists_in k) (set views id w) n,
          total_set (own_lists_in k) views id Before w at,
          sum_by-cons (λ (o : ℕ × Log E). cond (o.0 == k) 1 0) (m, seen) olds,
        );
        all_lists = omega (
          arith,
          s.all_lists,
          sum_by_push lists_in (set views id w) n,
          total_set lists_in views id Before w at,
        );
        makers = s.makers;
      }

  -- giving the note back keeps the rule
  pub gives_back : {S : Type 0} (id : ℕ) (v : View E) → v ≡ Before →
      Splits (λ (s : State S (View E)). IsKept s.words s.views) id v (without_last v) (last_note v)
  gives_back {S} id v is s kept at =
      let here : get_elem? s.views id ≡ some Before = at ∙ ap some is in
      record {
        log = log;
        given = given;
        stands = subst (λ (u : View E). Stands log given s.words
            (set s.views id (without_last u) ++ last_note u ∷ [])) (sym is)
            (given_back s.words s.views id (at_writer log ((m, seen) ∷ olds) given s.words s.views id kept
            here) here);
      }

  -- the rule after an append
  pub appended : (e : E) (words : List ℕ) (views : List (View E)) (id : ℕ) → length log + 1 < 2 ^ 64 →
      Stands log given words views → get_elem? views id ≡ some Before →
      Stands (log ++ (m, e) ∷ []) given (set words 0 ((get_or words 0 0 + 1) % 2 ^ 64))
      (set views id (longer_by Before (e ∷ [])))
  appended e words views id room s at =
      let new : Log E = log ++ (m, e) ∷ [] in
      let w : View E = Writer new ((m, new) ∷ olds) given in
      let count = sum_by-cons (λ (o : ℕ × Log E). cond (o.0 == m) 1 0) (m, seen) olds in
      let mine : 1 ≤ cond (m == m) 1 0 = grind (arith, nat_tests) in
      let once = s.each_once m in
      let few = once_below-le m given in
      let one = total_one (own_lists_in m) views id Before at in
      let alone : lists_of m olds ≡ 0 = omega (arith, count, mine, once, few, one) in
      let was_given : m < given = below_from_once m given (omega (arith, count, mine, once, one)) in
      let others : (j : ℕ) (u : View E) → j ≢ id → get_elem? views j ≡ some u → Fits new given u =
      λ j u apart there.
      old e u (no_other log ((m, seen) ∷ olds) given words views id j u s at apart there)
      (omega (arith, count, mine, once, few, total_two (own_lists_in m) views id j Before u apart at there))
      (s.fits j u there)
      in
      record {
        word = subst (λ (ws : List ℕ). set ws 0 ((get_or ws 0 0 + 1) % 2 ^ 64) ≡ length new ∷ [])
            (sym s.word)
            (ap (λ (n : ℕ). n ∷ []) (mod-eq_of_lt room ∙ sym (length_push log (m, e))));
        one_writer = omega (arith, s.one_writer, total_set writers_in views id Before w at);
        fits = fits_set (Fits new given) views id w (
          refl,
          refl,
          All-cons (λ o. IsNoteOf new o.0 o.1) (m, new) olds (note_whole new m)
              (olds_longer log m e olds alone
              (All-tail (λ o. IsNoteOf log o.0 o.1) (m, seen) olds (s.fits id Before at).2)),
        ) others;
        each_once = λ k. omega (
          arith,
          s.each_once k,
          total_set (own_lists_in k) views id Before w at,
          sum_by-cons (λ (o : ℕ × Log E). cond (o.0 == k) 1 0) (m, seen) olds,
          sum_by-cons (λ (o : ℕ × Log E). cond (o.0 == k) 1 0) (m, new) olds,
        );
        all_lists = omega (arith, s.all_lists, total_set lists_in views id Before w at);
        makers = All-push (λ (p : ℕ × E). p.0 < given) log (m, e) s.makers was_given;
      }
    where
      old : (e : E) (u : View E) → writers_in u ≡ 0 → own_lists_in m u ≡ 0 → Fits log given u →
          Fits (log ++ (m, e) ∷ []) given u
      old e Spent none other fit = tt
      old e (Noted k s) none other fit =
          note_longer log k s (m, e) (λ same. absurd (grind (arith, nat_tests))) fit
      old e (Writer l os g) none other fit = absurd (omega arith)

  -- an append keeps the rule
  pub appends : {S : Type 0} (e : E) (picked : List E) (slots id : ℕ) (me : Me S (View E)) →
      length log + 1 < 2 ^ 64 → picked ≡ e ∷ [] → me.0 ≡ Before →
      Allows (λ (s : State S (View E)). IsKept s.words s.views) slots id me 0 (λ n. (n + 1) % 2 ^ 64)
      (Appends picked (step slots 0 1 0 mathlib.Core.Option.none) me)
  appends {S} e picked slots id me room pick is s kept homes at bound =
      let here : get_elem? s.views id ≡ some Before = at ∙ ap some is in
      let stands = at_writer log ((m, seen) ∷ olds) given s.words s.views id kept here in
      let told : Tells Before (get_or s.words 0 0) = (
        ap (λ (ws : List ℕ). get_or ws 0 0) stands.word,
        sound log ((m, seen) ∷ olds) given s.words
            s.views id stands here,
      ) in (
        longer_by me.0 picked,
        keeps,
        tt,
        record {
          log = log ++ (m, e) ∷ [];
          given = given;
          stands = subst (λ (es : List E). Stands (log ++ (m, e) ∷ []) given
              (set s.words 0 ((get_or s.words 0 0 + 1) % 2 ^ 64)) (set s.views id (longer_by me.0 es)))
              (sym pick)
              (subst (λ (v : View E). Stands (log ++ (m, e) ∷ []) given
              (set s.words 0 ((get_or s.words 0 0 + 1) % 2 ^ 64))
              (set s.views id (longer_by v (e ∷ [])))) (sym is)
              (appended e s.words s.views id room stands here));
        },
        (refl, subst (λ (v : View E). Tells v (get_or s.words 0 0)) (sym is) told),
      )
