-- Each kind of step keeps the rule, as the calls of the ruled queue ask it.
use Rattle.std.proofs.Common.{◌≡◌, ℕ, ◌+◌, List, [], ◌∷◌, ◌++◌, map, set, refl, sym, ap, ◌∙◌, subst}
use mathlib.Core.List.{map-append}
use mathlib.Core.Option.{some}
use lib.ListN.{get_elem?}
use Rattle.std.specs.List.Sorted.{IsStrictlyIncreasing}
use Rattle.crossbeam_queue.specs.Fifo.{Pushes, Pops, Forks, Merges, Learns}
use Rattle.crossbeam_queue.proofs.Lists.{set_else}
use Rattle.ready_queue.specs.declared.view.Mark.{Mark}
use Rattle.ready_queue.specs.declared.view.Row.{Row}
use Rattle.ready_queue.specs.declared.view.View.{View}
use Rattle.ready_queue.specs.declared.view.View.TheVariants.{Spent, Seated, First}
use Rattle.ready_queue.specs.Rules.{passes, Stands, IsKept, Held, Tells, with_next, next_seat}
use Rattle.ready_queue.specs.Rules.{pushing, with_pushed, with_taken, with_row}
use Rattle.ready_queue.proofs.Alls.{here_set}
use Rattle.ready_queue.proofs.Settling.{settled}
use Rattle.ready_queue.proofs.Steps.{pushed, popped, at_first, seated, joined}

module _ {T : Type 0} (mark : T → Mark) where
  -- the rule, of items with their marks
  abbrev Holds : List T → List View → Type 0
  Holds items views = IsKept (map mark items) views

  -- a push
  pub pushes : (n id : ℕ) (v : View) (row : Row) (x : T) → v ≡ Seated row → (mark x).seat ≡ row.number →
      IsStrictlyIncreasing (passes (row.pushed ++ mark x ∷ [])) →
      Pushes Holds n id v x (λ w. w ≡ with_pushed v (mark x))
  pushes n id v row x is own rise items views room kept at =
      let here : get_elem? views id ≡ some (Seated row) = at ∙ ap some is in
      let after = set views id (Seated (pushing row (mark x))) in (
        with_pushed v (mark x),
        record {
          given = kept.given;
          stands = subst (λ (u : View).
              Stands (map mark (items ++ x ∷ [])) kept.given (set views id (with_pushed u (mark x))))
              (sym is)
              (subst (λ (l : List Mark). Stands l kept.given after) (sym (map-append mark items (x ∷ [])))
              (pushed (map mark items) kept.given row (mark x) views id kept.stands here own rise));
        },
        refl,
      )

  -- a pop that finds an item
  pub pops : (id : ℕ) (v : View) (row : Row) → v ≡ Seated row →
      Pops Holds id v (λ x w. (w ≡ with_taken v (mark x)) × (rest : List Mark) × Held rest w)
  pops id v row is x items views kept at =
      let here : get_elem? views id ≡ some (Seated row) = at ∙ ap some is in
      let after : IsKept (map mark items) (set views id (with_taken v (mark x))) = record {
        given = kept.given;
        stands = subst (λ (u : View).
            Stands (map mark items) kept.given (set views id (with_taken u (mark x)))) (sym is)
            (popped (map mark items) kept.given row (mark x) views id kept.stands here);
      } in (
        with_taken v (mark x),
        after,
        (
          refl,
          map mark items,
          record {
            views = set views id (with_taken v (mark x));
            id = id;
            kept = after;
            here = here_set views id v (with_taken v (mark x)) at;
          },
        ),
      )

  -- what a pop that finds nothing learns
  pub holds_there : (id : ℕ) (v : View) → Learns Holds id v (λ items. Held (map mark items) v)
  holds_there id v items views kept at = record { views = views; id = id; kept = kept; here = at }

  -- a split
  pub forks : (id : ℕ) (v : View) (rows : List Row) (given : ℕ) → v ≡ First rows given →
      Forks Holds id v (with_next v) (next_seat v)
  forks id v rows given is items views kept at =
      let here : get_elem? views id ≡ some (First rows given) = at ∙ ap some is in
      let stands = at_first (map mark items) rows given views id kept here in
      record {
        given = given + 1;
        stands = subst (λ (u : View).
            Stands (map mark items) (given + 1) (set views id (with_next u) ++ next_seat u ∷ [])) (sym is)
            (seated (map mark items) rows given views id stands here);
      }

  -- a join
  pub merges : (id other : ℕ) (v u : View) (rows : List Row) (given : ℕ) (row : Row) → v ≡ First rows given →
      u ≡ Seated row → Merges Holds id v other u (with_row v u) Spent
  merges id other v u rows given row is seat items views kept at apart there =
      let here : get_elem? views id ≡ some (First rows given) = at ∙ ap some is in
      let theirs : get_elem? views other ≡ some (Seated row) =
      sym (set_else views id other (with_row v u) apart) ∙ there ∙ ap some seat in
      let stands = at_first (map mark items) rows given views id kept here in
      record {
        given = given;
        stands = subst (λ (x : View).
            Stands (map mark items) given (set (set views id (with_row x u)) other Spent)) (sym is)
            (subst (λ (y : View).
            Stands (map mark items) given (set (set views id (with_row (First rows given) y)) other Spent))
            (sym seat)
            (joined (map mark items) rows given views id other row stands here apart theirs));
      }

  -- a look
  pub learns : (id : ℕ) (v : View) (rows : List Row) (given : ℕ) → v ≡ First rows given →
      Learns Holds id v (λ items. Tells (map mark items) v)
  learns id v rows given is items views kept at =
      let here : get_elem? views id ≡ some (First rows given) = at ∙ ap some is in
      subst (λ (u : View). Tells (map mark items) u) (sym is)
      (settled (map mark items) rows given views id
      (at_first (map mark items) rows given views id kept here) here)
