-- The parts of seats with those of one seat more.
use Rattle.std.proofs.Common.{◌≡◌, ℕ, List, [], ◌∷◌, ◌++◌, map, length, refl, sym, ap, ◌∙◌, subst, append-nil}
use Rattle.std.proofs.Common.{append_assoc, ◌<◌, set, Some}
use Rattle.std.specs.Prelude.{slice_get, slice_index_or}
use Rattle.std.proofs.lemmas.Option.{slice_get_read}
use Rattle.std.proofs.lemmas.List.{length-map, map-append}
use Rattle.seuss_program.specs.declared.state.Vars.{Vars}
use Rattle.step_journal.specs.Histories.{entries_of}
use Rattle.loose_records.specs.declared.record.BoxEntry.{BoxEntry}
use Rattle.box_lock.specs.Cells.{CellState}
use Rattle.pass_seats.specs.declared.pass.Place.{Place}
use Rattle.pass_seats.specs.declared.pass.SeatPass.{SeatPass}
use Rattle.pass_seats.specs.Seats.{SeatState}
use Rattle.pass_gather.specs.declared.parting.OpenBox.{OpenBox}
use Rattle.pass_gather.specs.declared.parting.SeatsApart.{SeatsApart}
use Rattle.pass_gather.specs.Given.{given_of, seat_note, seat_share}
use Rattle.pass_gather.specs.Gathered.{vars_in, log_in}
use Rattle.pass_gather.specs.Parting.{open_cell, with_place, with_row, parts_in, amount_in, seat_view, seat_parts}
use Rattle.pass_gather.specs.Parting.{seat_amount, HaveColumns, AreApart}
use Rattle.pass_gather.proofs.Rows.{with-same, with-rest, with-next, push-is}
use Rattle.pass_gather.proofs.Columns.{columns_push}

-- the passes that seats and one more were given
pub given_push : (seats : List SeatState) (s : SeatState) → given_of (seats ++ s ∷ []) ≡ given_of seats ++ s.passes
given_push [] s = append-nil s.passes
given_push (t ∷ seats) s =
    ap (λ l. t.passes ++ l) (given_push seats s) ∙ sym (append_assoc t.passes (given_of seats) s.passes)

module _ {N : Type 0} where
  -- the cells stay when places are put into the columns
  pub row_cells : (boxes : List (OpenBox N)) (row : List Place) → map open_cell (with_row boxes row) ≡ map open_cell boxes
  row_cells boxes row = with-same with_place open_cell (λ o p. refl) boxes row

  -- and so do the boxes' count
  pub row_many : (boxes : List (OpenBox N)) (row : List Place) → length (with_row boxes row) ≡ length boxes
  row_many boxes row =
      sym (length-map (with_row boxes row) open_cell) ∙ ap length (row_cells boxes row) ∙ length-map boxes open_cell

  -- one place more is put into the next column
  pub row_next : (init boxes : List (OpenBox N)) (row : List Place) (number : ℕ) (o : OpenBox N) (p : Place)
      (new : OpenBox N) → boxes ≡ with_row init row → number ≡ length row → number < length boxes →
      o ≡ slice_index_or boxes number o → new ≡ with_place o p →
      set boxes number new ≡ with_row init (row ++ p ∷ [])
  row_next init boxes row number o p new boxes_are number_is less read new_is =
      let there : slice_get boxes number ≡ Some o = slice_get_read boxes (length boxes) number o refl less read in
      let moved : slice_get boxes number ≡ slice_get (with_row init row) (length row) =
      λ i. slice_get (boxes_are i) (number_is i) in
      let at : slice_get init (length row) ≡ Some o =
      sym (with-rest with_place init row) ∙ (sym moved ∙ there) in
      let same : set boxes number new ≡ set (with_row init row) (length row) (with_place o p) =
      λ i. set (boxes_are i) (number_is i) (new_is i) in
      same ∙ with-next with_place init row o p at

  -- the parts of one seat more
  pub apart_push : (cells : List CellState) (seats : List SeatState) (s : SeatState) (old new : SeatsApart N) →
      AreApart cells seats old → length s.places ≡ length old.boxes.items →
      new.boxes.items ≡ with_row old.boxes.items s.places → new.notes ≡ old.notes ++ s.note ∷ [] →
      new.shares ≡ old.shares ++ s.share ∷ [] → new.views.items ≡ old.views.items ++ s.quit ∷ [] →
      map parts_in new.parts.items ≡ map parts_in old.parts.items ++ s.parts ∷ [] →
      map amount_in new.parts.items ≡ map amount_in old.parts.items ++ s.amount ∷ [] →
      new.passes.items ≡ old.passes.items ++ s.passes → AreApart cells (seats ++ s ∷ []) new
  apart_push cells seats s old new was many boxes notes shares views parts amounts passes = record {
    cells_are = ap (map open_cell) boxes ∙ row_cells old.boxes.items s.places ∙ was.cells_are;
    columns = subst (HaveColumns (seats ++ s ∷ [])) (sym boxes)
        (columns_push seats s old.boxes.items many was.columns);
    notes = push-is seat_note seats s old.notes new.notes s.note notes was.notes refl;
    shares = push-is seat_share seats s old.shares new.shares s.share shares was.shares refl;
    views = push-is seat_view seats s old.views.items new.views.items s.quit views was.views refl;
    parts = push-is seat_parts seats s (map parts_in old.parts.items) (map parts_in new.parts.items) s.parts parts
        was.parts refl;
    amounts = push-is seat_amount seats s (map amount_in old.parts.items) (map amount_in new.parts.items) s.amount
        amounts was.amounts refl;
    passes = passes ∙ ap (λ (l : List SeatPass). l ++ s.passes) was.passes ∙ sym (given_push seats s);
  }

  -- the variables of boxes and of one more
  pub vars_push : (boxes : List (OpenBox N)) (o : OpenBox N) (old new : List Vars) (vars : Vars) →
      new ≡ old ++ vars ∷ [] → old ≡ map vars_in (map open_cell boxes) → vars ≡ vars_in o.cell →
      new ≡ map vars_in (map open_cell (boxes ++ o ∷ []))
  vars_push boxes o old new vars is was same =
      push-is vars_in (map open_cell boxes) o.cell old new vars is was same
      ∙ ap (map vars_in) (sym (map-append open_cell boxes (o ∷ [])))

  -- their entries
  pub entries_push : (boxes : List (OpenBox N)) (o : OpenBox N) (old new : List (List BoxEntry))
      (entries : List BoxEntry) → new ≡ old ++ entries ∷ [] →
      old ≡ map entries_of (map log_in (map open_cell boxes)) → entries ≡ entries_of o.cell.journal.log →
      new ≡ map entries_of (map log_in (map open_cell (boxes ++ o ∷ [])))
  entries_push boxes o old new entries is was same =
      push-is (entries_of {E = BoxEntry}) (map log_in (map open_cell boxes)) (log_in o.cell) old new entries is was
      same
      ∙ ap (map (entries_of {E = BoxEntry})) (sym (map-append log_in (map open_cell boxes) (o.cell ∷ [])))
      ∙ ap (λ (l : List CellState). map (entries_of {E = BoxEntry}) (map log_in l))
      (sym (map-append open_cell boxes (o ∷ [])))
