-- The columns of boxes: each has the places of all seats there, and is what its box is closed with.
use Rattle.std.proofs.Common.{◌≡◌, ℕ, ⊎_elim, List, [], ◌∷◌, ◌++◌, map, length, All, sym, ap, ◌∙◌}
use Rattle.std.proofs.Common.{subst, arith, Some, length-append}
use Rattle.std.specs.Prelude.{slice_get}
use Rattle.std.specs.List.{AllZip}
use Rattle.std.proofs.lemmas.List.{length-map}
use Rattle.std.proofs.lemmas.List.Elements.{All-weaker}
use Rattle.seuss_program.specs.declared.state.Value.{Value}
use Rattle.seuss_program.specs.declared.state.Vars.{Vars}
use Rattle.seuss_program.specs.Programs.{vars_of}
use Rattle.method_code.specs.declared.method.Method.{Method}
use Rattle.step_journal.specs.Histories.{Log}
use Rattle.step_journal.specs.Journals.{IsPair}
use Rattle.loose_records.specs.declared.record.BoxEntry.{BoxEntry}
use Rattle.box_lock.specs.Cells.{CellState}
use Rattle.pass_seats.specs.declared.pass.Place.{Place}
use Rattle.pass_seats.specs.Names.{Names, table_at}
use Rattle.pass_seats.specs.Seats.{SeatState}
use Rattle.pass_gather.specs.declared.parting.OpenBox.{OpenBox}
use Rattle.pass_gather.specs.Given.{places_of, AreSeats}
use Rattle.pass_gather.specs.Closing.{note_of, share_of, IsPlaceAt, IsOpenCell, IsReady, IsClosed, ClosesBox, ClosesAll}
use Rattle.pass_gather.specs.Closing.{ClosesAt}
use Rattle.pass_gather.specs.Parting.{open_cell, with_place, with_row, IsColumn, HaveColumns}
use Rattle.pass_gather.specs.Gathered.{AreBoxes, vars_in, state_in, log_in}
use Rattle.pass_gather.proofs.Lists.{none_some, some_same, get_front, get_map, get_unmap, get_or_get, get_below}
use Rattle.pass_gather.proofs.Lists.{get_there, contains_get}
use Rattle.pass_gather.proofs.Rows.{with-at, push-cases, at-push, all-get, get-all, zip-maps}

module _ {N : Type 0} where
  -- empty columns are those of no seats
  pub columns_none : (boxes : List (OpenBox N)) → All (λ (o : OpenBox N). o.column ≡ []) boxes →
      HaveColumns [] boxes
  columns_none boxes empty = record {
    each = λ b o at. record {
      many = ap length (all-get (λ (o : OpenBox N). o.column ≡ []) boxes empty b o at);
      each = λ w s p at_s at_p. absurd (none_some s at_s);
    };
  }

  -- the columns with the places of one seat more
  pub columns_push : (seats : List SeatState) (s : SeatState) (boxes : List (OpenBox N)) →
      length s.places ≡ length boxes → HaveColumns seats boxes →
      HaveColumns (seats ++ s ∷ []) (with_row boxes s.places)
  columns_push seats s boxes many are = record {
    each = λ b o at. one b o (with-at (with_place {N = N}) boxes s.places b o many at);
  }
    where
      one : (b : ℕ) (o : OpenBox N) →
          (x : OpenBox N) × (p : Place) × (slice_get boxes b ≡ Some x) × (slice_get s.places b ≡ Some p)
          × (with_place x p ≡ o) →
          IsColumn (seats ++ s ∷ []) b o.column
      one b o f =
          let was = are.each b f.0 f.2 in
          let column = f.0.column in
          subst (λ (y : OpenBox N). IsColumn (seats ++ s ∷ []) b y.column) f.4 (record {
            many = omega (arith, was.many, length-append column (f.1 ∷ []), length-append seats (s ∷ []));
            each = λ w t q at_t at_q.
                ⊎_elim (λ (h : slice_get seats w ≡ Some t).
                get_front column (f.1 ∷ []) w q (was.each w t q h at_q))
                (λ (h : (w ≡ length seats) × (s ≡ t)).
                let there : slice_get s.places b ≡ Some q =
                subst (λ (u : SeatState). slice_get u.places b ≡ Some q) (sym h.1) at_q in
                let same : f.1 ≡ q = some_same f.1 q (sym f.3 ∙ there) in
                let place : length column ≡ w = was.many ∙ sym h.0 in
                subst (λ (k : ℕ). slice_get (column ++ f.1 ∷ []) k ≡ Some q) place
                (at-push column f.1 ∙ ap (λ (x : Place). Some x) same))
                (push-cases seats s t w at_t);
          })

  -- boxes whose cells aren't broken can be closed with the columns of all seats
  pub boxes_ready : (names : Names) (cells : List CellState) (seats : List SeatState) (boxes : List (OpenBox N)) →
      map open_cell boxes ≡ cells → AreBoxes names cells → All (IsOpenCell names) cells → AreSeats names seats →
      HaveColumns seats boxes → All (IsReady names) boxes
  boxes_ready names cells seats boxes same are whole all columns = get-all (IsReady names) boxes ready
    where
      ready : (b : ℕ) (o : OpenBox N) → slice_get boxes b ≡ Some o → IsReady names o
      ready b o at =
          let at_cell : slice_get cells b ≡ Some o.cell =
          subst (λ (l : List CellState). slice_get l b ≡ Some o.cell) same (get_map open_cell boxes b o at) in
          let column = columns.each b o at in
          let number = are.each b o.cell at_cell in
          let below = get_below cells b o.cell at_cell in
          record {
            cell = all-get (IsOpenCell names) cells whole b o.cell at_cell;
            many = column.many ∙ all.many;
            places = get-all (IsPlaceAt names o.cell.number) o.column (λ w p at_p.
                let s = get_there seats w (omega (arith, column.many, get_below o.column w p at_p)) in
                let seat = (all.each w s.0 s.1).seat in
                let q = get_there s.0.places b (omega (arith, seat.many, are.many, below)) in
                let is = seat.places b q.0 q.1 in
                let same_p : q.0 ≡ p = some_same q.0 p (sym (column.each w s.0 q.0 s.1 q.1) ∙ at_p) in
                subst (IsPlaceAt names o.cell.number) same_p (record {
                  journal = is.journal ∙ ap (table_at names) (sym number);
                  pair = is.pair;
                }));
          }

  -- boxes that were closed with the columns of all seats are all boxes, closed
  pub boxes_closed : (names : Names) (code : List Method) (first : ℕ → List Value) (cells : List CellState)
      (seats : List SeatState) (boxes : List (OpenBox N)) → map open_cell boxes ≡ cells → AreBoxes names cells →
      HaveColumns seats boxes → All (IsClosed names code first) boxes →
      ClosesAll names code first (state_in cells) (map log_in cells) (map places_of seats)
  boxes_closed names code first cells seats boxes same are columns closed = record {
    many = length-map cells log_in ∙ are.many;
    lasts = length-map cells vars_in ∙ are.many;
    each = λ b log at. one b log (get_unmap log_in cells b log at);
  }
    where
      at_box : (b : ℕ) (log : Log BoxEntry) (c : CellState) → slice_get cells b ≡ Some c → log_in c ≡ log →
          (o : OpenBox N) × (slice_get boxes b ≡ Some o) × (o.cell ≡ c) →
          ClosesAt names code first (state_in cells) (map places_of seats) b log
      at_box b log c at_cell is_log f =
          let shut = all-get (IsClosed names code first) boxes closed b f.0 f.1 in
          let column = columns.each b f.0 f.1 in
          let vars : c.vars ≡ vars_of (state_in cells) b =
          ap (λ (v : Vars). v.values)
          (sym (get_or_get (map vars_in cells) b (vars_in c) (record { values = [] })
          (get_map vars_in cells b c at_cell))) in
          let by_cell = subst (λ (x : CellState).
          ClosesBox code x.number (first x.number) names.seats x.journal.log f.0.column x.vars) f.2 shut.closes in
          let by_number = subst (λ (n : ℕ). ClosesBox code n (first n) names.seats c.journal.log f.0.column c.vars)
          (are.each b c at_cell) by_cell in
          let by_log = subst (λ (l : Log BoxEntry). ClosesBox code b (first b) names.seats l f.0.column c.vars) is_log
          by_number in
          record {
            column = f.0.column;
            closes = subst (ClosesBox code b (first b) names.seats log f.0.column) vars by_log;
            has = λ w row p at_row at_p.
                let s = get_unmap places_of seats w row at_row in
                let there : slice_get s.0.places b ≡ Some p =
                subst (λ (r : List Place). slice_get r b ≡ Some p) (sym s.2) at_p in
                contains_get f.0.column w p (column.each w s.0 p s.1 there);
          }

      one : (b : ℕ) (log : Log BoxEntry) → (c : CellState) × (slice_get cells b ≡ Some c) × (log_in c ≡ log) →
          ClosesAt names code first (state_in cells) (map places_of seats) b log
      one b log f =
          at_box b log f.0 f.1 f.2 (get_unmap open_cell boxes b f.0
          (subst (λ (l : List CellState). slice_get l b ≡ Some f.0) (sym same) f.1))

-- the notes and shares of places are pairs
pub column_pairs : (names : Names) (b : ℕ) (column : List Place) → All (IsPlaceAt names b) column →
    AllZip IsPair (map note_of column) (map share_of column)
column_pairs names b column places =
    zip-maps IsPair note_of share_of column
    (All-weaker (IsPlaceAt names b) (λ (p : Place). IsPair p.note p.share) (λ p is. is.pair) column places)
