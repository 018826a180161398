-- The seats of an engine once each has looked at the scheduler's whole list, and the record that they make.
use Rattle.std.proofs.Common.{◌≡◌, ℕ, List, [], ◌∷◌, ◌++◌, length, map, Option, Some, None, refl, sym, ap, ◌∙◌}
use Rattle.std.proofs.Common.{subst, append_assoc, Bool, true, false}
use Rattle.std.specs.Prelude.{Result, Ok, Err, IfOk, MatchResult, slice_get}
use Rattle.std.specs.Option.{MatchOption, IsSomeAnd}
use Rattle.std.proofs.lemmas.Slice.Zip.{AllZip-left, AllZip-right}
use Rattle.std.specs.List.{AllZip}
use Rattle.std.proofs.lemmas.List.{map-append}
use Rattle.std.proofs.lemmas.List.Elements.{length_all_zip}
use Rattle.step_journal.specs.Histories.{Log, entries_of, IsPrefix}
use Rattle.loose_records.specs.declared.record.BoxEntry.{BoxEntry}
use Rattle.loose_records.specs.declared.record.SchedEntry.{SchedEntry}
use Rattle.loose_records.specs.declared.record.Record.{Record}
use Rattle.round_ledger.specs.Cells.{CellState}
use Rattle.round_ledger.specs.declared.standing.Standing.{Standing}
use Rattle.pass_seats.specs.declared.pass.SeatPass.{SeatPass}
use Rattle.pass_seats.specs.declared.refusal.EngineRefusal as E
use Rattle.pass_seats.specs.declared.refusal.EngineRefusal.TheVariants as X
use Rattle.pass_seats.specs.Names.{Names}
use Rattle.pass_seats.specs.Seats.{SeatState, IsSeat}
use Rattle.pass_seats.specs.Finishes.{Stands, StandingRefusedBy}
use Rattle.pass_seats.proofs.Lists.{at-map, map-at}
use Rattle.pass_gather.specs.Given.{given_of, IsSeatAt, AreSeats}
use Rattle.pass_gather.specs.Made.{IsOwn, IsMadeOnce, SeatsMade}
use Rattle.engine_gather.specs.Seeing.{HasLooked, HaveLooked, SeesAll, seen_with}

-- a flag isn't both
not_both : {A : Type 0} (b : Bool) → b ≡ false → b ≡ true → A
not_both b isnt is = absurd (cc (sym isnt ∙ is))

-- whoever asked whether the run goes on has looked
pub has_looked : (names : Names) (cell : CellState) (old new : SeatState) (told : Result Standing E.EngineRefusal) →
    IfOk told (Stands cell old new) → MatchResult told (λ _. ℕ) (StandingRefusedBy cell old new) →
    IsSeat names new → HasLooked names cell old new
has_looked names cell old new (Ok answer) stands refused kept = record {
  number = ap (λ (s : SeatState). s.number) stands.new_is;
  torn = ap (λ (s : SeatState). s.torn) stands.new_is;
  kept = kept;
  sees = λ whole. record { before = stands.before; new_is = stands.new_is };
}
has_looked names cell old new (Err X.Memory) stands refused kept = absurd refused
has_looked names cell old new (Err (X.GivenUp by)) stands refused kept = record {
  number = ap (λ (s : SeatState). s.number) refused.0;
  torn = ap (λ (s : SeatState). s.torn) refused.0;
  kept = kept;
  sees = λ whole. not_both cell.broken whole refused.1;
}
has_looked names cell old new (Err (X.Worn stamp)) stands refused kept = absurd refused

-- a value of which it holds
some_and : {A : Type 0} (P : A → Type 0) (o : Option A) → IsSomeAnd o P → (x : A) × (o ≡ Some x) × P x
some_and P None h = absurd h
some_and P (Some x) h = (x, refl, h)

module _ {A : Type 0} (R : A → A → Type 0) where
  -- beside the one at a place of the first list
  zip-left : (xs ys : List A) (k : ℕ) (x : A) → AllZip R xs ys → slice_get xs k ≡ Some x →
      (y : A) × (slice_get ys k ≡ Some y) × R x y
  zip-left xs ys k x all at =
      some_and (R x) (slice_get ys k)
      (subst (λ (o : Option A). MatchOption o (Unit {0}) (λ u. IsSomeAnd (slice_get ys k) (R u))) at
      (AllZip-left R xs ys all k))

  -- beside the one at a place of the second
  zip-right : (xs ys : List A) (k : ℕ) (y : A) → AllZip R xs ys → slice_get ys k ≡ Some y →
      (x : A) × (slice_get xs k ≡ Some x) × R x y
  zip-right xs ys k y all at =
      some_and (λ x. R x y) (slice_get xs k)
      (subst (λ (o : Option A). MatchOption o (Unit {0}) (λ u. IsSomeAnd (slice_get xs k) (λ x. R x u))) at
      (AllZip-right R xs ys all k))

  -- where each is determined the second list is a map of the first
  zip-map : (f : A → A) → ((x y : A) → R x y → y ≡ f x) → (xs ys : List A) → AllZip R xs ys → ys ≡ map f xs
  zip-map f is [] [] all = refl
  zip-map f is [] (y ∷ ys) all = absurd all
  zip-map f is (x ∷ xs) [] all = absurd all
  zip-map f is (x ∷ xs) (y ∷ ys) all = λ i. is x y all.0 i ∷ zip-map f is xs ys all.1 i

-- the entries of a beginning of a list are a beginning of what its entries begin
entries_on : (xs ys : Log SchedEntry) (es : List SchedEntry) → IsPrefix xs ys → IsPrefix (entries_of ys) es →
    IsPrefix (entries_of xs) es
entries_on xs ys es p q = (
  entries_of p.0 ++ q.0,
  sym (append_assoc (entries_of xs) (entries_of p.0) q.0)
      ∙ ap (λ (l : List SchedEntry). l ++ q.0)
      (sym (map-append (λ (e : ℕ × SchedEntry). e.1) xs p.0) ∙ ap (entries_of {E = SchedEntry}) p.1)
      ∙ q.1,
)

-- with a list seen the seats were given the same passes
pub given_same : (log : Log SchedEntry) (seats : List SeatState) →
    given_of (map (seen_with log) seats) ≡ given_of seats
given_same log [] = refl
given_same log (s ∷ seats) = ap (λ (ps : List SeatPass). s.passes ++ ps) (given_same log seats)

-- all seats of an engine, each of which has looked at the scheduler's list
module _ (names : Names) (cell : CellState) (seats cores : List SeatState)
    (looked : HaveLooked names cell seats cores) where
  -- they are all seats, by their numbers
  pub cores_are : length seats ≡ names.seats →
      ((w : ℕ) (s : SeatState) → slice_get seats w ≡ Some s → (s.number ≡ w) × (s.torn ≡ false)) →
      AreSeats names cores
  cores_are many each = record {
    many = sym (length_all_zip (HasLooked names cell) seats cores looked) ∙ many;
    each = λ w c at. at_place w c (zip-right (HasLooked names cell) seats cores w c looked at);
  }
    where
      at_place : (w : ℕ) (c : SeatState) →
          (s : SeatState) × (slice_get seats w ≡ Some s) × HasLooked names cell s c → IsSeatAt names w c
      at_place w c h =
          let is = each w h.0 h.1 in
          record {
            number_is = h.2.number ∙ is.0;
            seat = h.2.kept;
            untorn = h.2.torn ∙ is.1;
            unmarked = h.2.kept.unmarked (h.2.torn ∙ is.1);
          }

  module _ (whole : cell.broken ≡ false) where
    -- what a seat has then seen
    pub sees_at : (w : ℕ) (s : SeatState) → slice_get seats w ≡ Some s →
        SeesAll cell.journal.log s (seen_with cell.journal.log s)
    sees_at w s at =
        let h = zip-left (HasLooked names cell) seats cores w s looked at in
        let sees = h.2.sees whole in
        record { before = sees.before; new_is = refl }

    -- they have seen the whole list
    pub cores_see : cores ≡ map (seen_with cell.journal.log) seats
    cores_see =
        zip-map (HasLooked names cell) (seen_with cell.journal.log) (λ s c h. (h.sees whole).new_is) seats cores looked

    -- what the cores made the seats have made
    pub seats_made : (r : Record) → SeatsMade cores r → SeatsMade seats r
    seats_made r made_by =
        let log = cell.journal.log in
        let made = subst (λ (l : List SeatState). SeatsMade l r) cores_see made_by in
        record {
          boxes = λ w b s p at there.
              made.boxes w b (seen_with log s) p (at-map (seen_with log) seats w s at) there;
          sched = λ w s at.
              entries_on s.note.seen log r.sched (sees_at w s at).before.front
              (made.sched w (seen_with log s) (at-map (seen_with log) seats w s at));
          made = λ b place e at. once b place e (made.made b place e at);
        }
      where
        once : (b place : ℕ) (e : BoxEntry) → IsMadeOnce (map (seen_with cell.journal.log) seats) b place e →
            IsMadeOnce seats b place e
        once b place e m =
            let log = cell.journal.log in
            let s = map-at (seen_with log) seats m.number m.seat m.there in
            record {
              number = m.number;
              seat = s.0;
              there = s.1;
              own = subst (λ (t : SeatState). IsOwn t b place e) (sym s.2) m.own;
              only = λ w t f at own. m.only w (seen_with log t) f (at-map (seen_with log) seats w t at) own;
            }
