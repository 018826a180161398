-- A pass that has finished has its commit step, its end and its verdict; and the given passes by their numbers.
use Rattle.std.proofs.Common.{◌≡◌, ℕ, ◌<◌, true, false, List, length, All, refl, sym, ap, ◌∙◌, subst, arith}
use Rattle.std.proofs.Common.{Option, Some, None}
use Rattle.std.specs.Prelude.{slice_get}
use Rattle.seuss_base.specs.declared.outcome.PassEnd.{PassEnd}
use Rattle.method_code.specs.Chains.{begun}
use Rattle.step_journal.specs.Histories.{Log}
use Rattle.loose_records.specs.declared.record.BoxEntry.{BoxEntry}
use Rattle.loose_records.specs.declared.record.PassRecord.{PassRecord}
use Rattle.pass_seats.specs.declared.pass.Done.{Done}
use Rattle.pass_seats.specs.declared.pass.SeatPass.{SeatPass}
use Rattle.pass_seats.specs.Names.{Names}
use Rattle.pass_seats.specs.Passes.{IsSeatPass, HasDone, ComesTo, steps_of}
use Rattle.pass_seats.specs.Seats.{SeatState, is_some, is_done, logs_of}
use Rattle.pass_gather.specs.Given.{given_of, AreSeats, AllFinished, HaveAllNumbers, AreBelow, Lists}
use Rattle.pass_gather.specs.Listing.{IsThrough, AreTold, AreNumbered, AreSorted}
use Rattle.pass_gather.proofs.Lists.{get_below, get_there, get_contains, some_same}
use Rattle.pass_gather.proofs.Rows.{get-all}
use Rattle.pass_gather.proofs.Owners.{given_seat, whole_at}
use Rattle.pass_gather.proofs.Commits.{over_commits}

-- there is something where a test says so
there_is : (o : Option Done) → is_some o ≡ true → (d : Done) × (o ≡ Some d)
there_is None is = absurd (true_false is)
  where
    true_false : false ≡ true → ⊥
    true_false e = cc e
there_is (Some d) is = (d, refl)

-- a pass of a seat that has finished is through
pass_through : (names : Names) (seat : ℕ) (logs : List (Log BoxEntry)) (p : SeatPass) →
    IsSeatPass names seat logs p → is_done p ≡ true → IsThrough p
pass_through names seat logs p is done =
    let d = there_is p.done done in
    let has = subst (λ (o : Option Done). HasDone o p) d.1 is.done in
    let begin = begun names.setting.program is.action in
    let chain = subst (λ (o : Option PassEnd).
    ComesTo names.setting.program begin names.setting.budget (steps_of logs p.claims) o p) has.1 is.comes in
    let commit = over_commits names.setting.program begin names.setting.budget (steps_of logs p.claims) has.0 chain
    p.commit is.commit in
    record {
      commit = commit.0;
      commit_is = commit.1;
      end = has.0;
      end_is = has.1;
      done = d.0;
      done_is = d.1;
    }

-- and so are all given passes where each has finished
pub all_through : (names : Names) (seats : List SeatState) → AreSeats names seats → AllFinished (given_of seats) →
    All IsThrough (given_of seats)
all_through names seats are finished = get-all IsThrough (given_of seats) through
  where
    through : (j : ℕ) (p : SeatPass) → slice_get (given_of seats) j ≡ Some p → IsThrough p
    through j p at =
        let f = given_seat seats j p at in
        pass_through names f.seat.number (logs_of f.seat.places) p
        ((whole_at names f.number f.seat (are.each f.number f.seat f.there)).passes f.slot p f.here)
        (finished.done j p at)

-- the numbers of the records are those of the passes
pub told_numbered : (starts : ℕ) (given : List SeatPass) (records : List PassRecord) → AreTold given records →
    length given ≡ starts → HaveAllNumbers starts given → AreBelow starts given → AreNumbered records
told_numbered starts given records told many all below = record {
  below = get-all (λ (r : PassRecord). r.ticket.pass < length records) records (λ j r at.
      let p = told.each j r at in
      omega (arith, below j p.0 p.1, ap (λ t. t.pass) p.2.ticket, told.many, many));
  each = λ i less.
      let p = all i (omega (arith, less, told.many, many)) in
      let r = get_there records p.0 (omega (arith, get_below given p.0 p.1 p.2, told.many)) in
      let q = told.each p.0 r.0 r.1 in
      let same : q.0 ≡ p.1 = some_same q.0 p.1 (sym q.1 ∙ p.2) in
      (p.0, r.0, r.1, ap (λ t. t.pass) q.2.ticket ∙ ap (λ (x : SeatPass). x.ticket.pass) same ∙ p.3);
}

-- the sorted records are those of the passes by their numbers
pub sorted_lists : (starts : ℕ) (given : List SeatPass) (records passes : List PassRecord) →
    AreTold given records → AreSorted records passes → length given ≡ starts → Lists given starts passes
sorted_lists starts given records passes told sorted many = record {
  many = sorted.many ∙ told.many ∙ many;
  each = λ i r at.
      let has = sorted.each i r at in
      let j = get_contains records r has.0 in
      let p = told.each j.0 r j.1 in
      record {
        slot = j.0;
        pass = p.0;
        there = p.1;
        number_is = ap (λ t. t.pass) (sym p.2.ticket) ∙ has.1;
        tells = p.2;
      };
}
