use Rattle.std.proofs.Common.{◌≡◌, ◌++◌, ◌∷◌, [], List, length, arith, refl, sym, ap, ◌∙◌, subst, None}
use Rattle.method_code.specs.Chains.{beginning}
use Rattle.pass_seats.specs.declared.pass.SeatPass.{SeatPass}
use Rattle.pass_seats.specs.Seats.{SeatState, IsSeat}
use Rattle.pass_seats.specs.Items.{ItemState}
use Rattle.pass_seats.proofs.Passing.{taken_whole, begun_with}
use Rattle.pass_seats.proofs.Placing.{with_passes, seat_at}
use Rattle.pass_seats.proofs.seat.SeatCore.take.Goals as goal

pub invariant_of-self : goal.invariant_of-self
invariant_of-self g c =
    let i = c.item.inside in
    let k = c.self.inside in
    let s = seat_at k.number k.places.items k.note k.share k.quit k.part.parts k.part.amount k.passes.items k.torn in
    let names = g.N.EngineNames.names in
    let state : ItemState = record { ticket = i.ticket; stamp = i.stamp; seat = i.seat; note = i.note } in
    let begun = begun_with names state i.share (beginning names.setting.program i.ticket.action) in
    let is = c.in-Ok.ensures names.setting.program c.requires.made in
    let made : SeatPass = record {
      ticket = i.ticket;
      by = i.seat;
      started = i.stamp;
      clock = i.stamp;
      budget = c.args.budget;
      control = c.in-Ok.control;
      over = None;
      claims = c.new.result;
      commit = None;
      note = i.note;
      share = i.share;
      done = None;
    } in
    let same : made ≡ begun = λ j. record begun {
      budget = c.requires.budget j;
      control = is j;
      claims = c.new.ensures j;
    } in
    subst (λ (ps : List SeatPass). IsSeat names (seat_at s.number s.places s.note s.share s.quit s.parts s.amount ps
    s.torn)) (sym (c.in-Ok-push.ensures.items ∙ ap (λ (q : SeatPass). k.passes.items ++ q ∷ []) same))
    (with_passes names s s.parts s.amount (s.passes ++ begun ∷ []) c.self.invariant refl
    (λ e. taken_whole names g.N.CellNames.code g.N.CellNames.first s state i.share c.requires.named
    (c.self.invariant.whole e) c.item.invariant))

pub returns-clause-taken : goal.returns-clause-taken
returns-clause-taken g c =
    let i = c.item.inside in
    let k = c.self.inside in
    let names = g.N.EngineNames.names in
    let s = seat_at k.number k.places.items k.note k.share k.quit k.part.parts k.part.amount k.passes.items k.torn in
    let is = c.in-Ok.ensures names.setting.program c.requires.made
    ∙ ap (λ (x : ItemState). beginning names.setting.program x.ticket.action) c.item.view_is in
    let made : SeatPass = record {
      ticket = i.ticket;
      by = i.seat;
      started = i.stamp;
      clock = i.stamp;
      budget = c.args.budget;
      control = c.in-Ok.control;
      over = None;
      claims = c.new.result;
      commit = None;
      note = i.note;
      share = i.share;
      done = None;
    } in
    let slot : c.len-slot.result ≡ length c.args.self.now.passes =
    omega (arith, c.len-slot.ensures, k.passes.ok.0, ap (λ (x : SeatState). length x.passes) c.self.view_is) in
    record {
      given = made;
      given_is = λ j. record made {
        ticket = (c.item.view_is j).ticket;
        by = (c.item.view_is j).seat;
        started = (c.item.view_is j).stamp;
        clock = (c.item.view_is j).stamp;
        budget = c.requires.budget j;
        control = is j;
        claims = c.new.ensures j;
        note = (c.item.view_is j).note;
      };
      unused = c.item.invariant.unused;
      pass_is = λ j. record { slot = slot j; ticket = (c.item.view_is j).ticket };
      new_is = ap (λ (ps : List SeatPass). record s { passes = ps }) c.in-Ok-push.ensures.items
          ∙ ap (λ (x : SeatState). record x { passes = x.passes ++ made ∷ [] }) c.self.view_is;
    }
