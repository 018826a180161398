use Rattle.std.proofs.Common.{◌≡◌, ℕ, ◌<◌, map, length, All, ap, sym, ◌∙◌, subst, false}
use Rattle.std.proofs.Common.{Some, None}
use Rattle.std.proofs.lemmas.List.{length-map}
use Rattle.std.proofs.lemmas.List.Elements.{All-push, All-pop, All-weaker}
use Rattle.compat_scheduler.specs.Settings.{Setting}
use Rattle.compat_scheduler.specs.Runs.{IsRun}
use Rattle.quit_word.specs.Seats as Q
use Rattle.round_ledger.specs.Cells as S
use Rattle.pass_gather.specs.Closing.{IsOpenSched}
use Rattle.pass_gather.specs.Gathered.{cell_of}
use Rattle.pass_gather.specs.Parting.{open_cell, seat_view, seat_parts, seat_amount, parts_in, amount_in}
use Rattle.pass_gather.proofs.Columns.{boxes_ready}
use Rattle.pass_gather.proofs.Notes.{given_now}
use Rattle.pass_gather.proofs.Rows.{all-across, length-across, sum-across}
use Rattle.pass_gather.proofs.Settled.{unbroken, seats_unmarked, seats_named, desks_named, cells_open}
use Rattle.pass_gather.proofs.gathering.take_engine.Goals as goal

pub take_seats-requires-clause-many : goal.take_seats-requires-clause-many
take_seats-requires-clause-many g c =
    length-across open_cell cell_of c.in_ok-parted.parted.boxes.items c.args.desks.items c.in_ok-parted.ensures.cells
    ∙ sym (length-map c.args.desks.items cell_of) ∙ c.requires.boxes.many

pub settle_all-requires-clause-first : goal.settle_all-requires-clause-first
settle_all-requires-clause-first g c =
    let first = c.apart-cell.ensures.first in
    let kept = c.apart-cell.ensures.kept in (
      ap (λ (f : Q.FirstState). f.name) first ∙ kept.first.0 ∙ sym c.requires.quit,
      ap (λ (f : Q.FirstState). f.held) first ∙ kept.first.2,
    )

pub settle_all-requires-clause-all : goal.settle_all-requires-clause-all
settle_all-requires-clause-all g c =
    ap length c.in_ok-made.ensures.views ∙ length-map c.args.seats.items seat_view ∙ c.requires.seats.many
    ∙ sym (ap (λ (f : Q.FirstState). f.given) c.apart-cell.ensures.first ∙ c.apart-cell.ensures.kept.first.1)

pub settle_all-requires-clause-unmarked : goal.settle_all-requires-clause-unmarked
settle_all-requires-clause-unmarked g c =
    subst (All (λ (v : Q.SeatState). v.mark ≡ false)) (sym c.in_ok-made.ensures.views)
    (seats_unmarked g.N.EngineNames.names c.args.seats.items c.requires.seats)

pub settle_all-requires-clause-workers : goal.settle_all-requires-clause-workers
settle_all-requires-clause-workers g c =
    All-weaker (λ (v : Q.SeatState). v.name ≡ g.N.EngineNames.names.quit) (λ (v : Q.SeatState). v.name ≡ c.args.quit)
    (λ v h. h ∙ sym c.requires.quit) c.in_ok-made.made.views.items
    (subst (All (λ (v : Q.SeatState). v.name ≡ g.N.EngineNames.names.quit)) (sym c.in_ok-made.ensures.views)
    (seats_named g.N.EngineNames.names c.args.seats.items c.requires.seats))

pub settle_all-requires-clause-views : goal.settle_all-requires-clause-views
settle_all-requires-clause-views g c =
    let names = g.N.EngineNames.names in
    let desks = subst (All (λ (v : Q.ViewState). v.name ≡ names.quit)) (sym c.in_ok-parted.ensures.views)
    (desks_named names c.args.desks.items c.in_ok-parted.ensures.kept) in
    let sched = ap (λ (v : Q.ViewState). v.name) c.apart-cell.ensures.quit ∙ c.apart-cell.ensures.kept.quit in
    All-weaker (λ (v : Q.ViewState). v.name ≡ names.quit) (λ (v : Q.ViewState). v.name ≡ c.args.quit)
    (λ v h. h ∙ sym c.requires.quit) c.push.new.self.items
    (subst (All (λ (v : Q.ViewState). v.name ≡ names.quit)) (sym c.in_ok-push.ensures.items)
    (All-push (λ (v : Q.ViewState). v.name ≡ names.quit) c.in_ok-parted.parted.views.items _ desks sched))

pub audit_all-requires-clause-each : goal.audit_all-requires-clause-each
audit_all-requires-clause-each g c =
    all-across (λ (n : ℕ). n ≡ 1) parts_in seat_parts c.in_ok-made.made.parts.items c.args.seats.items
    c.in_ok-made.ensures.parts (λ w s at. (c.requires.seats.each w s at).seat.part)

pub audit_all-requires-clause-all : goal.audit_all-requires-clause-all
audit_all-requires-clause-all g c =
    length-across parts_in seat_parts c.in_ok-made.made.parts.items c.args.seats.items c.in_ok-made.ensures.parts
    ∙ c.requires.seats.many ∙ sym c.requires.parts

pub returns-clause-cells : goal.returns-clause-cells
returns-clause-cells g c = c.in_ok-made.ensures.cells_are ∙ c.in_ok-parted.ensures.cells

pub returns-clause-ready : goal.returns-clause-ready
returns-clause-ready g c =
    let names = g.N.EngineNames.names in
    let all = All-pop (λ (v : Q.ViewState). v.seen ≡ None) c.push.new.self.items c.in_ok-parted.parted.views.items
    (Some c.apart-cell.result.1) c.in_ok-push.ensures.items c.settle_all.ensures in
    boxes_ready names (map cell_of c.args.desks.items) c.args.seats.items c.in_ok-made.made.boxes.items
    (c.in_ok-made.ensures.cells_are ∙ c.in_ok-parted.ensures.cells) c.requires.boxes
    (cells_open names c.args.desks.items c.in_ok-parted.ensures.kept
    (subst (All (λ (v : Q.ViewState). v.seen ≡ None)) c.in_ok-parted.ensures.views all.0))
    c.requires.seats c.in_ok-made.ensures.columns

pub returns-clause-whole : goal.returns-clause-whole
returns-clause-whole g c =
    let kept = c.apart-cell.ensures.kept in
    let sched = c.args.sched in
    let all = All-pop (λ (v : Q.ViewState). v.seen ≡ None) c.push.new.self.items c.in_ok-parted.parted.views.items
    (Some c.apart-cell.result.1) c.in_ok-push.ensures.items c.settle_all.ensures in
    record {
      journal = kept.journal;
      setting = kept.setting;
      seats = kept.seats;
      whole = unbroken sched.cell.broken sched.quit.seen kept.broken
          (sym (ap (λ (v : Q.ViewState). v.seen) c.apart-cell.ensures.quit) ∙ all.1);
    }

pub returns-clause-counted : goal.returns-clause-counted
returns-clause-counted g c =
    λ some.
    sym (sum-across amount_in seat_amount c.in_ok-made.made.parts.items c.args.seats.items
    c.in_ok-made.ensures.amounts)
    ∙ c.audit_all.ensures (subst (λ (n : ℕ). 0 < n) (sym c.requires.parts) some)
    ∙ c.apart-cell.ensures.book ∙ c.apart-cell.ensures.kept.counted

pub returns-clause-ended : goal.returns-clause-ended
returns-clause-ended g c =
    let kept = c.apart-cell.ensures.kept in
    let sched = c.args.sched in
    let all = All-pop (λ (v : Q.ViewState). v.seen ≡ None) c.push.new.self.items c.in_ok-parted.parted.views.items
    (Some c.apart-cell.result.1) c.in_ok-push.ensures.items c.settle_all.ensures in
    c.requires.ended
    (unbroken sched.cell.broken sched.quit.seen kept.broken
    (sym (ap (λ (v : Q.ViewState). v.seen) c.apart-cell.ensures.quit) ∙ all.1))

pub returns-clause-given : goal.returns-clause-given
returns-clause-given g c =
    let names = g.N.EngineNames.names in
    let kept = c.apart-cell.ensures.kept in
    let sched = c.args.sched in
    let cell = sched.cell in
    let seats = c.args.seats.items in
    let all = All-pop (λ (v : Q.ViewState). v.seen ≡ None) c.push.new.self.items c.in_ok-parted.parted.views.items
    (Some c.apart-cell.result.1) c.in_ok-push.ensures.items c.settle_all.ensures in
    let whole = unbroken cell.broken sched.quit.seen kept.broken
    (sym (ap (λ (v : Q.ViewState). v.seen) c.apart-cell.ensures.quit) ∙ all.1) in
    let sound : IsOpenSched names cell =
    record { journal = kept.journal; setting = kept.setting; seats = kept.seats; whole = whole } in
    let f = subst (S.IsCell c.facts.ensures.0) c.apart-cell.ensures.cell c.facts.ensures.1 in
    let run = subst (λ (s : Setting). IsRun s (S.log_events cell.journal.log) cell.machine) sound.setting f.run in
    let over = c.an_ended_run_is_over.ensures names cell.machine cell.journal.log run (c.requires.ended whole) in
    given_now names c.facts.ensures.0 cell seats c.requires.seats sound f
    (c.passes_are_numbered.ensures cell.setting (S.log_events cell.journal.log) cell.machine f.run) over.quiet
    (λ some.
    sym (sum-across amount_in seat_amount c.in_ok-made.made.parts.items seats c.in_ok-made.ensures.amounts)
    ∙ c.audit_all.ensures (subst (λ (n : ℕ). 0 < n) (sym c.requires.parts) some)
    ∙ c.apart-cell.ensures.book ∙ c.apart-cell.ensures.kept.counted)
    c.requires.given
