use Rattle.std.proofs.Common.{◌≡◌, ℕ, ◌+◌, List, map, length, All, ap, sym, ◌∙◌, subst}
use Rattle.std.specs.List.{AllZip}
use Rattle.compat_scheduler.specs.Settings.{Setting}
use Rattle.compat_scheduler.specs.Runs.{IsRun}
use Rattle.step_journal.specs.Histories.{entries_of}
use Rattle.box_lock.specs.Cells.{CellState}
use Rattle.loose_records.specs.declared.record.BoxEntry.{BoxEntry}
use Rattle.step_journal.specs.Journals.{NoteState, ShareState, IsPair}
use Rattle.loose_records.specs.declared.record.SchedEntry.{SchedEntry}
use Rattle.loose_records.specs.LooseRecords.{IsLoose}
use Rattle.round_ledger.specs.Cells as S
use Rattle.pass_seats.specs.declared.pass.SeatPass.{SeatPass}
use Rattle.pass_gather.specs.Given.{given_of, notes_of}
use Rattle.pass_gather.specs.Closing.{IsOpenSched, ClosesSched}
use Rattle.pass_gather.specs.Listing.{IsThrough, AreTold}
use Rattle.pass_gather.specs.Gathered.{cell_of, state_in, log_in}
use Rattle.pass_gather.specs.Made.{SeatsMade}
use Rattle.pass_gather.proofs.Columns.{boxes_closed}
use Rattle.pass_gather.proofs.Finished.{told_numbered, sorted_lists}
use Rattle.pass_gather.proofs.Making.{record_made}
use Rattle.pass_gather.proofs.Notes.{seats_through, notes_many, notes_named, notes_paired, notes_made, shares_made}
use Rattle.pass_gather.proofs.gathering.gather.Goals as goal

pub take_passes-requires : goal.take_passes-requires
take_passes-requires g c =
    let names = g.N.EngineNames.names in
    let e = c.in_ok-parts.ensures in
    let cell = c.args.sched.cell in
    let seats = c.args.seats.items in
    let f = subst (S.IsCell c.facts.ensures.0) e.sched c.facts.ensures.1 in
    let run = subst (λ (s : Setting). IsRun s (S.log_events cell.journal.log) cell.machine) e.whole.setting f.run in
    let over = c.an_ended_run_is_over.ensures names cell.machine cell.journal.log run c.in_ok-parts.ensures.ended in
    subst (All IsThrough) (sym e.passes)
    (seats_through names seats _ c.requires.seats e.counted
    (λ ledger. c.no_pass_is_open.ensures cell.setting cell.machine cell.journal.log seats cell.seats f.run f.owners
    f.tickets over.quiet c.in_ok-parts.ensures.given ledger))

pub close_sched-sched-requires-clause-cell : goal.close_sched-sched-requires-clause-cell
close_sched-sched-requires-clause-cell g c =
    subst (IsOpenSched g.N.EngineNames.names) (sym c.in_ok-parts.ensures.sched) c.in_ok-parts.ensures.whole

pub close_sched-sched-requires-clause-all : goal.close_sched-sched-requires-clause-all
close_sched-sched-requires-clause-all g c =
    let e = c.in_ok-parts.ensures in
    let seats = c.args.seats.items in
    let notes = notes_made seats c.in_ok-parts.parts.passes.items c.in_ok-parts.parts.notes c.take_passes.new.notes
    c.in_ok-records.ensures.notes e.notes e.passes in
    ap length notes ∙ notes_many g.N.EngineNames.names seats c.requires.seats
    ∙ ap (λ (n : ℕ). g.N.EngineNames.names.seats + n)
    (c.in_ok-parts.ensures.given ∙ sym (ap (λ (s : S.CellState). s.machine.starts) e.sched))

pub close_sched-sched-requires-clause-notes : goal.close_sched-sched-requires-clause-notes
close_sched-sched-requires-clause-notes g c =
    let e = c.in_ok-parts.ensures in
    let seats = c.args.seats.items in
    let notes = notes_made seats c.in_ok-parts.parts.passes.items c.in_ok-parts.parts.notes c.take_passes.new.notes
    c.in_ok-records.ensures.notes e.notes e.passes in
    subst (All (λ (n : NoteState SchedEntry). n.journal ≡ g.N.EngineNames.names.sched)) (sym notes)
    (notes_named g.N.EngineNames.names seats c.requires.seats)

pub close_sched-sched-requires-clause-pairs : goal.close_sched-sched-requires-clause-pairs
close_sched-sched-requires-clause-pairs g c =
    let e = c.in_ok-parts.ensures in
    let seats = c.args.seats.items in
    let notes = notes_made seats c.in_ok-parts.parts.passes.items c.in_ok-parts.parts.notes c.take_passes.new.notes
    c.in_ok-records.ensures.notes e.notes e.passes in
    let shares = shares_made seats c.in_ok-parts.parts.passes.items c.in_ok-parts.parts.shares
    c.take_passes.new.shares c.in_ok-records.ensures.shares e.shares e.passes in
    subst (λ (ns : List (NoteState SchedEntry)). AllZip IsPair ns c.take_passes.new.shares) (sym notes)
    (subst (λ (ss : List ShareState). AllZip IsPair (notes_of seats) ss) (sym shares)
    (notes_paired g.N.EngineNames.names seats c.requires.seats))

pub sort_records-requires : goal.sort_records-requires
sort_records-requires g c =
    let names = g.N.EngineNames.names in
    let e = c.in_ok-parts.ensures in
    let cell = c.args.sched.cell in
    let seats = c.args.seats.items in
    let notes = notes_made seats c.in_ok-parts.parts.passes.items c.in_ok-parts.parts.notes c.take_passes.new.notes
    c.in_ok-records.ensures.notes e.notes e.passes in
    let shut : ClosesSched names cell (notes_of seats) =
    subst (ClosesSched names cell) notes
    (subst (λ (s : S.CellState). ClosesSched names s c.take_passes.new.notes) e.sched
    c.close_sched-sched.ensures.closes) in
    let told = subst (λ (l : List SeatPass). AreTold l c.in_ok-records.records.items) e.passes
    c.in_ok-records.ensures.records in
    told_numbered cell.machine.starts (given_of seats) c.in_ok-records.records.items told c.in_ok-parts.ensures.given
    (c.the_scheduler_gathers.ensures.numbers names cell seats shut c.requires.seats)
    (c.the_scheduler_gathers.ensures.below names cell seats shut c.requires.seats)

pub returns : goal.returns
returns g c =
    let names = g.N.EngineNames.names in
    let code = g.N.CellNames.code in
    let first = g.N.CellNames.first in
    let e = c.in_ok-parts.ensures in
    let cell = c.args.sched.cell in
    let cells = map cell_of c.args.desks.items in
    let seats = c.args.seats.items in
    let records = c.in_ok-records.records.items in
    let passes = c.in_ok-passes.passes in
    let notes = notes_made seats c.in_ok-parts.parts.passes.items c.in_ok-parts.parts.notes c.take_passes.new.notes
    c.in_ok-records.ensures.notes e.notes e.passes in
    let shut : ClosesSched names cell (notes_of seats) =
    subst (ClosesSched names cell) notes
    (subst (λ (s : S.CellState). ClosesSched names s c.take_passes.new.notes) e.sched
    c.close_sched-sched.ensures.closes) in
    let told = subst (λ (l : List SeatPass). AreTold l records) e.passes c.in_ok-records.ensures.records in
    let lists = sorted_lists cell.machine.starts (given_of seats) records passes told c.in_ok-passes.ensures
    c.in_ok-parts.ensures.given in
    let all = boxes_closed names code first cells seats c.in_ok-parts.parts.boxes.items e.cells c.requires.boxes e.columns
    c.in_ok-last.ensures.closed in
    let same = record_made names.first cells cell c.args.first c.in_ok-last.last c.in_ok-last.journals
    c.close_sched-sched.result passes c.requires.first
    (c.in_ok-last.ensures.state ∙ ap state_in e.cells)
    (c.in_ok-last.ensures.journals ∙ ap (λ (l : List CellState). map (entries_of {E = BoxEntry}) (map log_in l)) e.cells)
    (c.close_sched-sched.ensures.entries ∙ ap (λ (s : S.CellState). entries_of s.journal.log) e.sched) in
    let law = c.a_gathered_run_is_a_loose_record.ensures in
    record {
      whole = e.whole.whole;
      gathered = record { passes = lists; record_is = same };
      loose = subst (IsLoose names.setting) (sym same)
          (law.loose names code first (state_in cells) (map log_in cells) cell seats passes c.requires.named all shut
          c.requires.seats c.in_ok-parts.ensures.ended lists);
      made = subst (SeatsMade seats) (sym same)
          (law.made names code first (state_in cells) (map log_in cells) cell seats passes c.requires.named all shut
          c.requires.seats c.in_ok-parts.ensures.ended);
    }
