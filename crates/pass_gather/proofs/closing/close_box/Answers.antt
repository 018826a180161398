use Rattle.std.proofs.Common.{◌≡◌, ℕ, ◌<◌, List, map, length, All, ap, sym, ◌∙◌, subst}
use Rattle.std.specs.List.{AllZip}
use Rattle.std.proofs.lemmas.List.{length-map}
use Rattle.std.proofs.lemmas.List.Elements.{All-map, All-weaker}
use Rattle.step_journal.specs.Histories.{IsNoteOf}
use Rattle.step_journal.specs.Journals.{NoteState, ShareState, IsPair}
use Rattle.loose_records.specs.declared.record.BoxEntry.{BoxEntry}
use Rattle.pass_seats.specs.declared.pass.Place.{Place}
use Rattle.pass_gather.specs.Closing.{IsPlaceAt, note_of}
use Rattle.pass_gather.proofs.Columns.{column_pairs}
use Rattle.pass_gather.proofs.Rows.{all-unmap}
use Rattle.pass_gather.proofs.closing.close_box.Goals as goal

pub close-vars-requires-clause-journal : goal.close-vars-requires-clause-journal
close-vars-requires-clause-journal g c =
    let cell = c.args.shut.cell in
    let column = c.args.shut.column in
    let is = c.requires in
    subst (All (λ (n : NoteState BoxEntry). n.journal ≡ cell.journal.name)) (sym c.in_ok-notes.ensures.notes)
    (All-map (λ (n : NoteState BoxEntry). n.journal ≡ cell.journal.name) note_of column
    (All-weaker (IsPlaceAt g.N.EngineNames.names cell.number) (λ (p : Place). p.note.journal ≡ cell.journal.name)
    (λ p at. at.journal ∙ sym is.cell.journal) column is.places))

pub close-vars-requires-clause-all : goal.close-vars-requires-clause-all
close-vars-requires-clause-all g c =
    ap length c.in_ok-notes.ensures.notes ∙ length-map c.args.shut.column note_of ∙ c.requires.many
    ∙ sym c.requires.cell.makers

pub close-vars-requires-clause-pairs : goal.close-vars-requires-clause-pairs
close-vars-requires-clause-pairs g c =
    let column = c.args.shut.column in
    subst (λ (ns : List (NoteState BoxEntry)). AllZip IsPair ns c.in_ok-notes.shares)
    (sym c.in_ok-notes.ensures.notes)
    (subst (λ (ss : List ShareState). AllZip IsPair (map note_of column) ss) (sym c.in_ok-notes.ensures.shares)
    (column_pairs g.N.EngineNames.names c.args.shut.cell.number column c.requires.places))

pub returns-clause-closed : goal.returns-clause-closed
returns-clause-closed g c =
    let cell = c.args.shut.cell in
    let column = c.args.shut.column in
    let log = cell.journal.log in
    record {
      closes = record {
        history = c.close-vars.ensures.history;
        stamps = c.close-vars.ensures.stamps;
        makers = subst (λ (n : ℕ). All (λ (p : ℕ × BoxEntry). p.0 < n) log) c.requires.cell.makers
            c.close-vars.ensures.given;
        notes = all-unmap (λ (n : NoteState BoxEntry). IsNoteOf log n.maker n.seen) note_of column
            (subst (All (λ (n : NoteState BoxEntry). IsNoteOf log n.maker n.seen)) c.in_ok-notes.ensures.notes
            c.close-vars.ensures.notes);
      };
    }
