-- What a cell keeps when its journal grows.
use Rattle.std.proofs.Common.{◌≡◌, ℕ, ◌+◌, ◌<◌, ◌^◌, List, [], ◌∷◌, ◌++◌, map, sym, ap, ◌∙◌, subst}
use Rattle.std.proofs.Common.{arith}
use Rattle.std.proofs.Common.{false}
use Rattle.std.specs.Prelude.{max}
use Rattle.std.proofs.lemmas.List.{map-append}
use Rattle.seuss_program.specs.declared.state.Value.{Value}
use Rattle.method_code.specs.declared.method.Method.{Method}
use Rattle.step_journal.specs.Histories.{Log, entries_of}
use Rattle.step_journal.specs.Journals.{JournalState, longer}
use Rattle.step_journal.proofs.LegalHistories.{legal_push}
use Rattle.loose_records.specs.declared.record.BoxEntry.{BoxEntry}
use Rattle.loose_records.specs.Entries.{gives, AreStamps}
use Rattle.loose_records.specs.Turns.{clock_of}
use Rattle.loose_records.proofs.Clocks.{stamps_after, clock_push}
use Rattle.box_lock.specs.Cells.{CellState, IsCell, log_stamps}

-- the entries of the longer journal
entries_push : (log : Log BoxEntry) (maker : ℕ) (e : BoxEntry) →
    entries_of (log ++ (maker, e) ∷ []) ≡ entries_of log ++ e ∷ []
entries_push log maker e = map-append (λ (p : ℕ × BoxEntry). p.1) log ((maker, e) ∷ [])

-- and its stamps
log_stamps_push : (log : Log BoxEntry) (maker : ℕ) (e : BoxEntry) →
    log_stamps (log ++ (maker, e) ∷ []) ≡ log_stamps log ++ e.stamp ∷ []
log_stamps_push log maker e =
    let stamp = λ (x : BoxEntry). x.stamp in
    ap (map stamp) (entries_push log maker e) ∙ map-append stamp (entries_of log) (e ∷ [])

-- a step keeps the cell
pub stepped : (code : List Method) (first : ℕ → List Value) (clock : ℕ) (old : CellState)
    (maker other now : ℕ) (e : BoxEntry) (journal : JournalState BoxEntry) (vars : List Value) →
    IsCell code first clock old → old.broken ≡ false → gives code old.number e old.vars vars →
    now ≡ 1 + max other clock → now < 2 ^ 63 → e.stamp ≡ now → journal ≡ longer old.journal maker e →
    IsCell code first now
    (record { number = old.number; vars = vars; journal = journal; broken = old.broken })
stepped code first clock old maker other now e journal vars cell whole step stamp fits at longer_is =
    let log = old.journal.log in
    let stamps = log_stamps log in
    let log_is : journal.log ≡ log ++ (maker, e) ∷ [] = ap (λ j. j.log) longer_is in
    let is : log_stamps (log ++ (maker, e) ∷ []) ≡ stamps ++ now ∷ [] =
    log_stamps_push log maker e ∙ ap (λ n. stamps ++ n ∷ []) at in
    let next : now ≡ 1 + max other (clock_of stamps) = stamp ∙ ap (λ c. 1 + max other c) cell.clock_is in
    record {
      replay = λ w. rw (log_is, entries_push log maker e)
          (legal_push (gives code old.number) (first old.number) old.vars vars (entries_of log) e
          (cell.replay whole) step);
      stamps = rw log_is
          (subst AreStamps (sym is)
          (stamps_after other stamps now cell.stamps next fits));
      clock_is = rw log_is
          (sym (ap clock_of is ∙ clock_push stamps now (omega (arith, cell.clock_is, stamp))));
      fits = fits;
    }
