-- The boxes that cells show, before and after a step.
use Rattle.std.proofs.Common.{◌≡◌, ℕ, ◌<◌, ◌⊎◌, inl, inr, List, [], ◌∷◌, ◌++◌, map, length, refl, sym, ap, ◌∙◌}
use Rattle.std.proofs.Common.{Some, None, slice_get, subst, arith}
use Rattle.std.specs.Prelude.{slice_set, slice_index_or, Option, option_map}
use Rattle.std.proofs.lemmas.Bool.{cases_eq}
use Rattle.std.proofs.lemmas.Option.{same_Some, slice_get_within, get_or_from_slice_get}
use Rattle.std.proofs.lemmas.List.{map-append, map-set, length-map, get_or-set_same, get_or-set_other}
use Rattle.seuss_program.specs.declared.state.State.{State}
use Rattle.seuss_program.specs.declared.state.Vars.{Vars}
use Rattle.seuss_program.specs.declared.state.Value.{Value}
use Rattle.seuss_program.specs.Programs.{vars_of}
use Rattle.method_code.specs.Chains.{with_vars}
use Rattle.method_code.specs.Records.{Recorded}
use Rattle.step_journal.specs.Histories.{Log, entries_of}
use Rattle.step_journal.specs.Journals.{longer}
use Rattle.loose_records.specs.declared.record.BoxEntry.{BoxEntry}
use Rattle.loose_records.specs.declared.record.Claim.{Claim}
use Rattle.loose_records.specs.declared.record.PassRecord.{PassRecord}
use Rattle.loose_records.specs.declared.record.Record.{Record}
use Rattle.loose_records.specs.Entries.{journal, box_stamps, claimed, step_of}
use Rattle.loose_records.specs.Turns.{clock_of}
use Rattle.box_lock.specs.Cells.{CellState, log_stamps}
use Rattle.turn_runs.proofs.ListLemmas.{at-map, at-append, at-push}
use Rattle.pass_gather.specs.Gathered.{vars_in}
use Rattle.still_turns.specs.Shown.{ShowsBoxes, entries_in}

-- one entry more
pub entries_push : {E : Type 0} (log : Log E) (m : ℕ) (e : E) →
    entries_of (log ++ (m, e) ∷ []) ≡ entries_of log ++ e ∷ []
entries_push {E} log m e = map-append (λ (p : ℕ × E). p.1) log ((m, e) ∷ [])

-- the record after a step on a box
abbrev pub with_step : Record → ℕ → BoxEntry → List Value → List PassRecord → Record
with_step r b entry vars passes = record r {
  last = with_vars r.last b vars;
  boxes = slice_set r.boxes b (journal r b ++ entry ∷ []);
  passes = passes;
}

-- what a map of something gives comes from it
from_map : {A B : Type 0} (f : A → B) (o : Option A) (y : B) → option_map f o ≡ Some y →
    (x : A) × (o ≡ Some x) × (f x ≡ y)
from_map f None y e = cc e
from_map f (Some x) y e = (x, refl, same_Some (f x) y e)

module _ (cells : List CellState) (r : Record) (shows : ShowsBoxes cells r) (b : ℕ) (cell : CellState)
    (at : slice_get cells b ≡ Some cell) where
  -- the journal of a box is that of its cell
  pub journal_at : journal r b ≡ entries_of cell.journal.log
  journal_at =
      ap (λ (bs : List (List BoxEntry)). slice_index_or bs b []) shows.boxes
      ∙ get_or_from_slice_get (map entries_in cells) b (entries_in cell) [] (at-map entries_in cells b cell at)

  -- so are the variables
  pub vars_at : vars_of r.last b ≡ cell.vars
  vars_at =
      let none : Vars = record { values = [] } in
      ap (λ (s : State). vars_of s b) shows.last
      ∙ ap (λ (v : Vars). v.values) (get_or_from_slice_get (map vars_in cells) b (vars_in cell) none
      (at-map vars_in cells b cell at))

  -- its journal is as long as that of the cell
  pub journal_length : length (journal r b) ≡ length cell.journal.log
  journal_length =
      ap (λ (es : List BoxEntry). length es) journal_at
      ∙ length-map cell.journal.log (λ (p : ℕ × BoxEntry). p.1)

  -- the clock of the box is that of the cell
  pub clock_at : clock_of (box_stamps r b) ≡ clock_of (log_stamps cell.journal.log)
  clock_at = ap (λ (es : List BoxEntry). clock_of (map (λ (e : BoxEntry). e.stamp) es)) journal_at

  -- the box is there
  pub box_there : b < length r.boxes
  box_there =
      let within = slice_get_within cells b cell at in
      let many = ap (λ (bs : List (List BoxEntry)). length bs) shows.boxes in
      let mapped = length-map cells entries_in in
      omega (arith, within, many, mapped)

  module _ (stepped : CellState) (m : ℕ) (entry : BoxEntry) (vars : List Value) (passes : List PassRecord)
      (is : stepped ≡ record cell { vars = vars; journal = longer cell.journal m entry }) where
    -- the boxes after a step
    pub boxes_after : ShowsBoxes (slice_set cells b stepped) (with_step r b entry vars passes)
    boxes_after = record {
      boxes = (λ i. slice_set (shows.boxes i) b (journal_at i ++ entry ∷ []))
          ∙ (ap (λ (es : List BoxEntry). slice_set (map entries_in cells) b es)
          (sym (ap entries_in is ∙ entries_push cell.journal.log m entry))
          ∙ sym (map-set entries_in cells b stepped));
      last = λ i. record {
        boxes = (ap (λ (s : State). slice_set s.boxes b (record { values = vars })) shows.last
            ∙ (ap (λ (v : Vars). slice_set (map vars_in cells) b v) (sym (ap vars_in is))
            ∙ sym (map-set vars_in cells b stepped))) i;
      };
    }

  module _ (entry : BoxEntry) (vars : List Value) (passes : List PassRecord) where
    -- the journal of the box is one entry longer
    pub journal_here : journal (with_step r b entry vars passes) b ≡ journal r b ++ entry ∷ []
    journal_here = get_or-set_same r.boxes b (journal r b ++ entry ∷ []) [] box_there

    -- what stood in a journal stands there still
    journal_grows : (x k : ℕ) (e : BoxEntry) → slice_get (journal r x) k ≡ Some e →
        slice_get (journal (with_step r b entry vars passes) x) k ≡ Some e
    journal_grows x k e there = by (cases_eq x b)
      where
        by : (x ≡ b) ⊎ (x ≡ b → ⊥) → slice_get (journal (with_step r b entry vars passes) x) k ≡ Some e
        by (inl same) =
            subst (λ (n : ℕ). slice_get (journal (with_step r b entry vars passes) n) k ≡ Some e) (sym same)
            (ap (λ (es : List BoxEntry). slice_get es k) journal_here
            ∙ at-append (journal r b) (entry ∷ []) k e
            (subst (λ (n : ℕ). slice_get (journal r n) k ≡ Some e) same there))
        by (inr other) =
            ap (λ (es : List BoxEntry). slice_get es k)
            (get_or-set_other r.boxes b x (journal r b ++ entry ∷ []) [] other)
            ∙ there

    -- so what a claim names it names still
    pub claimed_grows : (c : Claim) (e : Recorded) → claimed r c ≡ Some e →
        claimed (with_step r b entry vars passes) c ≡ Some e
    claimed_grows c e is =
        let x = from_map (step_of c.box_number) (slice_get (journal r c.box_number) c.place) e is in
        ap (option_map (step_of c.box_number)) (journal_grows c.box_number c.place x.0 x.1) ∙ ap Some x.2

    -- the claim of the entry names it
    pub claimed_here : claimed (with_step r b entry vars passes)
        (record { box_number = b; place = length (journal r b); stamp = entry.stamp })
        ≡ Some (step_of b entry)
    claimed_here =
        ap (λ (es : List BoxEntry). option_map (step_of b) (slice_get es (length (journal r b)))) journal_here
        ∙ ap (option_map (step_of b)) (at-push (journal r b) entry)
