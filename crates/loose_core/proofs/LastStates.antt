-- The last state of a loose record, and the places of its commit steps.
use Rattle.std.proofs.Common.{ℕ, ◌<◌, List, [], ◌∷◌, subst}
use Rattle.std.proofs.Common.{length, arith, ◌∙◌, get_or}
use Rattle.std.specs.Prelude.{All, IsTrue}
use Rattle.std.specs.List.{AllByRecursion}
use Rattle.std.proofs.lemmas.Option.{slice_get_within, slice_get-get_or}
use Rattle.seuss_program.specs.declared.program.Program.{Program}
use Rattle.seuss_program.specs.declared.state.Value.{Value}
use Rattle.seuss_program.specs.Programs.{vars_of}
use Rattle.seuss_program.specs.Keeping.{HasForm}
use Rattle.method_code.specs.Codes.{compiled}
use Rattle.method_code.specs.Frames.{HasVars, IsFrame}
use Rattle.step_journal.specs.Histories.{IsLegal}
use Rattle.loose_records.specs.declared.record.BoxEntry.{BoxEntry}
use Rattle.loose_records.specs.declared.record.PassRecord.{PassRecord}
use Rattle.loose_records.specs.declared.record.Record.{Record}
use Rattle.loose_records.specs.Entries.{gives, journal}
use Rattle.loose_records.specs.Orders.{is_kept}
use Rattle.loose_records.specs.Settings.{RunSetting}
use Rattle.loose_core.proofs.LowerLaws.{StepLaws}
use Rattle.loose_core.proofs.lists.Rising.{All-from_In}
use Rattle.loose_core.proofs.SafeSteps.{keeps_vars}
use Rattle.loose_core.proofs.MadeEntries.{Facts, all_made}
use Rattle.loose_core.proofs.InvertedEntries.{pass_info}

-- a legal history by frames of the code keeps the form of the variables
kept_vars : (p : Program) → StepLaws p → (b : ℕ) (v w : List Value) (es : List BoxEntry) → HasVars p b v →
    AllByRecursion (λ e. IsFrame p b e.before) es → IsLegal (gives (compiled p) b) v es w → HasVars p b w
kept_vars p laws b v w [] vars frames legal = subst (HasVars p b) legal vars
kept_vars p laws b v w (e ∷ es) vars frames legal =
    kept_vars p laws b legal.0 w es (keeps_vars p laws b e v legal.0 frames.0 vars legal.1) frames.1 legal.2

module _ (s : RunSetting) (r : Record) (g : Facts s r) where
  -- the last state has the form of the program
  pub last_form : HasForm s.program r.last
  last_form = record {
    count = g.loose.last ∙ g.loose.first.count;
    values = λ b l. kept_vars s.program g.steps b (vars_of r.first b) (vars_of r.last b) (journal r b)
        (g.loose.first.values b l)
        (All-from_In (λ e. IsFrame s.program b e.before) (journal r b)
        (λ e i. (all_made s r g b e i).2.1))
        (g.loose.legal b (omega (arith, l, g.loose.many, g.loose.first.count)));
  }

  -- the commit step of a kept pass is one of its steps
  pub committed : All (λ (p : PassRecord). IsTrue (is_kept p) → p.commit < length p.claims) r.passes
  committed k d l kept =
      let info = pass_info s r g k (get_or r.passes k d) (slice_get-get_or r.passes k d l) in
      slice_get_within (get_or r.passes k d).claims (get_or r.passes k d).commit info.commit info.at_commit
