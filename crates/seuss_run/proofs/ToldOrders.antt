-- The text of a run tells its order, and with it the boxes.
use Rattle.std.proofs.Common.{◌≡◌, ℕ, List, [], sym, ◌∙◌, ap}
use Rattle.std.specs.Prelude.{Ok}
use Rattle.seuss_program.specs.declared.tree.Tree.{Tree}
use Rattle.seuss_program.specs.declared.program.Program.{Program}
use Rattle.seuss_program.specs.declared.state.State.{State}
use Rattle.seuss_program.specs.declared.order.Placed.{Placed}
use Rattle.seuss_program.specs.Attempts.{tight}
use Rattle.seuss_program.specs.Initials.{initial}
use Rattle.seuss_program.specs.Keeping.{Keeps}
use Rattle.seuss_program.specs.Orders.{IsLawful, slots_of}
use Rattle.seuss_program.specs.Reports.{report}
use Rattle.seuss_program.specs.WellFormed.{IsWellFormed}
use Rattle.box_types.specs.Faults.{twice}
use Rattle.box_types.specs.OwnNames.{HasOwnNames}
use Rattle.box_types.specs.Refusals.{IsAccepted}
use Rattle.call_order.specs.Answers.{IsOrdered}
use Rattle.report_text.specs.Names.{HasNames}
use Rattle.seuss_run.specs.declared.words.Command.{Command}
use Rattle.seuss_run.specs.Runs.{Reports, actions_of}
use Rattle.seuss_run.specs.Verdicts.{Loaded, Running, IsVerdict}
use Rattle.seuss_run.proofs.SpelledNames.{SpelledAreNames, names_spelled}
use Rattle.seuss_run.proofs.ProgramNames.{program_names}
use Rattle.seuss_run.proofs.CheckedPrograms.{ReadsPrintable, IsChecked, run_checked}

-- what the crates below say of checked texts and of reports
pub record Laws : Type 0 where
  pub printable : ReadsPrintable
  pub names : SpelledAreNames
  pub own : (tree : Tree) → twice tree ≡ [] → HasOwnNames tree
  pub keeps : (tree : Tree) (p : Program) → IsWellFormed tree → IsAccepted tree → IsOrdered p tree → Keeps p
  pub one_order : (p : Program) (rounds : ℕ) (order other : List Placed) (state after : State) → Keeps p →
      HasNames p → IsLawful (slots_of p) rounds order → IsLawful (slots_of p) rounds other →
      report p rounds order state ≡ report p rounds other after → order ≡ other

module _ (laws : Laws) where
  -- a checked program is ordered
  ordered_by : (p : Program) → (is : IsChecked p) → IsOrdered p is.tree
  ordered_by p is = record {
    partial_calls = is.partial_calls;
    total_calls = is.total_calls;
    cycles = is.cycles;
    levels = is.levels;
  }

  -- it keeps what it is to keep
  kept_by : (p : Program) → IsChecked p → Keeps p
  kept_by p is = laws.keeps is.tree p is.printable.formed is.accepted (ordered_by p is)

  -- it has names
  named_by : (p : Program) → IsChecked p → HasNames p
  named_by p is =
      program_names laws.names is.tree (names_spelled laws.names is.tree is.printable)
      (laws.own is.tree is.accepted.twice) p
      (ordered_by p is)

  module _ (c : Command) (bytes : List ℕ) (given : Loaded) (rounds budget status ended : ℕ)
      (order other : List Placed) (state left : State) (text : List ℕ)
      (verdict : IsVerdict c bytes (Ok (Running given)))
      (one : Reports given.0 given.1 rounds budget order state status text)
      (two : Reports given.0 given.1 rounds budget other left ended text) where
    -- two orders of the same text
    pub same_orders : order ≡ other
    same_orders =
        let is = run_checked laws.printable c bytes given verdict in
        laws.one_order given.0 rounds order other state left (kept_by given.0 is) (named_by given.0 is)
        one.lawful two.lawful (sym one.printed ∙ two.printed)

    -- and their boxes
    pub same_boxes : state ≡ left
    same_boxes =
        let start = initial given.0 given.1 in
        sym one.one_at_a_time.boxes
        ∙ (ap (λ (o : List Placed). (tight given.0 (actions_of o) start budget).state) same_orders
        ∙ two.one_at_a_time.boxes)
