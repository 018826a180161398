-- The program of accepted bytes is that of a text that passes every check.
use Rattle.std.proofs.Common.{◌≡◌, ℕ, List, [], sym, ◌∙◌, subst}
use Rattle.std.specs.Prelude.{Ok}
use Rattle.seuss_text.specs.Rows.{AreTokens}
use Rattle.seuss_text.specs.Limits.{AreInLimits}
use Rattle.seuss_text.specs.declared.token.Token.{Token}
use Rattle.seuss_parser.specs.Spelling.{AreProgram}
use Rattle.seuss_parser.specs.Words.{words_of}
use Rattle.seuss_program.specs.declared.tree.Tree.{Tree}
use Rattle.seuss_program.specs.declared.program.Program.{Program}
use Rattle.seuss_print.specs.Printable.{IsPrintable}
use Rattle.box_types.specs.Faults.{unknown, wrong_kind, wrong_type, arguments, count}
use Rattle.box_types.specs.Namings.{named}
use Rattle.box_types.specs.Refusals.{IsAccepted}
use Rattle.call_order.specs.Calls.{partial_calls, total_calls}
use Rattle.call_order.specs.Cycles.{HasNoCycle}
use Rattle.call_order.specs.Levels.{IsLevelled}
use Rattle.seuss_run.specs.declared.words.Command.{Command}
use Rattle.seuss_run.specs.declared.words.Command.TheVariants as C
use Rattle.seuss_run.specs.Stages.{◌>=>◌}
use Rattle.seuss_run.specs.Verdicts.{Loaded, Running, IsVerdict, is_spelled, is_resolved, is_ordered}
use Rattle.seuss_run.specs.Verdicts.{is_loaded}

-- a program, and a printable tree of it that passes every check
pub record IsChecked (p : Program) : Type 0 where
  pub tree : Tree
  pub printable : IsPrintable tree
  pub accepted : IsAccepted tree
  pub partial_calls : partial_calls tree ≡ []
  pub total_calls : total_calls tree ≡ []
  pub cycles : HasNoCycle (named tree).boxes
  pub levels : IsLevelled (named tree) p

-- a tree that passes the checks of names, kinds and types, and stays the same
accepted_by : (tree kept : Tree) → is_resolved tree (Ok kept) → (kept ≡ tree) × IsAccepted tree
accepted_by tree kept resolved =
    let second = resolved.2 in
    let third = second.2 in
    let fourth = third.2 in
    let fifth = fourth.2 in
    let e1 : resolved.0 ≡ tree = resolved.1.0 in
    let e2 : second.0 ≡ tree = second.1.0 ∙ e1 in
    let e3 : third.0 ≡ tree = third.1.0 ∙ e2 in
    let e4 : fourth.0 ≡ tree = fourth.1.0 ∙ e3 in
    let e5 : fifth.0 ≡ tree = fifth.1.0 ∙ e4 in (
      fifth.2.0 ∙ e5,
      record {
        twice = resolved.1.1;
        unknown = subst (λ t. unknown t ≡ []) e1 second.1.1;
        wrong_kind = subst (λ t. wrong_kind t ≡ []) e2 third.1.1;
        wrong_type = subst (λ t. wrong_type t ≡ []) e3 fourth.1.1;
        arguments = subst (λ t. arguments t ≡ []) e4 fifth.1.1;
        count = subst (λ t. count t ≡ []) e5 fifth.2.1;
      },
    )

-- what `seuss_print` says of trees that are read
abbrev pub ReadsPrintable : Type 0
ReadsPrintable = (text : List ℕ) (tokens : List Token) (tree : Tree) → AreTokens text tokens →
    AreInLimits text tokens → AreProgram (words_of text tokens) tree → IsPrintable tree

module _ (law : ReadsPrintable) where
  -- the program of a text
  checked_by : (text : List ℕ) (p : Program) → (is_spelled >=> is_resolved >=> is_ordered) text (Ok p) →
      IsChecked p
  checked_by text p passed =
      let tree = passed.0 in
      let found = passed.1.0 in
      let tokens = passed.1.1 in
      let words = subst (λ t. AreProgram (words_of t found.1) tree) tokens.0 passed.1.2.0 in
      let resolved = accepted_by tree passed.2.0 passed.2.1 in
      let first = passed.2.2 in
      let second = first.2 in
      let third = second.2 in
      let e1 : first.0 ≡ tree = first.1.0 ∙ resolved.0 in
      let e2 : second.0 ≡ tree = second.1.0 ∙ e1 in
      let e3 : third.0 ≡ tree = third.1.0 ∙ e2 in
      record {
        tree = tree;
        printable = law text found.1 tree tokens.2 tokens.3 words;
        accepted = resolved.1;
        partial_calls = subst (λ t. partial_calls t ≡ []) resolved.0 first.1.1;
        total_calls = subst (λ t. total_calls t ≡ []) e1 second.1.1;
        cycles = subst (λ t. HasNoCycle (named t).boxes) e2 third.1.1;
        levels = subst (λ t. IsLevelled (named t) p) e3 third.2;
      }

  -- the program of bytes that are loaded
  loaded_checked : (bytes : List ℕ) (given : Loaded) → is_loaded bytes (Ok given) → IsChecked given.0
  loaded_checked bytes given loaded =
      let parts = loaded.2.2 in
      let certified = parts.2 in
      let same : given.0 ≡ parts.0.0 = certified.2.0.0 ∙ certified.1.0 in
      subst IsChecked (sym same) (checked_by loaded.2.0.0 parts.0.0 parts.1.0)

  -- a run is one of the loaded program
  running_checked : (bytes : List ℕ) (given loaded : Loaded) → is_loaded bytes (Ok loaded) →
      Running given ≡ Running loaded → IsChecked given.0
  running_checked bytes given loaded read is =
      let same : given ≡ loaded = cc in
      subst (λ (g : Loaded). IsChecked g.0) (sym same) (loaded_checked bytes loaded read)

  -- the program of accepted bytes that ask for a run, whatever the command
  pub run_checked : (c : Command) (bytes : List ℕ) (given : Loaded) →
      IsVerdict c bytes (Ok (Running given)) → IsChecked given.0
  unfolding IsVerdict
  run_checked (C.Run rounds workers budget) bytes given verdict =
      running_checked bytes given verdict.0 verdict.1 verdict.2.0
  run_checked (C.Sim rounds width turns budget) bytes given verdict =
      running_checked bytes given verdict.0 verdict.1 verdict.2.0
  run_checked (C.Tight names) bytes given verdict = absurd (cc verdict.2.1)
  run_checked command bytes given verdict = absurd (cc verdict.2)
