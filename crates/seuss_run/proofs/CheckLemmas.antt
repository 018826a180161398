-- Where the checks of a tree refuse it, one after the other.
use Rattle.std.proofs.Common.{◌≡◌, ℕ, [], inl, refl}
use Rattle.std.specs.Prelude.{Err}
use Rattle.seuss_program.specs.declared.tree.Tree.{Tree}
use Rattle.box_types.specs.Faults.{twice, unknown, wrong_kind, wrong_type, arguments, count}
use Rattle.call_order.specs.Calls.{partial_calls, total_calls}
use Rattle.call_order.specs.Answers.{IsCycleAt}
use Rattle.report_text.specs.declared.refusals.Refused.TheVariants as R
use Rattle.seuss_run.specs.Stages.{Stage, ◌>=>◌, passes}
use Rattle.seuss_run.specs.Verdicts.{is_resolved, has_no_cycle, has_levels, is_ordered}
use Rattle.seuss_run.proofs.StageLemmas.{BeginsWith, refuses, passes_on}

-- the checks of a tree from one of them on
abbrev from_count : Stage Tree Tree
from_count = passes count R.Count

abbrev from_arguments : Stage Tree Tree
from_arguments = passes arguments R.Arguments >=> from_count

abbrev from_type : Stage Tree Tree
from_type = passes wrong_type R.WrongType >=> from_arguments

abbrev from_kind : Stage Tree Tree
from_kind = passes wrong_kind R.WrongKind >=> from_type

abbrev from_unknown : Stage Tree Tree
from_unknown = passes unknown R.Unknown >=> from_kind

module _ (tree : Tree) (line : ℕ) where
  pub kind_refused : twice tree ≡ [] → unknown tree ≡ [] → BeginsWith (wrong_kind tree) line →
      is_resolved tree (Err (R.WrongKind line))
  kind_refused a b begins =
      passes_on twice R.Twice from_unknown tree (R.WrongKind line) a
      (passes_on unknown R.Unknown from_kind tree (R.WrongKind line) b
      (inl (refuses wrong_kind R.WrongKind tree line begins)))

  pub type_refused : twice tree ≡ [] → unknown tree ≡ [] → wrong_kind tree ≡ [] →
      BeginsWith (wrong_type tree) line →
      is_resolved tree (Err (R.WrongType line))
  type_refused a b c begins =
      passes_on twice R.Twice from_unknown tree (R.WrongType line) a
      (passes_on unknown R.Unknown from_kind tree (R.WrongType line) b
      (passes_on wrong_kind R.WrongKind from_type tree (R.WrongType line) c
      (inl (refuses wrong_type R.WrongType tree line begins))))

  pub arguments_refused : twice tree ≡ [] → unknown tree ≡ [] → wrong_kind tree ≡ [] → wrong_type tree ≡ [] →
      BeginsWith (arguments tree) line → is_resolved tree (Err (R.Arguments line))
  arguments_refused a b c d begins =
      passes_on twice R.Twice from_unknown tree (R.Arguments line) a
      (passes_on unknown R.Unknown from_kind tree (R.Arguments line) b
      (passes_on wrong_kind R.WrongKind from_type tree (R.Arguments line) c
      (passes_on wrong_type R.WrongType from_arguments tree (R.Arguments line) d
      (inl (refuses arguments R.Arguments tree line begins)))))

  pub count_refused : twice tree ≡ [] → unknown tree ≡ [] → wrong_kind tree ≡ [] → wrong_type tree ≡ [] →
      arguments tree ≡ [] → BeginsWith (count tree) line → is_resolved tree (Err (R.Count line))
  count_refused a b c d e begins =
      passes_on twice R.Twice from_unknown tree (R.Count line) a
      (passes_on unknown R.Unknown from_kind tree (R.Count line) b
      (passes_on wrong_kind R.WrongKind from_type tree (R.Count line) c
      (passes_on wrong_type R.WrongType from_arguments tree (R.Count line) d
      (passes_on arguments R.Arguments from_count tree (R.Count line) e
      (refuses count R.Count tree line begins)))))

  pub cycle_refused : partial_calls tree ≡ [] → total_calls tree ≡ [] → (box : ℕ) → IsCycleAt tree line box →
      is_ordered tree (Err (R.Cycle line))
  cycle_refused a b box at =
      passes_on partial_calls R.PartialCall
      (passes total_calls R.TotalCall >=> has_no_cycle >=> has_levels)
      tree (R.Cycle line) a
      (passes_on total_calls R.TotalCall (has_no_cycle >=> has_levels) tree (R.Cycle line) b
      (inl (line, box, at, refl)))
