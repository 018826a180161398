-- A text whose calls are right and whose boxes stand in no cycle has its program.
use Rattle.std.proofs.Common.{◌≡◌, ℕ, ◌+◌, Bool, List, [], map, length, refl, sym, subst, arith}
use Rattle.std.specs.List.{range_with_len}
use Rattle.std.proofs.lemmas.List.FromFn.{get_or-map-range_with_len, length-map-range_with_len}
use Rattle.seuss_program.specs.declared.tree.Tree.{Tree}
use Rattle.seuss_program.specs.declared.program.BoxInfo.{BoxInfo}
use Rattle.box_types.specs.Namings.{named}
use Rattle.call_order.specs.Calls.{partial_calls, total_calls}
use Rattle.call_order.specs.Cycles.{given_of, HasNoCycle, GivesBoxes}
use Rattle.call_order.specs.Marks.{no_marks, marked_with, spread_times, KnowsGiven, KnowsAllGiven}
use Rattle.call_order.specs.LevelLists.{AreLevels}
use Rattle.call_order.specs.Answers.{IsOrdered}
use Rattle.call_order.proofs.LevelRounds.{levels_after, program_of}
use Rattle.call_order.proofs.MarkLemmas.{row_known}
use Rattle.call_order.proofs.LevelLemmas.{are_levels, is_levelled}
use Rattle.call_order.proofs.OrderLemmas.{gives_boxes}

module _ (boxes : List BoxInfo) (gives : GivesBoxes boxes) where
  -- the marks on what a box is given, through any number of boxes
  abbrev row_of : ℕ → List Bool
  row_of box = spread_times boxes (length boxes) (marked_with (given_of boxes box) (no_marks (length boxes)))

  -- the marks of all boxes
  abbrev rows : List (List Bool)
  rows = map row_of (range_with_len 0 (length boxes))

  -- these marks are on exactly what the boxes are given
  known_rows : KnowsAllGiven boxes rows
  known_rows = record {
    count = length-map-range_with_len row_of 0 (length boxes);
    each = λ box below.
        subst (KnowsGiven boxes box)
        (sym (get_or-map-range_with_len row_of 0 (length boxes) box box [] below (omega arith)))
        (row_known boxes gives box (given_of boxes box) (row_of box) refl refl);
  }

-- the program of such a text
pub checked_is_ordered : (tree : Tree) → partial_calls tree ≡ [] → total_calls tree ≡ [] →
    HasNoCycle (named tree).boxes → IsOrdered (program_of tree) tree
checked_is_ordered tree partials totals none =
    let boxes = (named tree).boxes in
    let gives = gives_boxes tree in
    let levels = levels_after boxes (length boxes + 1) in
    let right : AreLevels boxes levels =
    are_levels boxes (rows boxes gives) gives (known_rows boxes gives) none
    (length boxes + 1) levels refl (omega arith) in
    record {
      partial_calls = partials;
      total_calls = totals;
      cycles = none;
      levels = is_levelled (named tree) (program_of tree) levels right refl refl refl;
    }
