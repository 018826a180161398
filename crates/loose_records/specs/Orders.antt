-- The commit order of a record.
use Rattle.std.specs.Prelude.{ℕ, Bool, true, false, cond, List, []}
use Rattle.std.specs.Prelude.{◌∷◌}
use Rattle.std.specs.Prelude.{map, filter, slice_index_or, ◌&&◌, ◌||◌, ◌==◌, nat_lt}
use Rattle.std.specs.Prelude.{nat_le}
use Rattle.seuss_program.specs.declared.order.Placed.{Placed}
use Rattle.method_code.specs.Chains.{outcome_of}
use Rattle.compat_scheduler.specs.declared.ticket.FinishVerdict.{FinishVerdict}
use Rattle.compat_scheduler.specs.declared.ticket.FinishVerdict.TheVariants.{Kept, Void}
use Rattle.loose_records.specs.declared.record.PassRecord.{PassRecord}
use Rattle.loose_records.specs.declared.record.Record.{Record}
use Rattle.loose_records.specs.Entries.{claim_stamps}

-- a verdict that keeps a pass
abbrev pub is_kept_by : FinishVerdict → Bool
is_kept_by Kept = true
is_kept_by Void = false

-- the pass was kept
abbrev pub is_kept : PassRecord → Bool
is_kept p = is_kept_by p.verdict

-- the stamp of the commit step
abbrev pub commit_stamp : PassRecord → ℕ
commit_stamp p = slice_index_or (claim_stamps p) p.commit 0

-- p may stand before q: it committed earlier, or at the same stamp with an attempt that isn't higher
abbrev pub comes_before : PassRecord → PassRecord → Bool
comes_before p q = nat_lt (commit_stamp p) (commit_stamp q)
    || ((commit_stamp p == commit_stamp q) && nat_le p.ticket.attempt q.ticket.attempt)

-- x before the first of these that it may stand before
abbrev pub insert_by : {A : Type 0} → (A → A → Bool) → A → List A → List A
insert_by before x [] = x ∷ []
insert_by before x (y ∷ ys) = cond (before x y) (x ∷ (y ∷ ys)) (y ∷ insert_by before x ys)

-- a list in order, where what may stand in either order keeps the order that it had
abbrev pub sort_by : {A : Type 0} → (A → A → Bool) → List A → List A
sort_by before [] = []
sort_by before (x ∷ xs) = insert_by before x (sort_by before xs)

-- what is printed of a pass
abbrev pub placed_of : PassRecord → Placed
placed_of p =
    record { attempt = p.ticket.attempt; action = p.ticket.action; outcome = outcome_of p.end }

-- the kept passes, in the order of their commit steps
abbrev pub commit_order : Record → List Placed
commit_order r = map placed_of (sort_by comes_before (filter is_kept r.passes))
