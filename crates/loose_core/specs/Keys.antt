-- The keys of the commit order.
use Rattle.std.specs.Prelude.{Bool, not, List, map, filter}
use Rattle.std.specs.Ordering.{is_lt, nat_cmp, ordering_then}
use Rattle.loose_records.specs.declared.record.PassRecord.{PassRecord}
use Rattle.loose_records.specs.Orders.{commit_stamp, placed_of, is_kept, sort_by}
use Rattle.loose_core.specs.declared.key.Key.{Key}

-- x stands before y, by stamp and attempt
abbrev pub lower : Key → Key → Bool
lower x y = is_lt (ordering_then (nat_cmp x.stamp y.stamp) (nat_cmp x.placed.attempt y.placed.attempt))

-- the keys in order, where what ties keeps its order
abbrev pub in_order : List Key → List Key
in_order keys = sort_by (λ x y. not (lower y x)) keys

-- what is kept of a pass
abbrev pub key_of : PassRecord → Key
key_of p = record { stamp = commit_stamp p; placed = placed_of p }

-- the keys of the kept passes
abbrev pub keys_of : List PassRecord → List Key
keys_of passes = map key_of (filter is_kept passes)
