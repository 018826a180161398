-- What a read does to the bytes that are left.
use Rattle.std.specs.Prelude.{◌≡◌, ℕ, ◌≤◌, List, length, take, drop, Option, Some, Result, IsErr, IfOk, ◌↔◌}
use Rattle.std.specs.Prelude.{Contains, min, MatchResult}
use Rattle.seuss_base.specs.Faults.{next_count}
use Rattle.seuss_base.specs.declared.source.Failed.{Failed}

-- the first n of these bytes stand at the front of the buffer, and the others are left
pub record Moves (bytes : List ℕ) (n : ℕ) (buffer : List ℕ) (left : Option (List ℕ)) : Type 0 where
  pub enough : n ≤ length bytes
  pub front : take n buffer ≡ take n bytes
  pub rest : left ≡ Some (drop n bytes)

-- a source in memory: the bytes left, the most that a call takes, the numbers of the calls that fail,
-- the calls made and those that failed
pub record Stock : Type 0 where
  pub left : List ℕ
  pub piece : ℕ
  pub failing : List ℕ
  pub calls : ℕ
  pub faults : ℕ

-- One read of a source in memory, into a buffer with this room: it fails exactly where its number
-- is one of the failing ones, and else takes all that the piece, the room and the bytes left allow.
-- A failure is counted, and nothing else is.
pub record Supplies (old new : Stock) (room : ℕ) (result : Result ℕ Failed) : Type 0 where
  pub calls : new.calls ≡ next_count old.calls
  pub fails : IsErr result ↔ Contains old.failing new.calls
  pub takes : IfOk result (λ n. n ≡ min old.piece (min room (length old.left)))
  pub counted : MatchResult result (λ n. new.faults ≡ old.faults) (λ e. new.faults ≡ next_count old.faults)
  pub piece : new.piece ≡ old.piece
  pub failing : new.failing ≡ old.failing
