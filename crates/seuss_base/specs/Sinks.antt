-- What a write does to the bytes that were written.
use Rattle.std.specs.Prelude.{◌≡◌, List, ℕ, ◌-◌, ◌++◌, length, Option, Some, IfSome, Result, IsErr, IfOk}
use Rattle.std.specs.Prelude.{◌↔◌, ◌⊎◌, Contains, min, MatchResult}
use Rattle.seuss_base.specs.Faults.{next_count}
use Rattle.seuss_base.specs.declared.source.Failed.{Failed}

-- where the bytes written were told before, they are told now, and these were added at their end
abbrev pub Adds : Option (List ℕ) → Option (List ℕ) → List ℕ → Type 0
Adds before now bytes = IfSome before (λ written. now ≡ Some (written ++ bytes))

-- a sink in memory: the bytes written, how many it holds, the most that a call takes, the numbers of
-- the calls that fail, the calls made and those that failed
pub record Store : Type 0 where
  pub written : List ℕ
  pub capacity : ℕ
  pub piece : ℕ
  pub failing : List ℕ
  pub calls : ℕ
  pub faults : ℕ

-- One write of this many bytes to a sink in memory: it fails exactly where the sink is full or the
-- call's number is one of the failing ones, and else takes all that the piece and the room allow.
pub record Stores (old new : Store) (offered : ℕ) (result : Result ℕ Failed) : Type 0 where
  pub calls : new.calls ≡ next_count old.calls
  pub fails : IsErr result ↔ ((length old.written ≡ old.capacity) ⊎ Contains old.failing new.calls)
  pub takes : IfOk result (λ n. n ≡ min old.piece (min offered (old.capacity - length old.written)))
  pub counted : MatchResult result (λ n. new.faults ≡ old.faults) (λ e. new.faults ≡ next_count old.faults)
  pub piece : new.piece ≡ old.piece
  pub capacity : new.capacity ≡ old.capacity
  pub failing : new.failing ≡ old.failing
