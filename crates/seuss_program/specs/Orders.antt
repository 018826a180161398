-- Which orders of attempts a run may print. A round has slots, each with its action, and attempts each slot
-- once: attempt a of n slots is that of slot a % n in round a / n.
use Rattle.std.specs.Prelude.{◌≡◌, ◌≢◌, ℕ, ◌*◌, ◌/◌, ◌%◌, ◌<◌, ◌≤◌, ◌⊎◌, Bool, true, false, IsTrue, List}
use Rattle.std.specs.Prelude.{map, length, slice_index_or, All, AllPairs, Any, Contains}
use Rattle.std.specs.List.{range_with_len}
use Rattle.seuss_base.specs.declared.outcome.Outcome.{Outcome}
use Rattle.seuss_base.specs.declared.outcome.Outcome.TheVariants as O
use Rattle.seuss_program.specs.declared.program.Program.{Program}
use Rattle.seuss_program.specs.declared.order.Placed.{Placed}

-- the slots of a round, as the action of each: every action of the program has one, in their order
abbrev pub slots_of : Program → List ℕ
slots_of p = range_with_len 0 (length p.actions)

-- the action of a slot, which are numbered from 0
abbrev pub action_of : List ℕ → ℕ → ℕ
action_of slots slot = slice_index_or slots slot 0

-- a trapped or spent attempt stops the run
abbrev pub stops : Outcome → Bool
stops O.Accepted = false
stops O.Rejected = false
stops (O.Trapped t) = true
stops O.Spent = true

-- the numbers of the attempts
abbrev pub attempts_of : List Placed → List ℕ
attempts_of order = map (λ (p : Placed). p.attempt) order

-- every attempt below this number stands in the order
abbrev pub HasAllBelow : ℕ → List Placed → Type 0
HasAllBelow end order = (a : ℕ) → a < end → Contains (attempts_of order) a

-- some attempt of n slots stopped the run; all that did are of this round, which is the last one, and every
-- round before it is whole
pub record IsStopped (n round : ℕ) (order : List Placed) : Type 0 where
  pub some : Any (λ (p : Placed). IsTrue (stops p.outcome)) order
  pub there : All (λ (p : Placed). IsTrue (stops p.outcome) → p.attempt / n ≡ round) order
  pub last : All (λ (p : Placed). p.attempt / n ≤ round) order
  pub earlier : HasAllBelow (round * n) order

-- no attempt of n slots stopped the run, and all attempts stand in the order
pub record IsWhole (n rounds : ℕ) (order : List Placed) : Type 0 where
  pub none : All (λ (p : Placed). stops p.outcome ≡ false) order
  pub all : HasAllBelow (rounds * n) order

-- An order of attempts of slots is lawful for a number of rounds where each attempt is of its slot's action
-- and of one of the rounds, rounds never fall along it, no attempt stands twice, and it is whole or stopped.
pub record IsLawful (slots : List ℕ) (rounds : ℕ) (order : List Placed) : Type 0 where
  pub within : All (λ (p : Placed). p.attempt < rounds * length slots) order
  pub actions : All (λ (p : Placed). p.action ≡ action_of slots (p.attempt % length slots)) order
  pub rising : AllPairs (λ (p q : Placed). p.attempt / length slots ≤ q.attempt / length slots) order
  pub once : AllPairs (λ (p q : Placed). p.attempt ≢ q.attempt) order
  pub end : IsWhole (length slots) rounds order ⊎ ((round : ℕ) × IsStopped (length slots) round order)
