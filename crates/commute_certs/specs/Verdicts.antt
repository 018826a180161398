-- The verdict on a certificate.
use Rattle.std.specs.Prelude.{◌≡◌, ℕ, Bool, true, false, ◌&&◌, List, Option, None, Result, Ok, Err, IsTrue}
use Rattle.std.specs.List.{Contains}
use Rattle.seuss_base.specs.declared.level.Level.{Level}
use Rattle.seuss_base.specs.declared.level.Level.TheVariants as L
use Rattle.seuss_program.specs.declared.state.Value.{Value}
use Rattle.method_code.specs.Singles.{is_single}
use Rattle.shape_terms.specs.declared.case.Case.{Case}
use Rattle.shape_terms.specs.Cases.{Pair, first_above, cases_of}
use Rattle.shape_terms.specs.Counts.{counts_of}
use Rattle.commute_certs.specs.declared.why.Why.{Why}
use Rattle.commute_certs.specs.declared.why.Why.TheVariants as W
use Rattle.commute_certs.specs.declared.why.Reason.{Reason}
use Rattle.commute_certs.specs.declared.why.Reason.TheVariants as R
use Rattle.commute_certs.specs.declared.verdict.Verdict.{Verdict}
use Rattle.commute_certs.specs.declared.verdict.Verdict.TheVariants as V
use Rattle.commute_certs.specs.Runs.{IsState, AreArguments, alone, Commute, HoldsAt}
use Rattle.commute_certs.specs.Orders.{orders}

-- whether both methods are single
abbrev pub both_single : Pair → Bool
both_single pair = is_single pair.first.form && is_single pair.second.form

-- the first product of numbers of cases that passes 4,096
abbrev pub too_many : Pair → Option ℕ
too_many pair = first_above 1 (counts_of pair)

-- whether everything that is met in a case, in both orders, is told
abbrev pub is_told : {A : Type 0} → Result A Reason → Bool
is_told (Ok x) = true
is_told (Err reason) = false

-- A pair is plain where both methods are single, there are at most 4,096 cases, and everything that is met
-- in each of them is told.
pub record IsPlain (pair : Pair) : Type 0 where
  pub single : IsTrue (both_single pair)
  pub few : too_many pair ≡ None
  pub cases : (c : Case) → Contains (cases_of pair) c → IsTrue (is_told (orders pair.first pair.second c))

-- a reason that is met in some case
pub record Meets (pair : Pair) (met : Reason) : Type 0 where
  pub single : IsTrue (both_single pair)
  pub few : too_many pair ≡ None
  pub one : Case
  pub there : Contains (cases_of pair) one
  pub told : orders pair.first pair.second one ≡ Err met

-- why a pair isn't plain
abbrev pub IsUnclear : Pair → Why → Type 0
IsUnclear pair W.NotSingle = both_single pair ≡ false
IsUnclear pair W.TooManyCases = IsTrue (both_single pair) × (too_many pair ≡ None → ⊥)
IsUnclear pair W.MayTrap = Meets pair R.MayTrap
IsUnclear pair W.UndecidedCondition = Meets pair R.UndecidedCondition
IsUnclear pair W.NotShown = Meets pair R.NotShown

-- no level above this one holds
abbrev pub IsHighest : Pair → Level → Type 0
IsHighest pair L.Never = ⊥
IsHighest pair L.Loose = HoldsAt pair.cat L.Firm pair.first pair.second → ⊥
IsHighest pair L.Firm = Unit {0}

-- A state and arguments from which the two orders differ, though the first method isn't plainly rejected
-- there.
pub record Refutes (pair : Pair) (vars first second : List Value) : Type 0 where
  pub state : IsState pair.cat vars
  pub args : AreArguments pair.first first
  pub others : AreArguments pair.second second
  pub loose : (alone pair.first first vars).plain ≡ false
  pub differ : Commute pair.first pair.second first second vars → ⊥

-- The verdict: on a plain pair the highest level at which the certificate holds, or a state and arguments
-- from which it fails at loose; on any other pair why it isn't plain.
abbrev pub IsVerdict : Pair → Verdict → Type 0
IsVerdict pair (V.Yes level) =
    IsPlain pair × HoldsAt pair.cat level pair.first pair.second × IsHighest pair level
IsVerdict pair (V.No vars first second) = IsPlain pair × Refutes pair vars.values first second
IsVerdict pair (V.Unclear why) = IsUnclear pair why
