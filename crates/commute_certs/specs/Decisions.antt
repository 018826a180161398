-- What is known of the two orders of two methods, over some of the cases.
use Rattle.std.specs.Prelude.{◌≡◌, Bool, true, false, List, Option, None, Some, Result, Ok, Err}
use Rattle.std.specs.List.{Contains}
use Rattle.seuss_program.specs.declared.tree.Ref.{Ref}
use Rattle.seuss_program.specs.declared.tree.Proc.{Proc}
use Rattle.shape_terms.specs.declared.apart.Apart.{Apart}
use Rattle.shape_terms.specs.declared.case.Case.{Case}
use Rattle.shape_terms.specs.Points.{Point, HasNumbers, point_of}
use Rattle.shape_terms.specs.Symbols.{values_at}
use Rattle.seuss_base.specs.declared.level.Level.TheVariants as L
use Rattle.commute_certs.specs.declared.why.Why.{Why}
use Rattle.commute_certs.specs.declared.why.Why.TheVariants as W
use Rattle.commute_certs.specs.declared.why.Reason.{Reason}
use Rattle.commute_certs.specs.declared.why.Reason.TheVariants as R
use Rattle.commute_certs.specs.declared.why.Untold.{Untold}
use Rattle.commute_certs.specs.declared.why.Untold.TheVariants as U
use Rattle.commute_certs.specs.declared.verdict.Verdict.{Verdict}
use Rattle.commute_certs.specs.declared.verdict.Verdict.TheVariants as V
use Rattle.commute_certs.specs.declared.orders.Orders.{Orders}
use Rattle.commute_certs.specs.declared.deciding.Found.{Found}
use Rattle.commute_certs.specs.declared.deciding.Refutation.{Refutation}
use Rattle.commute_certs.specs.Foreseen.{is_plain}
use Rattle.commute_certs.specs.Orders.{orders, Agree}

-- a case, and a point of it at which both orders differ
pub record Difference (m n : Proc Ref) (cases : List Case) : Type 0 where
  pub one : Case
  pub there : Contains cases one
  pub both : Orders
  pub told : orders m n one ≡ Ok both
  pub at : Apart
  pub numbers : HasNumbers (point_of at)
  pub differ : Agree both (point_of at) → ⊥

-- a difference where the first method isn't plainly rejected, as a state and arguments
pub record LooseDifference (m n : Proc Ref) (cases : List Case) (r : Refutation) : Type 0 where
  pub difference : Difference m n cases
  pub loose : is_plain difference.both.first.ending ≡ false
  pub vars : r.vars.values ≡ values_at difference.one.vars (point_of difference.at)
  pub first : r.first ≡ values_at difference.one.first (point_of difference.at)
  pub second : r.second ≡ values_at difference.one.second (point_of difference.at)

-- a refutation that was found is a difference where the first method isn't plainly rejected
abbrev pub IsFound : Proc Ref → Proc Ref → List Case → Option Refutation → Type 0
IsFound m n cases None = Unit {0}
IsFound m n cases (Some r) = LooseDifference m n cases r

-- both orders of a case, and where they agree by what is found
pub record Sees (m n : Proc Ref) (c : Case) (found : Found) : Type 0 where
  pub both : Orders
  pub told : orders m n c ≡ Ok both
  pub firm : found.differs ≡ false → (p : Point) → Agree both p
  pub loose : found.loose ≡ None → is_plain both.first.ending ≡ false → (p : Point) → Agree both p

-- what is found over some cases
pub record Seen (m n : Proc Ref) (cases : List Case) (found : Found) : Type 0 where
  pub each : (c : Case) → Contains cases c → Sees m n c found
  pub firm : found.differs ≡ true → Difference m n cases
  pub loose : IsFound m n cases found.loose

-- a case in which something isn't told, for this reason
pub record Untellable (m n : Proc Ref) (cases : List Case) (met : Reason) : Type 0 where
  pub one : Case
  pub there : Contains cases one
  pub told : orders m n one ≡ Err met

-- what a search over cases answers
abbrev pub Finds : Proc Ref → Proc Ref → List Case → Result Found Untold → Type 0
Finds m n cases (Ok found) = Seen m n cases found
Finds m n cases (Err (U.Reason met)) = Untellable m n cases met
Finds m n cases (Err U.Memory) = Unit {0}

-- the verdict by what is found
abbrev pub verdict_by : Bool → Option Refutation → Verdict
verdict_by differs (Some r) = V.No r.vars r.first r.second
verdict_by true None = V.Yes L.Loose
verdict_by false None = V.Yes L.Firm

-- why a pair is unclear, by what isn't told in a case
abbrev pub why_by : Reason → Why
why_by R.MayTrap = W.MayTrap
why_by R.UndecidedCondition = W.UndecidedCondition
why_by R.NotShown = W.NotShown

-- the verdict of a search over cases
pub data Decides (m n : Proc Ref) (cases : List Case) (verdict : Verdict) : Type 0 where
  By : (found : Found) → Seen m n cases found → verdict ≡ verdict_by found.differs found.loose →
      Decides m n cases verdict
  Fails : (met : Reason) → Untellable m n cases met → verdict ≡ V.Unclear (why_by met) →
      Decides m n cases verdict
