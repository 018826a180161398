-- Two methods in a case, one after the other in both orders.
use Rattle.std.specs.Prelude.{◌≡◌, ℤ, Bool, Option, None, Some, option_map, Result, Ok}
use Rattle.seuss_base.specs.declared.outcome.Outcome.{Outcome}
use Rattle.seuss_program.specs.declared.tree.Ref.{Ref}
use Rattle.seuss_program.specs.declared.tree.Proc.{Proc}
use Rattle.shape_terms.specs.declared.apart.Apart.{Apart}
use Rattle.shape_terms.specs.declared.num_form.NumForm.{NumForm}
use Rattle.shape_terms.specs.declared.case.Case.{Case}
use Rattle.shape_terms.specs.Points.{Point, HasNumbers, point_of}
use Rattle.shape_terms.specs.Numbers.{number}
use Rattle.shape_terms.specs.Symbols.{values_at}
use Rattle.commute_certs.specs.declared.why.Reason.{Reason}
use Rattle.commute_certs.specs.declared.foreseen.Ending.{Ending}
use Rattle.commute_certs.specs.declared.orders.Orders.{Orders}
use Rattle.commute_certs.specs.Terms.{and_then}
use Rattle.commute_certs.specs.Foreseen.{foreseen, outcome_by, result_at, is_plain}

-- how both methods end in both orders: the first one and the second one after it; the second one and the
-- first one after it
abbrev pub orders : Proc Ref → Proc Ref → Case → Result Orders Reason
orders m n c =
    and_then (foreseen m c.first c.vars) (λ f. and_then (foreseen n c.second f.vars) (λ g.
    and_then (foreseen n c.second c.vars) (λ h. and_then (foreseen m c.first h.vars) (λ k.
    Ok (record { first = f; second_behind = g; second = h; first_behind = k })))))

-- how a run ends: its outcome, its result, and whether it is plainly rejected
pub record End : Type 0 where
  pub outcome : Outcome
  pub result : Option ℤ
  pub plain : Bool

-- how a method ends at a point
abbrev pub end_at : Ending → Point → End
end_at ending p = record
    { outcome = outcome_by ending; result = result_at ending p; plain = is_plain ending }

-- a result at a point
abbrev pub result_of : Option NumForm → Point → Option ℤ
result_of found p = option_map (λ (form : NumForm). number form p) found

-- both orders come to the same at a point
pub record Agree (o : Orders) (p : Point) : Type 0 where
  pub first : end_at o.first_behind.ending p ≡ end_at o.first.ending p
  pub second : end_at o.second.ending p ≡ end_at o.second_behind.ending p
  pub vars : values_at o.first_behind.vars p ≡ values_at o.second_behind.vars p

-- None says that both orders agree at every point of the case; a point that they don't there.
abbrev pub TellsOrders : Orders → Option Apart → Type 0
TellsOrders o None = (p : Point) → Agree o p
TellsOrders o (Some at) = HasNumbers (point_of at) × (Agree o (point_of at) → ⊥)
