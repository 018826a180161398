-- Where a body ends, statement by statement.
use Rattle.std.proofs.Common.{◌≡◌, ℕ, ◌+◌, ◌<◌, List, Option, None, Some, length, drop, sym, ap, ◌∙◌}
use Rattle.std.proofs.Common.{get_or, Result, IfOk}
use Rattle.std.specs.Prelude.{option_and_then}
use Rattle.seuss_program.specs.declared.tree.Ref.{Ref}
use Rattle.seuss_base.specs.declared.memory.Memory.{Memory}
use Rattle.seuss_program.specs.declared.tree.Expr.{Expr}
use Rattle.seuss_program.specs.declared.tree.Statement.{Statement}
use Rattle.seuss_program.specs.declared.tree.Statement.TheVariants as V
use Rattle.safety_check.specs.declared.region.Region.{Region}
use Rattle.safety_check.specs.Regions.{truth_of}
use Rattle.safety_check.specs.RegionValues.{region_in}
use Rattle.safety_check.specs.declared.frame.Frame.{Frame}
use Rattle.safety_check.specs.Ends.{way_of, body_end, branch_end}
use Rattle.safety_judge.proofs.Growth.{from-place}
use Rattle.safety_judge.proofs.SideNodes.{told-as}
use Rattle.safety_judge.proofs.StatementLayers.{end-if}

module _ (ss : List (Statement Ref)) (i : ℕ) (s : Statement Ref) (frame : Frame) (whole : Option Frame)
    (h : i < length ss) (at : s ≡ get_or ss i s) (same : body_end (drop i ss) frame ≡ whole) where
  -- from a place on: the end of the statement there, and then of the others
  body-from : option_and_then (body_end (drop (i + 1) ss)) ((way_of s).path frame) ≡ whole
  body-from = sym (ap (λ xs. body_end xs frame) (from-place ss i s h at)) ∙ same

  -- where a statement has no end, the body has none
  pub body-stops : (o : Option Frame) → o ≡ (way_of s).path frame → o ≡ None → None ≡ whole
  body-stops o is none =
      sym (ap (option_and_then (body_end (drop (i + 1) ss))) (sym is ∙ none)) ∙ body-from

  -- else the others go on from there
  pub body-goes-on : (o : Option Frame) (next : Frame) → o ≡ (way_of s).path frame → o ≡ Some next →
      body_end (drop (i + 1) ss) next ≡ whole
  body-goes-on o next is some =
      sym (ap (option_and_then (body_end (drop (i + 1) ss))) (sym is ∙ some)) ∙ body-from

-- the end of a branch, by its condition and the ends of both bodies
pub if-is : (s : Statement Ref) (cond : Expr Ref) (yes_body no_body : List (Statement Ref))
    (frame copy : Frame) (one other : List (Statement Ref)) (region : Option Region)
    (holds fails : Option Frame) (r : Result (Option Frame) Memory) → s ≡ V.If cond yes_body no_body →
    copy ≡ frame → one ≡ yes_body → other ≡ no_body → region ≡ region_in cond frame →
    holds ≡ body_end one copy → fails ≡ body_end other frame →
    IfOk r (λ end. end ≡ option_and_then (λ q. branch_end (truth_of q) holds fails) region) →
    IfOk r (λ end. end ≡ (way_of s).path frame)
if-is s cond yes_body no_body frame copy one other region holds fails r is same first second told left right
    h = told-as r (option_and_then (λ q. branch_end (truth_of q) holds fails) region) ((way_of s).path frame)
    ((λ i. option_and_then (λ q. branch_end (truth_of q)
    ((left ∙ (ap (body_end one) same ∙ ap (λ ss. body_end ss frame) first)) i)
    ((right ∙ ap (λ ss. body_end ss frame) second) i)) (told i))
    ∙ sym (end-if s cond yes_body no_body frame is)) h
