-- How steps that leave their procedure end.
use Rattle.std.proofs.Common.{◌≡◌, ℕ, zero, suc, ◌-◌, List, [], drop, Option, None, Some, Result, Ok, Err}
use Rattle.std.proofs.Common.{refl, ap}
use Rattle.std.specs.Prelude.{slice_get}
use Rattle.seuss_base.specs.declared.outcome.Trap.{Trap}
use Rattle.seuss_base.specs.declared.outcome.Outcome.{Outcome}
use Rattle.seuss_program.specs.declared.state.Value.{Value}
use Rattle.seuss_program.specs.Bodies.{arguments}
use Rattle.method_code.specs.declared.instruction.CallCode.{CallCode}
use Rattle.method_code.specs.declared.instruction.Move.{Move}
use Rattle.method_code.specs.declared.instruction.Move.TheVariants as M
use Rattle.method_code.specs.declared.method.Method.{Method}
use Rattle.method_code.specs.declared.method.Entry.{Entry}
use Rattle.method_code.specs.declared.method.Entry.TheVariants as N
use Rattle.method_code.specs.declared.method.Head.{Head}
use Rattle.method_code.specs.declared.frame.Frame.{Frame}
use Rattle.method_code.specs.declared.frame.End.{End}
use Rattle.method_code.specs.declared.frame.End.TheVariants as E
use Rattle.method_code.specs.Steps as T
use Rattle.method_code.specs.Steps.{Stepped, Halted, step, settled, runs}
use Rattle.method_code.specs.Kinds.{rejects_plainly}
use Rattle.method_code.specs.Singles.{outcome_by, result_by}

-- an end by its outcome, its result and whether it is a plain rejection
pub same_end : (e f : End) (o : Outcome) → outcome_by e ≡ Some o → outcome_by f ≡ Some o →
    result_by e ≡ result_by f → rejects_plainly e ≡ rejects_plainly f → e ≡ f
same_end (E.Call t m a p) f o h k r s = cc
same_end (E.Returned x) (E.Call t m a p) o h k r s = cc
same_end (E.Returned x) (E.Returned y) o h k r s = ap (λ z. E.Returned z) r
same_end (E.Returned x) E.RejectedPlain o h k r s = cc
same_end (E.Returned x) E.Rejected o h k r s = cc
same_end (E.Returned x) (E.Trapped t) o h k r s = cc
same_end (E.Returned x) E.Spent o h k r s = cc
same_end E.RejectedPlain (E.Call t m a p) o h k r s = cc
same_end E.RejectedPlain (E.Returned y) o h k r s = cc
same_end E.RejectedPlain E.RejectedPlain o h k r s = refl
same_end E.RejectedPlain E.Rejected o h k r s = cc
same_end E.RejectedPlain (E.Trapped t) o h k r s = cc
same_end E.RejectedPlain E.Spent o h k r s = cc
same_end E.Rejected (E.Call t m a p) o h k r s = cc
same_end E.Rejected (E.Returned y) o h k r s = cc
same_end E.Rejected E.RejectedPlain o h k r s = cc
same_end E.Rejected E.Rejected o h k r s = refl
same_end E.Rejected (E.Trapped t) o h k r s = cc
same_end E.Rejected E.Spent o h k r s = cc
same_end (E.Trapped w) (E.Call t m a p) o h k r s = cc
same_end (E.Trapped w) (E.Returned y) o h k r s = cc
same_end (E.Trapped w) E.RejectedPlain o h k r s = cc
same_end (E.Trapped w) E.Rejected o h k r s = cc
same_end (E.Trapped w) (E.Trapped t) o h k r s = let same : w ≡ t = cc in ap (λ z. E.Trapped z) same
same_end (E.Trapped w) E.Spent o h k r s = cc
same_end E.Spent (E.Call t m a p) o h k r s = cc
same_end E.Spent (E.Returned y) o h k r s = cc
same_end E.Spent E.RejectedPlain o h k r s = cc
same_end E.Spent E.Rejected o h k r s = cc
same_end E.Spent (E.Trapped t) o h k r s = cc
same_end E.Spent E.Spent o h k r s = refl

-- the frame behind a step that leaves its procedure
abbrev pub left : ℕ → Frame
left method = record { method = method; place = 0; slots = [] }

-- a step leaves its procedure, unless it calls
abbrev Leaves : ℕ → Stepped → Type 0
Leaves method s = (o : Outcome) → outcome_by s.end ≡ Some o → s.frame ≡ left method

none_some : (o : Outcome) → None ≡ Some o → ⊥
none_some o h = cc

settled_leaves : (m : Method) (method budget : ℕ) (turn : ℕ → List Value → List Value → Stepped)
    (h : Halted) (move : Move) →
    ((at : ℕ) (vs ss : List Value) → Leaves method (turn at vs ss)) →
    Leaves method (settled m method budget turn h move)
settled_leaves m method budget turn h (M.On many) f o k = refl
settled_leaves m method budget turn h (M.Back many) f o k = f (h.at - many) h.vars h.slots o k
settled_leaves m method zero turn h (M.Call target called args) f o k = refl
settled_leaves m method (suc budget) turn h (M.Call target called args) f o k = absurd (none_some o k)
settled_leaves m method budget turn h M.Return f o k = refl
settled_leaves m method budget turn h M.Reject f o k = refl
settled_leaves m method budget turn h (M.Trap t) f o k = refl

runs_leaves : (m : Method) (method budget at : ℕ) (vars slots : List Value) →
    Leaves method (runs m method budget at vars slots)
runs_leaves m method zero at vars slots =
    settled_leaves m method 0 (λ to vs ss. T.leaves method 0 vs E.Spent)
    (T.walk (drop at m.instructions) at 0 vars slots)
    (T.walk (drop at m.instructions) at 0 vars slots).move (λ to vs ss o k. refl)
runs_leaves m method (suc budget) at vars slots =
    settled_leaves m method (suc budget) (runs m method budget)
    (T.walk (drop at m.instructions) at 0 vars slots)
    (T.walk (drop at m.instructions) at 0 vars slots).move (runs_leaves m method budget)

early_leaves : (method start budget : ℕ) (call : CallCode) (args : Result (List Value) Trap)
    (vars slots : List Value) → Leaves method (T.called_early method start budget call args vars slots)
early_leaves method start budget call (Err t) vars slots o k = refl
early_leaves method start budget call (Ok args) vars slots o k = absurd (none_some o k)

begun_leaves : (m : Method) (method budget start : ℕ) (early : Option CallCode) (vars slots : List Value) →
    Leaves method (T.begun m method budget start early vars slots)
begun_leaves m method budget start None vars slots = runs_leaves m method budget start vars slots
begun_leaves m method budget start (Some call) vars slots =
    early_leaves method start budget call (arguments call.args vars slots) vars slots

chosen_leaves : (m : Method) (method budget : ℕ) (r : Result (Option Head) Trap)
    (vars slots : List Value) → Leaves method (T.chosen m method budget r vars slots)
chosen_leaves m method budget (Err t) vars slots o k = refl
chosen_leaves m method budget (Ok None) vars slots o k = refl
chosen_leaves m method budget (Ok (Some head)) vars slots o k =
    begun_leaves m method budget head.start head.early vars slots o k

entered_leaves : (m : Method) (method budget : ℕ) (e : Entry) (vars slots : List Value) →
    Leaves method (T.entered m method budget e vars slots)
entered_leaves m method budget N.Total vars slots = runs_leaves m method budget 0 vars slots
entered_leaves m method budget (N.Partial heads) vars slots =
    chosen_leaves m method budget (T.chosen_head heads vars slots) vars slots

placed_leaves : (m : Method) (method budget place : ℕ) (vars slots : List Value) →
    Leaves method (T.from_place m method budget place vars slots)
placed_leaves m method budget zero vars slots = entered_leaves m method budget m.entry vars slots
placed_leaves m method budget (suc at) vars slots = runs_leaves m method budget at vars slots

found_leaves : (m : Option Method) (frame : Frame) (budget : ℕ) (vars : List Value) →
    Leaves frame.method (T.step_in m frame budget vars)
found_leaves None frame budget vars o k = refl
found_leaves (Some m) frame budget vars o k =
    placed_leaves m frame.method budget frame.place vars frame.slots o k

-- where a step that leaves its procedure is afterwards
pub step_leaves : (code : List Method) (frame : Frame) (budget : ℕ) (vars : List Value) (o : Outcome) →
    outcome_by (step code frame budget vars).end ≡ Some o →
    (step code frame budget vars).frame ≡ left frame.method
step_leaves code frame budget vars = found_leaves (slice_get code frame.method) frame budget vars
