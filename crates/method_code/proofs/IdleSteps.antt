-- An early step and a plain rejection only read.
use Rattle.std.proofs.Common.{◌≡◌, ℕ, zero, suc, ◌-◌, Bool, true, false, not, ◌==◌, ◌||◌, List, drop}
use Rattle.std.proofs.Common.{Option, None, Some, Result, Ok, Err, refl, sym, ap, ◌∙◌, true≢false}
use Rattle.std.specs.Prelude.{slice_get}
use Rattle.seuss_base.specs.declared.outcome.Trap.{Trap}
use Rattle.seuss_program.specs.declared.state.Value.{Value}
use Rattle.seuss_program.specs.Bodies.{arguments}
use Rattle.method_code.specs.declared.instruction.CallCode.{CallCode}
use Rattle.method_code.specs.declared.instruction.Move.{Move}
use Rattle.method_code.specs.declared.instruction.Move.TheVariants as M
use Rattle.method_code.specs.declared.method.Method.{Method}
use Rattle.method_code.specs.declared.method.Entry.{Entry}
use Rattle.method_code.specs.declared.method.Entry.TheVariants as N
use Rattle.method_code.specs.declared.method.Head.{Head}
use Rattle.method_code.specs.declared.frame.Frame.{Frame}
use Rattle.method_code.specs.declared.frame.End.{End}
use Rattle.method_code.specs.declared.frame.End.TheVariants as E
use Rattle.method_code.specs.Steps as T
use Rattle.method_code.specs.Steps.{Halted, walk, Stepped, leaves, paid, settled, runs, chosen_head}
use Rattle.method_code.specs.Steps.{called_early, entered, from_place, step, step_in}
use Rattle.method_code.specs.Kinds.{is_late, is_total, begins_total, calls_early, rejects_plainly, OnlyReads}

-- an end that is neither an early call nor a plain rejection
abbrev pub Quiet : End → Type 0
Quiet end = (calls_early end ≡ false) × (rejects_plainly end ≡ false)

-- a paid call is quiet
paid_quiet : (method budget : ℕ) (h : Halted) (target called : ℕ) (args : List Value) →
    Quiet (paid method budget h.at h.vars h.slots (E.Call target called args false)).end
paid_quiet method zero h target called args = (refl, refl)
paid_quiet method (suc left) h target called args = (refl, refl)

-- what the walk halts at is quiet where each further turn is
settled_quiet : (m : Method) (method budget : ℕ) (turn : ℕ → List Value → List Value → Stepped) (h : Halted)
    (move : Move) → ((to : ℕ) (vars slots : List Value) → Quiet (turn to vars slots).end) →
    Quiet (settled m method budget turn h move).end
settled_quiet m method budget turn h (M.On many) turns = (refl, refl)
settled_quiet m method budget turn h (M.Back many) turns = turns (h.at - many) h.vars h.slots
settled_quiet m method budget turn h (M.Call target called args) turns =
    paid_quiet method budget h target called args
settled_quiet m method budget turn h M.Return turns = (refl, refl)
settled_quiet m method budget turn h M.Reject turns = (refl, refl)
settled_quiet m method budget turn h (M.Trap t) turns = (refl, refl)

-- a run from an instruction calls no preprocedure and doesn't reject plainly
pub runs_quiet : (m : Method) (method budget at : ℕ) (vars slots : List Value) →
    Quiet (runs m method budget at vars slots).end
runs_quiet m method zero at vars slots =
    let h : Halted = walk (drop at m.instructions) at 0 vars slots in
    settled_quiet m method zero (λ to vs ss. leaves method 0 vs E.Spent) h h.move
    (λ to vs ss. (refl, refl))
runs_quiet m method (suc left) at vars slots =
    let h : Halted = walk (drop at m.instructions) at 0 vars slots in
    settled_quiet m method (suc left) (runs m method left) h h.move
    (λ to vs ss. runs_quiet m method left to vs ss)

-- a step from these slots that leaves everything as it found it
record Reads (slots : List Value) (budget : ℕ) (vars : List Value) (s : Stepped) : Type 0 where
  variables : s.vars ≡ vars
  free : s.budget ≡ budget
  kept : calls_early s.end ≡ true → s.frame.slots ≡ slots

-- a step that is early, or plainly rejects, only reads
abbrev ReadsOnly : List Value → ℕ → List Value → Stepped → Type 0
ReadsOnly slots budget vars s = ((calls_early s.end ≡ true) → Reads slots budget vars s)
    × ((rejects_plainly s.end ≡ true) → Reads slots budget vars s)

-- a quiet step reads only, as far as it is asked
quiet_reads : (slots : List Value) (budget : ℕ) (vars : List Value) (s : Stepped) → Quiet s.end →
    ReadsOnly slots budget vars s
quiet_reads slots budget vars s q =
    (λ h. absurd (true≢false (sym h ∙ q.0)), λ h. absurd (true≢false (sym h ∙ q.1)))

-- the chosen alternative begins by reading only
begun_reads : (m : Method) (method budget start : ℕ) (o : Option CallCode) (vars slots : List Value) →
    ReadsOnly slots budget vars (T.begun m method budget start o vars slots)
begun_reads m method budget start None vars slots =
    quiet_reads slots budget vars (runs m method budget start vars slots)
    (runs_quiet m method budget start vars slots)
begun_reads m method budget start (Some call) vars slots = by (arguments call.args vars slots)
  where
    by : (args : Result (List Value) Trap) → ReadsOnly slots budget vars
        (called_early method start budget call args vars slots)
    by (Err t) = quiet_reads slots budget vars (called_early method start budget call (Err t) vars slots)
        (refl, refl)
    by (Ok args) = (
      λ h. record { variables = refl; free = refl; kept = λ h. refl },
      λ h. absurd
          (true≢false (sym h)),
    )

-- a choice reads only
chosen_reads : (m : Method) (method budget : ℕ) (r : Result (Option Head) Trap) (vars slots : List Value) →
    ReadsOnly slots budget vars (T.chosen m method budget r vars slots)
chosen_reads m method budget (Err t) vars slots =
    quiet_reads slots budget vars (leaves method budget vars (E.Trapped t)) (refl, refl)
chosen_reads m method budget (Ok None) vars slots = (
  λ h. absurd (true≢false (sym h)),
  λ h. record
      { variables = refl; free = refl; kept = λ h. absurd (true≢false (sym h)) },
)
chosen_reads m method budget (Ok (Some h)) vars slots =
    begun_reads m method budget h.start h.early vars slots

-- a procedure that may reject begins by reading only
entered_reads : (m : Method) (method budget : ℕ) (e : Entry) (vars slots : List Value) →
    begins_total e ≡ false → ReadsOnly slots budget vars (entered m method budget e vars slots)
entered_reads m method budget N.Total vars slots h = absurd (true≢false h)
entered_reads m method budget (N.Partial hs) vars slots h =
    chosen_reads m method budget (chosen_head hs vars slots) vars slots

-- a total method begins quietly
entered_quiet : (m : Method) (method budget : ℕ) (e : Entry) (vars slots : List Value) →
    begins_total e ≡ true → Quiet (entered m method budget e vars slots).end
entered_quiet m method budget N.Total vars slots h = runs_quiet m method budget 0 vars slots
entered_quiet m method budget (N.Partial hs) vars slots h = absurd (true≢false (sym h))

-- Such a step isn't late, and it only reads.
record Fresh (late : Bool) (slots : List Value) (budget : ℕ) (vars : List Value) (s : Stepped) : Type 0 where
  early : calls_early s.end ≡ true → (late ≡ false) × Reads slots budget vars s
  plain : rejects_plainly s.end ≡ true → (late ≡ false) × Reads slots budget vars s

-- a quiet step meets what is asked of any step
fresh_quiet : (late : Bool) (slots : List Value) (budget : ℕ) (vars : List Value) (s : Stepped) →
    Quiet s.end → Fresh late slots budget vars s
fresh_quiet late slots budget vars s q = record
    { early = λ h. absurd (true≢false (sym h ∙ q.0)); plain = λ h. absurd (true≢false (sym h ∙ q.1)) }

-- a step from a place meets it
placed : (m : Method) (method budget place : ℕ) (vars slots : List Value) →
    Fresh (not (place == 0) || begins_total m.entry) slots budget vars
    (from_place m method budget place vars slots)
placed m method budget zero vars slots = by (begins_total m.entry) refl
  where
    by : (b : Bool) → begins_total m.entry ≡ b → Fresh b slots budget vars
        (entered m method budget m.entry vars slots)
    by true e = fresh_quiet true slots budget vars (entered m method budget m.entry vars slots)
        (entered_quiet m method budget m.entry vars slots e)
    by false e = let r = entered_reads m method budget m.entry vars slots e in
        record { early = λ h. (refl, r.0 h); plain = λ h. (refl, r.1 h) }
placed m method budget (suc at) vars slots = fresh_quiet _ slots budget vars
    (runs m method budget at vars slots) (runs_quiet m method budget at vars slots)

-- a step of the code meets it
fresh_step : (code : List Method) (frame : Frame) (budget : ℕ) (vars : List Value) →
    Fresh (is_late code frame) frame.slots budget vars (step code frame budget vars)
fresh_step code frame budget vars = by (slice_get code frame.method)
  where
    by : (o : Option Method) → Fresh (not (frame.place == 0) || is_total o) frame.slots budget vars
        (step_in o frame budget vars)
    by None = fresh_quiet (not (frame.place == 0) || false) frame.slots budget vars
        (leaves frame.method budget vars E.Rejected) (refl, refl)
    by (Some m) = placed m frame.method budget frame.place vars frame.slots

-- a step that isn't late and reads only, in one record
only_reads : (code : List Method) (frame : Frame) (budget : ℕ) (vars : List Value) →
    (is_late code frame ≡ false) × Reads frame.slots budget vars (step code frame budget vars) →
    OnlyReads code frame budget vars (step code frame budget vars)
only_reads code frame budget vars r = record
    { fresh = r.0; variables = r.1.variables; free = r.1.free; slots = r.1.kept }

-- a step that calls a preprocedure reads only
pub early_reads : (code : List Method) (frame : Frame) (budget : ℕ) (vars : List Value) →
    calls_early (step code frame budget vars).end ≡ true →
    OnlyReads code frame budget vars (step code frame budget vars)
early_reads code frame budget vars h = only_reads code frame budget vars
    ((fresh_step code frame budget vars).early h)

-- a step that rejects plainly reads only
pub plain_reads : (code : List Method) (frame : Frame) (budget : ℕ) (vars : List Value) →
    (step code frame budget vars).end ≡ E.RejectedPlain →
    OnlyReads code frame budget vars (step code frame budget vars)
plain_reads code frame budget vars h = only_reads code frame budget vars
    ((fresh_step code frame budget vars).plain (ap rejects_plainly h))
