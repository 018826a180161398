-- A certificate that holds says the same of the steps from the entries of its methods.
use Rattle.std.proofs.Common.{◌≡◌, ℕ, zero, suc, Bool, not, IsTrue, List, [], ◌∷◌, get_or, Option, Some}
use Rattle.std.proofs.Common.{refl, sym, ap, subst, ◌∙◌}
use Rattle.seuss_base.specs.declared.level.Level.{Level}
use Rattle.seuss_base.specs.declared.level.Level.TheVariants as L
use Rattle.seuss_program.specs.declared.tree.Ref.{Ref}
use Rattle.seuss_program.specs.declared.tree.Cat.{Cat}
use Rattle.seuss_program.specs.declared.tree.Proc.{Proc}
use Rattle.seuss_program.specs.declared.program.Program.{Program}
use Rattle.seuss_program.specs.declared.state.Value.{Value}
use Rattle.seuss_program.specs.declared.state.Vars.{Vars}
use Rattle.seuss_program.specs.declared.state.State.{State}
use Rattle.seuss_program.specs.Programs.{procedure_of, cat_of, vars_of}
use Rattle.seuss_program.specs.Bodies.{Called}
use Rattle.seuss_program.specs.Attempts.{attempt, attempt_of, entry_slots, performed}
use Rattle.seuss_program.specs.Keeping.{vars_in}
use Rattle.method_code.specs.Codes.{compiled, number_of}
use Rattle.method_code.specs.declared.frame.End.{End}
use Rattle.method_code.specs.Steps.{Stepped, step, entry}
use Rattle.method_code.specs.Kinds.{rejects_plainly}
use Rattle.method_code.specs.Singles.{IsRun, is_single, is_plainly_rejected, outcome_by, result_by}
use Rattle.method_code.specs.Beside as B
use Rattle.method_code.specs.Beside.{from, SameResult, Semicommutes}
use Rattle.commute_certs.specs.Runs as R
use Rattle.commute_certs.specs.Runs.{nothing, one_box, Alone, alone, EndAlike, HoldsAt}
use Rattle.compat_matrix.specs.Certified as C
use Rattle.compat_matrix.specs.Certified.{entering}
use Rattle.compat_matrix.proofs.AloneRuns.{Same, performed_same}
use Rattle.compat_matrix.proofs.EndLemmas.{left, same_end, step_leaves}

-- a state in which a box has these variables
abbrev boxes_with : ℕ → List Value → List Vars
boxes_with zero vars = record { values = vars } ∷ []
boxes_with (suc n) vars = record { values = [] } ∷ boxes_with n vars

abbrev state_with : ℕ → List Value → State
state_with box vars = record { boxes = boxes_with box vars }

box_there : (box : ℕ) (vars : List Value) →
    (get_or (boxes_with box vars) box (record { values = [] })).values ≡ vars
box_there zero vars = refl
box_there (suc n) vars = box_there n vars

-- what is known of the step of a single procedure
record Facts (s : Stepped) (a : Alone) (method budget : ℕ) : Type 0 where
  outcome : outcome_by s.end ≡ Some a.outcome
  result : result_by s.end ≡ a.result
  plain : rejects_plainly s.end ≡ a.plain
  vars : s.vars ≡ a.vars
  spent : s.budget ≡ budget
  frame : s.frame ≡ left method

same_result : (s t : Stepped) (a b : Alone) (method budget : ℕ) → Facts s a method budget →
    Facts t b method budget → EndAlike a b → SameResult s t
same_result s t a b method budget f g e = record {
  frame = f.frame ∙ sym g.frame;
  budget = f.spent ∙ sym g.spent;
  end = same_end s.end t.end a.outcome f.outcome (g.outcome ∙ ap (λ o. Some o) (sym e.outcome))
      (f.result ∙ (e.result ∙ sym g.result)) (f.plain ∙ (e.plain ∙ sym g.plain));
}

asks_same : (level : Level) (end : End) (b : Bool) → rejects_plainly end ≡ b →
    B.asks level end ≡ R.asks level b
asks_same L.Never end b h = refl
asks_same L.Loose end b h = ap not h
asks_same L.Firm end b h = refl

module _ (p : Program)
    (single_runs : (p : Program) (depth box number : ℕ) (q : Proc Ref) (args : List Value) (state : State)
    (budget : ℕ) →
    procedure_of p box number ≡ Some q → IsTrue (is_single q.form) →
    IsRun (step (compiled p) (entry (compiled p) (number_of p box number) args) budget
    (vars_of state box))
    box state budget (attempt p (suc depth) box number args state budget))
    (plain_told : (p : Program) (box number : ℕ) (q : Proc Ref) (args : List Value) (vars : List Value)
    (budget : ℕ) →
    procedure_of p box number ≡ Some q →
    rejects_plainly (step (compiled p) (entry (compiled p) (number_of p box number) args) budget
    vars).end
    ≡ is_plainly_rejected q.form vars (entry_slots q args))
    (box : ℕ) where
  facts_at : (number : ℕ) (q : Proc Ref) (args : List Value) (budget : ℕ) (σ : State) →
      procedure_of p box number ≡ Some q → IsTrue (is_single q.form) →
      Facts (step (compiled p) (entry (compiled p) (number_of p box number) args) budget (vars_of σ box))
      (alone q args (vars_of σ box)) (number_of p box number) budget
  facts_at number q args budget σ there single =
      let r : IsRun (step (compiled p) (entry (compiled p) (number_of p box number) args) budget
      (vars_of σ box)) box σ budget (attempt p (suc 0) box number args σ budget) =
      single_runs p 0 box number q args σ budget there single in
      let is : attempt p (suc 0) box number args σ budget ≡ performed p (attempt p 0) box q q.form σ
      (entry_slots q args) budget =
      ap (λ (o : Option (Proc Ref)). attempt_of p (attempt p 0) box o args σ budget) there in
      let same : Same p (attempt p 0) box nothing (attempt nothing 0)
      (performed p (attempt p 0) box q q.form σ (entry_slots q args) budget)
      (performed nothing (attempt nothing 0) 0 q q.form (one_box (vars_of σ box)) (entry_slots q args)
      0) =
      performed_same p (attempt p 0) box nothing (attempt nothing 0) q q.form single σ
      (entry_slots q args) budget in
      let outcome : outcome_by
      (step (compiled p) (entry (compiled p) (number_of p box number) args) budget (vars_of σ box)).end
      ≡ Some (alone q args (vars_of σ box)).outcome =
      r.outcome ∙ ap (λ o. Some o) (ap (λ (c : Called). c.outcome) is ∙ same.outcome) in
      record {
        outcome = outcome;
        result = r.result ∙ (ap (λ (c : Called). c.result) is ∙ same.result);
        plain = plain_told p box number q args (vars_of σ box) budget there;
        vars = r.variables ∙ (ap (λ (c : Called). vars_of c.state box) is ∙ same.vars);
        spent = r.free;
        frame = step_leaves (compiled p) (entry (compiled p) (number_of p box number) args) budget
            (vars_of σ box) _ outcome;
      }

  facts : (number : ℕ) (q : Proc Ref) (args : List Value) (budget : ℕ) (vars : List Value) →
      procedure_of p box number ≡ Some q → IsTrue (is_single q.form) →
      Facts (step (compiled p) (entry (compiled p) (number_of p box number) args) budget vars)
      (alone q args vars) (number_of p box number) budget
  facts number q args budget vars there single =
      subst (λ vs. Facts (step (compiled p) (entry (compiled p) (number_of p box number) args) budget vs)
      (alone q args vs) (number_of p box number) budget)
      (box_there box vars) (facts_at number q args budget (state_with box vars) there single)

  -- a certificate that holds at a level
  pub commute : (c : Cat Ref) (first second : ℕ) (m n : Proc Ref) (level : Level) → cat_of p box ≡ Some c →
      procedure_of p box first ≡ Some m → procedure_of p box second ≡ Some n →
      IsTrue (is_single m.form) → IsTrue (is_single n.form) → HoldsAt c level m n →
      C.Commute p box first second m n level
  commute c first second m n level cat there here single other holds = record {
    first_single = single;
    second_single = other;
    swaps = λ args others budget left_over a b vars may asked.
        swap args others budget left_over a b vars may asked;
  }
    where
      swap : (args others : List Value) (budget left_over : ℕ) → C.AreArguments m args →
          C.AreArguments n others →
          Semicommutes p box level (entering p box first args budget)
          (entering p box second others left_over)
      swap args others budget left_over a b vars may asked =
          let one : List Value → Stepped = from (compiled p) (entering p box first args budget) in
          let two : List Value → Stepped = from (compiled p) (entering p box second others left_over) in
          let f : Facts (one vars) (alone m args vars) (number_of p box first) budget =
          facts first m args budget vars there single in
          let g : Facts (two vars) (alone n others vars) (number_of p box second) left_over =
          facts second n others left_over vars here other in
          let f' : Facts (one (two vars).vars) (alone m args (alone n others vars).vars)
          (number_of p box first) budget =
          subst (λ (vs : List Value).
          Facts (one (two vars).vars) (alone m args vs) (number_of p box first) budget) g.vars
          (facts first m args budget (two vars).vars there single) in
          let g' : Facts (two (one vars).vars) (alone n others (alone m args vars).vars)
          (number_of p box second) left_over =
          subst (λ (vs : List Value).
          Facts (two (one vars).vars) (alone n others vs) (number_of p box second) left_over)
          f.vars (facts second n others left_over (one vars).vars here other) in
          let k : R.Commute m n args others vars = holds args others vars
          (record { kinds = may.kinds ∙ ap vars_in cat; sizes = may.sizes }) a b
          (subst (λ t. IsTrue t) (asks_same level (one vars).end (alone m args vars).plain f.plain)
          asked) in
          record {
            first = same_result (one (two vars).vars) (one vars) (alone m args (alone n others vars).vars)
                (alone m args vars) (number_of p box first) budget f' f k.first;
            second = same_result (two vars) (two (one vars).vars) (alone n others vars)
                (alone n others (alone m args vars).vars) (number_of p box second) left_over g g' k.second;
            variables = f'.vars ∙ (k.vars ∙ sym g'.vars);
          }
