-- The first alternative whose precondition holds is chosen.
use Rattle.std.proofs.Common.{◌≡◌, ◌⊎◌, inl, inr, ℕ, zero, suc, Bool, true, false, if◌then◌else◌, List, []}
use Rattle.std.proofs.Common.{◌∷◌, ◌++◌, Some, Ok, Err, refl, sym, ap, ◌∙◌, subst}
use Rattle.seuss_base.specs.declared.outcome.Trap.{Trap}
use Rattle.seuss_base.specs.declared.outcome.Outcome.TheVariants as O
use Rattle.seuss_program.specs.declared.program.Program.{Program}
use Rattle.seuss_program.specs.declared.tree.Ref.{Ref}
use Rattle.seuss_program.specs.declared.tree.Pre.{Pre}
use Rattle.seuss_program.specs.declared.tree.Proc.{Proc}
use Rattle.seuss_program.specs.declared.tree.Form.{Form}
use Rattle.seuss_program.specs.declared.tree.Form.TheVariants as F
use Rattle.seuss_program.specs.declared.tree.Alternative.{Alternative}
use Rattle.seuss_program.specs.declared.state.State.{State}
use Rattle.seuss_program.specs.declared.state.Value.{Value}
use Rattle.seuss_program.specs.Programs.{procedure_of, target_of, method_of, vars_of}
use Rattle.seuss_program.specs.Values.{Evaluated, value, bool_of}
use Rattle.seuss_program.specs.Bodies.{Called, Callee, arguments}
use Rattle.seuss_program.specs.Attempts.{attempt, attempt_of, performed, ended, entry_slots, chosen, judged}
use Rattle.seuss_program.specs.Attempts.{choice, behind_pre, pre_called}
use Rattle.meaning_laws.specs.Alternatives.{alternatives_of, IsBool, NoneHolds, IsChosen, IsTrapped}
use Rattle.meaning_laws.specs.Rejections.{PreRejects}

module _ (p : Program) (callee : Callee) (box : ℕ) (q : Proc Ref) where
  -- an alternative whose precondition is false is passed over, and one whose precondition is true is chosen
  judged-false : (ev : Evaluated) (a : Alternative Ref) (others : Called) (state : State)
      (slots : List Value) (budget : ℕ) → IsBool false ev →
      judged p callee box q ev a others state slots budget ≡ others
  judged-false (Err t) a others state slots budget h = absurd h
  judged-false (Ok v) a others state slots budget h =
      ap (λ b. if b then chosen p callee box q a a.pre state slots budget else others) h

  -- an alternative whose precondition is true is chosen
  judged-true : (ev : Evaluated) (a : Alternative Ref) (others : Called) (state : State) (slots : List Value)
      (budget : ℕ) → IsBool true ev →
      judged p callee box q ev a others state slots budget ≡ chosen p callee box q a a.pre state slots budget
  judged-true (Err t) a others state slots budget h = absurd h
  judged-true (Ok v) a others state slots budget h =
      ap (λ b. if b then chosen p callee box q a a.pre state slots budget else others) h

  module _ (state : State) (slots : List Value) (budget : ℕ) where
    -- where no precondition is true the choice is rejected
    choice-none : (alts : List (Alternative Ref)) → NoneHolds alts (vars_of state box) slots →
        choice p callee box q alts state slots budget ≡ ended O.Rejected state budget
    choice-none [] none = refl
    choice-none (a ∷ alts) none =
        judged-false (value a.cond (vars_of state box) slots) a
        (choice p callee box q alts state slots budget) state slots budget none.0 ∙ choice-none alts none.1

    -- after false preconditions the first true one is chosen
    choice-after : (before after : List (Alternative Ref)) (a : Alternative Ref) →
        NoneHolds before (vars_of state box) slots → IsBool true (value a.cond (vars_of state box) slots) →
        choice p callee box q (before ++ a ∷ after) state slots budget
        ≡ chosen p callee box q a a.pre state slots budget
    choice-after [] after a none holds =
        judged-true (value a.cond (vars_of state box) slots) a
        (choice p callee box q after state slots budget) state slots budget holds
    choice-after (b ∷ before) after a none holds =
        judged-false (value b.cond (vars_of state box) slots) b
        (choice p callee box q (before ++ a ∷ after) state slots budget) state slots budget none.0
        ∙ choice-after before after a none.1 holds

    -- the alternative that is the first true one is chosen
    pub choice-chosen : (alts : List (Alternative Ref)) (a : Alternative Ref) →
        IsChosen alts (vars_of state box) slots a →
        choice p callee box q alts state slots budget ≡ chosen p callee box q a a.pre state slots budget
    choice-chosen alts a is =
        ap (λ l. choice p callee box q l state slots budget) is.stands
        ∙ choice-after is.before is.after a is.none is.holds

    -- a procedure with alternatives does what its choice does
    performed-choice : (f : Form Ref) (alts : List (Alternative Ref)) → alternatives_of f ≡ Some alts →
        performed p callee box q f state slots budget ≡ choice p callee box q alts state slots budget
    performed-choice (F.Total ss) alts h = absurd (cc)
    performed-choice (F.Partial others) alts h =
        let e : others ≡ alts = cc in ap (λ l. choice p callee box q l state slots budget) e
    performed-choice (F.Action others) alts h =
        let e : others ≡ alts = cc in ap (λ l. choice p callee box q l state slots budget) e

    -- a chosen alternative whose preprocedure rejects
    pre-rejects : (a : Alternative Ref) (pre : Pre Ref) (given : List Value) (before : Called) →
        arguments pre.call.args (vars_of state box) slots ≡ Ok given →
        callee (target_of p box pre.call.target) (method_of pre.call.method) given state budget ≡ before →
        before.outcome ≡ O.Rejected →
        chosen p callee box q a (Some pre) state slots budget ≡ ended O.Rejected before.state before.budget
    pre-rejects a pre given before args is rejected =
        ap (λ r. pre_called p callee box q a pre r state slots budget) args
        ∙ (ap (λ (c : Called). behind_pre p callee box q a pre.bind c.outcome c slots) is
        ∙ ap (λ outcome. behind_pre p callee box q a pre.bind outcome before slots) rejected)

  -- a precondition that traps ends the choice
  judged-trap : (ev : Evaluated) (t : Trap) (a : Alternative Ref) (others : Called) (state : State)
      (slots : List Value) (budget : ℕ) → ev ≡ Err t →
      judged p callee box q ev a others state slots budget ≡ ended (O.Trapped t) state budget
  judged-trap ev t a others state slots budget h =
      ap (λ x. judged p callee box q x a others state slots budget) h

  -- after false preconditions one that traps ends the choice
  choice-traps : (before after : List (Alternative Ref)) (a : Alternative Ref) (t : Trap) (state : State)
      (slots : List Value) (budget : ℕ) → NoneHolds before (vars_of state box) slots →
      value a.cond (vars_of state box) slots ≡ Err t →
      choice p callee box q (before ++ a ∷ after) state slots budget ≡ ended (O.Trapped t) state budget
  choice-traps [] after a t state slots budget none traps =
      judged-trap (value a.cond (vars_of state box) slots) t a
      (choice p callee box q after state slots budget) state slots budget traps
  choice-traps (b ∷ before) after a t state slots budget none traps =
      judged-false (value b.cond (vars_of state box) slots) b
      (choice p callee box q (before ++ a ∷ after) state slots budget) state slots budget none.0
      ∙ choice-traps before after a t state slots budget none.1 traps

-- alternatives are decided: none holds, one is chosen, or a precondition traps
abbrev Decided : List (Alternative Ref) → List Value → List Value → Type 0
Decided alts vars slots =
    NoneHolds alts vars
    slots ⊎ (((a : Alternative Ref) × IsChosen alts vars slots a) ⊎ ((t : Trap) × IsTrapped alts vars slots
    t))

-- no precondition is true, or one is the first that is true or traps
pub decided : (alts : List (Alternative Ref)) (vars slots : List Value) → Decided alts vars slots
decided [] vars slots = inl tt
decided (a ∷ alts) vars slots = by (value a.cond vars slots) refl (decided alts vars slots)
  where
    later : IsBool false (value a.cond vars slots) → Decided alts vars slots → Decided (a ∷ alts) vars slots
    later h (inl none) = inl (h, none)
    later h (inr (inl c)) =
        inr (inl (
          c.0,
          record {
            before = a ∷ c.1.before;
            after = c.1.after;
            stands = ap (λ l. a ∷ l) c.1.stands;
            none = (h, c.1.none);
            holds = c.1.holds;
          },
        ))
    later h (inr (inr c)) =
        inr (inr (
          c.0,
          record {
            before = a ∷ c.1.before;
            trapping = c.1.trapping;
            after = c.1.after;
            stands = ap (λ l. a ∷ l) c.1.stands;
            none = (h, c.1.none);
            traps = c.1.traps;
          },
        ))

    by : (ev : Evaluated) → value a.cond vars slots ≡ ev → Decided alts vars slots →
        Decided (a ∷ alts) vars slots
    by (Err t) is rest =
        inr (inr (
          t,
          record { before = []; trapping = a; after = alts; stands = refl; none = tt; traps = is },
        ))
    by (Ok v) is rest = value-is (bool_of v) refl
      where
        value-is : (b : Bool) → bool_of v ≡ b → Decided (a ∷ alts) vars slots
        value-is true e =
            inr (inl (
              a,
              record {
                before = [];
                after = alts;
                stands = refl;
                none = tt;
                holds = subst (IsBool true) (sym is) e;
              },
            ))
        value-is false e = later (subst (IsBool false) (sym is) e) rest

-- an attempt of a procedure with alternatives is a choice among them
pub attempt-choice : (p : Program) (depth box number : ℕ) (q : Proc Ref) (alts : List (Alternative Ref))
    (args : List Value) (state : State) (budget : ℕ) → procedure_of p box number ≡ Some q →
    alternatives_of q.form ≡ Some alts →
    attempt p (suc depth) box number args state budget
    ≡ choice p (attempt p depth) box q alts state (entry_slots q args) budget
attempt-choice p depth box number q alts args state budget there form =
    ap (λ o. attempt_of p (attempt p depth) box o args state budget) there
    ∙ performed-choice p (attempt p depth) box q state (entry_slots q args) budget q.form alts form

-- an attempt without a true precondition is rejected
pub attempt-none : (p : Program) (depth box number : ℕ) (q : Proc Ref) (alts : List (Alternative Ref))
    (args : List Value) (state : State) (budget : ℕ) → procedure_of p box number ≡ Some q →
    alternatives_of q.form ≡ Some alts → NoneHolds alts (vars_of state box) (entry_slots q args) →
    attempt p depth box number args state budget ≡ ended O.Rejected state budget
attempt-none p zero box number q alts args state budget there form none = refl
attempt-none p (suc depth) box number q alts args state budget there form none =
    attempt-choice p depth box number q alts args state budget there form
    ∙ choice-none p (attempt p depth) box q state (entry_slots q args) budget alts none

-- an attempt does what the chosen alternative does
pub attempt-chosen : (p : Program) (depth box number : ℕ) (q : Proc Ref) (alts : List (Alternative Ref))
    (a : Alternative Ref) (args : List Value) (state : State) (budget : ℕ) →
    procedure_of p box number ≡ Some q →
    alternatives_of q.form ≡ Some alts → IsChosen alts (vars_of state box) (entry_slots q args) a →
    attempt p (suc depth) box number args state budget
    ≡ chosen p (attempt p depth) box q a a.pre state (entry_slots q args) budget
attempt-chosen p depth box number q alts a args state budget there form is =
    attempt-choice p depth box number q alts args state budget there form
    ∙ choice-chosen p (attempt p depth) box q state (entry_slots q args) budget alts a is

-- an attempt ends with the trap of its precondition
pub attempt-traps : (p : Program) (depth box number : ℕ) (q : Proc Ref) (alts : List (Alternative Ref))
    (t : Trap) (args : List Value) (state : State) (budget : ℕ) → procedure_of p box number ≡ Some q →
    alternatives_of q.form ≡ Some alts → IsTrapped alts (vars_of state box) (entry_slots q args) t →
    attempt p (suc depth) box number args state budget ≡ ended (O.Trapped t) state budget
attempt-traps p depth box number q alts t args state budget there form is =
    attempt-choice p depth box number q alts args state budget there form
    ∙ (ap (λ l. choice p (attempt p depth) box q l state (entry_slots q args) budget) is.stands
    ∙ choice-traps p (attempt p depth) box q is.before is.after is.trapping t state
    (entry_slots q args) budget is.none is.traps)

-- an attempt whose preprocedure is rejected is rejected
pub attempt-rejected : (p : Program) (depth box number : ℕ) (q : Proc Ref) (args : List Value)
    (state : State) (budget : ℕ) (left : Called) → procedure_of p box number ≡ Some q →
    PreRejects p depth box q args state budget left →
    attempt p (suc depth) box number args state budget ≡ ended O.Rejected left.state left.budget
attempt-rejected p depth box number q args state budget left there r =
    attempt-chosen p depth box number q r.alternatives r.chosen args state budget there r.form r.first
    ∙ (ap (λ o. chosen p (attempt p depth) box q r.chosen o state (entry_slots q args) budget) r.early
    ∙ pre-rejects p (attempt p depth) box q state
    (entry_slots q args) budget r.chosen r.pre r.given left r.evaluated r.attempted r.rejected)
