-- Recorded steps that chain are the steps of a pass.
use Rattle.std.proofs.Common.{◌≡◌, ℕ, zero, suc, ◌+◌, ◌⊎◌, inl, inr, List, [], ◌∷◌, ◌++◌, length, None}
use Rattle.std.proofs.Common.{Option, Some, refl, sym, ap, ◌∙◌, subst, arith}
use Rattle.seuss_base.specs.declared.outcome.PassEnd.{PassEnd}
use Rattle.seuss_program.specs.declared.program.Program.{Program}
use Rattle.seuss_program.specs.declared.state.Value.{Value}
use Rattle.seuss_program.specs.declared.state.State.{State}
use Rattle.seuss_program.specs.Programs.{vars_of}
use Rattle.method_code.specs.declared.method.Method.{Method}
use Rattle.method_code.specs.declared.frame.Frame.{Frame}
use Rattle.method_code.specs.declared.activation.Activation.{Activation}
use Rattle.method_code.specs.Codes.{compiled}
use Rattle.method_code.specs.Steps.{Stepped, step}
use Rattle.method_code.specs.Chains.{Turned, Next, Over, Passed, turned, with_vars, went_on, chain}
use Rattle.method_code.specs.Kinds.{Made, steps_made, steps_on, pass_end, end_on}
use Rattle.method_code.specs.Records.{Recorded, does, ChainsTo, AreMade, FrontMade, made_by, made_of}
use Rattle.method_code.specs.Records.{Makes, LeadsTo, IsStepFrom}

-- steps that are made, each from the variables of its place in a row, are a front of themselves
pub whole_front : (code : List Method) (es : List Recorded) (row : List (List Value)) → AreMade code es row →
    FrontMade code es row
whole_front code [] [] m = tt
whole_front code [] (v ∷ row) m = m
whole_front code (e ∷ es) [] m = tt
whole_front code (e ∷ es) (v ∷ row) m = (m.0, whole_front code es row m.1)

module _ (p : Program) where
  -- what a recorded step leaves, from the place where its pass is
  abbrev left_by : Recorded → List Value → Stepped
  left_by e w = record { vars = w; frame = e.after; budget = e.budget_after; end = e.end }

  -- a step of a pass, whose frame and budget are those of the recorded one, leaves what that one leaves
  stepped : (e : Recorded) (frame : Frame) (budget : ℕ) (v w : List Value) → e.before ≡ frame →
      e.budget_before ≡ budget → does (compiled p) e v w → step (compiled p) frame budget v ≡ left_by e w
  stepped e frame budget v w f b d = ap (λ x. step (compiled p) x budget v) (sym f)
      ∙ (ap (λ n. step (compiled p) e.before n v) (sym b) ∙ d)

  -- what comes after a recorded step
  abbrev after : Activation → Recorded → Turned
  after a e = turned p (record a { frame = e.after }) e.end

  -- a pass that finds the variables from which recorded steps are made ends as they do
  pub ended : (es : List Recorded) (row : List (List Value)) (a : Activation) (budget : ℕ) (end : PassEnd) →
      ChainsTo p a budget es end → AreMade (compiled p) es row → pass_end p row a budget ≡ Some end
  ended [] row a budget end c m = absurd c
  ended (e ∷ es) [] a budget end c m = absurd m
  ended (e ∷ es) (v ∷ row) a budget end c m =
      ap (λ (s : Stepped). end_on (turned p (record a { frame = s.frame }) s.end) s.budget (pass_end p row))
      (stepped e a.frame budget v m.0.0 c.1 c.2 m.0.1)
      ∙ by c.3 (λ next k. ended es row next e.budget_after end k m.1)
    where
      by : ((es ≡ []) × (after a e ≡ Over end))
          ⊎ ((next : Activation) × (after a e ≡ Next next) × ChainsTo p next e.budget_after es end) →
          ((next : Activation) → ChainsTo p next e.budget_after es end →
          pass_end p row next e.budget_after ≡ Some end) →
          end_on (after a e) e.budget_after (pass_end p row) ≡ Some end
      by (inl x) rest = ap (λ (t : Turned). end_on t e.budget_after (pass_end p row)) x.1
      by (inr y) rest = ap (λ (t : Turned). end_on t e.budget_after (pass_end p row)) y.1 ∙ rest y.0 y.2

  -- a front of a chain, made on given variables, is the steps of a pass that finds these variables
  pub front_made : (es : List Recorded) (row : List (List Value)) (a : Activation) (budget : ℕ)
      (end : PassEnd) → ChainsTo p a budget es end → FrontMade (compiled p) es row →
      steps_made p row a budget ≡ made_of p es row
  front_made [] [] a budget end c m = refl
  front_made (e ∷ es) [] a budget end c m = refl
  front_made [] (v ∷ row) a budget end c m = absurd m
  front_made (e ∷ es) (v ∷ row) a budget end c m =
      ap (λ b. whole b a.frame budget) (sym c.0)
      ∙ (ap (λ f. whole e.box f budget) (sym c.1) ∙ (ap (λ n. whole e.box e.before n) (sym c.2)
      ∙ ap (λ (l : List Made). made_by p e v ∷ l)
      (ap (λ (s : Stepped). steps_on (turned p (record a { frame = s.frame }) s.end) s.budget
      (steps_made p row)) m.0.1
      ∙ by c.3 (λ next k. front_made es row next e.budget_after end k m.1))))
    where
      whole : ℕ → Frame → ℕ → List Made
      whole b f n = let s = step (compiled p) f n v in
          record { box = b; frame = f; budget = n; vars = v; stepped = s }
          ∷ steps_on (turned p (record a { frame = s.frame }) s.end) s.budget (steps_made p row)

      by : ((es ≡ []) × (after a e ≡ Over end))
          ⊎ ((next : Activation) × (after a e ≡ Next next) × ChainsTo p next e.budget_after es end) →
          ((next : Activation) → ChainsTo p next e.budget_after es end →
          steps_made p row next e.budget_after ≡ made_of p es row) →
          steps_on (after a e) e.budget_after (steps_made p row) ≡ made_of p es row
      by (inl x) rest = ap (λ (t : Turned). steps_on t e.budget_after (steps_made p row)) x.1
          ∙ sym (ap (λ l. made_of p l row) x.0)
      by (inr y) rest = ap (λ (t : Turned). steps_on t e.budget_after (steps_made p row)) y.1 ∙ rest y.0 y.2

  -- recorded steps that are made in turn on the boxes of a state are the chain of their pass
  pub serial : (es : List Recorded) (a : Activation) (budget : ℕ) (end : PassEnd) (s t : State) →
      ChainsTo p a budget es end → Makes p s es t →
      (left : ℕ) × (chain p (length es) a s budget ≡ Some (record { end = end; state = t; budget = left }))
  serial [] a budget end s t c m = absurd c
  serial (e ∷ es) a budget end s t c m =
      by c.3 (λ next k. serial es next e.budget_after end (with_vars s e.box m.0) t k m.2)
    where
      on : ℕ → Stepped → Option Passed
      on b x = went_on (turned p (record a { frame = x.frame }) x.end) (with_vars s b x.vars) x.budget
          (chain p (length es))

      first : chain p (suc (length es)) a s budget ≡ went_on (after a e) (with_vars s e.box m.0)
          e.budget_after (chain p (length es))
      first = ap (λ b. on b (step (compiled p) a.frame budget (vars_of s b))) (sym c.0)
          ∙ ap (on e.box) (stepped e a.frame budget (vars_of s e.box) m.0 c.1 c.2 m.1)

      by : ((es ≡ []) × (after a e ≡ Over end))
          ⊎ ((next : Activation) × (after a e ≡ Next next) × ChainsTo p next e.budget_after es end) →
          ((next : Activation) → ChainsTo p next e.budget_after es end → (left : ℕ)
          × (chain p (length es) next (with_vars s e.box m.0) e.budget_after
          ≡ Some (record { end = end; state = t; budget = left }))) →
          (left : ℕ) × (chain p (suc (length es)) a s budget
          ≡ Some (record { end = end; state = t; budget = left }))
      by (inl x) rest =
          let last : with_vars s e.box m.0 ≡ t =
          subst (λ l. Makes p (with_vars s e.box m.0) l t) x.0 m.2 in (
            e.budget_after,
            first ∙ (ap (λ (u : Turned). went_on u (with_vars s e.box m.0) e.budget_after
                (chain p (length es))) x.1
                ∙ ap (λ (u : State). Some (record { end = end; state = u; budget = e.budget_after })) last),
          )
      by (inr y) rest =
          let r = rest y.0 y.2 in (
            r.0,
            first ∙ (ap (λ (u : Turned). went_on u (with_vars s e.box m.0) e.budget_after
                (chain p (length es))) y.1 ∙ r.1),
          )

  -- a pass that is over after some steps is over so after more
  pub goes_further : (n k : ℕ) (a : Activation) (s : State) (budget : ℕ) (passed : Passed) →
      chain p n a s budget ≡ Some passed → chain p (n + k) a s budget ≡ Some passed
  goes_further zero k a s budget passed h = absurd (none h)
    where
      none : None ≡ Some passed → ⊥
      none h = cc
  goes_further (suc n) k a s budget passed h =
      let e : suc n + k ≡ suc (n + k) = omega arith in
      ap (λ m. chain p m a s budget) e
      ∙ by (turned p (record a { frame = x.frame }) x.end) (with_vars s a.box_number x.vars) x.budget h
      (λ next t left g. goes_further n k next t left passed g)
    where
      x : Stepped
      x = step (compiled p) a.frame budget (vars_of s a.box_number)

      by : (u : Turned) (t : State) (left : ℕ) → went_on u t left (chain p n) ≡ Some passed →
          ((next : Activation) (t : State) (left : ℕ) → chain p n next t left ≡ Some passed →
          chain p (n + k) next t left ≡ Some passed) →
          went_on u t left (chain p (n + k)) ≡ Some passed
      by (Next next) t left g go = go next t left g
      by (Over end) t left g go = g

  -- one more step leads on
  pub leads_on : (es : List Recorded) (a b : Activation) (budget left : ℕ) (e : Recorded)
      (next : Activation) → LeadsTo p a budget es b left → IsStepFrom b left e → after b e ≡ Next next →
      LeadsTo p a budget (es ++ e ∷ []) next e.budget_after
  leads_on [] a b budget left e next l f t = (
    f.box ∙ ap (λ (x : Activation). x.box_number) l.0,
    f.before ∙ ap (λ (x : Activation). x.frame) l.0,
    f.budget_before ∙ l.1,
    (next, ap (λ (x : Activation). after x e) (sym l.0) ∙ t, (refl, refl)),
  )
  leads_on (d ∷ es) a b budget left e next l f t = (
    l.0,
    l.1,
    l.2,
    (l.3.0, l.3.1, leads_on es l.3.0 b d.budget_after left e next l.3.2 f t),
  )

  -- a last step ends the pass
  pub leads_over : (es : List Recorded) (a b : Activation) (budget left : ℕ) (e : Recorded)
      (end : PassEnd) → LeadsTo p a budget es b left → IsStepFrom b left e → after b e ≡ Over end →
      ChainsTo p a budget (es ++ e ∷ []) end
  leads_over [] a b budget left e end l f t = (
    f.box ∙ ap (λ (x : Activation). x.box_number) l.0,
    f.before ∙ ap (λ (x : Activation). x.frame) l.0,
    f.budget_before ∙ l.1,
    inl (refl, ap (λ (x : Activation). after x e) (sym l.0) ∙ t),
  )
  leads_over (d ∷ es) a b budget left e end l f t =
      (l.0, l.1, l.2, inr (l.3.0, l.3.1, leads_over es l.3.0 b d.budget_after left e end l.3.2 f t))
