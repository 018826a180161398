-- A step from a frame of the code keeps the form of the variables, and its frame after is of the code.
use Rattle.std.proofs.Common.{◌≡◌, ℕ, zero, suc, ◌+◌, Bool, true, false, not, if◌then◌else◌, IsTrue, List}
use Rattle.std.proofs.Common.{[], ◌∷◌, ◌++◌, length, drop, Option, None, Some, option_and_then, Result, Ok}
use Rattle.std.proofs.Common.{Err, refl, sym, ap, ◌∙◌, subst, arith, append_assoc, le_refl, true≢false}
use Rattle.std.specs.Prelude.{slice_get, nat_le, IfSome}
use Rattle.std.specs.List.{flat_map}
use Rattle.seuss_base.specs.declared.outcome.Trap.{Trap}
use Rattle.seuss_program.specs.declared.program.Program.{Program}
use Rattle.seuss_program.specs.declared.program.BoxInfo.{BoxInfo}
use Rattle.seuss_program.specs.declared.tree.Ref.{Ref}
use Rattle.seuss_program.specs.declared.tree.Kind.{Kind}
use Rattle.seuss_program.specs.declared.tree.Kind.TheVariants as KV
use Rattle.seuss_program.specs.declared.tree.Call.{Call}
use Rattle.seuss_program.specs.declared.tree.Pre.{Pre}
use Rattle.seuss_program.specs.declared.tree.Proc.{Proc}
use Rattle.seuss_program.specs.declared.tree.Form.{Form}
use Rattle.seuss_program.specs.declared.tree.Form.TheVariants as F
use Rattle.seuss_program.specs.declared.tree.Alternative.{Alternative}
use Rattle.seuss_program.specs.declared.tree.Statement.{Statement, map-Statement, roll-Statement}
use Rattle.seuss_program.specs.declared.tree.Statement.{ind-Statement}
use Rattle.seuss_program.specs.declared.tree.Statement.TheOpen as S
use Rattle.seuss_program.specs.declared.tree.Statement.TheOpen.{Statement-F}
use Rattle.seuss_program.specs.declared.state.Value.{Value}
use Rattle.seuss_program.specs.Programs.{procedure_of, target_of, method_of}
use Rattle.seuss_program.specs.Values.{Evaluated, value, bool_of, fits}
use Rattle.seuss_program.specs.Bodies.{arguments}
use Rattle.seuss_program.specs.Keeping as K
use Rattle.seuss_program.specs.Keeping.{AreOf, Scope, Keeps, statement_fits, body_fits, call_fits, meets}
use Rattle.seuss_program.specs.Keeping.{called, pre_fits, alternative_fits, alternatives_fit, form_fits}
use Rattle.seuss_program.specs.Keeping.{is_total, is_partial, all_true, kind_in, kind_set, is_kind, is_of}
use Rattle.seuss_program.specs.Keeping.{vars_in, var_kinds, slot_kinds, param_kinds, arguments_fit}
use Rattle.seuss_program.specs.Keeping.{bind_fits}
use Rattle.method_code.specs.declared.instruction.Instruction.{Instruction}
use Rattle.method_code.specs.declared.instruction.Instruction.TheVariants as I
use Rattle.method_code.specs.declared.instruction.Move.TheVariants as M
use Rattle.method_code.specs.declared.method.Method.{Method}
use Rattle.method_code.specs.declared.method.Head.{Head}
use Rattle.method_code.specs.declared.frame.Frame.{Frame}
use Rattle.method_code.specs.Codes.{compiled, number_of, code_of, code_step, joined, call_code, early_of}
use Rattle.method_code.specs.Codes.{take_code, last_code, alternative_code, heads, entry_of, form_code}
use Rattle.method_code.specs.Codes.{method_code}
use Rattle.method_code.specs.Steps as T
use Rattle.method_code.specs.Steps.{acts, Stepped, leaves, runs, result_in, chosen_head, judged_head}
use Rattle.method_code.specs.Steps.{called_early, entered, from_place, step, step_in}
use Rattle.method_code.specs.Frames as Fr
use Rattle.method_code.specs.Frames.{HasVars, HasSlots, IsFrame, IsCall, FitsStep, IsPlace}
use Rattle.method_code.proofs.Going.{rest_after, runs_stop}
use Rattle.method_code.proofs.Simulation.{and_left, and_right}
use Rattle.method_code.proofs.Statements.{each, each_each, code-layer, fits-layer}
use Rattle.method_code.proofs.Places.{Stands, stands, coded, scope, keeps_procedure, calls_below}
use Rattle.method_code.proofs.KindLists.{have_kinds, to_kinds, of_kinds, number_fits}
use Rattle.method_code.proofs.TypingLaws.{KindLaws}
use Rattle.method_code.proofs.SafeCode.{none_some, some_same, is_of_some, ArgsTyped, args_typed, Text}
use Rattle.method_code.proofs.SafeCode.{SafeAt, SafeTaking, Returns, returns_append, Safe, set_safe}
use Rattle.method_code.proofs.SafeCode.{none_safe, then_safe, all_safe, take_safe, GoodCall, waits_frame}
use Rattle.method_code.proofs.SafeCode.{box_vars, call_safe, if_safe, while_safe}

module _ (p : Program) (box number : ℕ) (q : Proc Ref) (s : Scope) (text : Text p box number q s)
    (total : (bind : Option Ref) (call : Call Ref) → IsTrue (call_fits s is_total bind call) →
    GoodCall p box number q s text is_total bind call)
    (early : (bind : Option Ref) (call : Call Ref) → IsTrue (call_fits s is_partial bind call) →
    GoodCall p box number q s text is_partial bind call) where
  -- the code of a statement that fits is safe
  SafeSo : Statement Ref → Type 0
  SafeSo t = IsTrue (statement_fits s t) → Safe p box number q s text (code_of t)

  -- a statement, by the statements inside it
  layer_safe : (d : Statement-F Ref (Statement Ref)) →
      (IsTrue (K.statement_step s (map-Statement Ref (Statement Ref) Bool (statement_fits s) d)) →
      Safe p box number q s text
      (code_step (map-Statement Ref (Statement Ref) (List Instruction) code_of d))) →
      SafeSo (roll-Statement Ref d)
  unfolding SafeSo
  layer_safe d h fit = subst (λ c. Safe p box number q s text c) (sym (code-layer d))
      (h (subst (λ b. IsTrue b) (fits-layer s d) fit))

  module _ (X : Type 0) (f : X → Statement Ref) (each_safe : (x : X) → SafeSo (f x)) where
    -- the statements inside a statement
    inner : (xs : List X) → IsTrue (all_true (each (statement_fits s) (each f xs))) →
        Safe p box number q s text (joined (each code_of (each f xs)))
    unfolding SafeSo
    inner xs fit = subst (λ c. Safe p box number q s text (joined c)) (sym (each_each f code_of xs))
        (all_safe p box number q s text (λ x. code_of (f x)) (λ x. statement_fits s (f x)) each_safe xs
        (subst (λ l. IsTrue (all_true l)) (each_each f (statement_fits s) xs) fit))

    -- an assignment that fits is safe
    assign_safe : (name : Ref) (e : _) (o : Option Kind) → kind_set s name ≡ o → IsTrue (K.assigns s o e) →
        Safe p box number q s text (I.Set name e ∷ [])
    assign_safe name e None is fit = absurd (true≢false (sym fit))
    assign_safe name e (Some k) is fit = set_safe p box number q s text name e k is fit

    -- one layer of a statement
    layer : (y : Statement-F Ref X) → SafeSo (roll-Statement Ref (map-Statement Ref X (Statement Ref) f y))
    layer (S.Let name kind e) = layer_safe (S.Let name kind e) (λ fit.
        set_safe p box number q s text name e kind
        (is_of_some kind (kind_set s name) (and_left (is_of kind (kind_set s name)) _ fit))
        (and_right (is_of kind (kind_set s name)) _ fit))
    layer (S.Assign name e) = layer_safe (S.Assign name e)
        (λ fit. assign_safe name e (kind_set s name) refl fit)
    layer (S.Call bind call) = layer_safe (S.Call bind call)
        (λ fit. call_safe p box number q s text bind call (total bind call fit))
    layer (S.If cond holds fails) = layer_safe (S.If cond (each f holds) (each f fails)) (λ fit.
        let both = and_right (is_of KV.Bool (kind_in s cond)) _ fit in
        if_safe p box number q s text cond (joined (each code_of (each f holds)))
        (joined (each code_of (each f fails)))
        (inner holds (and_left _ _ both))
        (inner fails (and_right (all_true (each (statement_fits s) (each f holds))) _ both)))
    layer (S.While cond turn) = layer_safe (S.While cond (each f turn)) (λ fit.
        while_safe p box number q s text cond (joined (each code_of (each f turn)))
        (inner turn (and_right (is_of KV.Bool (kind_in s cond)) _ fit)))

  -- the code of each statement that fits is safe
  statement_safe : (t : Statement Ref) → IsTrue (statement_fits s t) → Safe p box number q s text (code_of t)
  unfolding SafeSo
  statement_safe = ind-Statement Ref SafeSo
      (λ x y is. subst (λ z. SafeSo (roll-Statement Ref z)) is (layer _ (λ e. e.0) (λ e. e.1) y))

  -- the code of a body that fits is safe
  body_safe : (ts : List (Statement Ref)) → IsTrue (body_fits s ts) →
      Safe p box number q s text (flat_map code_of ts)
  body_safe [] fit = none_safe p box number q s text
  body_safe (t ∷ ts) fit = then_safe p box number q s text (code_of t) (flat_map code_of ts)
      (statement_safe t (and_left (statement_fits s t) _ fit))
      (body_safe ts (and_right (statement_fits s t) _ fit))

  -- a step from an instruction of the procedure is safe
  abbrev Here : ℕ → ℕ → Type 0
  Here at most = SafeAt p box number q s text at most

  -- the number that a procedure returns has 64 bits
  returned_fits : (slots : List Value) → IsTrue (have_kinds s.slots slots) →
      IfSome (result_in (method_code q).result slots) (λ z. IsTrue (fits z))
  returned_fits slots fs = by q.gives
    where
      by : (b : Bool) → IfSome (result_in (if b then Some (length q.params) else None) slots)
          (λ z. IsTrue (fits z))
      by true = number_fits s.slots slots (length q.params) fs
      by false = tt

  -- the end of a body
  return_safe : (at most : ℕ) (rest : List Instruction) →
      drop at (method_code q).instructions ≡ I.Return ∷ rest → Here at most
  return_safe at most rest h = record {
    by = λ budget vars slots le fv fs.
        subst (λ (x : Stepped). FitsStep p box number x)
        (sym (runs_stop (method_code q) (number_of p box number) at I.Return rest vars slots
        (acts vars slots M.Return) budget h refl tt))
        (record { vars = box_vars p box number q s text vars fv; end = returned_fits slots fs });
  }

  -- a rejection is safe
  reject_safe : (at most : ℕ) (rest : List Instruction) →
      drop at (method_code q).instructions ≡ I.Reject ∷ rest → Here at most
  reject_safe at most rest h = record {
    by = λ budget vars slots le fv fs.
        subst (λ (x : Stepped). FitsStep p box number x)
        (sym (runs_stop (method_code q) (number_of p box number) at I.Reject rest vars slots
        (acts vars slots M.Reject) budget h refl tt))
        (record { vars = box_vars p box number q s text vars fv; end = tt });
  }

  -- the end of an alternative is safe
  last_safe : (b : Bool) (at most : ℕ) (rest : List Instruction) →
      drop at (method_code q).instructions ≡ (if b then I.Return else I.Reject) ∷ rest → Here at most
  last_safe true at most rest h = return_safe at most rest h
  last_safe false at most rest h = reject_safe at most rest h

  -- it has no return places
  last_returns : (b : Bool) (at most : ℕ) → Returns p box number q s text
      ((if b then I.Return else I.Reject) ∷ []) at most
  last_returns true at most = tt
  last_returns false at most = tt

  -- how an alternative begins
  abbrev Begins : ℕ → ℕ → Option (Pre Ref) → Type 0
  Begins at most None = Here at most
  Begins at most (Some pre) = (post : List Instruction)
      × (drop at (method_code q).instructions ≡ I.Take pre.bind ∷ post)

  -- the body of an alternative with its end is safe
  tail_safe : (alt : Alternative Ref) (at most : ℕ) (post : List Instruction) →
      IsTrue (body_fits s alt.body) → drop at (method_code q).instructions
      ≡ (flat_map code_of alt.body ++ last_code alt) ++ post →
      Here at most × Returns p box number q s text (flat_map code_of alt.body ++ last_code alt) at most
  tail_safe alt at most post fit h =
      let h' : drop at (method_code q).instructions ≡ flat_map code_of alt.body ++ (last_code alt ++ post) =
      h ∙ append_assoc (flat_map code_of alt.body) (last_code alt) post in
      let b = (body_safe alt.body fit).by at most (last_code alt ++ post) h'
      (last_safe alt.positive (at + length (flat_map code_of alt.body)) most post
      (rest_after (method_code q).instructions (flat_map code_of alt.body) (last_code alt ++ post) at h'))
      in (
        b.0,
        returns_append p box number q s text (flat_map code_of alt.body) (last_code alt) at most b.1
            (last_returns alt.positive (at + length (flat_map code_of alt.body)) most),
      )

  -- an alternative is safe, and begins safely
  alternative_safe : (alt : Alternative Ref) (pre : Option (Pre Ref)) (at most : ℕ)
      (post : List Instruction) → IsTrue (pre_fits s pre) → IsTrue (body_fits s alt.body) →
      drop at (method_code q).instructions ≡ (take_code pre ++ (flat_map code_of alt.body ++ last_code alt))
      ++ post →
      Begins at most pre × Returns p box number q s text
      (take_code pre ++ (flat_map code_of alt.body ++ last_code alt)) at most
  alternative_safe alt None at most post pfit fit h = tail_safe alt at most post fit h
  alternative_safe alt (Some pre) at most post pfit fit h =
      let rest : List Instruction = (flat_map code_of alt.body ++ last_code alt) ++ post in
      let after = tail_safe alt (at + 1) most post fit
      (rest_after (method_code q).instructions (I.Take pre.bind ∷ []) rest at h) in
      let e : at + 1 ≡ suc at = omega arith in (
        (rest, h),
        (
          (
            take_safe p box number q s text at most pre.bind (early pre.bind pre.call pfit).procedure.gives
                rest h (early pre.bind pre.call pfit).result after.0,
            subst (λ n. Here n most) e after.0,
          ),
          subst (λ n. Returns p box number q s text (flat_map code_of alt.body ++ last_code alt) n most) e
              after.1,
        ),
      )

  -- how a chosen head begins
  record HeadSafe (most : ℕ) (h : Head) : Type 0 where
    pre : Option (Pre Ref)
    is : h.early ≡ early_of pre
    fitting : IsTrue (pre_fits s pre)
    begins : Begins h.start most pre

  -- each alternative begins safely
  abbrev EachHead : ℕ → List Head → Type 0
  EachHead most [] = Unit {0}
  EachHead most (h ∷ hs) = HeadSafe most h × EachHead most hs

  -- alternatives that fit are safe
  alternatives_safe : (alts : List (Alternative Ref)) (at most : ℕ) → IsTrue (alternatives_fit s alts) →
      drop at (method_code q).instructions ≡ flat_map alternative_code alts →
      EachHead most (heads at alts) × Returns p box number q s text (flat_map alternative_code alts) at most
  alternatives_safe [] at most fit h = (tt, tt)
  alternatives_safe (alt ∷ alts) at most fit h =
      let mine = and_right (is_of KV.Bool (kind_in s alt.cond)) _ (and_left (alternative_fits s alt) _ fit)
      in
      let pfit = and_left (pre_fits s alt.pre) _ mine in
      let one = alternative_safe alt alt.pre at most (flat_map alternative_code alts) pfit
      (and_right (pre_fits s alt.pre) _ mine) h in
      let rest = alternatives_safe alts (at + length (alternative_code alt)) most
      (and_right (alternative_fits s alt) _ fit)
      (rest_after (method_code q).instructions (alternative_code alt) (flat_map alternative_code alts) at h)
      in (
        (record { pre = alt.pre; is = refl; fitting = pfit; begins = one.0 }, rest.0),
        returns_append p box number q s text (alternative_code alt) (flat_map alternative_code alts) at most
            one.1 rest.1,
      )

  -- what is chosen begins safely
  abbrev ChosenSafe : ℕ → Result (Option Head) Trap → Type 0
  ChosenSafe most (Err t) = Unit {0}
  ChosenSafe most (Ok None) = Unit {0}
  ChosenSafe most (Ok (Some h)) = HeadSafe most h

  -- the first alternative that holds begins safely
  head_safe : (most : ℕ) (hs : List Head) (vars slots : List Value) → EachHead most hs →
      ChosenSafe most (chosen_head hs vars slots)
  head_safe most [] vars slots e = tt
  head_safe most (h ∷ hs) vars slots e = by (value h.cond vars slots) (head_safe most hs vars slots e.1)
    where
      either : (b : Bool) → ChosenSafe most (chosen_head hs vars slots) →
          ChosenSafe most (if b then Ok (Some h) else chosen_head hs vars slots)
      either true o = e.0
      either false o = o

      by : (ev : Evaluated) → ChosenSafe most (chosen_head hs vars slots) →
          ChosenSafe most (judged_head ev h (chosen_head hs vars slots))
      by (Err t) o = tt
      by (Ok v) o = either (bool_of v) o

  -- a procedure that may reject is an early one
  partial_form : (f : Form Ref) → IsTrue (is_partial f) → is_total f ≡ not true
  partial_form (F.Total ts) h = absurd (true≢false (sym h))
  partial_form (F.Partial alts) h = refl
  partial_form (F.Action alts) h = refl

  -- a choice is safe
  chosen_safe : is_total q.form ≡ false → (budget : ℕ) (r : Result (Option Head) Trap)
      (vars slots : List Value) → ChosenSafe budget r → IsTrue (have_kinds s.vars vars) →
      IsTrue (have_kinds s.slots slots) →
      FitsStep p box number (T.chosen (method_code q) (number_of p box number) budget r vars slots)
  chosen_safe rejects budget (Err t) vars slots ok fv fs =
      record { vars = box_vars p box number q s text vars fv; end = tt }
  chosen_safe rejects budget (Ok None) vars slots ok fv fs =
      record { vars = box_vars p box number q s text vars fv; end = tt }
  chosen_safe rejects budget (Ok (Some h)) vars slots ok fv fs =
      subst (λ o. FitsStep p box number
      (T.begun (method_code q) (number_of p box number) budget h.start o vars slots)) (sym ok.is)
      (by ok.pre ok.fitting ok.begins)
    where
      called_safe : (pre : Pre Ref) (good : GoodCall p box number q s text is_partial pre.bind pre.call)
          (post : List Instruction) → drop h.start (method_code q).instructions ≡ I.Take pre.bind ∷ post →
          (args : Result (List Value) Trap) → ArgsTyped (param_kinds good.procedure.params) args →
          FitsStep p box number
          (called_early (number_of p box number) h.start budget (call_code pre.call) args vars slots)
      called_safe pre good post at (Err t) f = record
          { vars = box_vars p box number q s text vars fv; end = tt }
      called_safe pre good post at (Ok args) f = record {
        vars = box_vars p box number q s text vars fv;
        end = (
          waits_frame p box number q s text h.start pre.bind post slots true at fs (λ e. rejects),
          record {
            procedure = good.procedure;
            there = good.found;
            form =
                partial_form good.procedure.form good.is;
            args =
                to_kinds (param_kinds good.procedure.params) args f;
          },
        );
      }

      by : (pre : Option (Pre Ref)) → IsTrue (pre_fits s pre) → Begins h.start budget pre →
          FitsStep p box number
          (T.begun (method_code q) (number_of p box number) budget h.start (early_of pre) vars slots)
      by None fit b = b.by budget vars slots (le_refl budget) fv fs
      by (Some pre) fit b =
          let good = early pre.bind pre.call fit in
          called_safe pre good b.0 b.1 (arguments pre.call.args vars slots)
          (args_typed text.laws s vars slots fv fs pre.call.args (param_kinds good.procedure.params)
          good.args)

  -- all of a procedure: a step from its entry, from its rejection place and from its returns
  record FormSafe (f : Form Ref) (most : ℕ) : Type 0 where
    enters : (vars slots : List Value) → IsTrue (have_kinds s.vars vars) →
        IsTrue (have_kinds s.slots slots) → FitsStep p box number
        (entered (method_code q) (number_of p box number) most (entry_of f) vars slots)
    rejects : is_total f ≡ false → Here 0 most
    returns : Returns p box number q s text (form_code f) 0 most

  -- a form that fits is safe
  form_safe : (f : Form Ref) → q.form ≡ f → IsTrue (form_fits s f) → (most : ℕ) → FormSafe f most
  form_safe (F.Total ts) is fit most =
      let h : drop 0 (method_code q).instructions ≡ flat_map code_of ts ++ I.Return ∷ [] = ap form_code is in
      let b = (body_safe ts fit).by 0 most (I.Return ∷ []) h
      (return_safe (0 + length (flat_map code_of ts)) most []
      (rest_after (method_code q).instructions (flat_map code_of ts) (I.Return ∷ []) 0 h)) in
      record {
        enters = λ vars slots fv fs. b.0.by most vars slots (le_refl most) fv fs;
        rejects = λ e. absurd (true≢false e);
        returns = returns_append p box number q s text (flat_map code_of ts) (I.Return ∷ []) 0 most b.1 tt;
      }
  form_safe (F.Partial alts) is fit most =
      let h : drop 1 (method_code q).instructions ≡ flat_map alternative_code alts =
      ap (λ (f : Form Ref). drop 1 (form_code f)) is in
      let a = alternatives_safe alts 1 most (and_right (nat_le (length alts) 16) _ fit) h in
      record {
        enters = λ vars slots fv fs. chosen_safe (ap is_total is) most
            (chosen_head (heads 1 alts) vars slots) vars slots
            (head_safe most (heads 1 alts) vars slots a.0) fv fs;
        rejects = λ e. reject_safe 0 most (flat_map alternative_code alts) (ap form_code is);
        returns = a.1;
      }
  form_safe (F.Action alts) is fit most =
      let h : drop 1 (method_code q).instructions ≡ flat_map alternative_code alts =
      ap (λ (f : Form Ref). drop 1 (form_code f)) is in
      let a = alternatives_safe alts 1 most (and_right (nat_le (length alts) 16) _ fit) h in
      record {
        enters = λ vars slots fv fs. chosen_safe (ap is_total is) most
            (chosen_head (heads 1 alts) vars slots) vars slots
            (head_safe most (heads 1 alts) vars slots a.0) fv fs;
        rejects = λ e. reject_safe 0 most (flat_map alternative_code alts) (ap form_code is);
        returns = a.1;
      }

  -- one return place of them
  returns_get : (is : List Instruction) (at most n : ℕ) (name : Option Ref) →
      Returns p box number q s text is at most → slice_get is n ≡ Some (I.Take name) →
      SafeTaking p box number q s text (at + n) most × Here (at + n + 1) most
  returns_get [] at most n name r h = absurd (none_some (I.Take name) h)
  returns_get (i ∷ is) at most zero name r h = first i r (some_same i (I.Take name) h)
    where
      first : (i : Instruction) → Returns p box number q s text (i ∷ is) at most → i ≡ I.Take name →
          SafeTaking p box number q s text (at + 0) most × Here (at + 0 + 1) most
      first i r e =
          let t = subst (λ j. Returns p box number q s text (j ∷ is) at most) e r in (
            subst (λ n. SafeTaking p box number q s text n most) (omega arith) t.0.0,
            subst
                (λ n. Here n most) (omega arith) t.0.1,
          )
  returns_get (i ∷ is) at most (suc n) name r h = later i r (λ t. returns_get is (suc at) most n name t h)
    where
      moved : SafeTaking p box number q s text (suc at + n) most × Here (suc at + n + 1) most →
          SafeTaking p box number q s text (at + suc n) most × Here (at + suc n + 1) most
      moved t = (
        subst (λ n. SafeTaking p box number q s text n most) (omega arith) t.0,
        subst
            (λ n. Here n most) (omega arith) t.1,
      )

      later : (i : Instruction) → Returns p box number q s text (i ∷ is) at most →
          (Returns p box number q s text is (suc at) most →
          SafeTaking p box number q s text (suc at + n) most × Here (suc at + n + 1) most) →
          SafeTaking p box number q s text (at + suc n) most × Here (at + suc n + 1) most
      later (I.Set name e) r go = moved (go r)
      later (I.SkipUnless cond many) r go = moved (go r)
      later (I.Skip many) r go = moved (go r)
      later (I.Again cond many) r go = moved (go r)
      later (I.Call call) r go = moved (go r)
      later (I.Take name) r go = moved (go r.1)
      later I.Return r go = moved (go r)
      later I.Reject r go = moved (go r)

  -- a step from a place of the procedure
  place_safe : IsTrue (form_fits s q.form) → (place : ℕ) (slots : List Value) (budget : ℕ)
      (vars : List Value) → IsPlace q place slots → IsTrue (have_kinds s.vars vars) →
      FitsStep p box number (from_place (method_code q) (number_of p box number) budget place vars slots)
  place_safe fit place slots budget vars at fv = by at
    where
      f : FormSafe q.form budget
      f = form_safe q.form refl fit budget

      goal : ℕ → Type 0
      goal place = FitsStep p box number
          (from_place (method_code q) (number_of p box number) budget place vars slots)

      -- slots of the procedure pass the test
      right : HasSlots q slots → IsTrue (have_kinds s.slots slots)
      right fs = of_kinds s.slots slots (subst (λ ks. AreOf slots ks) (sym text.slots) fs)

      by : IsPlace q place slots → FitsStep p box number
          (from_place (method_code q) (number_of p box number) budget place vars slots)
      by (Fr.Entry e fs) = subst goal (sym e) (f.enters vars slots fv (right fs))
      by (Fr.Rejection e r fs) = subst goal (sym e)
          ((f.rejects r).by budget vars slots (le_refl budget) fv (right fs))
      by (Fr.Result at e t fs) =
          let n : suc (0 + at) ≡ place = omega (arith, e) in
          subst goal n ((returns_get (form_code q.form) 0 budget at t.0 f.returns t.1).0.by budget vars
          slots (le_refl budget) fv
          (of_kinds (s.slots ++ KV.Int ∷ []) slots
          (subst (λ ks. AreOf slots (ks ++ KV.Int ∷ [])) (sym text.slots) fs)))
      by (Fr.Return at e t fs) =
          let n : suc (0 + at + 1) ≡ place = omega (arith, e) in
          subst goal n ((returns_get (form_code q.form) 0 budget at t.0 f.returns t.1).1.by budget vars
          slots (le_refl budget) fv (right fs))

module _ (laws : KindLaws) (p : Program) (keeps : Keeps p) (box number : ℕ) (q : Proc Ref)
    (at : Stands p box number q) (there : procedure_of p box number ≡ Some q) where
  -- what the procedure sees
  abbrev its_scope : Scope
  its_scope = scope p keeps box number q at

  -- its text
  its_text : Text p box number q its_scope
  its_text = record {
    laws = laws;
    there = there;
    vars = sym (ap (λ (o : Option BoxInfo). vars_in
        (option_and_then (λ (b : BoxInfo). slice_get p.cats b.cat) o)) at.box_there
        ∙ ap vars_in at.cat_there);
    slots = refl;
  }

  -- a call that fits is good
  good_call : (form : Form Ref → Bool) (bind : Option Ref) (call : Call Ref) →
      IsTrue (call_fits its_scope form bind call) →
      GoodCall p box number q its_scope its_text form bind call
  good_call form bind call fit = by (called its_scope call) refl fit
    where
      by : (o : Option (Proc Ref)) → called its_scope call ≡ o →
          IsTrue (meets its_scope form bind call.args o) →
          GoodCall p box number q its_scope its_text form bind call
      by None e fit = absurd (true≢false (sym fit))
      by (Some r) e fit =
          let c = calls_below p keeps box number q at call r e in
          let rest = and_right (form r.form) _ fit in
          record {
            procedure = r;
            found = ap (λ (n : Ref). procedure_of p (target_of p box n) (method_of call.method))
                (sym c.given) ∙ c.there;
            is = and_left (form r.form) _ fit;
            args = and_left (arguments_fit its_scope call.args (param_kinds r.params)) _ rest;
            result = and_right (arguments_fit its_scope call.args (param_kinds r.params)) _ rest;
          }

  -- a step from a place of the procedure fits
  procedure_safe : (place : ℕ) (slots : List Value) (budget : ℕ) (vars : List Value) →
      IsPlace q place slots → HasVars p box vars →
      FitsStep p box number (from_place (method_code q) (number_of p box number) budget place vars slots)
  procedure_safe place slots budget vars stands fv =
      place_safe p box number q its_scope its_text (good_call is_total) (good_call is_partial)
      (keeps_procedure p keeps box number q at).text place slots budget vars stands
      (of_kinds its_scope.vars vars (subst (λ ks. AreOf vars ks) (sym its_text.vars) fv))

-- a step from a frame of the code, on variables of its box
pub step_fits : KindLaws → (p : Program) → Keeps p → (box : ℕ) (frame : Frame) (budget : ℕ)
    (vars : List Value) (f : IsFrame p box frame) → HasVars p box vars →
    FitsStep p box f.number (step (compiled p) frame budget vars)
step_fits laws p keeps box frame budget vars f fv =
    let q = f.procedure in
    subst (λ (x : Stepped). FitsStep p box f.number x)
    (sym (ap (λ n. step (compiled p) (record { method = n; place = frame.place; slots = frame.slots })
    budget vars) f.method
    ∙ ap (λ (o : Option Method). step_in o
    (record { method = number_of p box f.number; place = frame.place; slots = frame.slots }) budget
    vars) (coded p box f.number q f.there)))
    (procedure_safe laws p keeps box f.number q (stands p box f.number q f.there) f.there frame.place
    frame.slots budget vars f.place fv)
