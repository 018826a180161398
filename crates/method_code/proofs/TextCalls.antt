-- The calls of a text: each one fits, and stands in the code of its procedure.
use Rattle.std.proofs.Common.{◌≡◌, ℕ, ◌+◌, ◌⊎◌, inl, inr, Bool, IsTrue, List, [], ◌∷◌, ◌++◌, map, length}
use Rattle.std.proofs.Common.{Option, None, Some, refl, sym, ap, ◌∙◌, subst}
use Rattle.std.specs.Prelude.{nat_le}
use Rattle.std.specs.List.{flat_map}
use Rattle.seuss_program.specs.declared.tree.Ref.{Ref}
use Rattle.seuss_program.specs.declared.tree.Call.{Call}
use Rattle.seuss_program.specs.declared.tree.Pre.{Pre}
use Rattle.seuss_program.specs.declared.tree.Form.{Form}
use Rattle.seuss_program.specs.declared.tree.Form.TheVariants as F
use Rattle.seuss_program.specs.declared.tree.Alternative.{Alternative}
use Rattle.seuss_program.specs.declared.tree.Statement.{Statement, map-Statement, roll-Statement}
use Rattle.seuss_program.specs.declared.tree.Statement.{ind-Statement}
use Rattle.seuss_program.specs.declared.tree.Statement.TheOpen as S
use Rattle.seuss_program.specs.declared.tree.Statement.TheOpen.{Statement-F}
use Rattle.seuss_program.specs.declared.tree.Kind.TheVariants as KV
use Rattle.seuss_program.specs.Keeping as K
use Rattle.seuss_program.specs.Keeping.{Scope, statement_fits, body_fits, call_fits, pre_fits}
use Rattle.seuss_program.specs.Keeping.{alternative_fits, alternatives_fit, form_fits, is_total, is_partial}
use Rattle.seuss_program.specs.Keeping.{all_true, kind_in, is_of}
use Rattle.seuss_program.specs.Lines.{IsIn, calls_of, calls_step, body_calls, early_calls, pre_calls}
use Rattle.method_code.specs.declared.instruction.Instruction.{Instruction}
use Rattle.method_code.specs.declared.instruction.Instruction.TheVariants as I
use Rattle.method_code.specs.Codes.{code_of, code_step, joined, call_code, early_of, take_code, last_code}
use Rattle.method_code.specs.Codes.{alternative_code, heads, entry_of, form_code}
use Rattle.method_code.specs.CallsOfTexts.{heads_of, IsBodyCall, IsHeadCall}
use Rattle.method_code.proofs.Statements.{each, each_each, code-layer, fits-layer}
use Rattle.method_code.proofs.Simulation.{and_left, and_right}
use Rattle.method_code.proofs.NamedCalls.{in_left, in_right, calls-layer}

-- an item of two lists is one of the first or of the second
in_either : {A : Type 0} (x : A) (xs ys : List A) → IsIn x (xs ++ ys) → IsIn x xs ⊎ IsIn x ys
in_either x [] ys h = inr h
in_either x (y ∷ xs) ys (inl e) = inl (inl e)
in_either x (y ∷ xs) ys (inr h) = by (in_either x xs ys h)
  where
    by : IsIn x xs ⊎ IsIn x ys → ((y ≡ x) ⊎ IsIn x xs) ⊎ IsIn x ys
    by (inl a) = inl (inr a)
    by (inr b) = inr b

module _ (s : Scope) where
  -- each of these calls is one of the code
  pub record AllCalled (calls : List (Call Ref)) (code : List Instruction) : Type 0 where
    pub each : (call : Call Ref) → IsIn call calls → IsBodyCall s call code

  -- no calls are all in any code
  none_called : (code : List Instruction) → AllCalled [] code
  none_called code = record { each = λ call h. elim h [ ] }

  -- in more code
  called_wider : (calls : List (Call Ref)) (few many : List Instruction) → ((i : Instruction) → IsIn i few →
      IsIn i many) → AllCalled calls few → AllCalled calls many
  called_wider calls few many f h = record {
    each = λ call is.
        let c = h.each call is in record {
          bind = c.bind;
          fits = c.fits;
          stands =
              f (I.Call (call_code call)) c.stands;
        };
  }

  -- two lists of calls in one code
  called_both : (xs ys : List (Call Ref)) (code : List Instruction) → AllCalled xs code →
      AllCalled ys code → AllCalled (xs ++ ys) code
  called_both xs ys code a b = record { each = λ call is. by call (in_either call xs ys is) }
    where
      by : (call : Call Ref) → IsIn call xs ⊎ IsIn call ys → IsBodyCall s call code
      by call (inl h) = a.each call h
      by call (inr h) = b.each call h

  -- two lists of calls, each in a part of the code
  called_append : (xs ys : List (Call Ref)) (is js : List Instruction) → AllCalled xs is → AllCalled ys js →
      AllCalled (xs ++ ys) (is ++ js)
  called_append xs ys is js a b =
      called_both xs ys (is ++ js) (called_wider xs is (is ++ js) (λ i h. in_left i is js h) a)
      (called_wider ys js (is ++ js) (λ i h. in_right i is js h) b)

  -- the calls of a statement that fits stand in its code
  CalledSo : Statement Ref → Type 0
  CalledSo t = IsTrue (statement_fits s t) → AllCalled (calls_of t) (code_of t)

  -- a statement, by the statements inside it
  layer_called : (d : Statement-F Ref (Statement Ref)) →
      (IsTrue (K.statement_step s (map-Statement Ref (Statement Ref) Bool (statement_fits s) d)) →
      AllCalled (calls_step (map-Statement Ref (Statement Ref) (List (Call Ref)) calls_of d))
      (code_step (map-Statement Ref (Statement Ref) (List Instruction) code_of d))) →
      CalledSo (roll-Statement Ref d)
  unfolding CalledSo
  layer_called d h fit =
      subst (λ c. AllCalled (calls_of (roll-Statement Ref d)) c) (sym (code-layer d))
      (subst (λ l. AllCalled l (code_step (map-Statement Ref (Statement Ref) (List Instruction) code_of d)))
      (sym (calls-layer d)) (h (subst (λ b. IsTrue b) (fits-layer s d) fit)))

  -- the calls of all parts in the code of all parts
  joined_called : {X : Type 0} (code : X → List Instruction) (calls : X → List (Call Ref)) (test : X →
      Bool) → ((x : X) → IsTrue (test x) → AllCalled (calls x) (code x)) →
      (xs : List X) → IsTrue (all_true (map test xs)) → AllCalled (flat_map (λ cs. cs) (map calls xs))
      (joined (map code xs))
  joined_called code calls test h [] ok = none_called []
  joined_called code calls test h (x ∷ xs) ok =
      called_append (calls x) (flat_map (λ cs. cs) (map calls xs)) (code x) (joined (map code xs))
      (h x (and_left (test x) _ ok)) (joined_called code calls test h xs (and_right (test x) _ ok))

  module _ (X : Type 0) (f : X → Statement Ref) (each_called : (x : X) → CalledSo (f x)) where
    -- the statements inside a statement
    inner : (xs : List X) → IsTrue (all_true (each (statement_fits s) (each f xs))) →
        AllCalled (flat_map (λ cs. cs) (each calls_of (each f xs))) (joined (each code_of (each f xs)))
    unfolding CalledSo
    inner xs fit =
        subst (λ l. AllCalled (flat_map (λ cs. cs) l) (joined (each code_of (each f xs))))
        (sym (each_each f calls_of xs))
        (subst (λ l. AllCalled (flat_map (λ cs. cs) (map (λ x. calls_of (f x)) xs)) (joined l))
        (sym (each_each f code_of xs))
        (joined_called (λ x. code_of (f x)) (λ x. calls_of (f x)) (λ x. statement_fits s (f x)) each_called
        xs (subst (λ l. IsTrue (all_true l)) (each_each f (statement_fits s) xs) fit)))

    -- one layer of a statement
    layer : (y : Statement-F Ref X) → CalledSo (roll-Statement Ref (map-Statement Ref X
        (Statement Ref) f y))
    layer (S.Let name kind e) = layer_called (S.Let name kind e) (λ fit. none_called _)
    layer (S.Assign name e) = layer_called (S.Assign name e) (λ fit. none_called _)
    layer (S.Call bind call) = layer_called (S.Call bind call) (λ fit. one bind call fit)
      where
        one : (bind : Option Ref) (call : Call Ref) → IsTrue (call_fits s is_total bind call) →
            AllCalled (call ∷ []) (I.Call (call_code call) ∷ I.Take bind ∷ [])
        one bind call fit = record { each = λ other h. by other h }
          where
            by : (other : Call Ref) → (call ≡ other) ⊎ ⊥ → IsBodyCall s other
                (I.Call (call_code call) ∷ I.Take bind ∷ [])
            by other (inl e) = subst (λ c. IsBodyCall s c (I.Call (call_code call) ∷ I.Take bind ∷ [])) e
                (record { bind = bind; fits = fit; stands = inl refl })
            by other (inr h) = elim h [ ]
    layer (S.If cond holds fails) = layer_called (S.If cond (each f holds) (each f fails)) (λ fit.
        let both = and_right (is_of KV.Bool (kind_in s cond)) _ fit in
        let a = flat_map (λ cs. cs) (each calls_of (each f holds)) in
        let b = flat_map (λ cs. cs) (each calls_of (each f fails)) in
        let first = joined (each code_of (each f holds)) in
        let second = joined (each code_of (each f fails)) in
        let skip = I.Skip (length second) in
        called_wider (a ++ b) (first ++ (skip ∷ second)) (I.SkipUnless cond (length first + 1) ∷
        (first ++ (skip ∷ second))) (λ i h. inr h)
        (called_append a b first (skip ∷ second) (inner holds (and_left _ _ both))
        (called_wider b second (skip ∷ second) (λ i h. inr h)
        (inner fails (and_right (all_true (each (statement_fits s) (each f holds))) _ both)))))
    layer (S.While cond turn) = layer_called (S.While cond (each f turn)) (λ fit.
        let a = flat_map (λ cs. cs) (each calls_of (each f turn)) in
        let first = joined (each code_of (each f turn)) in
        called_wider a first (I.Skip (length first) ∷ (first ++ (I.Again cond (length first) ∷ [])))
        (λ i h. inr (in_left i first (I.Again cond (length first) ∷ []) h))
        (inner turn (and_right (is_of KV.Bool (kind_in s cond)) _ fit)))

  -- each statement that fits has its calls in its code
  statement_called : (t : Statement Ref) → IsTrue (statement_fits s t) → AllCalled (calls_of t) (code_of t)
  unfolding CalledSo
  statement_called = ind-Statement Ref CalledSo (λ x y is. subst (λ z. CalledSo (roll-Statement Ref z)) is
      (layer _ (λ e. e.0) (λ e. e.1) y))

  -- each body that fits has its calls in its code
  body_called : (ts : List (Statement Ref)) → IsTrue (body_fits s ts) → AllCalled (flat_map calls_of ts)
      (flat_map code_of ts)
  body_called [] fit = none_called []
  body_called (t ∷ ts) fit =
      called_append (calls_of t) (flat_map calls_of ts) (code_of t) (flat_map code_of ts)
      (statement_called t (and_left (statement_fits s t) _ fit))
      (body_called ts (and_right (statement_fits s t) _ fit))

  -- alternatives that fit have the calls of their bodies in their code
  alternatives_called : (alts : List (Alternative Ref)) → IsTrue (alternatives_fit s alts) →
      AllCalled (flat_map (λ (a : Alternative Ref). flat_map calls_of a.body) alts)
      (flat_map alternative_code alts)
  alternatives_called [] fit = none_called []
  alternatives_called (a ∷ alts) fit =
      let own = and_right (is_of KV.Bool (kind_in s a.cond)) _ (and_left (alternative_fits s a) _ fit) in
      called_append (flat_map calls_of a.body) (flat_map (λ (a : Alternative Ref). flat_map calls_of a.body)
      alts) (alternative_code a) (flat_map alternative_code alts)
      (called_wider (flat_map calls_of a.body) (flat_map code_of a.body) (alternative_code a)
      (λ i h. in_right i (take_code a.pre) (flat_map code_of a.body ++ last_code a)
      (in_left i (flat_map code_of a.body) (last_code a) h))
      (body_called a.body (and_right (pre_fits s a.pre) _ own)))
      (alternatives_called alts (and_right (alternative_fits s a) _ fit))

  -- alternatives that fit begin with the preprocedures of their text
  heads_called : (at : ℕ) (alts : List (Alternative Ref)) → IsTrue (alternatives_fit s alts) →
      (call : Call Ref) → IsIn call (flat_map (λ (a : Alternative Ref). pre_calls a.pre) alts) →
      IsHeadCall s call (heads at alts)
  heads_called at [] fit call h = elim h [ ]
  heads_called at (a ∷ alts) fit call h =
      by (in_either call (pre_calls a.pre) (flat_map (λ (a : Alternative Ref). pre_calls a.pre) alts) h)
      (heads_called (at + length (alternative_code a)) alts (and_right (alternative_fits s a) _ fit) call)
    where
      own : (pre : Option (Pre Ref)) → a.pre ≡ pre → IsTrue (pre_fits s pre) → IsIn call (pre_calls pre) →
          IsHeadCall s call (heads at (a ∷ alts))
      own None e ok is = elim is [ ]
      own (Some pre) e ok (inl is) = record {
        bind = pre.bind;
        fits = subst (λ (c : Call Ref). IsTrue (call_fits s is_partial pre.bind c)) is ok;
        head = record { cond = a.cond; early = early_of a.pre; start = at };
        stands = inl refl;
        early = ap early_of e ∙ ap (λ (c : Call Ref). Some (call_code c)) is;
      }
      own (Some pre) e ok (inr is) = elim is [ ]

      by : IsIn call (pre_calls a.pre) ⊎ IsIn call (flat_map (λ (a : Alternative Ref). pre_calls a.pre)
          alts) →
          (IsIn call (flat_map (λ (a : Alternative Ref). pre_calls a.pre) alts) → IsHeadCall s call
          (heads (at + length (alternative_code a)) alts)) →
          IsHeadCall s call (heads at (a ∷ alts))
      by (inl is) others = own a.pre refl (and_left (pre_fits s a.pre) _
          (and_right (is_of KV.Bool (kind_in s a.cond)) _ (and_left (alternative_fits s a) _ fit))) is
      by (inr is) others = let c = others is in record {
        bind = c.bind;
        fits = c.fits;
        head =
            c.head;
        stands = inr c.stands;
        early = c.early;
      }

  -- the code of a form that fits has the calls of its bodies
  pub bodies_called : (f : Form Ref) → IsTrue (form_fits s f) → AllCalled (body_calls f) (form_code f)
  bodies_called (F.Total ts) fit =
      called_wider (flat_map calls_of ts) (flat_map code_of ts) (flat_map code_of ts ++ (I.Return ∷ []))
      (λ i h. in_left i (flat_map code_of ts) (I.Return ∷ []) h) (body_called ts fit)
  bodies_called (F.Partial alts) fit =
      called_wider (body_calls (F.Partial alts)) (flat_map alternative_code alts)
      (I.Reject ∷ flat_map alternative_code alts) (λ i h. inr h) (alternatives_called alts
      (and_right (nat_le (length alts) 16) _ fit))
  bodies_called (F.Action alts) fit =
      called_wider (body_calls (F.Action alts)) (flat_map alternative_code alts)
      (I.Reject ∷ flat_map alternative_code alts) (λ i h. inr h) (alternatives_called alts
      (and_right (nat_le (length alts) 16) _ fit))

  -- the entry of a form that fits has the calls of its preprocedures
  pub pres_called : (f : Form Ref) → IsTrue (form_fits s f) → (call : Call Ref) →
      IsIn call (early_calls f) → IsHeadCall s call (heads_of (entry_of f))
  pres_called (F.Total ts) fit call h = elim h [ ]
  pres_called (F.Partial alts) fit call h = heads_called 1 alts (and_right (nat_le (length alts) 16) _ fit)
      call h
  pres_called (F.Action alts) fit call h = heads_called 1 alts (and_right (nat_le (length alts) 16) _ fit)
      call h
