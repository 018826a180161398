-- Each call of a step is one of the text of its procedure.
use Rattle.std.proofs.Common.{◌≡◌, ℕ, zero, suc, ◌+◌, ◌-◌, inl, inr, Bool, true, false, if◌then◌else◌}
use Rattle.std.proofs.Common.{IsTrue, List, [], ◌∷◌, ◌++◌, map, length, drop, Option, None, Some, Result}
use Rattle.std.proofs.Common.{Ok, Err, refl, sym, subst}
use Rattle.std.specs.Prelude.{nat_le}
use Rattle.std.specs.List.{flat_map}
use Rattle.seuss_base.specs.declared.outcome.Trap.{Trap}
use Rattle.seuss_program.specs.declared.tree.Ref.{Ref}
use Rattle.seuss_program.specs.declared.tree.Ref.TheVariants as R
use Rattle.seuss_program.specs.declared.tree.Call.{Call}
use Rattle.seuss_program.specs.declared.tree.Pre.{Pre}
use Rattle.seuss_program.specs.declared.tree.Form.{Form}
use Rattle.seuss_program.specs.declared.tree.Form.TheVariants as F
use Rattle.seuss_program.specs.declared.tree.Alternative.{Alternative}
use Rattle.seuss_program.specs.declared.tree.Statement.{Statement, fold-roll-Statement, map-Statement}
use Rattle.seuss_program.specs.declared.tree.Statement.{roll-Statement, ind-Statement}
use Rattle.seuss_program.specs.declared.tree.Statement.TheOpen as S
use Rattle.seuss_program.specs.declared.tree.Statement.TheOpen.{Statement-F}
use Rattle.seuss_program.specs.declared.state.Value.{Value}
use Rattle.seuss_program.specs.declared.tree.Kind.TheVariants as KV
use Rattle.seuss_program.specs.Keeping as K
use Rattle.seuss_program.specs.Keeping.{Scope, statement_fits, body_fits, call_fits, pre_fits}
use Rattle.seuss_program.specs.Keeping.{alternative_fits, alternatives_fit, form_fits, is_total, is_partial}
use Rattle.seuss_program.specs.Keeping.{all_true, kind_in, is_of}
use Rattle.seuss_program.specs.Programs.{method_of}
use Rattle.seuss_program.specs.Values.{Evaluated, value, bool_of}
use Rattle.seuss_program.specs.Bodies.{arguments}
use Rattle.method_code.specs.declared.instruction.Instruction.{Instruction}
use Rattle.method_code.specs.declared.instruction.Instruction.TheVariants as I
use Rattle.method_code.specs.declared.instruction.CallCode.{CallCode}
use Rattle.method_code.specs.declared.instruction.Move.{Move}
use Rattle.method_code.specs.declared.instruction.Move.TheVariants as M
use Rattle.method_code.specs.declared.method.Method.{Method}
use Rattle.method_code.specs.declared.method.Entry.{Entry}
use Rattle.method_code.specs.declared.method.Entry.TheVariants as N
use Rattle.method_code.specs.declared.method.Head.{Head}
use Rattle.method_code.specs.declared.frame.End.{End}
use Rattle.method_code.specs.declared.frame.End.TheVariants as E
use Rattle.method_code.specs.Codes.{code_of, code_step, joined, call_code, given_number, early_of}
use Rattle.method_code.specs.Codes.{take_code, last_code, alternative_code, heads, entry_of, form_code}
use Rattle.method_code.specs.Steps as T
use Rattle.method_code.specs.Steps.{Acted, acted, put, put_value, decided, called_with, Halted, walk}
use Rattle.method_code.specs.Steps.{walked, Stepped, leaves, paid, settled, runs, chosen_head, judged_head}
use Rattle.method_code.specs.Steps.{called_early, entered, from_place}
use Rattle.seuss_program.specs.Lines.{IsIn, calls_of, calls_step, body_calls, early_calls, pre_calls}
use Rattle.method_code.proofs.Statements.{each, each_each, code-layer, fits-layer}
use Rattle.method_code.proofs.Simulation.{and_left, and_right}

-- an item of one of two lists is an item of both together
pub in_left : {A : Type 0} (x : A) (xs ys : List A) → IsIn x xs → IsIn x (xs ++ ys)
in_left x [] ys h = elim h [ ]
in_left x (y ∷ xs) ys (inl e) = inl e
in_left x (y ∷ xs) ys (inr h) = inr (in_left x xs ys h)

-- an item of the second list is an item of both together
pub in_right : {A : Type 0} (x : A) (xs ys : List A) → IsIn x ys → IsIn x (xs ++ ys)
in_right x [] ys h = h
in_right x (y ∷ xs) ys h = inr (in_right x xs ys h)

-- the code of a call that is among these
pub record CodeOf (calls : List (Call Ref)) (target called : ℕ) : Type 0 where
  pub call : Call Ref
  pub given : call.target ≡ R.Given (given_number call.target)
  pub among : IsIn call calls
  pub target_is : given_number call.target ≡ target
  pub method_is : method_of call.method ≡ called

-- a call of the first texts is one of both
left_of : (xs ys : List (Call Ref)) (t c : ℕ) → CodeOf xs t c → CodeOf (xs ++ ys) t c
left_of xs ys t c h = record {
  call = h.call;
  given = h.given;
  among = in_left h.call xs ys h.among;
  target_is = h.target_is;
  method_is = h.method_is;
}

-- a call of the second texts is one of both
right_of : (xs ys : List (Call Ref)) (t c : ℕ) → CodeOf ys t c → CodeOf (xs ++ ys) t c
right_of xs ys t c h = record {
  call = h.call;
  given = h.given;
  among = in_right h.call xs ys h.among;
  target_is = h.target_is;
  method_is = h.method_is;
}

-- instructions whose calls are among these
abbrev pub CallIn : List (Call Ref) → Instruction → Type 0
CallIn calls (I.Set name e) = Unit {0}
CallIn calls (I.SkipUnless cond many) = Unit {0}
CallIn calls (I.Skip many) = Unit {0}
CallIn calls (I.Again cond many) = Unit {0}
CallIn calls (I.Call call) = CodeOf calls call.target call.method
CallIn calls (I.Take name) = Unit {0}
CallIn calls I.Return = Unit {0}
CallIn calls I.Reject = Unit {0}

-- each instruction calls what is among these
abbrev pub CallsIn : List (Call Ref) → List Instruction → Type 0
CallsIn calls [] = Unit {0}
CallsIn calls (i ∷ is) = CallIn calls i × CallsIn calls is

-- two parts of code call what is among these where both do
calls_append : (calls : List (Call Ref)) (xs ys : List Instruction) → CallsIn calls xs → CallsIn calls ys →
    CallsIn calls (xs ++ ys)
calls_append calls [] ys a b = b
calls_append calls (x ∷ xs) ys a b = (a.0, calls_append calls xs ys a.1 b)

-- a rest of code does where the code does
calls_drop : (calls : List (Call Ref)) (n : ℕ) (xs : List Instruction) → CallsIn calls xs →
    CallsIn calls (drop n xs)
calls_drop calls zero xs a = a
calls_drop calls (suc n) [] a = a
calls_drop calls (suc n) (x ∷ xs) a = calls_drop calls n xs a.1

-- among more calls
calls_wider : (few many : List (Call Ref)) → ((t c : ℕ) → CodeOf few t c → CodeOf many t c) →
    (is : List Instruction) → CallsIn few is → CallsIn many is
calls_wider few many f [] a = tt
calls_wider few many f (i ∷ is) a = (by i a.0, calls_wider few many f is a.1)
  where
    by : (i : Instruction) → CallIn few i → CallIn many i
    by (I.Set name e) a = tt
    by (I.SkipUnless cond many') a = tt
    by (I.Skip many') a = tt
    by (I.Again cond many') a = tt
    by (I.Call call) a = f call.target call.method a
    by (I.Take name) a = tt
    by I.Return a = tt
    by I.Reject a = tt

-- the calls of a statement, by those of the statements inside it
pub calls-layer : (d : Statement-F Ref (Statement Ref)) →
    calls_of (roll-Statement Ref d) ≡ calls_step
    (map-Statement Ref (Statement Ref) (List (Call Ref)) calls_of d)
unfolding calls_of
calls-layer d = fold-roll-Statement Ref (List (Call Ref)) calls_step d

-- the calls in the bodies of alternatives
abbrev alt_calls : List (Alternative Ref) → List (Call Ref)
alt_calls alts = flat_map (λ (a : Alternative Ref). flat_map calls_of a.body) alts

-- the preprocedures of alternatives
abbrev alt_pres : List (Alternative Ref) → List (Call Ref)
alt_pres alts = flat_map (λ (a : Alternative Ref). pre_calls a.pre) alts

-- heads whose early calls are among these
abbrev pub HeadsIn : List (Call Ref) → List Head → Type 0
HeadsIn calls [] = Unit {0}
HeadsIn calls (h ∷ hs) = ((call : CallCode) → h.early ≡ Some call → CodeOf calls call.target call.method)
    × HeadsIn calls hs

-- heads among more calls
heads_wider : (few many : List (Call Ref)) → ((t c : ℕ) → CodeOf few t c → CodeOf many t c) →
    (hs : List Head) → HeadsIn few hs → HeadsIn many hs
heads_wider few many f [] a = tt
heads_wider few many f (h ∷ hs) a =
    (λ call e. f call.target call.method (a.0 call e), heads_wider few many f hs a.1)

-- the heads of an entry are among these
abbrev pub EntryIn : List (Call Ref) → Entry → Type 0
EntryIn calls N.Total = Unit {0}
EntryIn calls (N.Partial hs) = HeadsIn calls hs

module _ (s : Scope)
    (given : (form : Form Ref → Bool) (bind : Option Ref) (call : Call Ref) →
    IsTrue (call_fits s form bind call) → call.target ≡ R.Given (given_number call.target)) where
  -- the code of a statement has its calls
  CodeSo : Statement Ref → Type 0
  CodeSo t = IsTrue (statement_fits s t) → CallsIn (calls_of t) (code_of t)

  -- a statement, by the statements inside it
  layer_code : (d : Statement-F Ref (Statement Ref)) →
      (IsTrue (K.statement_step s (map-Statement Ref (Statement Ref) Bool (statement_fits s) d)) →
      CallsIn (calls_step (map-Statement Ref (Statement Ref) (List (Call Ref)) calls_of d))
      (code_step (map-Statement Ref (Statement Ref) (List Instruction) code_of d))) →
      CodeSo (roll-Statement Ref d)
  unfolding CodeSo
  layer_code d h fit = subst (λ c. CallsIn (calls_of (roll-Statement Ref d)) c) (sym (code-layer d))
      (subst (λ l. CallsIn l (code_step (map-Statement Ref (Statement Ref) (List Instruction) code_of d)))
      (sym (calls-layer d)) (h (subst (λ b. IsTrue b) (fits-layer s d) fit)))

  -- all parts call what is among the calls of all
  joined_calls : {X : Type 0} (code : X → List Instruction) (calls : X → List (Call Ref)) (test : X → Bool)
      → ((x : X) → IsTrue (test x) → CallsIn (calls x) (code x)) → (xs : List X) →
      IsTrue (all_true (map test xs)) →
      CallsIn (flat_map (λ cs. cs) (map calls xs)) (joined (map code xs))
  joined_calls code calls test h [] ok = tt
  joined_calls code calls test h (x ∷ xs) ok =
      let rest = flat_map (λ cs. cs) (map calls xs) in
      calls_append (calls x ++ rest) (code x) (joined (map code xs))
      (calls_wider (calls x) (calls x ++ rest) (λ t c k. left_of (calls x) rest t c k) (code x)
      (h x (and_left (test x) _ ok)))
      (calls_wider rest (calls x ++ rest) (λ t c k. right_of (calls x) rest t c k) (joined (map code xs))
      (joined_calls code calls test h xs (and_right (test x) _ ok)))

  module _ (X : Type 0) (f : X → Statement Ref) (each_code : (x : X) → CodeSo (f x)) where
    -- the statements inside a statement
    inner : (xs : List X) → IsTrue (all_true (each (statement_fits s) (each f xs))) →
        CallsIn (flat_map (λ cs. cs) (each calls_of (each f xs))) (joined (each code_of (each f xs)))
    unfolding CodeSo
    inner xs fit =
        subst (λ l. CallsIn (flat_map (λ cs. cs) l) (joined (each code_of (each f xs))))
        (sym (each_each f calls_of xs))
        (subst (λ l. CallsIn (flat_map (λ cs. cs) (map (λ x. calls_of (f x)) xs)) (joined l))
        (sym (each_each f code_of xs))
        (joined_calls (λ x. code_of (f x)) (λ x. calls_of (f x)) (λ x. statement_fits s (f x)) each_code
        xs (subst (λ l. IsTrue (all_true l)) (each_each f (statement_fits s) xs) fit)))

    -- one layer of a statement
    layer : (y : Statement-F Ref X) → CodeSo (roll-Statement Ref (map-Statement Ref X (Statement Ref) f y))
    layer (S.Let name kind e) = layer_code (S.Let name kind e) (λ fit. (tt, tt))
    layer (S.Assign name e) = layer_code (S.Assign name e) (λ fit. (tt, tt))
    layer (S.Call bind call) = layer_code (S.Call bind call)
        (λ fit. (
          record {
            call = call;
            given = given is_total bind call fit;
            among = inl refl;
            target_is =
                refl;
            method_is = refl;
          },
          (tt, tt),
        ))
    layer (S.If cond holds fails) = layer_code (S.If cond (each f holds) (each f fails)) (λ fit.
        let both = and_right (is_of KV.Bool (kind_in s cond)) _ fit in
        let a = flat_map (λ cs. cs) (each calls_of (each f holds)) in
        let b = flat_map (λ cs. cs) (each calls_of (each f fails)) in (
          tt,
          calls_append (a ++ b) (joined (each code_of (each f holds))) _
              (calls_wider a (a ++ b) (λ t c k. left_of a b t c k) (joined (each code_of (each f holds)))
              (inner holds (and_left _ _ both))) (
                tt,
                calls_wider b (a ++ b) (λ t c k. right_of a b t c k)
                    (joined (each code_of (each f fails)))
                    (inner fails (and_right (all_true (each (statement_fits s) (each f holds))) _ both)),
              ),
        ))
    layer (S.While cond turn) = layer_code (S.While cond (each f turn)) (λ fit. (
      tt,
      calls_append (flat_map (λ cs. cs) (each calls_of (each f turn)))
          (joined (each code_of (each f turn))) _
          (inner turn (and_right (is_of KV.Bool (kind_in s cond)) _ fit)) (tt, tt),
    ))

  -- the code of a statement that fits has its calls
  statement_calls : (t : Statement Ref) → IsTrue (statement_fits s t) → CallsIn (calls_of t) (code_of t)
  unfolding CodeSo
  statement_calls = ind-Statement Ref CodeSo
      (λ x y is. subst (λ z. CodeSo (roll-Statement Ref z)) is (layer _ (λ e. e.0) (λ e. e.1) y))

  -- the code of a body that fits has its calls
  named_body : (ts : List (Statement Ref)) → IsTrue (body_fits s ts) →
      CallsIn (flat_map calls_of ts) (flat_map code_of ts)
  named_body [] fit = tt
  named_body (t ∷ ts) fit =
      let rest = flat_map calls_of ts in
      calls_append (calls_of t ++ rest) (code_of t) (flat_map code_of ts)
      (calls_wider (calls_of t) (calls_of t ++ rest) (λ n c k. left_of (calls_of t) rest n c k)
      (code_of t) (statement_calls t (and_left (statement_fits s t) _ fit)))
      (calls_wider rest (calls_of t ++ rest) (λ n c k. right_of (calls_of t) rest n c k)
      (flat_map code_of ts) (named_body ts (and_right (statement_fits s t) _ fit)))

  -- the code of alternatives that fit has the calls of their bodies
  named_alternatives : (alts : List (Alternative Ref)) → IsTrue (alternatives_fit s alts) →
      CallsIn (alt_calls alts) (flat_map alternative_code alts)
  named_alternatives [] fit = tt
  named_alternatives (a ∷ alts) fit =
      let own = and_right (is_of KV.Bool (kind_in s a.cond)) _ (and_left (alternative_fits s a) _ fit) in
      let mine = flat_map calls_of a.body in
      let all = mine ++ alt_calls alts in
      calls_append all (alternative_code a) (flat_map alternative_code alts)
      (calls_append all (take_code a.pre) (flat_map code_of a.body ++ last_code a) (taken a.pre)
      (calls_append all (flat_map code_of a.body) (last_code a)
      (calls_wider mine all (λ t c k. left_of mine (alt_calls alts) t c k) (flat_map code_of a.body)
      (named_body a.body (and_right (pre_fits s a.pre) _ own))) (last a.positive)))
      (calls_wider (alt_calls alts) all (λ t c k. right_of mine (alt_calls alts) t c k)
      (flat_map alternative_code alts)
      (named_alternatives alts (and_right (alternative_fits s a) _ fit)))
    where
      taken : (pre : Option (Pre Ref)) → CallsIn (flat_map calls_of a.body ++ alt_calls alts) (take_code pre)
      taken None = tt
      taken (Some pre) = (tt, tt)

      last : (b : Bool) → CallsIn (flat_map calls_of a.body ++ alt_calls alts)
          ((if b then I.Return else I.Reject) ∷ [])
      last true = (tt, tt)
      last false = (tt, tt)

  -- alternatives that fit begin with the preprocedures of their text
  named_heads : (at : ℕ) (alts : List (Alternative Ref)) → IsTrue (alternatives_fit s alts) →
      HeadsIn (alt_pres alts) (heads at alts)
  named_heads at [] fit = tt
  named_heads at (a ∷ alts) fit =
      let own = and_right (is_of KV.Bool (kind_in s a.cond)) _ (and_left (alternative_fits s a) _ fit) in
      let mine = pre_calls a.pre in (
        λ call e. left_of mine (alt_pres alts) call.target call.method
            (by a.pre (and_left (pre_fits s a.pre) _ own) call e),
        heads_wider (alt_pres alts) (mine ++ alt_pres alts) (λ t c k. right_of mine (alt_pres alts) t c k)
            (heads (at + length (alternative_code a)) alts)
            (named_heads (at + length (alternative_code a)) alts (and_right (alternative_fits s a) _ fit)),
      )
    where
      by : (pre : Option (Pre Ref)) → IsTrue (pre_fits s pre) → (call : CallCode) →
          early_of pre ≡ Some call → CodeOf (pre_calls pre) call.target call.method
      by None fit call e = absurd (none_some e)
        where
          none_some : None ≡ Some call → ⊥
          none_some e = cc
      by (Some pre) fit call e = subst (λ (c : CallCode). CodeOf (pre.call ∷ []) c.target c.method) (same e)
          (record {
            call = pre.call;
            given = given is_partial pre.bind pre.call fit;
            among = inl refl;
            target_is = refl;
            method_is = refl;
          })
        where
          same : Some (call_code pre.call) ≡ Some call → call_code pre.call ≡ call
          same e = cc

  -- the code of a form that fits has its calls
  pub named_form : (f : Form Ref) → IsTrue (form_fits s f) →
      CallsIn (body_calls f) (form_code f) × EntryIn (early_calls f) (entry_of f)
  named_form (F.Total ts) fit = (
    calls_append (flat_map calls_of ts) (flat_map code_of ts) (I.Return ∷ []) (named_body ts fit)
        (tt, tt),
    tt,
  )
  named_form (F.Partial alts) fit = let ok = and_right (nat_le (length alts) 16) _ fit in
      ((tt, named_alternatives alts ok), named_heads 1 alts ok)
  named_form (F.Action alts) fit = let ok = and_right (nat_le (length alts) 16) _ fit in
      ((tt, named_alternatives alts ok), named_heads 1 alts ok)

module _ (late early : List (Call Ref)) where
  -- an end whose call is of the text
  abbrev pub EndNamed : End → Type 0
  EndNamed (E.Call target called args true) = CodeOf early target called
  EndNamed (E.Call target called args false) = CodeOf late target called
  EndNamed (E.Returned found) = Unit {0}
  EndNamed E.RejectedPlain = Unit {0}
  EndNamed E.Rejected = Unit {0}
  EndNamed (E.Trapped t) = Unit {0}
  EndNamed E.Spent = Unit {0}

  -- a call after an instruction is among these
  abbrev MoveNamed : Move → Type 0
  MoveNamed (M.On many) = Unit {0}
  MoveNamed (M.Back many) = Unit {0}
  MoveNamed (M.Call target called args) = CodeOf late target called
  MoveNamed M.Return = Unit {0}
  MoveNamed M.Reject = Unit {0}
  MoveNamed (M.Trap t) = Unit {0}

  -- a name that takes a value calls nothing
  put_named : (name : Ref) (v : Value) (vars slots : List Value) → MoveNamed (put name v vars slots).move
  put_named (R.Var k) v vars slots = tt
  put_named (R.Slot k) v vars slots = tt
  put_named (R.Given k) v vars slots = tt
  put_named (R.Method k) v vars slots = tt
  put_named (R.Cat k) v vars slots = tt

  -- an instruction calls what is among these
  acted_named : (i : Instruction) → CallIn late i → (vars slots : List Value) →
      MoveNamed (acted i vars slots).move
  acted_named (I.Set name e) c vars slots = by (value e vars slots)
    where
      by : (ev : Evaluated) → MoveNamed (put_value name ev vars slots).move
      by (Err t) = tt
      by (Ok v) = put_named name v vars slots
  acted_named (I.SkipUnless cond many) c vars slots = by (value cond vars slots)
    where
      either : (b : Bool) → MoveNamed (if b then M.On 0 else M.On many)
      either true = tt
      either false = tt

      by : (ev : Evaluated) → MoveNamed (decided ev (M.On 0) (M.On many))
      by (Err t) = tt
      by (Ok v) = either (bool_of v)
  acted_named (I.Skip many) c vars slots = tt
  acted_named (I.Again cond many) c vars slots = by (value cond vars slots)
    where
      either : (b : Bool) → MoveNamed (if b then M.Back many else M.On 0)
      either true = tt
      either false = tt

      by : (ev : Evaluated) → MoveNamed (decided ev (M.Back many) (M.On 0))
      by (Err t) = tt
      by (Ok v) = either (bool_of v)
  acted_named (I.Call call) c vars slots = by (arguments call.args vars slots)
    where
      by : (args : Result (List Value) Trap) → MoveNamed (called_with call args)
      by (Err t) = tt
      by (Ok args) = c
  acted_named (I.Take None) c vars slots = tt
  acted_named (I.Take (Some name)) c vars slots = put_named name _ vars _
  acted_named I.Return c vars slots = tt
  acted_named I.Reject c vars slots = tt

  -- and so does what a walk halts at
  walked_named : (move : Move) (at : ℕ) (a : Acted) (next : ℕ → List Value → List Value → Halted) →
      MoveNamed a.move →
      ((skip : ℕ) (vars slots : List Value) → MoveNamed (next skip vars slots).move) →
      MoveNamed (walked move at a next).move
  walked_named (M.On many) at a next here there = there many a.vars a.slots
  walked_named (M.Back many) at a next here there = here
  walked_named (M.Call target called args) at a next here there = here
  walked_named M.Return at a next here there = here
  walked_named M.Reject at a next here there = here
  walked_named (M.Trap t) at a next here there = here

  -- a walk halts at a call among these, if at any
  walk_named : (is : List Instruction) (at skip : ℕ) (vars slots : List Value) → CallsIn late is →
      MoveNamed (walk is at skip vars slots).move
  walk_named [] at skip vars slots h = tt
  walk_named (i ∷ is) at (suc skip) vars slots h = walk_named is (suc at) skip vars slots h.1
  walk_named (i ∷ is) at zero vars slots h =
      walked_named (acted i vars slots).move at (acted i vars slots) (walk is (suc at))
      (acted_named i h.0 vars slots) (λ skip vs ss. walk_named is (suc at) skip vs ss h.1)

  -- a step that settles ends by a call among these, if by any
  settled_named : (m : Method) (method budget : ℕ) (turn : ℕ → List Value → List Value → Stepped)
      (h : Halted) (move : Move) → MoveNamed move →
      ((to : ℕ) (vars slots : List Value) → EndNamed (turn to vars slots).end) →
      EndNamed (settled m method budget turn h move).end
  settled_named m method budget turn h (M.On many) n turns = tt
  settled_named m method budget turn h (M.Back many) n turns = turns (h.at - many) h.vars h.slots
  settled_named m method zero turn h (M.Call target called args) n turns = tt
  settled_named m method (suc left) turn h (M.Call target called args) n turns = n
  settled_named m method budget turn h M.Return n turns = tt
  settled_named m method budget turn h M.Reject n turns = tt
  settled_named m method budget turn h (M.Trap t) n turns = tt

  -- so does a step from an instruction
  runs_named : (m : Method) (method budget at : ℕ) (vars slots : List Value) → CallsIn late m.instructions →
      EndNamed (runs m method budget at vars slots).end
  runs_named m method zero at vars slots calls =
      let h : Halted = walk (drop at m.instructions) at 0 vars slots in
      settled_named m method zero (λ to vs ss. leaves method 0 vs E.Spent) h h.move
      (walk_named (drop at m.instructions) at 0 vars slots (calls_drop late at m.instructions calls))
      (λ to vs ss. tt)
  runs_named m method (suc left) at vars slots calls =
      let h : Halted = walk (drop at m.instructions) at 0 vars slots in
      settled_named m method (suc left) (runs m method left) h h.move
      (walk_named (drop at m.instructions) at 0 vars slots (calls_drop late at m.instructions calls))
      (λ to vs ss. runs_named m method left to vs ss calls)

  -- the chosen alternative begins with a call among these
  abbrev HeadNamed : Result (Option Head) Trap → Type 0
  HeadNamed (Err t) = Unit {0}
  HeadNamed (Ok None) = Unit {0}
  HeadNamed (Ok (Some h)) = (call : CallCode) → h.early ≡ Some call → CodeOf early call.target call.method

  -- the first alternative that holds is one of the heads
  head_named : (hs : List Head) (vars slots : List Value) → HeadsIn early hs →
      HeadNamed (chosen_head hs vars slots)
  head_named [] vars slots each = tt
  head_named (h ∷ hs) vars slots each = by (value h.cond vars slots) (head_named hs vars slots each.1)
    where
      either : (b : Bool) → HeadNamed (chosen_head hs vars slots) →
          HeadNamed (if b then Ok (Some h) else chosen_head hs vars slots)
      either true others = each.0
      either false others = others

      by : (ev : Evaluated) → HeadNamed (chosen_head hs vars slots) →
          HeadNamed (judged_head ev h (chosen_head hs vars slots))
      by (Err t) others = tt
      by (Ok v) others = either (bool_of v) others

  -- a chosen alternative ends a step by a call among these, if by any
  chosen_named : (m : Method) (method budget : ℕ) (r : Result (Option Head) Trap) (vars slots : List Value)
      → CallsIn late m.instructions → HeadNamed r → EndNamed (T.chosen m method budget r vars slots).end
  chosen_named m method budget (Err t) vars slots calls ok = tt
  chosen_named m method budget (Ok None) vars slots calls ok = tt
  chosen_named m method budget (Ok (Some h)) vars slots calls ok = by h.early ok
    where
      called : (call : CallCode) → CodeOf early call.target call.method →
          (args : Result (List Value) Trap) → EndNamed
          (called_early method h.start budget call args vars slots).end
      called call n (Err t) = tt
      called call n (Ok args) = n

      by : (o : Option CallCode) →
          ((call : CallCode) → o ≡ Some call → CodeOf early call.target call.method) →
          EndNamed (T.begun m method budget h.start o vars slots).end
      by None ok = runs_named m method budget h.start vars slots calls
      by (Some call) ok = called call (ok call refl) (arguments call.args vars slots)

  -- so does a step from an entry
  entered_named : (m : Method) (method budget : ℕ) (e : Entry) (vars slots : List Value) →
      CallsIn late m.instructions → EntryIn early e → EndNamed (entered m method budget e vars slots).end
  entered_named m method budget N.Total vars slots calls heads =
      runs_named m method budget 0 vars slots calls
  entered_named m method budget (N.Partial hs) vars slots calls heads =
      chosen_named m method budget (chosen_head hs vars slots) vars slots calls
      (head_named hs vars slots heads)

  -- so does a step from any place
  pub placed_named : (m : Method) (method budget place : ℕ) (vars slots : List Value) →
      CallsIn late m.instructions → EntryIn early m.entry →
      EndNamed (from_place m method budget place vars slots).end
  placed_named m method budget zero vars slots calls heads =
      entered_named m method budget m.entry vars slots calls heads
  placed_named m method budget (suc at) vars slots calls heads =
      runs_named m method budget at vars slots calls
