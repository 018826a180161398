-- The code of a checked procedure keeps the kinds and the sizes of variables and slots.
use Rattle.std.proofs.Common.{◌≡◌, ℕ, zero, suc, ◌+◌, ◌-◌, ◌≤◌, Bool, true, false, not, if◌then◌else◌}
use Rattle.std.proofs.Common.{IsTrue, List, [], ◌∷◌, ◌++◌, map, length, take, drop, Option, None, Some}
use Rattle.std.proofs.Common.{Result, Ok, Err, refl, sym, ap, ◌∙◌, subst, arith, append_assoc}
use Rattle.std.proofs.Common.{length-append, zero-le, le_refl, true≢false}
use Rattle.std.specs.Prelude.{slice_get, slice_set}
use Rattle.seuss_base.specs.declared.outcome.Trap.{Trap}
use Rattle.seuss_program.specs.declared.program.Program.{Program}
use Rattle.seuss_program.specs.declared.tree.Ref.{Ref}
use Rattle.seuss_program.specs.declared.tree.Ref.TheVariants as R
use Rattle.seuss_program.specs.declared.tree.Kind.{Kind}
use Rattle.seuss_program.specs.declared.tree.Kind.TheVariants as KV
use Rattle.seuss_program.specs.declared.tree.Expr.{Expr}
use Rattle.seuss_program.specs.declared.tree.Call.{Call}
use Rattle.seuss_program.specs.declared.tree.Proc.{Proc}
use Rattle.seuss_program.specs.declared.tree.Form.{Form}
use Rattle.seuss_program.specs.declared.state.Value.{Value}
use Rattle.seuss_program.specs.declared.state.Value.TheVariants as V
use Rattle.seuss_program.specs.Programs.{cat_of, procedure_of, target_of, method_of}
use Rattle.seuss_program.specs.Values.{Evaluated, value, bool_of}
use Rattle.seuss_program.specs.Bodies.{arguments, arguments_after, argument_then}
use Rattle.seuss_program.specs.Keeping.{AreOf, Scope, vars_in, slot_kinds, kind_at, kind_set, kind_in, is_of}
use Rattle.seuss_program.specs.Keeping.{arguments_fit, bind_fits, param_kinds, is_total, all_true}
use Rattle.method_code.specs.declared.instruction.Instruction.{Instruction}
use Rattle.method_code.specs.declared.instruction.Instruction.TheVariants as I
use Rattle.method_code.specs.declared.instruction.Move.{Move}
use Rattle.method_code.specs.declared.instruction.Move.TheVariants as M
use Rattle.method_code.specs.declared.method.Method.{Method}
use Rattle.method_code.specs.Codes.{number_of, form_code, method_code, call_code, given_number, joined}
use Rattle.method_code.specs.Codes.{if_code, while_code}
use Rattle.method_code.specs.Steps.{acts, acted, put, put_value, decided, called_with, last_number}
use Rattle.method_code.specs.Steps.{all_but_last, Stepped, runs}
use Rattle.method_code.specs.Frames.{HasVars, IsWaiting, FitsStep}
use Rattle.method_code.proofs.Going.{rest_after, runs_on, runs_stop}
use Rattle.method_code.proofs.Simulation.{and_left, and_right}
use Rattle.method_code.proofs.KindLists.{has_kind, have_kinds, both_true, to_kinds, number_fits}
use Rattle.method_code.proofs.TypingLaws.{KindLaws}
use Rattle.method_code.proofs.TypedValues.{Typed, value_typed}

-- nothing is not something
pub none_some : {A : Type 0} (x : A) → None ≡ Some x → ⊥
none_some x h = cc

-- what is found is one value
pub some_same : {A : Type 0} (x y : A) → Some x ≡ Some y → x ≡ y
some_same x y h = cc

-- values keep their kinds where one of them is changed to one of its kind
kinds_set : (ks : List Kind) (vs : List Value) (n : ℕ) (k : Kind) (v : Value) → IsTrue (have_kinds ks vs) →
    slice_get ks n ≡ Some k → IsTrue (has_kind k v) → IsTrue (have_kinds ks (slice_set vs n v))
kinds_set [] vs n k v h e f = absurd (none_some k e)
kinds_set (x ∷ ks) [] n k v h e f = absurd (true≢false (sym h))
kinds_set (x ∷ ks) (w ∷ vs) zero k v h e f =
    both_true (has_kind x v) (have_kinds ks vs)
    (subst (λ y. IsTrue (has_kind y v)) (sym (some_same x k e)) f)
    (and_right (has_kind x w) (have_kinds ks vs) h)
kinds_set (x ∷ ks) (w ∷ vs) (suc n) k v h e f =
    both_true (has_kind x w) (have_kinds ks (slice_set vs n v))
    (and_left (has_kind x w) (have_kinds ks vs) h)
    (kinds_set ks vs n k v (and_right (has_kind x w) (have_kinds ks vs) h) e f)

-- one more value at the end
pub kinds_push : (ks : List Kind) (vs : List Value) (k : Kind) (v : Value) → IsTrue (have_kinds ks vs) →
    IsTrue (has_kind k v) → IsTrue (have_kinds (ks ++ k ∷ []) (vs ++ v ∷ []))
kinds_push [] [] k v h f = both_true (has_kind k v) true f refl
kinds_push [] (w ∷ vs) k v h f = absurd (true≢false (sym h))
kinds_push (x ∷ ks) [] k v h f = absurd (true≢false (sym h))
kinds_push (x ∷ ks) (w ∷ vs) k v h f = both_true (has_kind x w) _
    (and_left (has_kind x w) (have_kinds ks vs) h)
    (kinds_push ks vs k v (and_right (has_kind x w) (have_kinds ks vs) h) f)

-- the last value, and those before it
kinds_front : (ks : List Kind) (vs : List Value) (k : Kind) → IsTrue (have_kinds (ks ++ k ∷ []) vs) →
    IsTrue (have_kinds ks (take (length vs - 1) vs))
kinds_front [] [] k h = absurd (true≢false (sym h))
kinds_front [] (w ∷ []) k h = refl
kinds_front [] (w ∷ u ∷ vs) k h = absurd (true≢false (sym (and_right (has_kind k w) false h)))
kinds_front (x ∷ ks) [] k h = absurd (true≢false (sym h))
kinds_front (x ∷ ks) (w ∷ []) k h = absurd (no_kinds ks (and_right (has_kind x w) _ h))
  where
    no_kinds : (ks : List Kind) → IsTrue (have_kinds (ks ++ k ∷ []) []) → ⊥
    no_kinds [] h = true≢false (sym h)
    no_kinds (y ∷ ks) h = true≢false (sym h)
kinds_front (x ∷ ks) (w ∷ u ∷ vs) k h =
    let e : suc (length (u ∷ vs) - 1) ≡ length (w ∷ u ∷ vs) - 1 = omega arith in
    subst (λ n. IsTrue (have_kinds (x ∷ ks) (take n (w ∷ u ∷ vs)))) e
    (both_true (has_kind x w) (have_kinds ks (take (length (u ∷ vs) - 1) (u ∷ vs)))
    (and_left (has_kind x w) _ h) (kinds_front ks (u ∷ vs) k (and_right (has_kind x w) _ h)))

-- what passes the test has the kind
pub is_of_some : (k : Kind) (o : Option Kind) → IsTrue (is_of k o) → o ≡ Some k
is_of_some k None h = absurd (true≢false (sym h))
is_of_some KV.Int (Some KV.Int) h = refl
is_of_some KV.Int (Some KV.Bool) h = absurd (true≢false (sym h))
is_of_some KV.Int (Some KV.Seq) h = absurd (true≢false (sym h))
is_of_some KV.Bool (Some KV.Int) h = absurd (true≢false (sym h))
is_of_some KV.Bool (Some KV.Bool) h = refl
is_of_some KV.Bool (Some KV.Seq) h = absurd (true≢false (sym h))
is_of_some KV.Seq (Some KV.Int) h = absurd (true≢false (sym h))
is_of_some KV.Seq (Some KV.Bool) h = absurd (true≢false (sym h))
is_of_some KV.Seq (Some KV.Seq) h = refl

-- arguments are of the kinds of the parameters
abbrev pub ArgsTyped : List Kind → Result (List Value) Trap → Type 0
ArgsTyped ks (Err t) = Unit {0}
ArgsTyped ks (Ok values) = IsTrue (have_kinds ks values)

module _ (laws : KindLaws) (s : Scope) (vars slots : List Value) (vars_fit : IsTrue (have_kinds s.vars vars))
    (slots_fit : IsTrue (have_kinds s.slots slots)) where
  -- the values of further arguments have their kinds
  args_after : (front : List Kind) (values : List Value) (es : List (Expr Ref)) (ks : List Kind) →
      IsTrue (have_kinds front values) → IsTrue (arguments_fit s es ks) →
      ArgsTyped (front ++ ks) (arguments_after values es vars slots)
  args_after front values [] [] h fit = subst (λ l. IsTrue (have_kinds l values)) (sym (append_none front)) h
    where
      append_none : (l : List Kind) → l ++ [] ≡ l
      append_none [] = refl
      append_none (x ∷ l) = ap (λ r. x ∷ r) (append_none l)
  args_after front values [] (k ∷ ks) h fit = absurd (true≢false (sym fit))
  args_after front values (e ∷ es) [] h fit = absurd (true≢false (sym fit))
  args_after front values (e ∷ es) (k ∷ ks) h fit =
      by (value e vars slots)
      (value_typed laws s vars slots vars_fit slots_fit e k
      (is_of_some k (kind_in s e) (and_left (is_of k (kind_in s e)) _ fit)))
      (λ v f. subst (λ l. ArgsTyped l (arguments_after (values ++ v ∷ []) es vars slots))
      (append_assoc front (k ∷ []) ks)
      (args_after (front ++ k ∷ []) (values ++ v ∷ []) es ks (kinds_push front values k v h f)
      (and_right (is_of k (kind_in s e)) _ fit)))
    where
      by : (ev : Evaluated) → Typed k ev →
          ((v : Value) → IsTrue (has_kind k v) → ArgsTyped (front ++ k ∷ ks)
          (arguments_after (values ++ v ∷ []) es vars slots)) →
          ArgsTyped (front ++ k ∷ ks) (argument_then ev values (λ rest. arguments_after rest es vars slots))
      by (Err t) f go = tt
      by (Ok v) f go = go v f

  -- the values of arguments have their kinds
  pub args_typed : (es : List (Expr Ref)) (ks : List Kind) → IsTrue (arguments_fit s es ks) →
      ArgsTyped ks (arguments es vars slots)
  args_typed es ks fit = args_after [] [] es ks refl fit

-- A procedure of a box and what its text sees, with the laws of kinds.
pub record Text (p : Program) (box number : ℕ) (q : Proc Ref) (s : Scope) : Type 0 where
  pub laws : KindLaws
  pub there : procedure_of p box number ≡ Some q
  pub vars : s.vars ≡ vars_in (cat_of p box)
  pub slots : s.slots ≡ slot_kinds q

module _ (p : Program) (box number : ℕ) (q : Proc Ref) (s : Scope) (text : Text p box number q s) where
  -- the code of the procedure
  abbrev the_method : Method
  the_method = method_code q

  -- a step from an instruction
  abbrev pub the_run : ℕ → ℕ → List Value → List Value → Stepped
  the_run at budget vars slots = runs (method_code q) (number_of p box number) budget at vars slots

  -- a step from an instruction fits, with at most this budget
  pub record SafeAt (at most : ℕ) : Type 0 where
    pub by : (budget : ℕ) (vars slots : List Value) → budget ≤ most → IsTrue (have_kinds s.vars vars) →
        IsTrue (have_kinds s.slots slots) → FitsStep p box number (the_run at budget vars slots)

  -- and one that takes a result
  pub record SafeTaking (at most : ℕ) : Type 0 where
    pub by : (budget : ℕ) (vars slots : List Value) → budget ≤ most → IsTrue (have_kinds s.vars vars) →
        IsTrue (have_kinds (s.slots ++ KV.Int ∷ []) slots) →
        FitsStep p box number (the_run at budget vars slots)

  -- each return place in code that stands at an instruction
  abbrev pub Returns : List Instruction → ℕ → ℕ → Type 0
  Returns [] at most = Unit {0}
  Returns (I.Set name e ∷ is) at most = Returns is (suc at) most
  Returns (I.SkipUnless cond many ∷ is) at most = Returns is (suc at) most
  Returns (I.Skip many ∷ is) at most = Returns is (suc at) most
  Returns (I.Again cond many ∷ is) at most = Returns is (suc at) most
  Returns (I.Call call ∷ is) at most = Returns is (suc at) most
  Returns (I.Take name ∷ is) at most = (SafeTaking at most × SafeAt (suc at) most) × Returns is (suc at) most
  Returns (I.Return ∷ is) at most = Returns is (suc at) most
  Returns (I.Reject ∷ is) at most = Returns is (suc at) most

  -- the return places of two parts
  pub returns_append : (xs ys : List Instruction) (at most : ℕ) → Returns xs at most →
      Returns ys (at + length xs) most → Returns (xs ++ ys) at most
  returns_append [] ys at most a b = let e : at + 0 ≡ at = omega arith in subst (λ n. Returns ys n most) e b
  returns_append (x ∷ xs) ys at most a b = by x a
      (λ r. returns_append xs ys (suc at) most r (subst (λ n. Returns ys n most) (omega arith) b))
    where
      by : (x : Instruction) → Returns (x ∷ xs) at most →
          (Returns xs (suc at) most → Returns (xs ++ ys) (suc at) most) → Returns (x ∷ (xs ++ ys)) at most
      by (I.Set name e) a go = go a
      by (I.SkipUnless cond many) a go = go a
      by (I.Skip many) a go = go a
      by (I.Again cond many) a go = go a
      by (I.Call call) a go = go a
      by (I.Take name) a go = (a.0, go a.1)
      by I.Return a go = go a
      by I.Reject a go = go a

  -- Code from which no kind is broken: where its end is safe, so are its beginning and its return places.
  pub record Safe (code : List Instruction) : Type 0 where
    pub by : (at most : ℕ) (post : List Instruction) → drop at the_method.instructions ≡ code ++ post →
        SafeAt (at + length code) most → SafeAt at most × Returns code at most

  -- variables that pass the test are variables of the box
  pub box_vars : (vars : List Value) → IsTrue (have_kinds s.vars vars) → HasVars p box vars
  box_vars vars fit = subst (λ ks. AreOf vars ks) text.vars (to_kinds s.vars vars fit)

  -- a step that ends without a call
  ends_safe : (at budget : ℕ) (vars slots : List Value) (i : Instruction) (rest : List Instruction)
      (move : Move) → drop at the_method.instructions ≡ i ∷ rest →
      acted i vars slots ≡ acts vars slots move → IsTrue (have_kinds s.vars vars) → (t : Trap) →
      move ≡ M.Trap t → FitsStep p box number (the_run at budget vars slots)
  ends_safe at budget vars slots i rest move h does fit t is =
      subst (λ (x : Stepped). FitsStep p box number x)
      (sym (runs_stop the_method (number_of p box number) at i rest vars slots
      (acts vars slots (M.Trap t)) budget h (does ∙ ap (acts vars slots) is) tt))
      (record { vars = box_vars vars fit; end = tt })

  -- an instruction that goes on
  goes_safe : (at end budget most many : ℕ) (vars slots vars' slots' : List Value) (i : Instruction)
      (rest : List Instruction) → drop at the_method.instructions ≡ i ∷ rest →
      acted i vars slots ≡ acts vars' slots' (M.On many) → many ≤ length rest → at + 1 + many ≡ end →
      budget ≤ most → SafeAt end most →
      IsTrue (have_kinds s.vars vars') → IsTrue (have_kinds s.slots slots') →
      FitsStep p box number (the_run at budget vars slots)
  goes_safe at end budget most many vars slots vars' slots' i rest h does within e le safe fv fs =
      subst (λ (x : Stepped). FitsStep p box number x)
      (sym (runs_on the_method (number_of p box number) at i rest vars slots vars' slots' many budget h
      does within ∙ ap (λ k. the_run k budget vars' slots') e))
      (safe.by budget vars' slots' le fv fs)

  -- a name takes a value of its kind
  put_safe : (at budget most : ℕ) (vars slots slots' : List Value) (i : Instruction)
      (rest : List Instruction) (name : Ref) (k : Kind) (v : Value) →
      drop at the_method.instructions ≡ i ∷ rest →
      acted i vars slots ≡ put name v vars slots' → budget ≤ most → SafeAt (at + 1) most →
      IsTrue (have_kinds s.vars vars) → IsTrue (have_kinds s.slots slots') →
      kind_at s name ≡ Some k → IsTrue (has_kind k v) → FitsStep p box number (the_run at budget vars slots)
  put_safe at budget most vars slots slots' i rest (R.Var n) k v h does le safe fv fs is f =
      goes_safe at (at + 1) budget most 0 vars slots (slice_set vars n v) slots' i rest h does zero-le
      (omega arith) le safe (kinds_set s.vars vars n k v fv is f) fs
  put_safe at budget most vars slots slots' i rest (R.Slot n) k v h does le safe fv fs is f =
      goes_safe at (at + 1) budget most 0 vars slots vars (slice_set slots' n v) i rest h does zero-le
      (omega arith) le safe fv (kinds_set s.slots slots' n k v fs is f)
  put_safe at budget most vars slots slots' i rest (R.Given n) k v h does le safe fv fs is f =
      absurd (none_some k is)
  put_safe at budget most vars slots slots' i rest (R.Method n) k v h does le safe fv fs is f =
      absurd (none_some k is)
  put_safe at budget most vars slots slots' i rest (R.Cat n) k v h does le safe fv fs is f =
      absurd (none_some k is)

  -- an assignment is safe
  pub set_safe : (name : Ref) (e : Expr Ref) (k : Kind) → kind_set s name ≡ Some k →
      IsTrue (is_of k (kind_in s e)) → Safe (I.Set name e ∷ [])
  set_safe name e k is fit = record {
    by = λ at most post h exit. (
      record {
        by = λ budget vars slots le fv fs. by at most post h exit budget vars slots le fv fs
            (value e vars slots) refl
            (value_typed text.laws s vars slots fv fs e k (is_of_some k (kind_in s e) fit));
      },
      tt,
    );
  }
    where
      by : (at most : ℕ) (post : List Instruction) → drop at the_method.instructions ≡ I.Set name e ∷ post →
          SafeAt (at + 1) most → (budget : ℕ) (vars slots : List Value) → budget ≤ most →
          IsTrue (have_kinds s.vars vars) → IsTrue (have_kinds s.slots slots) → (ev : Evaluated) →
          value e vars slots ≡ ev → Typed k ev → FitsStep p box number (the_run at budget vars slots)
      by at most post h exit budget vars slots le fv fs (Err t) same f =
          ends_safe at budget vars slots (I.Set name e) post (M.Trap t) h
          (ap (λ ev. put_value name ev vars slots) same) fv t refl
      by at most post h exit budget vars slots le fv fs (Ok v) same f =
          put_safe at budget most vars slots slots (I.Set name e) post name k v h
          (ap (λ ev. put_value name ev vars slots) same) le exit fv fs (text.laws.set s name k is) f

  -- no code is safe
  pub none_safe : Safe []
  none_safe = record { by = λ at most post h exit. (subst (λ n. SafeAt n most) (omega arith) exit, tt) }

  -- two parts are safe where both are
  pub then_safe : (front back : List Instruction) → Safe front → Safe back → Safe (front ++ back)
  then_safe front back a b = record {
    by = λ at most post h exit.
        let h' : drop at the_method.instructions ≡ front ++ (back ++ post) =
        h ∙ append_assoc front back post in
        let e : at + length (front ++ back) ≡ at + length front + length back =
        omega (arith, length-append front back) in
        let second = b.by (at + length front) most post
        (rest_after the_method.instructions front (back ++ post) at h') (subst (λ n. SafeAt n most) e exit)
        in
        let first = a.by at most (back ++ post) h' second.0 in
        (first.0, returns_append front back at most first.1 second.1);
  }

  -- all parts are safe where each is
  pub all_safe : {X : Type 0} (code : X → List Instruction) (test : X → Bool) →
      ((x : X) → IsTrue (test x) → Safe (code x)) → (xs : List X) → IsTrue (all_true (map test xs)) →
      Safe (joined (map code xs))
  all_safe code test each [] ok = none_safe
  all_safe code test each (x ∷ xs) ok = then_safe (code x) (joined (map code xs))
      (each x (and_left (test x) _ ok)) (all_safe code test each xs (and_right (test x) _ ok))

  -- an instruction that takes a result
  pub take_safe : (at most : ℕ) (bind : Option Ref) (gives : Bool) (rest : List Instruction) →
      drop at the_method.instructions ≡ I.Take bind ∷ rest → IsTrue (bind_fits s bind gives) →
      SafeAt (at + 1) most → SafeTaking at most
  take_safe at most None gives rest h fit exit = record {
    by = λ budget vars slots le fv fs.
        goes_safe at (at + 1) budget most 0 vars slots vars (all_but_last slots) (I.Take None) rest h refl
        zero-le (omega arith) le exit fv (kinds_front s.slots slots KV.Int fs);
  }
  take_safe at most (Some name) gives rest h fit exit = record {
    by = λ budget vars slots le fv fs.
        put_safe at budget most vars slots (all_but_last slots) (I.Take (Some name)) rest name KV.Int
        (V.Int (last_number slots)) h refl le exit fv (kinds_front s.slots slots KV.Int fs)
        (text.laws.set s name KV.Int (is_of_some KV.Int (kind_set s name) (and_right gives _ fit)))
        (number_fits (s.slots ++ KV.Int ∷ []) slots (length slots - 1) fs);
  }

  -- what a fitting call goes to
  pub record GoodCall (form : Form Ref → Bool) (bind : Option Ref) (call : Call Ref) : Type 0 where
    pub procedure : Proc Ref
    pub found : procedure_of p (target_of p box (R.Given (given_number call.target)))
        (method_of call.method) ≡ Some procedure
    pub is : IsTrue (form procedure.form)
    pub args : IsTrue (arguments_fit s call.args (param_kinds procedure.params))
    pub result : IsTrue (bind_fits s bind procedure.gives)

  -- the frame of this procedure where it waits
  pub waits_frame : (at : ℕ) (bind : Option Ref) (rest : List Instruction) (slots : List Value)
      (partial : Bool) → drop at the_method.instructions ≡ I.Take bind ∷ rest →
      IsTrue (have_kinds s.slots slots) →
      (partial ≡ true → is_total q.form ≡ false) →
      IsWaiting p box number (record { method = number_of p box number; place = at + 2; slots = slots })
      partial
  waits_frame at bind rest slots partial h fs early = record {
    procedure = q;
    there = text.there;
    method = refl;
    at = at;
    place = refl;
    takes = (bind, taken_there);
    slots = subst (λ ks. AreOf slots ks) text.slots (to_kinds s.slots slots fs);
    early = early;
  }
    where
      get_first : (is : List Instruction) (n : ℕ) (i : Instruction) (rest : List Instruction) →
          drop n is ≡ i ∷ rest → slice_get is n ≡ Some i
      get_first [] zero i rest h = absurd (nothing h)
        where
          nothing : [] ≡ i ∷ rest → ⊥
          nothing h = cc
      get_first [] (suc n) i rest h = absurd (nothing h)
        where
          nothing : [] ≡ i ∷ rest → ⊥
          nothing h = cc
      get_first (x ∷ is) zero i rest h = cc
      get_first (x ∷ is) (suc n) i rest h = get_first is n i rest h

      taken_there : slice_get (form_code q.form) at ≡ Some (I.Take bind)
      taken_there = get_first (form_code q.form) at (I.Take bind) rest h

  -- a total form is no early one
  total_is : (f : Form Ref) → IsTrue (is_total f) → is_total f ≡ not false
  total_is f h = h

  -- a call is safe
  pub call_safe : (bind : Option Ref) (call : Call Ref) → GoodCall is_total bind call →
      Safe (I.Call (call_code call) ∷ I.Take bind ∷ [])
  call_safe bind call good = record {
    by = λ at most post h exit.
        let next : drop (at + 1) the_method.instructions ≡ I.Take bind ∷ post =
        rest_after the_method.instructions (I.Call (call_code call) ∷ []) (I.Take bind ∷ post) at h in
        let after : SafeAt (at + 1 + 1) most = subst (λ n. SafeAt n most) (omega arith) exit in
        let e : at + 1 ≡ suc at = omega arith in
        let f : at + 1 + 1 ≡ suc (suc at) = omega arith in (
          record {
            by = λ budget vars slots le fv fs. by at post h next budget vars slots fv fs
                (arguments call.args vars slots) refl
                (args_typed text.laws s vars slots fv fs call.args (param_kinds good.procedure.params)
                good.args);
          },
          (
            (
              subst (λ n. SafeTaking n most) e
                  (take_safe (at + 1) most bind good.procedure.gives post next good.result after),
              subst
                  (λ n. SafeAt n most) f after,
            ),
            tt,
          ),
        );
  }
    where
      by : (at : ℕ) (post : List Instruction) → drop at the_method.instructions ≡ I.Call (call_code call)
          ∷ I.Take bind ∷ post → drop (at + 1) the_method.instructions ≡ I.Take bind ∷ post →
          (budget : ℕ) (vars slots : List Value) → IsTrue (have_kinds s.vars vars) →
          IsTrue (have_kinds s.slots slots) →
          (args : Result (List Value) Trap) → arguments call.args vars slots ≡ args →
          ArgsTyped (param_kinds good.procedure.params) args →
          FitsStep p box number (the_run at budget vars slots)
      by at post h next budget vars slots fv fs (Err t) same f =
          ends_safe at budget vars slots (I.Call (call_code call)) (I.Take bind ∷ post) (M.Trap t) h
          (ap (λ r. acts vars slots (called_with (call_code call) r)) same) fv t refl
      by at post h next zero vars slots fv fs (Ok args) same f =
          subst (λ (x : Stepped). FitsStep p box number x)
          (sym (runs_stop the_method (number_of p box number) at (I.Call (call_code call))
          (I.Take bind ∷ post) vars slots (acts vars slots (called_with (call_code call) (Ok args))) 0 h
          (ap (λ r. acts vars slots (called_with (call_code call) r)) same) tt))
          (record { vars = box_vars vars fv; end = tt })
      by at post h next (suc left) vars slots fv fs (Ok args) same f =
          subst (λ (x : Stepped). FitsStep p box number x)
          (sym (runs_stop the_method (number_of p box number) at (I.Call (call_code call))
          (I.Take bind ∷ post) vars slots (acts vars slots (called_with (call_code call) (Ok args)))
          (suc left) h (ap (λ r. acts vars slots (called_with (call_code call) r)) same) tt))
          (record {
            vars = box_vars vars fv;
            end = (
              waits_frame (at + 1) bind post slots false next fs (λ e. absurd (true≢false (sym e))),
              record {
                procedure = good.procedure;
                there = good.found;
                form = good.is;
                args =
                    to_kinds (param_kinds good.procedure.params) args f;
              },
            );
          })

  -- a choice is safe where its branches are
  pub if_safe : (cond : Expr Ref) (holds fails : List Instruction) → Safe holds → Safe fails →
      Safe (if_code cond holds fails)
  if_safe cond holds fails a b = record {
    by = λ at most post h exit.
        let inner : List Instruction = I.Skip (length fails) ∷ (fails ++ post) in
        let h' : drop at the_method.instructions ≡ I.SkipUnless cond (length holds + 1) ∷ (holds ++ inner) =
        h ∙ ap (λ is. I.SkipUnless cond (length holds + 1) ∷ is)
        (append_assoc holds (I.Skip (length fails) ∷ fails) post) in
        let rest : drop (at + 1) the_method.instructions ≡ holds ++ inner =
        rest_after the_method.instructions (I.SkipUnless cond (length holds + 1) ∷ []) (holds ++ inner) at
        h' in
        let jump : drop (at + 1 + length holds) the_method.instructions ≡ inner =
        rest_after the_method.instructions holds inner (at + 1) rest in
        let other : drop (at + 1 + length holds + 1) the_method.instructions ≡ fails ++ post =
        rest_after the_method.instructions (I.Skip (length fails) ∷ []) (fails ++ post)
        (at + 1 + length holds) jump in
        let size : length (if_code cond holds fails) ≡ length holds + (length fails + 1) + 1 =
        omega (arith, length-append holds (I.Skip (length fails) ∷ fails)) in
        let second = b.by (at + 1 + length holds + 1) most post other
        (subst (λ n. SafeAt n most) (omega (arith, size)) exit) in
        let skipped : SafeAt (at + 1 + length holds) most = record {
          by = λ budget vars slots le fv fs.
              goes_safe (at + 1 + length holds) (at + length (if_code cond holds fails)) budget most
              (length fails) vars slots vars slots (I.Skip (length fails)) (fails ++ post) jump refl
              (omega (arith, length-append fails post)) (omega (arith, size)) le exit fv fs;
        } in
        let first = a.by (at + 1) most inner rest skipped in (
          record {
            by = λ budget vars slots le fv fs. decide at most post h' first.0 second.0 budget vars
                slots le fv fs (value cond vars slots) refl;
          },
          subst (λ n. Returns (holds ++ I.Skip (length fails) ∷ fails) n most) (omega arith)
              (returns_append holds (I.Skip (length fails) ∷ fails) (at + 1) most first.1
              (subst (λ n. Returns fails n most) (omega arith) second.1)),
        );
  }
    where
      decide : (at most : ℕ) (post : List Instruction) →
          drop at the_method.instructions ≡ I.SkipUnless cond (length holds + 1)
          ∷ (holds ++ I.Skip (length fails) ∷ (fails ++ post)) →
          SafeAt (at + 1) most → SafeAt (at + 1 + length holds + 1) most →
          (budget : ℕ) (vars slots : List Value) → budget ≤ most → IsTrue (have_kinds s.vars vars) →
          IsTrue (have_kinds s.slots slots) →
          (ev : Evaluated) → value cond vars slots ≡ ev →
          FitsStep p box number (the_run at budget vars slots)
      decide at most post h first second budget vars slots le fv fs (Err t) is =
          ends_safe at budget vars slots (I.SkipUnless cond (length holds + 1))
          (holds ++ I.Skip (length fails) ∷ (fails ++ post)) (M.Trap t) h
          (ap (λ ev. acts vars slots (decided ev (M.On 0) (M.On (length holds + 1)))) is) fv t refl
      decide at most post h first second budget vars slots le fv fs (Ok v) is = by (bool_of v) refl
        where
          does : (t : Bool) → bool_of v ≡ t → acted (I.SkipUnless cond (length holds + 1)) vars slots
              ≡ acts vars slots (if t then M.On 0 else M.On (length holds + 1))
          does t e = ap (λ ev. acts vars slots (decided ev (M.On 0) (M.On (length holds + 1)))) is
              ∙ ap (λ t. acts vars slots (if t then M.On 0 else M.On (length holds + 1))) e

          by : (t : Bool) → bool_of v ≡ t → FitsStep p box number (the_run at budget vars slots)
          by true e = goes_safe at (at + 1) budget most 0 vars slots vars slots
              (I.SkipUnless cond (length holds + 1)) (holds ++ I.Skip (length fails) ∷ (fails ++ post)) h
              (does true e) zero-le (omega arith) le first fv fs
          by false e = goes_safe at (at + 1 + length holds + 1) budget most (length holds + 1) vars slots
              vars slots (I.SkipUnless cond (length holds + 1))
              (holds ++ I.Skip (length fails) ∷ (fails ++ post)) h (does false e)
              (omega (arith, length-append holds (I.Skip (length fails) ∷ (fails ++ post)))) (omega arith)
              le second fv fs

  -- a loop, from its test on
  module _ (cond : Expr Ref) (turn : List Instruction) (body : Safe turn) (at most : ℕ)
      (post : List Instruction) (h : drop at the_method.instructions ≡ while_code cond turn ++ post)
      (exit : SafeAt (at + length (while_code cond turn)) most) where
    -- where the condition of the loop stands
    abbrev test_at : ℕ
    test_at = at + 1 + length turn

    -- where its turn stands
    turn_there : drop (at + 1) the_method.instructions ≡ turn ++ I.Again cond (length turn) ∷ post
    turn_there = rest_after the_method.instructions (I.Skip (length turn) ∷ [])
        (turn ++ I.Again cond (length turn) ∷ post) at
        (h ∙ ap (λ is. I.Skip (length turn) ∷ is) (append_assoc turn (I.Again cond (length turn) ∷ []) post))

    -- what stands there
    test_there : drop test_at the_method.instructions ≡ I.Again cond (length turn) ∷ post
    test_there = rest_after the_method.instructions turn (I.Again cond (length turn) ∷ post) (at + 1)
        turn_there

    -- how long the loop is
    size : at + length (while_code cond turn) ≡ test_at + 1
    size = omega (arith, length-append turn (I.Again cond (length turn) ∷ []))

    -- the test with this budget, where the turn is safe with what is left of it
    tested : (budget : ℕ) (vars slots : List Value) → budget ≤ most → IsTrue (have_kinds s.vars vars) →
        IsTrue (have_kinds s.slots slots) → ((left : ℕ) → budget ≡ suc left → SafeAt (at + 1) left) →
        (ev : Evaluated) → value cond vars slots ≡ ev →
        FitsStep p box number (the_run test_at budget vars slots)
    tested budget vars slots le fv fs turns (Err t) is =
        ends_safe test_at budget vars slots (I.Again cond (length turn)) post (M.Trap t) test_there
        (ap (λ ev. acts vars slots (decided ev (M.Back (length turn)) (M.On 0))) is) fv t refl
    tested budget vars slots le fv fs turns (Ok v) is = by (bool_of v) refl budget le turns
      where
        does : (t : Bool) → bool_of v ≡ t → acted (I.Again cond (length turn)) vars slots
            ≡ acts vars slots (if t then M.Back (length turn) else M.On 0)
        does t e = ap (λ ev. acts vars slots (decided ev (M.Back (length turn)) (M.On 0))) is
            ∙ ap (λ t. acts vars slots (if t then M.Back (length turn) else M.On 0)) e

        by : (t : Bool) → bool_of v ≡ t → (budget : ℕ) → budget ≤ most →
            ((left : ℕ) → budget ≡ suc left → SafeAt (at + 1) left) →
            FitsStep p box number (the_run test_at budget vars slots)
        by false e budget le turns = goes_safe test_at (at + length (while_code cond turn)) budget most 0
            vars slots vars slots (I.Again cond (length turn)) post test_there (does false e) zero-le
            (omega (arith, size)) le exit fv fs
        by true e zero le turns =
            subst (λ (x : Stepped). FitsStep p box number x)
            (sym (runs_stop the_method (number_of p box number) test_at (I.Again cond (length turn))
            post vars slots (acts vars slots (M.Back (length turn))) 0 test_there (does true e) tt))
            (record { vars = box_vars vars fv; end = tt })
        by true e (suc left) le turns =
            let back : test_at - length turn ≡ at + 1 = omega arith in
            subst (λ (x : Stepped). FitsStep p box number x)
            (sym (runs_stop the_method (number_of p box number) test_at (I.Again cond (length turn)) post
            vars slots (acts vars slots (M.Back (length turn))) (suc left) test_there (does true e) tt
            ∙ ap (λ k. the_run k left vars slots) back))
            ((turns left refl).by left vars slots (le_refl left) fv fs)

    -- the condition is safe with any budget
    test_safe : (b : ℕ) → b ≤ most → SafeAt test_at b
    test_safe zero le = record {
      by = λ budget vars slots k fv fs. tested budget vars slots (omega (arith, k, le)) fv fs
          (λ left e. absurd (omega (arith, k, e))) (value cond vars slots) refl;
    }
    test_safe (suc b) le = with_less (test_safe b (omega (arith, le)))
      where
        with_less : SafeAt test_at b → SafeAt test_at (suc b)
        with_less less = record {
          by = λ budget vars slots k fv fs.
              tested budget vars slots (omega (arith, k, le)) fv fs
              (λ left e. narrower left (omega (arith, k, e))
              (body.by (at + 1) b (I.Again cond (length turn) ∷ post) turn_there less).0)
              (value cond vars slots) refl;
        }
          where
            narrower : (left : ℕ) → left ≤ b → SafeAt (at + 1) b → SafeAt (at + 1) left
            narrower left l safe = record
                { by = λ budget vars slots k fv fs. safe.by budget vars slots (omega (arith, k, l)) fv fs }

    -- the loop is safe
    loop_safe : SafeAt at most × Returns (while_code cond turn) at most
    loop_safe =
        let test = test_safe most (le_refl most) in
        let inside = body.by (at + 1) most (I.Again cond (length turn) ∷ post) turn_there test in (
          record {
            by = λ budget vars slots le fv fs.
                goes_safe at test_at budget most (length turn) vars slots vars slots (I.Skip (length turn))
                (turn ++ I.Again cond (length turn) ∷ post)
                (h ∙ ap (λ is. I.Skip (length turn) ∷ is)
                (append_assoc turn (I.Again cond (length turn) ∷ []) post)) refl
                (omega (arith, length-append turn (I.Again cond (length turn) ∷ post))) refl le test fv
                fs;
          },
          subst (λ n. Returns (turn ++ I.Again cond (length turn) ∷ []) n most) (omega arith)
              (returns_append turn (I.Again cond (length turn) ∷ []) (at + 1) most inside.1 tt),
        )

  -- a loop is safe where its turn is
  pub while_safe : (cond : Expr Ref) (turn : List Instruction) → Safe turn → Safe (while_code cond turn)
  while_safe cond turn body = record
      { by = λ at most post h exit. loop_safe cond turn body at most post h exit }
