-- The calls in the code of a checked program: a body calls total methods, and an alternative begins with
-- the call of a partial one on a box of a lower level.
use Rattle.std.proofs.Common.{◌≡◌, ℕ, zero, suc, ◌+◌, ◌<◌, Bool, true, false, IsTrue, if◌then◌else◌, List}
use Rattle.std.proofs.Common.{[], ◌∷◌, ◌++◌, map, length, drop, Option, None, Some, sym, ap, ◌∙◌, subst}
use Rattle.std.specs.List.{flat_map}
use Rattle.seuss_program.specs.declared.program.Program.{Program}
use Rattle.seuss_program.specs.declared.tree.Ref.{Ref}
use Rattle.seuss_program.specs.declared.tree.Ref.TheVariants as R
use Rattle.seuss_program.specs.declared.tree.Kind.TheVariants as KV
use Rattle.seuss_program.specs.declared.tree.Call.{Call}
use Rattle.seuss_program.specs.declared.tree.Pre.{Pre}
use Rattle.seuss_program.specs.declared.tree.Proc.{Proc}
use Rattle.seuss_program.specs.declared.tree.Form.{Form}
use Rattle.seuss_program.specs.declared.tree.Form.TheVariants as F
use Rattle.seuss_program.specs.declared.tree.Alternative.{Alternative}
use Rattle.seuss_program.specs.declared.tree.Statement.{Statement, map-Statement, roll-Statement}
use Rattle.seuss_program.specs.declared.tree.Statement.{ind-Statement}
use Rattle.seuss_program.specs.declared.tree.Statement.TheOpen as S
use Rattle.seuss_program.specs.declared.tree.Statement.TheOpen.{Statement-F}
use Rattle.seuss_program.specs.Programs.{procedure_of, level_of, target_of, method_of}
use Rattle.seuss_program.specs.Keeping as K
use Rattle.seuss_program.specs.Keeping.{Scope, Keeps, statement_fits, body_fits, call_fits, pre_fits}
use Rattle.seuss_program.specs.Keeping.{alternative_fits, alternatives_fit, form_fits, is_total, is_partial}
use Rattle.seuss_program.specs.Keeping.{all_true, kind_in, is_of}
use Rattle.method_code.specs.declared.instruction.Instruction.{Instruction}
use Rattle.method_code.specs.declared.instruction.Instruction.TheVariants as I
use Rattle.method_code.specs.declared.instruction.CallCode.{CallCode}
use Rattle.method_code.specs.declared.method.Entry.{Entry}
use Rattle.method_code.specs.declared.method.Entry.TheVariants as N
use Rattle.method_code.specs.declared.method.Head.{Head}
use Rattle.method_code.specs.Codes.{code_of, code_step, joined, given_number, call_code, early_of}
use Rattle.method_code.specs.Codes.{take_code, last_code, alternative_code, heads, entry_of, form_code}
use Rattle.method_code.specs.Codes.{method_code}
use Rattle.method_code.proofs.Simulation.{and_left, and_right}
use Rattle.method_code.proofs.Statements.{each, each_each, code-layer, fits-layer}
use Rattle.method_code.proofs.Places.{Stands, scope, keeps_procedure, calls_below}
use Rattle.method_code.proofs.Attempting.{named}

-- a procedure of a box, of a form
pub record FormAt (p : Program) (form : Form Ref → Bool) (box number : ℕ) : Type 0 where
  pub procedure : Proc Ref
  pub there : procedure_of p box number ≡ Some procedure
  pub is : IsTrue (form procedure.form)

-- a call of a preprocedure goes down
pub record EarlyAt (p : Program) (box : ℕ) (call : CallCode) : Type 0 where
  pub partial : FormAt p is_partial (target_of p box (R.Given call.target)) call.method
  pub below : level_of p (target_of p box (R.Given call.target)) < level_of p box

module _ (p : Program) (box : ℕ) where
  -- an instruction that calls calls a total method
  abbrev pub CallsTotal : Instruction → Type 0
  CallsTotal (I.Set name e) = Unit {0}
  CallsTotal (I.SkipUnless cond many) = Unit {0}
  CallsTotal (I.Skip many) = Unit {0}
  CallsTotal (I.Again cond many) = Unit {0}
  CallsTotal (I.Call call) = FormAt p is_total (target_of p box (R.Given call.target)) call.method
  CallsTotal (I.Take name) = Unit {0}
  CallsTotal I.Return = Unit {0}
  CallsTotal I.Reject = Unit {0}

  -- each call in code is of a total method
  abbrev pub EachTotal : List Instruction → Type 0
  EachTotal [] = Unit {0}
  EachTotal (i ∷ is) = CallsTotal i × EachTotal is

  -- each head calls a procedure that may reject
  abbrev pub EachEarly : List Head → Type 0
  EachEarly [] = Unit {0}
  EachEarly (h ∷ hs) = ((call : CallCode) → h.early ≡ Some call → EarlyAt p box call) × EachEarly hs

  -- each head of an entry does
  abbrev pub EntryEarly : Entry → Type 0
  EntryEarly N.Total = Unit {0}
  EntryEarly (N.Partial hs) = EachEarly hs

  -- calls of two parts are total where those of both are
  each_append : (xs ys : List Instruction) → EachTotal xs → EachTotal ys → EachTotal (xs ++ ys)
  each_append [] ys a b = b
  each_append (x ∷ xs) ys a b = (a.0, each_append xs ys a.1 b)

  -- calls of a rest of code are total where those of the code are
  pub each_drop : (n : ℕ) (xs : List Instruction) → EachTotal xs → EachTotal (drop n xs)
  each_drop zero xs a = a
  each_drop (suc n) [] a = a
  each_drop (suc n) (x ∷ xs) a = each_drop n xs a.1

  -- calls of all parts are total where those of each are
  each_joined : {X : Type 0} (code : X → List Instruction) (test : X → Bool) →
      ((x : X) → IsTrue (test x) → EachTotal (code x)) → (xs : List X) → IsTrue (all_true (map test xs)) →
      EachTotal (joined (map code xs))
  each_joined code test h [] ok = tt
  each_joined code test h (x ∷ xs) ok = each_append (code x) (joined (map code xs))
      (h x (and_left (test x) _ ok)) (each_joined code test h xs (and_right (test x) _ ok))

  module _ (s : Scope)
      (total : (bind : Option Ref) (call : Call Ref) → IsTrue (call_fits s is_total bind call) →
      FormAt p is_total (target_of p box (R.Given (given_number call.target))) (method_of call.method))
      (early : (bind : Option Ref) (call : Call Ref) → IsTrue (call_fits s is_partial bind call) →
      EarlyAt p box (call_code call)) where
    -- the calls of a statement that fits are total
    FitsSo : Statement Ref → Type 0
    FitsSo t = IsTrue (statement_fits s t) → EachTotal (code_of t)

    -- a statement, by the statements inside it
    layer_fits : (d : Statement-F Ref (Statement Ref)) →
        (IsTrue (K.statement_step s (map-Statement Ref (Statement Ref) Bool (statement_fits s) d)) →
        EachTotal (code_step (map-Statement Ref (Statement Ref) (List Instruction) code_of d))) →
        FitsSo (roll-Statement Ref d)
    unfolding FitsSo
    layer_fits d h fits = subst (λ c. EachTotal c) (sym (code-layer d))
        (h (subst (λ b. IsTrue b) (fits-layer s d) fits))

    module _ (X : Type 0) (f : X → Statement Ref) (each_fits : (x : X) → FitsSo (f x)) where
      -- the statements inside a statement
      inner : (xs : List X) → IsTrue (all_true (each (statement_fits s) (each f xs))) →
          EachTotal (joined (each code_of (each f xs)))
      unfolding FitsSo
      inner xs fits = subst (λ c. EachTotal (joined c)) (sym (each_each f code_of xs))
          (each_joined (λ x. code_of (f x)) (λ x. statement_fits s (f x)) each_fits xs
          (subst (λ l. IsTrue (all_true l)) (each_each f (statement_fits s) xs) fits))

      -- one layer of a statement
      layer : (y : Statement-F Ref X) → FitsSo (roll-Statement Ref (map-Statement Ref X (Statement Ref) f y))
      layer (S.Let name kind e) = layer_fits (S.Let name kind e) (λ fits. (tt, tt))
      layer (S.Assign name e) = layer_fits (S.Assign name e) (λ fits. (tt, tt))
      layer (S.Call bind call) = layer_fits (S.Call bind call) (λ fits. (total bind call fits, (tt, tt)))
      layer (S.If cond holds fails) = layer_fits (S.If cond (each f holds) (each f fails)) (λ fits.
          let both = and_right (is_of KV.Bool (kind_in s cond)) _ fits in (
            tt,
            each_append (joined (each code_of (each f holds))) _ (inner holds (and_left _ _ both))
                (tt, inner fails (and_right (all_true (each (statement_fits s) (each f holds))) _ both)),
          ))
      layer (S.While cond turn) = layer_fits (S.While cond (each f turn)) (λ fits. (
        tt,
        each_append (joined (each code_of (each f turn))) _
            (inner turn (and_right (is_of KV.Bool (kind_in s cond)) _ fits)) (tt, tt),
      ))

    -- the code of a statement that fits calls total methods
    each_statement : (t : Statement Ref) → IsTrue (statement_fits s t) → EachTotal (code_of t)
    unfolding FitsSo
    each_statement = ind-Statement Ref FitsSo
        (λ x y is. subst (λ z. FitsSo (roll-Statement Ref z)) is (layer _ (λ e. e.0) (λ e. e.1) y))

    -- the code of a body that fits calls total methods
    each_body : (ts : List (Statement Ref)) → IsTrue (body_fits s ts) → EachTotal (flat_map code_of ts)
    each_body [] fits = tt
    each_body (t ∷ ts) fits = each_append (code_of t) (flat_map code_of ts)
        (each_statement t (and_left (statement_fits s t) _ fits))
        (each_body ts (and_right (statement_fits s t) _ fits))

    -- the code of alternatives that fit calls total methods in their bodies
    each_alternative : (alts : List (Alternative Ref)) → IsTrue (alternatives_fit s alts) →
        EachTotal (flat_map alternative_code alts)
    each_alternative [] fits = tt
    each_alternative (a ∷ alts) fits =
        let mine = and_right (is_of KV.Bool (kind_in s a.cond)) _ (and_left (alternative_fits s a) _ fits) in
        each_append (alternative_code a) (flat_map alternative_code alts)
        (each_append (take_code a.pre) (flat_map code_of a.body ++ last_code a) (taken a.pre)
        (each_append (flat_map code_of a.body) (last_code a)
        (each_body a.body (and_right (pre_fits s a.pre) _ mine)) (last a.positive)))
        (each_alternative alts (and_right (alternative_fits s a) _ fits))
      where
        taken : (pre : Option (Pre Ref)) → EachTotal (take_code pre)
        taken None = tt
        taken (Some pre) = (tt, tt)

        last : (b : Bool) → EachTotal ((if b then I.Return else I.Reject) ∷ [])
        last true = (tt, tt)
        last false = (tt, tt)

    -- alternatives that fit begin with procedures that may reject
    each_head : (at : ℕ) (alts : List (Alternative Ref)) → IsTrue (alternatives_fit s alts) →
        EachEarly (heads at alts)
    each_head at [] fits = tt
    each_head at (a ∷ alts) fits = (
      by a.pre (and_left (pre_fits s a.pre) _
          (and_right (is_of KV.Bool (kind_in s a.cond)) _ (and_left (alternative_fits s a) _ fits))),
      each_head (at + length (alternative_code a)) alts (and_right (alternative_fits s a) _ fits),
    )
      where
        by : (pre : Option (Pre Ref)) → IsTrue (pre_fits s pre) → (call : CallCode) →
            early_of pre ≡ Some call → EarlyAt p box call
        by None ok call e = absurd (none_some e)
          where
            none_some : None ≡ Some call → ⊥
            none_some e = cc
        by (Some pre) ok call e = subst (λ (c : CallCode). EarlyAt p box c) (same e)
            (early pre.bind pre.call ok)
          where
            same : Some (call_code pre.call) ≡ Some call → call_code pre.call ≡ call
            same e = cc

    -- all of it, of a form
    form_calls : (f : Form Ref) → IsTrue (form_fits s f) → EachTotal (form_code f) × EntryEarly (entry_of f)
    form_calls (F.Total ts) fits =
        (each_append (flat_map code_of ts) (I.Return ∷ []) (each_body ts fits) (tt, tt), tt)
    form_calls (F.Partial alts) fits = let ok = and_right _ _ fits in
        ((tt, each_alternative alts ok), each_head 1 alts ok)
    form_calls (F.Action alts) fits = let ok = and_right _ _ fits in
        ((tt, each_alternative alts ok), each_head 1 alts ok)

-- the calls in the code of a procedure that stands there
pub procedure_calls : (p : Program) (keeps : Keeps p) (box number : ℕ) (q : Proc Ref)
    (at : Stands p box number q) →
    EachTotal p box (method_code q).instructions × EntryEarly p box (method_code q).entry
procedure_calls p keeps box number q at =
    form_calls p box (scope p keeps box number q at)
    (λ bind call fits.
    let r = named (scope p keeps box number q at) is_total bind call fits in
    let c = calls_below p keeps box number q at call r.0 r.1 in
    record {
      procedure = r.0;
      there = ap
          (λ (n : Ref). procedure_of p (target_of p box n) (method_of call.method)) (sym c.given) ∙ c.there;
      is = r.2;
    })
    (λ bind call fits.
    let r = named (scope p keeps box number q at) is_partial bind call fits in
    let c = calls_below p keeps box number q at call r.0 r.1 in
    record {
      partial = record {
        procedure = r.0;
        there =
            ap (λ (n : Ref). procedure_of p (target_of p box n) (method_of call.method)) (sym c.given)
            ∙ c.there;
        is = r.2;
      };
      below = subst (λ (n : Ref). level_of p (target_of p box n) < level_of p box) c.given c.below;
    })
    q.form (keeps_procedure p keeps box number q at).text
