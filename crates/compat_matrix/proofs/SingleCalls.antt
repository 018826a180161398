-- A procedure without preprocedures, calls and loops has no calls in its text.
use Rattle.std.proofs.Common.{◌≡◌, Bool, false, IsTrue, List, [], ◌∷◌, ◌++◌, map, Option, None, Some, refl}
use Rattle.std.proofs.Common.{sym, ap, ◌∙◌, subst, true≢false}
use Rattle.std.specs.Prelude.{◌||◌, ◌&&◌, is_none}
use Rattle.std.specs.List.{flat_map}
use Rattle.seuss_program.specs.declared.tree.Ref.{Ref}
use Rattle.seuss_program.specs.declared.tree.Call.{Call}
use Rattle.seuss_program.specs.declared.tree.Pre.{Pre}
use Rattle.seuss_program.specs.declared.tree.Form.{Form}
use Rattle.seuss_program.specs.declared.tree.Form.TheVariants as F
use Rattle.seuss_program.specs.declared.tree.Alternative.{Alternative}
use Rattle.seuss_program.specs.declared.tree.Statement.{Statement, fold-roll-Statement, map-Statement}
use Rattle.seuss_program.specs.declared.tree.Statement.{roll-Statement, ind-Statement}
use Rattle.seuss_program.specs.declared.tree.Statement.TheOpen as S
use Rattle.seuss_program.specs.declared.tree.Statement.TheOpen.{Statement-F}
use Rattle.seuss_program.specs.Keeping.{all_true}
use Rattle.seuss_program.specs.Lines.{calls_of, calls_step, body_calls, early_calls, pre_calls}
use Rattle.method_code.specs.Singles.{single_step, is_single_statement, is_single_body, are_single}
use Rattle.method_code.specs.Singles.{is_single}
use Rattle.compat_matrix.proofs.Parts.{and_left, and_right, each, each_each, calls-layer}
use Rattle.effect_sets.specs.Effects.{has_late, is_some_call}

single-layer : (d : Statement-F Ref (Statement Ref)) → is_single_statement
    (roll-Statement Ref d) ≡ single_step (map-Statement Ref (Statement Ref) Bool is_single_statement d)
unfolding is_single_statement
single-layer d = fold-roll-Statement Ref Bool single_step d

-- two empty lists
both_empty : (xs ys : List (Call Ref)) → xs ≡ [] → ys ≡ [] → xs ++ ys ≡ []
both_empty xs ys a b = ap (λ zs. zs ++ ys) a ∙ b

SingleSo : Statement Ref → Type 0
SingleSo t = IsTrue (is_single_statement t) → calls_of t ≡ []

layer_single : (d : Statement-F Ref (Statement Ref)) →
    (IsTrue (single_step (map-Statement Ref (Statement Ref) Bool is_single_statement d)) → calls_step
    (map-Statement Ref (Statement Ref) (List (Call Ref)) calls_of d) ≡ []) →
    SingleSo (roll-Statement Ref d)
unfolding SingleSo
layer_single d h single = calls-layer d ∙ h (subst (λ b. IsTrue b) (single-layer d) single)

joined_single : {X : Type 0} (calls : X → List (Call Ref)) (test : X → Bool) → ((x : X) → IsTrue (test x) →
    calls x ≡ []) → (xs : List X) → IsTrue (all_true (map test xs)) →
    flat_map (λ cs. cs) (map calls xs) ≡ []
joined_single calls test h [] ok = refl
joined_single calls test h (x ∷ xs) ok =
    both_empty (calls x) (flat_map (λ cs. cs) (map calls xs)) (h x (and_left (test x) _ ok))
    (joined_single calls test h xs (and_right (test x) _ ok))

module _ (X : Type 0) (f : X → Statement Ref) (each_single : (x : X) → SingleSo (f x)) where
  inner : (xs : List X) → IsTrue (all_true (each is_single_statement (each f xs))) → flat_map (λ cs. cs)
      (each calls_of (each f xs)) ≡ []
  unfolding SingleSo
  inner xs ok =
      ap (λ l. flat_map (λ cs. cs) l) (each_each f calls_of xs)
      ∙ joined_single (λ x. calls_of (f x)) (λ x. is_single_statement (f x)) each_single xs
      (subst (λ l. IsTrue (all_true l)) (each_each f is_single_statement xs) ok)

  layer : (y : Statement-F Ref X) → SingleSo (roll-Statement Ref (map-Statement Ref X (Statement Ref) f y))
  layer (S.Let name kind e) = layer_single (S.Let name kind e) (λ ok. refl)
  layer (S.Assign name e) = layer_single (S.Assign name e) (λ ok. refl)
  layer (S.Call bind call) = layer_single (S.Call bind call) (λ ok. absurd (true≢false (sym ok)))
  layer (S.If cond holds fails) = layer_single (S.If cond (each f holds) (each f fails)) (λ ok.
      both_empty (flat_map (λ cs. cs) (each calls_of (each f holds))) (flat_map (λ cs. cs)
      (each calls_of (each f fails)))
      (inner holds (and_left _ _ ok))
      (inner fails (and_right (all_true (each is_single_statement (each f holds))) _ ok)))
  layer (S.While cond turn) = layer_single (S.While cond (each f turn)) (λ ok. absurd (true≢false (sym ok)))

statement_single : (t : Statement Ref) → IsTrue (is_single_statement t) → calls_of t ≡ []
unfolding SingleSo
statement_single = ind-Statement Ref SingleSo (λ x y is. subst (λ z. SingleSo (roll-Statement Ref z)) is
    (layer _ (λ e. e.0) (λ e. e.1) y))

body_single : (ts : List (Statement Ref)) → IsTrue (is_single_body ts) → flat_map calls_of ts ≡ []
body_single [] ok = refl
body_single (t ∷ ts) ok =
    both_empty (calls_of t) (flat_map calls_of ts) (statement_single t
    (and_left (is_single_statement t) _ ok)) (body_single ts (and_right (is_single_statement t) _ ok))

bodies_single : (alts : List (Alternative Ref)) → IsTrue (are_single alts) →
    flat_map (λ (a : Alternative Ref). flat_map calls_of a.body) alts ≡ []
bodies_single [] ok = refl
bodies_single (a ∷ alts) ok =
    both_empty (flat_map calls_of a.body) (flat_map (λ (a : Alternative Ref). flat_map calls_of a.body)
    alts)
    (body_single a.body (and_right (is_none a.pre) _ (and_left _ _ ok))) (bodies_single alts
    (and_right (is_none a.pre && is_single_body a.body) _ ok))

pres_single : (alts : List (Alternative Ref)) → IsTrue (are_single alts) →
    flat_map (λ (a : Alternative Ref). pre_calls a.pre) alts ≡ []
pres_single [] ok = refl
pres_single (a ∷ alts) ok =
    both_empty (pre_calls a.pre) (flat_map (λ (a : Alternative Ref). pre_calls a.pre) alts)
    (none a.pre (and_left (is_none a.pre) _ (and_left _ _ ok)))
    (pres_single alts (and_right (is_none a.pre && is_single_body a.body) _ ok))
  where
    none : (o : Option (Pre Ref)) → IsTrue (is_none o) → pre_calls o ≡ []
    none None ok = refl
    none (Some pre) ok = absurd (true≢false (sym ok))

neither : (early late : List (Call Ref)) → early ≡ [] → late ≡ [] → is_some_call early || is_some_call
    late ≡ false
neither early late a b = ap (λ cs. is_some_call cs || is_some_call late) a ∙ ap is_some_call b

-- so no step of it is late behind a call
pub single_quiet : (f : Form Ref) → IsTrue (is_single f) → has_late f ≡ false
single_quiet (F.Total ts) ok = ap is_some_call (body_single ts ok)
single_quiet (F.Partial alts) ok = neither (early_calls (F.Partial alts)) (body_calls (F.Partial alts))
    (pres_single alts ok) (bodies_single alts ok)
single_quiet (F.Action alts) ok = neither (early_calls (F.Action alts)) (body_calls (F.Action alts))
    (pres_single alts ok) (bodies_single alts ok)
