-- What fits in a text that fits, and what such a text keeps.
use Rattle.std.proofs.Common.{◌≡◌, ℕ, suc, ℤ, Bool, ◌&&◌, nat_le, IsTrue, List, [], ◌∷◌, length, Option}
use Rattle.std.proofs.Common.{None, Some, refl, sym, subst, true≢false}
use Rattle.seuss_program.specs.declared.program.Program.{Program}
use Rattle.seuss_program.specs.declared.tree.Ref.{Ref}
use Rattle.seuss_program.specs.declared.tree.Kind.{Kind}
use Rattle.seuss_program.specs.declared.tree.Kind.TheVariants as KV
use Rattle.seuss_program.specs.declared.tree.Expr.{Expr}
use Rattle.seuss_program.specs.declared.tree.Call.{Call}
use Rattle.seuss_program.specs.declared.tree.Pre.{Pre}
use Rattle.seuss_program.specs.declared.tree.Proc.{Proc}
use Rattle.seuss_program.specs.declared.tree.Form.{Form}
use Rattle.seuss_program.specs.declared.tree.Form.TheVariants as F
use Rattle.seuss_program.specs.declared.tree.Alternative.{Alternative}
use Rattle.seuss_program.specs.declared.tree.Statement.{Statement, fold-roll-Statement, map-Statement}
use Rattle.seuss_program.specs.declared.tree.Statement.{roll-Statement}
use Rattle.seuss_program.specs.declared.tree.Statement.TheOpen as S
use Rattle.seuss_program.specs.declared.tree.Statement.TheOpen.{Statement-F}
use Rattle.seuss_program.specs.declared.state.State.{State}
use Rattle.seuss_program.specs.declared.state.Value.{Value}
use Rattle.seuss_program.specs.Bodies.{Callee, statement, body}
use Rattle.seuss_program.specs.Attempts.{performed}
use Rattle.seuss_program.specs.Keeping as K
use Rattle.seuss_program.specs.Keeping.{Scope, statement_fits, body_fits, call_fits, pre_fits}
use Rattle.seuss_program.specs.Keeping.{alternative_fits, alternatives_fit, form_fits, is_total, is_partial}
use Rattle.seuss_program.specs.Keeping.{all_true, kind_in, kind_set, is_of}
use Rattle.meaning_laws.proofs.KeptBodies.{each, Each, Kept, KeptCall, Put, Ends, Rules, EachAlternative}
use Rattle.meaning_laws.proofs.KeptBodies.{statement-kept, body-kept, total-outs, choice-outs}
use Rattle.meaning_laws.proofs.CalledProcedures.{and-left, and-right, some-same, is-of-some}

-- whether a statement fits is told by its layer
pub fits-layer : (s : Scope) (d : Statement-F Ref (Statement Ref)) →
    statement_fits s (roll-Statement Ref d)
    ≡ K.statement_step s (map-Statement Ref (Statement Ref) Bool (statement_fits s) d)
unfolding statement_fits
fits-layer s d = fold-roll-Statement Ref Bool (K.statement_step s) d

module _ (s : Scope) where
  -- a statement fits
  abbrev pub Fits : Statement Ref → Type 0
  Fits t = IsTrue (statement_fits s t)

  -- the layer of a statement that fits does
  layer-fits : (d : Statement-F Ref (Statement Ref)) → Fits (roll-Statement Ref d) →
      IsTrue (K.statement_step s (map-Statement Ref (Statement Ref) Bool (statement_fits s) d))
  layer-fits d fits = subst (λ b. IsTrue b) (fits-layer s d) fits

  -- statements of which each fits
  all-fit : (ts : List (Statement Ref)) → IsTrue (all_true (each (statement_fits s) ts)) → Each Fits ts
  all-fit [] fits = tt
  all-fit (t ∷ ts) fits = (
    and-left (statement_fits s t) (all_true (each (statement_fits s) ts)) fits,
    all-fit ts (and-right (statement_fits s t) (all_true (each (statement_fits s) ts)) fits),
  )

  -- each statement of a body that fits does
  pub body-fit : (ts : List (Statement Ref)) → IsTrue (body_fits s ts) → Each Fits ts
  body-fit [] fits = tt
  body-fit (t ∷ ts) fits = (
    and-left (statement_fits s t) (body_fits s ts) fits,
    body-fit ts (and-right (statement_fits s t) (body_fits s ts) fits),
  )

  -- what is assigned has the kind of its name
  pub record Assigns (name : Ref) (e : Expr Ref) : Type 0 where
    pub kind : Kind
    pub name_is : kind_set s name ≡ Some kind
    pub value_is : kind_in s e ≡ Some kind

  -- a `let` that fits assigns a value of its kind
  let-assigns : (name : Ref) (kind : Kind) (e : Expr Ref) → Fits (roll-Statement Ref (S.Let name kind e)) →
      Assigns name e
  let-assigns name kind e fits =
      let both = layer-fits (S.Let name kind e) fits in
      record {
        kind = kind;
        name_is =
            is-of-some kind (kind_set s name)
            (and-left (is_of kind (kind_set s name)) (is_of kind (kind_in s e)) both);
        value_is =
            is-of-some kind (kind_in s e)
            (and-right (is_of kind (kind_set s name)) (is_of kind (kind_in s e)) both);
      }

  -- an assignment that fits assigns a value of the kind of its name
  assign-assigns : (name : Ref) (e : Expr Ref) → Fits (roll-Statement Ref (S.Assign name e)) → Assigns name e
  assign-assigns name e fits = by (kind_set s name) refl (layer-fits (S.Assign name e) fits)
    where
      by : (o : Option Kind) → kind_set s name ≡ o → IsTrue (K.assigns s o e) → Assigns name e
      by None is h = absurd (true≢false (sym h))
      by (Some k) is h = record { kind = k; name_is = is; value_is = is-of-some k (kind_in s e) h }

  -- the parts of a condition
  both-fit : (cond : Expr Ref) (holds fails : List (Statement Ref)) →
      Fits (roll-Statement Ref (S.If cond holds fails)) →
      IsTrue (all_true (each (statement_fits s) holds) && all_true (each (statement_fits s) fails))
  both-fit cond holds fails fits =
      and-right (is_of KV.Bool (kind_in s cond))
      (all_true (each (statement_fits s) holds) && all_true (each (statement_fits s) fails))
      (layer-fits (S.If cond holds fails) fits)

  -- What keeps a fact at assignments and calls that fit.
  module _ (p : Program) (callee : Callee) (box : ℕ) (Fact : State → List Value → ℕ → Type 0) where
    -- what keeps a fact: payments, assigned values and calls
    pub record Keeping : Type 0 where
      pub paid : (state : State) (slots : List Value) (left : ℕ) → Fact state slots (suc left) →
          Fact state slots left
      pub put : (name : Ref) (e : Expr Ref) → Assigns name e →
          Kept p callee box Fact (Put p callee box Fact name e)
      pub call : (form : Form Ref → Bool) (bind : Option Ref) (call : Call Ref) →
          IsTrue (call_fits s form bind call) → KeptCall p callee box Fact bind call

    module _ (keeping : Keeping) where
      -- what keeps a fact keeps it at each statement that fits
      rules : Rules p callee box Fact Fits
      rules = record {
        paid = keeping.paid;
        let_put = λ name kind e fits. keeping.put name e (let-assigns name kind e fits);
        assigned = λ name e fits. keeping.put name e (assign-assigns name e fits);
        called = λ bind call fits. keeping.call is_total bind call (layer-fits (S.Call bind call) fits);
        if_holds = λ cond holds fails fits.
            all-fit holds
            (and-left (all_true (each (statement_fits s) holds)) (all_true (each (statement_fits s) fails))
            (both-fit cond holds fails fits));
        if_fails = λ cond holds fails fits.
            all-fit fails
            (and-right (all_true (each (statement_fits s) holds)) (all_true (each (statement_fits s) fails))
            (both-fit cond holds fails fits));
        while_turn = λ cond turn fits.
            all-fit turn
            (and-right (is_of KV.Bool (kind_in s cond)) (all_true (each (statement_fits s) turn))
            (layer-fits (S.While cond turn) fits));
      }

      -- a statement that fits keeps the fact
      pub statement-keeps : (t : Statement Ref) → Fits t → Kept p callee box Fact (statement p callee box t)
      statement-keeps = statement-kept p callee box Fact Fits rules

      -- a body that fits keeps the fact
      pub body-keeps : (ts : List (Statement Ref)) → IsTrue (body_fits s ts) →
          Kept p callee box Fact (body p callee box ts)
      body-keeps ts fits = body-kept p callee box Fact Fits rules ts (body-fit ts fits)

      -- a preprocedure that fits keeps the fact
      early-kept : (o : Option (Pre Ref)) → IsTrue (pre_fits s o) → (pre : Pre Ref) → o ≡ Some pre →
          KeptCall p callee box Fact pre.bind pre.call
      early-kept None fits pre is = absurd (cc)
      early-kept (Some other) fits pre is =
          subst (λ (x : Pre Ref). KeptCall p callee box Fact x.bind x.call) (some-same is)
          (keeping.call is_partial other.bind other.call fits)

      -- each alternative that fits keeps the fact
      each-known : (alts : List (Alternative Ref)) → IsTrue (alternatives_fit s alts) →
          EachAlternative p callee box Fact Fits rules alts
      each-known [] fits = tt
      each-known (a ∷ alts) fits =
          let own =
          and-right (is_of KV.Bool (kind_in s a.cond)) (pre_fits s a.pre && body_fits s a.body)
          (and-left (alternative_fits s a) (alternatives_fit s alts) fits) in (
            record {
              early = early-kept a.pre (and-left (pre_fits s a.pre) (body_fits s a.body) own);
              late = body-fit a.body (and-right (pre_fits s a.pre) (body_fits s a.body) own);
            },
            each-known alts (and-right (alternative_fits s a) (alternatives_fit s alts) fits),
          )

      -- a procedure keeps what its text keeps
      pub performed-outs : (q : Proc Ref) (Out : State → Option ℤ → ℕ → Type 0) →
          Ends p callee box Fact q Out → (form : Form Ref) → IsTrue (form_fits s form) →
          (state : State) (slots : List Value) (budget : ℕ) → Fact state slots budget →
          let called = performed p callee box q form state slots budget in
          Out called.state called.result called.budget
      performed-outs q Out ends (F.Total ts) fits =
          total-outs p callee box Fact Fits rules q Out ends ts (body-fit ts fits)
      performed-outs q Out ends (F.Partial alts) fits =
          choice-outs p callee box Fact Fits rules q Out ends alts
          (each-known alts (and-right (nat_le (length alts) 16) (alternatives_fit s alts) fits))
      performed-outs q Out ends (F.Action alts) fits =
          choice-outs p callee box Fact Fits rules q Out ends alts
          (each-known alts (and-right (nat_le (length alts) 16) (alternatives_fit s alts) fits))
