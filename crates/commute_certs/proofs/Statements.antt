-- What the statements of a body leave in a case is what they do at every point.
use Rattle.std.proofs.Common.{◌≡◌, Bool, true, false, if◌then◌else◌, List, [], ◌∷◌, map, Ok, Err, refl, sym}
use Rattle.std.proofs.Common.{ap, subst, ◌∙◌}
use Rattle.std.proofs.lemmas.List.{map-set}
use Rattle.seuss_program.specs.declared.tree.Ref.{Ref}
use Rattle.seuss_program.specs.declared.tree.Ref.TheVariants as R
use Rattle.seuss_program.specs.declared.tree.Expr.{Expr}
use Rattle.seuss_program.specs.declared.tree.Statement.{Statement, fold-roll-Statement, map-Statement}
use Rattle.seuss_program.specs.declared.tree.Statement.{roll-Statement, ind-Statement}
use Rattle.seuss_program.specs.declared.tree.Statement.TheOpen as S
use Rattle.seuss_program.specs.declared.tree.Statement.TheOpen.{Statement-F}
use Rattle.seuss_program.specs.declared.tree.Statement.TheShapes.{former-Statement-If-1}
use Rattle.seuss_program.specs.declared.program.Program.{Program}
use Rattle.seuss_program.specs.declared.state.Value.{Value}
use Rattle.seuss_program.specs.Values as V
use Rattle.seuss_program.specs.Programs.{vars_of}
use Rattle.seuss_program.specs.Bodies as M
use Rattle.seuss_program.specs.Bodies.{Ran, Meaning, Callee, Done, resumed}
use Rattle.shape_terms.specs.declared.symbol.Symbol.{Symbol}
use Rattle.shape_terms.specs.Points.{Point}
use Rattle.shape_terms.specs.Symbols.{value_at, values_at}
use Rattle.commute_certs.specs.declared.places.Places.{Places}
use Rattle.commute_certs.specs.Runs.{one_box}
use Rattle.commute_certs.specs.Terms as T
use Rattle.commute_certs.specs.Bodies as B
use Rattle.commute_certs.specs.Bodies.{Leaves}
use Rattle.commute_certs.proofs.Comparisons.{not_told, truth_at}
use Rattle.commute_certs.proofs.Evaluation.{told_at, steps}
use Rattle.commute_certs.proofs.StatementLemmas.{leaves-roll}

-- a function of each of the statements inside a statement
abbrev pub each : {X Y : Type 0} → (X → Y) → List X → List Y
each {X} {Y} f xs = (former-Statement-If-1 Ref).map X Y f xs

pub each_each : {X Y Z : Type 0} (f : X → Y) (g : Y → Z) (xs : List X) →
    each g (each f xs) ≡ map (λ x. g (f x)) xs
each_each f g [] = refl
each_each f g (x ∷ xs) = ap (λ l. g (f x) ∷ l) (each_each f g xs)

module _ (p : Point) where
  -- a run that is done with these variables and slots
  abbrev pub done_with : List Value → List Value → Ran
  done_with vs ss = record { state = one_box vs; slots = ss; budget = 0; finish = Done }

  -- a run that is done, with these places at the point
  abbrev pub done : Places → Ran
  done places = done_with (values_at places.vars p) (values_at places.slots p)

  -- a meaning leaves what is told
  abbrev pub Does : Meaning → Leaves → Type 0
  Does m l = (places after : Places) → l places ≡ Ok after →
      m (one_box (values_at places.vars p)) (values_at places.slots p) 0 ≡ done after

  put_at : (name : Ref) (s : Symbol) (places : Places) →
      M.assigned 0 name (value_at s p) (one_box (values_at places.vars p)) (values_at places.slots p) 0
      ≡ done (B.put name s places)
  put_at (R.Var n) s places = ap (λ vs. done_with vs (values_at places.slots p))
      (sym (map-set (λ (s : Symbol). value_at s p) places.vars n s))
  put_at (R.Slot n) s places = ap (λ ss. done_with (values_at places.vars p) ss)
      (sym (map-set (λ (s : Symbol). value_at s p) places.slots n s))
  put_at (R.Given n) s places = refl
  put_at (R.Method n) s places = refl
  put_at (R.Cat n) s places = refl

  set_does : (name : Ref) (e : Expr Ref) →
      Does (λ σ slots budget. M.evaluated_into 0 name (V.value e (vars_of σ 0) slots) σ slots budget)
      (λ places. B.put_told name (T.told e places.vars places.slots) places)
  set_does name e places after h = by (T.told e places.vars places.slots) refl h
    where
      by : (m : T.Told) → T.told e places.vars places.slots ≡ m → B.put_told name m places ≡ Ok after →
          M.evaluated_into 0 name (V.value e (values_at places.vars p) (values_at places.slots p))
          (one_box (values_at places.vars p)) (values_at places.slots p) 0 ≡ done after
      by (Ok s) is h =
          let same : B.put name s places ≡ after = cc in
          ap (λ v. M.evaluated_into 0 name v (one_box (values_at places.vars p)) (values_at places.slots p)
          0) (told_at p places.vars places.slots e s is)
          ∙ (put_at name s places ∙ ap done same)
      by (Err why) is h = absurd (not_told why after h)

  -- what a condition decides
  pub decided_at : (cond : Expr Ref) (places : Places) (b : Bool) →
      T.and_then (T.told cond places.vars places.slots) T.truth_in ≡ Ok b →
      (v : Value) × (V.value cond (values_at places.vars p) (values_at places.slots p) ≡ Ok v)
      × (V.bool_of v ≡ b)
  decided_at cond places b h =
      let s = steps (T.told cond places.vars places.slots) T.truth_in b h in (
        value_at s.middle p,
        told_at p places.vars places.slots cond s.middle s.start,
        truth_at p s.middle b
            s.onward,
      )

  branch_does : (cond : Expr Ref) (mh mf : Meaning) (lh lf : Leaves) → Does mh lh → Does mf lf →
      Does (λ σ slots budget. M.branched (V.value cond (vars_of σ 0) slots) mh mf σ slots budget)
      (λ places. B.branch (T.told cond places.vars places.slots) lh lf places)
  branch_does cond mh mf lh lf dh df places after h =
      let s = steps (T.and_then (T.told cond places.vars places.slots) T.truth_in)
      (λ b. if b then lh places else lf places) after h in
      let d = decided_at cond places s.middle s.start in
      ap (λ m. M.branched m mh mf (one_box (values_at places.vars p)) (values_at places.slots p) 0) d.1
      ∙ (ap (λ b. if b then mh (one_box (values_at places.vars p)) (values_at places.slots p) 0 else mf
      (one_box (values_at places.vars p)) (values_at places.slots p) 0) d.2
      ∙ by s.middle s.onward)
    where
      by : (b : Bool) → (if b then lh places else lf places) ≡ Ok after →
          (if b then mh (one_box (values_at places.vars p)) (values_at places.slots p) 0 else mf
          (one_box (values_at places.vars p)) (values_at places.slots p) 0) ≡ done after
      by true h = dh places after h
      by false h = df places after h

  then_does : (m n : Meaning) (l k : Leaves) → Does m l → Does n k →
      Does (λ σ slots budget. resumed (m σ slots budget).finish (m σ slots budget) n)
      (λ places. T.and_then (l places) k)
  then_does m n l k a b places after h =
      let s = steps (l places) k after h in
      ap (λ (r : Ran). resumed r.finish r n) (a places s.middle s.start) ∙ b s.middle after s.onward

  stay_does : Does (M.stay) (λ places. Ok places)
  stay_does places after h = let same : places ≡ after = cc in ap done same

  all_do : {X : Type 0} (meaning : X → Meaning) (leaves : X → Leaves) →
      ((x : X) → Does (meaning x) (leaves x)) → (xs : List X) →
      Does (M.in_turn (map meaning xs)) (B.in_turn (map leaves xs))
  all_do meaning leaves each_does [] = stay_does
  all_do meaning leaves each_does (x ∷ xs) =
      then_does (meaning x) (M.in_turn (map meaning xs)) (leaves x) (B.in_turn (map leaves xs))
      (each_does x) (all_do meaning leaves each_does xs)

  module _ (nothing : Program) (callee : Callee) where
    DoesSo : Statement Ref → Type 0
    DoesSo t = Does (M.statement nothing callee 0 t) (B.statement t)

    meaning-roll : (d : Statement-F Ref (Statement Ref)) →
        M.statement nothing callee 0 (roll-Statement Ref d) ≡ M.statement_step nothing callee 0
        (map-Statement Ref (Statement Ref) Meaning (M.statement nothing callee 0) d)
    unfolding M.statement
    meaning-roll d = fold-roll-Statement Ref Meaning (M.statement_step nothing callee 0) d

    layer_does : (d : Statement-F Ref (Statement Ref)) →
        Does (M.statement_step nothing callee 0
        (map-Statement Ref (Statement Ref) Meaning (M.statement nothing callee 0) d))
        (B.statement_step (map-Statement Ref (Statement Ref) Leaves B.statement d)) →
        DoesSo (roll-Statement Ref d)
    unfolding DoesSo
    layer_does d h places after k =
        ap (λ (m : Meaning). m (one_box (values_at places.vars p)) (values_at places.slots p) 0)
        (meaning-roll d)
        ∙ h places after (sym (ap (λ (l : Leaves). l places) (leaves-roll d)) ∙ k)

    module _ (X : Type 0) (f : X → Statement Ref) (each_does : (x : X) → DoesSo (f x)) where
      inner : (xs : List X) → Does (M.in_turn (each (M.statement nothing callee 0) (each f xs)))
          (B.in_turn (each B.statement (each f xs)))
      unfolding DoesSo
      inner xs = subst (λ ms. Does (M.in_turn ms) (B.in_turn (each B.statement (each f xs))))
          (sym (each_each f (M.statement nothing callee 0) xs))
          (subst (λ ls. Does (M.in_turn (map (λ x. M.statement nothing callee 0 (f x)) xs)) (B.in_turn ls))
          (sym (each_each f B.statement xs))
          (all_do (λ x. M.statement nothing callee 0 (f x)) (λ x. B.statement (f x)) each_does xs))

      layer : (y : Statement-F Ref X) → DoesSo (roll-Statement Ref (map-Statement Ref X (Statement Ref) f y))
      layer (S.Let name kind e) = layer_does (S.Let name kind e) (set_does name e)
      layer (S.Assign name e) = layer_does (S.Assign name e) (set_does name e)
      layer (S.Call bind call) =
          layer_does (S.Call bind call) (λ places after h. absurd (not_told _ after h))
      layer (S.If cond holds fails) = layer_does (S.If cond (each f holds) (each f fails))
          (branch_does cond (M.in_turn (each (M.statement nothing callee 0) (each f holds)))
          (M.in_turn (each (M.statement nothing callee 0) (each f fails)))
          (B.in_turn (each B.statement (each f holds))) (B.in_turn (each B.statement (each f fails)))
          (inner holds) (inner fails))
      layer (S.While cond turn) =
          layer_does (S.While cond (each f turn)) (λ places after h. absurd (not_told _ after h))

    statement_does : (t : Statement Ref) → Does (M.statement nothing callee 0 t) (B.statement t)
    unfolding DoesSo
    statement_does = ind-Statement Ref DoesSo
        (λ x y is. subst (λ z. DoesSo (roll-Statement Ref z)) is (layer _ (λ e. e.0) (λ e. e.1) y))

    -- what is told of a body is what it does
    pub body_does : (ts : List (Statement Ref)) → Does (M.body nothing callee 0 ts) (B.body ts)
    body_does [] = stay_does
    body_does (t ∷ ts) = then_does (M.statement nothing callee 0 t) (M.body nothing callee 0 ts)
        (B.statement t) (B.body ts) (statement_does t) (body_does ts)
