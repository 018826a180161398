-- A single procedure does the same on any box of any program as on one box alone.
use Rattle.std.proofs.Common.{◌≡◌, ℕ, zero, suc, Bool, true, false, ◌&&◌, IsTrue, if◌then◌else◌, List, []}
use Rattle.std.proofs.Common.{◌∷◌, map, get_or, set, Option, None, Some, is_none, Ok, Err, refl, sym, ap}
use Rattle.std.proofs.Common.{subst, ◌∙◌, true≢false}
use Rattle.seuss_program.specs.declared.tree.Ref.{Ref}
use Rattle.seuss_program.specs.declared.tree.Ref.TheVariants as R
use Rattle.seuss_program.specs.declared.tree.Expr.{Expr}
use Rattle.seuss_program.specs.declared.tree.Pre.{Pre}
use Rattle.seuss_program.specs.declared.tree.Alternative.{Alternative}
use Rattle.seuss_program.specs.declared.tree.Form.{Form}
use Rattle.seuss_program.specs.declared.tree.Form.TheVariants as F
use Rattle.seuss_program.specs.declared.tree.Proc.{Proc}
use Rattle.seuss_program.specs.declared.tree.Statement.{Statement, fold-roll-Statement, map-Statement}
use Rattle.seuss_program.specs.declared.tree.Statement.{roll-Statement, ind-Statement}
use Rattle.seuss_program.specs.declared.tree.Statement.TheOpen as S
use Rattle.seuss_program.specs.declared.tree.Statement.TheOpen.{Statement-F}
use Rattle.seuss_program.specs.declared.tree.Statement.TheShapes.{former-Statement-If-1}
use Rattle.seuss_program.specs.declared.program.Program.{Program}
use Rattle.seuss_program.specs.declared.state.Value.{Value}
use Rattle.seuss_program.specs.declared.state.Vars.{Vars}
use Rattle.seuss_program.specs.declared.state.State.{State}
use Rattle.seuss_program.specs.Programs.{vars_of}
use Rattle.seuss_program.specs.Values as V
use Rattle.seuss_program.specs.Bodies as M
use Rattle.seuss_program.specs.Bodies.{Finish, Done, Trapped, Spent, Ran, Called, Meaning, Callee, resumed}
use Rattle.seuss_program.specs.Attempts as A
use Rattle.seuss_program.specs.Attempts.{finished}
use Rattle.seuss_program.specs.Keeping.{all_true}
use Rattle.method_code.specs.Singles.{single_step, is_single_statement, is_single_body, are_single}
use Rattle.method_code.specs.Singles.{is_single}
use Rattle.commute_certs.specs.Runs.{one_box}

abbrev each : {X Y : Type 0} → (X → Y) → List X → List Y
each {X} {Y} f xs = (former-Statement-If-1 Ref).map X Y f xs

each_each : {X Y Z : Type 0} (f : X → Y) (g : Y → Z) (xs : List X) →
    each g (each f xs) ≡ map (λ x. g (f x)) xs
each_each f g [] = refl
each_each f g (x ∷ xs) = ap (λ l. g (f x) ∷ l) (each_each f g xs)

pub first_true : (a b : Bool) → IsTrue (a && b) → IsTrue a
first_true true b h = refl
first_true false b h = absurd (true≢false (sym h))

pub second_true : (a b : Bool) → IsTrue (a && b) → IsTrue b
second_true true b h = h
second_true false b h = absurd (true≢false (sym h))

-- the variables of a box after one of them got a value
put_read : (l : List Vars) (i n : ℕ) (v : Value) →
    (get_or (set l i (record { values = set (get_or l i (record { values = [] })).values n v })) i
    (record { values = [] })).values ≡ set (get_or l i (record { values = [] })).values n v
put_read [] i n v = refl
put_read (x ∷ l) zero n v = refl
put_read (x ∷ l) (suc i) n v = put_read l i n v

module _ (p : Program) (callee : Callee) (box : ℕ) (nothing : Program) (other : Callee) where
  -- two runs do the same: one on a box among others, and one on one box
  record Follows (b : ℕ) (r t : Ran) : Type 0 where
    finish : r.finish ≡ t.finish
    slots : r.slots ≡ t.slots
    vars : vars_of r.state box ≡ vars_of t.state 0
    one : t.state ≡ one_box (vars_of t.state 0)
    budget : r.budget ≡ b
    none : t.budget ≡ 0

  abbrev Along : Meaning → Meaning → Type 0
  Along m n = (σ : State) (slots : List Value) (b : ℕ) →
      Follows b (m σ slots b) (n (one_box (vars_of σ box)) slots 0)

  moved : (b : ℕ) (r r' t t' : Ran) → r ≡ r' → t ≡ t' → Follows b r' t' → Follows b r t
  moved b r r' t t' e f h = subst (λ r. Follows b r t) (sym e) (subst (λ t. Follows b r' t) (sym f) h)

  resumed_along : (m n : Meaning) (b : ℕ) (r t : Ran) (f : Finish) → Along m n → r.finish ≡ f →
      Follows b r t → Follows b (resumed r.finish r m) (resumed t.finish t n)
  resumed_along m n b r t Done a is h =
      moved b (resumed r.finish r m) (m r.state r.slots b) (resumed t.finish t n)
      (n (one_box (vars_of r.state box)) r.slots 0)
      (ap (λ f. resumed f r m) is ∙ ap (λ k. m r.state r.slots k) h.budget)
      (ap (λ f. resumed f t n) (sym h.finish ∙ is)
      ∙ (ap (λ s. n s t.slots t.budget) (h.one ∙ ap one_box (sym h.vars))
      ∙ (ap (λ s. n (one_box (vars_of r.state box)) s t.budget) (sym h.slots)
      ∙ ap (λ k. n (one_box (vars_of r.state box)) r.slots k) h.none)))
      (a r.state r.slots b)
  resumed_along m n b r t (Trapped w) a is h =
      moved b (resumed r.finish r m) r (resumed t.finish t n) t (ap (λ f. resumed f r m) is)
      (ap (λ f. resumed f t n) (sym h.finish ∙ is)) h
  resumed_along m n b r t Spent a is h =
      moved b (resumed r.finish r m) r (resumed t.finish t n) t (ap (λ f. resumed f r m) is)
      (ap (λ f. resumed f t n) (sym h.finish ∙ is)) h

  then_along : (m n m' n' : Meaning) → Along m n → Along m' n' →
      Along (λ σ slots b. resumed (m σ slots b).finish (m σ slots b) m')
      (λ σ slots b. resumed (n σ slots b).finish (n σ slots b) n')
  then_along m n m' n' a a' σ slots b =
      resumed_along m' n' b (m σ slots b) (n (one_box (vars_of σ box)) slots 0) (m σ slots b).finish a'
      refl (a σ slots b)

  stay_along : Along M.stay M.stay
  stay_along σ slots b = record
      { finish = refl; slots = refl; vars = refl; one = refl; budget = refl; none = refl }

  all_along : {X : Type 0} (m n : X → Meaning) (test : X → Bool) →
      ((x : X) → IsTrue (test x) → Along (m x) (n x)) → (xs : List X) → IsTrue (all_true (map test xs)) →
      Along (M.in_turn (map m xs)) (M.in_turn (map n xs))
  all_along m n test each_along [] h = stay_along
  all_along m n test each_along (x ∷ xs) h =
      then_along (m x) (n x) (M.in_turn (map m xs)) (M.in_turn (map n xs))
      (each_along x (first_true (test x) (all_true (map test xs)) h))
      (all_along m n test each_along xs (second_true (test x) (all_true (map test xs)) h))

  put_along : (name : Ref) (v : Value) → Along (M.assigned box name v) (M.assigned 0 name v)
  put_along (R.Var n) v σ slots b =
      record {
        finish = refl;
        slots = refl;
        vars = put_read σ.boxes box n v;
        one = refl;
        budget =
            refl;
        none = refl;
      }
  put_along (R.Slot n) v σ slots b =
      record { finish = refl; slots = refl; vars = refl; one = refl; budget = refl; none = refl }
  put_along (R.Given n) v σ slots b =
      record { finish = refl; slots = refl; vars = refl; one = refl; budget = refl; none = refl }
  put_along (R.Method n) v σ slots b =
      record { finish = refl; slots = refl; vars = refl; one = refl; budget = refl; none = refl }
  put_along (R.Cat n) v σ slots b =
      record { finish = refl; slots = refl; vars = refl; one = refl; budget = refl; none = refl }

  into_along : (name : Ref) (ev : V.Evaluated) →
      Along (M.evaluated_into box name ev) (M.evaluated_into 0 name ev)
  into_along name (Err t) σ slots b =
      record { finish = refl; slots = refl; vars = refl; one = refl; budget = refl; none = refl }
  into_along name (Ok v) σ slots b = put_along name v σ slots b

  set_along : (name : Ref) (e : Expr Ref) →
      Along (λ σ slots b. M.evaluated_into box name (V.value e (vars_of σ box) slots) σ slots b)
      (λ σ slots b. M.evaluated_into 0 name (V.value e (vars_of σ 0) slots) σ slots b)
  set_along name e σ slots b = into_along name (V.value e (vars_of σ box) slots) σ slots b

  picked_along : (m n m' n' : Meaning) → Along m n → Along m' n' → (t : Bool) →
      Along (λ σ slots b. if t then m σ slots b else m' σ slots b)
      (λ σ slots b. if t then n σ slots b else n' σ slots b)
  picked_along m n m' n' a a' true = a
  picked_along m n m' n' a a' false = a'

  branched_along : (m n m' n' : Meaning) → Along m n → Along m' n' → (ev : V.Evaluated) →
      Along (M.branched ev m m') (M.branched ev n n')
  branched_along m n m' n' a a' (Err t) σ slots b =
      record { finish = refl; slots = refl; vars = refl; one = refl; budget = refl; none = refl }
  branched_along m n m' n' a a' (Ok v) σ slots b = picked_along m n m' n' a a' (V.bool_of v) σ slots b

  if_along : (cond : Expr Ref) (m n m' n' : Meaning) → Along m n → Along m' n' →
      Along (λ σ slots b. M.branched (V.value cond (vars_of σ box) slots) m m' σ slots b)
      (λ σ slots b. M.branched (V.value cond (vars_of σ 0) slots) n n' σ slots b)
  if_along cond m n m' n' a a' σ slots b =
      branched_along m n m' n' a a' (V.value cond (vars_of σ box) slots) σ slots b

  AlongSo : Statement Ref → Type 0
  AlongSo t = IsTrue (is_single_statement t) →
      Along (M.statement p callee box t) (M.statement nothing other 0 t)

  here-roll : (d : Statement-F Ref (Statement Ref)) →
      M.statement p callee box (roll-Statement Ref d) ≡ M.statement_step p callee box
      (map-Statement Ref (Statement Ref) Meaning (M.statement p callee box) d)
  unfolding M.statement
  here-roll d = fold-roll-Statement Ref Meaning (M.statement_step p callee box) d

  there-roll : (d : Statement-F Ref (Statement Ref)) →
      M.statement nothing other 0 (roll-Statement Ref d) ≡ M.statement_step nothing other 0
      (map-Statement Ref (Statement Ref) Meaning (M.statement nothing other 0) d)
  unfolding M.statement
  there-roll d = fold-roll-Statement Ref Meaning (M.statement_step nothing other 0) d

  single-roll : (d : Statement-F Ref (Statement Ref)) →
      is_single_statement (roll-Statement Ref d) ≡ single_step
      (map-Statement Ref (Statement Ref) Bool is_single_statement d)
  unfolding is_single_statement
  single-roll d = fold-roll-Statement Ref Bool single_step d

  layer_along : (d : Statement-F Ref (Statement Ref)) →
      (IsTrue (single_step (map-Statement Ref (Statement Ref) Bool is_single_statement d)) →
      Along (M.statement_step p callee box
      (map-Statement Ref (Statement Ref) Meaning (M.statement p callee box) d))
      (M.statement_step nothing other 0
      (map-Statement Ref (Statement Ref) Meaning (M.statement nothing other 0) d))) →
      AlongSo (roll-Statement Ref d)
  unfolding AlongSo
  layer_along d h single =
      subst (λ m. Along m (M.statement nothing other 0 (roll-Statement Ref d))) (sym (here-roll d))
      (subst (λ n. Along (M.statement_step p callee box
      (map-Statement Ref (Statement Ref) Meaning (M.statement p callee box) d)) n) (sym (there-roll d))
      (h (subst (λ b. IsTrue b) (single-roll d) single)))

  module _ (X : Type 0) (f : X → Statement Ref) (each_along : (x : X) → AlongSo (f x)) where
    inner : (xs : List X) → IsTrue (all_true (each is_single_statement (each f xs))) →
        Along (M.in_turn (each (M.statement p callee box) (each f xs)))
        (M.in_turn (each (M.statement nothing other 0) (each f xs)))
    unfolding AlongSo
    inner xs single =
        subst (λ ms. Along (M.in_turn ms) (M.in_turn (each (M.statement nothing other 0) (each f xs))))
        (sym (each_each f (M.statement p callee box) xs))
        (subst (λ ns. Along (M.in_turn (map (λ x. M.statement p callee box (f x)) xs)) (M.in_turn ns))
        (sym (each_each f (M.statement nothing other 0) xs))
        (all_along (λ x. M.statement p callee box (f x)) (λ x. M.statement nothing other 0 (f x))
        (λ x. is_single_statement (f x)) each_along xs
        (subst (λ l. IsTrue (all_true l)) (each_each f is_single_statement xs) single)))

    layer : (y : Statement-F Ref X) → AlongSo (roll-Statement Ref (map-Statement Ref X (Statement Ref) f y))
    layer (S.Let name kind e) = layer_along (S.Let name kind e) (λ single. set_along name e)
    layer (S.Assign name e) = layer_along (S.Assign name e) (λ single. set_along name e)
    layer (S.Call bind call) = layer_along (S.Call bind call) (λ single. absurd (true≢false (sym single)))
    layer (S.If cond holds fails) = layer_along (S.If cond (each f holds) (each f fails)) (λ single.
        if_along cond (M.in_turn (each (M.statement p callee box) (each f holds)))
        (M.in_turn (each (M.statement nothing other 0) (each f holds)))
        (M.in_turn (each (M.statement p callee box) (each f fails)))
        (M.in_turn (each (M.statement nothing other 0) (each f fails)))
        (inner holds (first_true (all_true (each is_single_statement (each f holds)))
        (all_true (each is_single_statement (each f fails))) single))
        (inner fails (second_true (all_true (each is_single_statement (each f holds)))
        (all_true (each is_single_statement (each f fails))) single)))
    layer (S.While cond turn) =
        layer_along (S.While cond (each f turn)) (λ single. absurd (true≢false (sym single)))

  statement_along : (t : Statement Ref) → IsTrue (is_single_statement t) →
      Along (M.statement p callee box t) (M.statement nothing other 0 t)
  unfolding AlongSo
  statement_along = ind-Statement Ref AlongSo
      (λ x y is. subst (λ z. AlongSo (roll-Statement Ref z)) is (layer _ (λ e. e.0) (λ e. e.1) y))

  body_along : (ts : List (Statement Ref)) → IsTrue (is_single_body ts) →
      Along (M.body p callee box ts) (M.body nothing other 0 ts)
  body_along [] single = stay_along
  body_along (t ∷ ts) single =
      then_along (M.statement p callee box t) (M.statement nothing other 0 t) (M.body p callee box ts)
      (M.body nothing other 0 ts)
      (statement_along t (first_true (is_single_statement t) (is_single_body ts) single))
      (body_along ts (second_true (is_single_statement t) (is_single_body ts) single))

  -- two calls end the same
  pub record Same (c d : Called) : Type 0 where
    pub outcome : c.outcome ≡ d.outcome
    pub result : c.result ≡ d.result
    pub vars : vars_of c.state box ≡ vars_of d.state 0

  module _ (q : Proc Ref) where
    done_same : (positive : Bool) (b : ℕ) (r t : Ran) (f : Finish) → Follows b r t →
        Same (finished positive q f r) (finished positive q f t)
    done_same true b r t Done h =
        record { outcome = refl; result = ap (A.result_of q) h.slots; vars = h.vars }
    done_same false b r t Done h = record { outcome = refl; result = refl; vars = h.vars }
    done_same true b r t (Trapped w) h = record { outcome = refl; result = refl; vars = h.vars }
    done_same false b r t (Trapped w) h = record { outcome = refl; result = refl; vars = h.vars }
    done_same true b r t Spent h = record { outcome = refl; result = refl; vars = h.vars }
    done_same false b r t Spent h = record { outcome = refl; result = refl; vars = h.vars }

    body_same : (positive : Bool) (ts : List (Statement Ref)) → IsTrue (is_single_body ts) →
        (σ : State) (slots : List Value) (b : ℕ) →
        Same (finished positive q (M.body p callee box ts σ slots b).finish
        (M.body p callee box ts σ slots b))
        (finished positive q (M.body nothing other 0 ts (one_box (vars_of σ box)) slots 0).finish
        (M.body nothing other 0 ts (one_box (vars_of σ box)) slots 0))
    body_same positive ts single σ slots b =
        let f : Follows b (M.body p callee box ts σ slots b)
        (M.body nothing other 0 ts (one_box (vars_of σ box)) slots 0) = body_along ts single σ slots b in
        subst (λ e. Same (finished positive q (M.body p callee box ts σ slots b).finish
        (M.body p callee box ts σ slots b))
        (finished positive q e (M.body nothing other 0 ts (one_box (vars_of σ box)) slots 0)))
        f.finish (done_same positive b (M.body p callee box ts σ slots b)
        (M.body nothing other 0 ts (one_box (vars_of σ box)) slots 0)
        (M.body p callee box ts σ slots b).finish f)

    chosen_same : (a : Alternative Ref) (pre : Option (Pre Ref)) → IsTrue (is_none pre) →
        IsTrue (is_single_body a.body) → (σ : State) (slots : List Value) (b : ℕ) →
        Same (A.chosen p callee box q a pre σ slots b)
        (A.chosen nothing other 0 q a pre (one_box (vars_of σ box)) slots 0)
    chosen_same a None none single σ slots b = body_same a.positive a.body single σ slots b
    chosen_same a (Some pre) none single σ slots b = absurd (true≢false (sym none))

    judged_same : (a : Alternative Ref) (c d : Called) → IsTrue (is_none a.pre && is_single_body a.body) →
        Same c d → (ev : V.Evaluated) (σ : State) (slots : List Value) (b : ℕ) →
        Same (A.judged p callee box q ev a c σ slots b)
        (A.judged nothing other 0 q ev a d (one_box (vars_of σ box)) slots 0)
    judged_same a c d single s (Err t) σ slots b = record { outcome = refl; result = refl; vars = refl }
    judged_same a c d single s (Ok v) σ slots b = by (V.bool_of v)
      where
        by : (t : Bool) → Same (if t then A.chosen p callee box q a a.pre σ slots b else c)
            (if t then A.chosen nothing other 0 q a a.pre (one_box (vars_of σ box)) slots 0 else d)
        by true = chosen_same a a.pre (first_true (is_none a.pre) (is_single_body a.body) single)
            (second_true (is_none a.pre) (is_single_body a.body) single) σ slots b
        by false = s

    choice_same : (alts : List (Alternative Ref)) → IsTrue (are_single alts) →
        (σ : State) (slots : List Value) (b : ℕ) →
        Same (A.choice p callee box q alts σ slots b)
        (A.choice nothing other 0 q alts (one_box (vars_of σ box)) slots 0)
    choice_same [] single σ slots b = record { outcome = refl; result = refl; vars = refl }
    choice_same (a ∷ alts) single σ slots b =
        judged_same a (A.choice p callee box q alts σ slots b)
        (A.choice nothing other 0 q alts (one_box (vars_of σ box)) slots 0)
        (first_true (is_none a.pre && is_single_body a.body) (are_single alts) single)
        (choice_same alts (second_true (is_none a.pre && is_single_body a.body) (are_single alts) single) σ
        slots b)
        (V.value a.cond (vars_of σ box) slots) σ slots b

    -- a single procedure does the same on one box
    pub performed_same : (form : Form Ref) → IsTrue (is_single form) →
        (σ : State) (slots : List Value) (b : ℕ) →
        Same (A.performed p callee box q form σ slots b)
        (A.performed nothing other 0 q form (one_box (vars_of σ box)) slots 0)
    performed_same (F.Total ts) single σ slots b = body_same true ts single σ slots b
    performed_same (F.Partial alts) single σ slots b = choice_same alts single σ slots b
    performed_same (F.Action alts) single σ slots b = choice_same alts single σ slots b
