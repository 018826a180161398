-- What a call that fits goes to, in a checked program.
use Rattle.std.proofs.Common.{◌≡◌, ℕ, zero, suc, ◌<◌, Bool, true, false, ◌&&◌, IsTrue, List, [], ◌∷◌, ◌++◌}
use Rattle.std.proofs.Common.{map, Option, None, Some, Ok, Err, IfOk, All, option_and_then, refl, sym, ap}
use Rattle.std.proofs.Common.{◌∙◌, subst, arith, append_assoc, true≢false}
use Rattle.std.specs.Prelude.{slice_get}
use Rattle.std.proofs.lemmas.List.{append-nil, map-append}
use Rattle.std.proofs.lemmas.List.Elements.{All-nil, All-push}
use Rattle.std.proofs.lemmas.Option.{slice_get_within, get_or_from_slice_get}
use Rattle.seuss_program.specs.declared.program.Program.{Program}
use Rattle.seuss_program.specs.declared.program.BoxInfo.{BoxInfo}
use Rattle.seuss_program.specs.declared.tree.Ref.{Ref}
use Rattle.seuss_program.specs.declared.tree.Ref.TheVariants as R
use Rattle.seuss_program.specs.declared.tree.Kind.{Kind}
use Rattle.seuss_program.specs.declared.tree.Kind.TheVariants as K
use Rattle.seuss_program.specs.declared.tree.Expr.{Expr}
use Rattle.seuss_program.specs.declared.tree.Call.{Call}
use Rattle.seuss_program.specs.declared.tree.Cat.{Cat}
use Rattle.seuss_program.specs.declared.tree.Form.{Form}
use Rattle.seuss_program.specs.declared.tree.Given.{Given}
use Rattle.seuss_program.specs.declared.tree.Proc.{Proc}
use Rattle.seuss_program.specs.declared.state.Value.{Value}
use Rattle.seuss_program.specs.Programs.{cat_of, procedure_of, level_of, level_in, target_of, given_in}
use Rattle.seuss_program.specs.Programs.{method_of}
use Rattle.seuss_program.specs.Values.{Evaluated, HasSize, value}
use Rattle.seuss_program.specs.Bodies.{arguments_after, argument_then}
use Rattle.seuss_program.specs.Keeping.{Scope, scope_of, Keeps, KeepsBox, KeepsCat, KeepsProcedure, kind_of}
use Rattle.seuss_program.specs.Keeping.{kind_in, kind_set, is_of, is_kind, param_kinds, given_fit, is_box_of}
use Rattle.seuss_program.specs.Keeping.{above, given_cat, cat_at, method_at, called, call_fits, meets}
use Rattle.seuss_program.specs.Keeping.{arguments_fit, bind_fits, AreOf}
use Rattle.meaning_laws.specs.Kinds.{IsOf}
use Rattle.meaning_laws.specs.Calls.{GoesDown, Matches}
use Rattle.meaning_laws.proofs.ValueKinds.{Gives, value-gives}

-- where both of two tests hold, the left one does
pub and-left : (a b : Bool) → IsTrue (a && b) → IsTrue a
and-left true b h = refl
and-left false b h = h

-- where both of two tests hold, the right one does
pub and-right : (a b : Bool) → IsTrue (a && b) → IsTrue b
and-right true b h = h
and-right false b h = absurd (true≢false (sym h))

-- nothing isn't something
pub none-some : {A : Type 0} (x : A) → None ≡ Some x → ⊥
none-some x h = cc

-- what two equal options have is the same
pub some-same : {A : Type 0} {x y : A} → Some x ≡ Some y → x ≡ y
some-same h = cc

-- both steps of a search give something
pub and-then-some : {A B : Type 0} (f : A → Option B) (o : Option A) (y : B) → option_and_then f o ≡ Some y →
    (x : A) × (o ≡ Some x) × (f x ≡ Some y)
and-then-some f None y h = absurd (none-some y h)
and-then-some f (Some x) y h = (x, refl, h)

-- a fact on all items, at one of them
pub all-at : {A : Type 0} (P : A → Type 0) (xs : List A) (n : ℕ) (x : A) → slice_get xs n ≡ Some x →
    All P xs → P x
all-at P xs n x h all = subst P (get_or_from_slice_get xs n x x h) (all n x (slice_get_within xs n x h))

-- what is of a kind has it
pub is-of-some : (k : Kind) (o : Option Kind) → IsTrue (is_of k o) → o ≡ Some k
is-of-some k None h = absurd (true≢false (sym h))
is-of-some k (Some j) h = ap (λ x. Some x) (same k j h)
  where
    same : (k j : Kind) → IsTrue (is_kind k j) → j ≡ k
    same K.Int K.Int h = refl
    same K.Int K.Bool h = absurd (true≢false (sym h))
    same K.Int K.Seq h = absurd (true≢false (sym h))
    same K.Bool K.Int h = absurd (true≢false (sym h))
    same K.Bool K.Bool h = refl
    same K.Bool K.Seq h = absurd (true≢false (sym h))
    same K.Seq K.Int h = absurd (true≢false (sym h))
    same K.Seq K.Bool h = absurd (true≢false (sym h))
    same K.Seq K.Seq h = refl

-- the names of a cat, of a given box and of a procedure
cat-named : (cats : List (Cat Ref)) (name : Ref) (d : Cat Ref) → cat_at cats name ≡ Some d →
    (k : ℕ) × (name ≡ R.Cat k) × (slice_get cats k ≡ Some d)
cat-named cats (R.Cat k) d h = (k, refl, h)
cat-named cats (R.Var k) d h = absurd (none-some d h)
cat-named cats (R.Slot k) d h = absurd (none-some d h)
cat-named cats (R.Given k) d h = absurd (none-some d h)
cat-named cats (R.Method k) d h = absurd (none-some d h)

-- the name of a given box is its number among the given ones
given-named : (s : Scope) (name : Ref) (d : Cat Ref) → given_cat s name ≡ Some d →
    (n : ℕ) × (name
    ≡ R.Given n) × (option_and_then (λ (g : Given Ref). cat_at s.cats g.cat) (slice_get s.given n) ≡ Some d)
given-named s (R.Given n) d h = (n, refl, h)
given-named s (R.Var k) d h = absurd (none-some d h)
given-named s (R.Slot k) d h = absurd (none-some d h)
given-named s (R.Method k) d h = absurd (none-some d h)
given-named s (R.Cat k) d h = absurd (none-some d h)

-- the name of a method is its number in the cat
method-named : (name : Ref) (d : Cat Ref) (r : Proc Ref) → method_at name d ≡ Some r →
    (name ≡ R.Method (method_of name)) × (slice_get d.procs (method_of name) ≡ Some r)
method-named (R.Method k) d r h = (refl, h)
method-named (R.Var k) d r h = absurd (none-some r h)
method-named (R.Slot k) d r h = absurd (none-some r h)
method-named (R.Given k) d r h = absurd (none-some r h)
method-named (R.Cat k) d r h = absurd (none-some r h)

-- the box that is given, of the cat that is declared
box-there : (o : Option BoxInfo) (k : ℕ) → IsTrue (is_box_of o (R.Cat k)) →
    (b : BoxInfo) × (o ≡ Some b) × (b.cat ≡ k)
box-there None k h = absurd (true≢false (sym h))
box-there (Some b) k h = (b, refl, grind (arith, h))

-- the box that is given in a place is of the cat that is declared in this place
box-given : (boxes : List BoxInfo) (ns : List ℕ) (gs : List (Given Ref)) (n : ℕ) (g : Given Ref) →
    IsTrue (given_fit boxes ns gs) → slice_get gs n ≡ Some g →
    (t : ℕ) × (slice_get ns n ≡ Some t) × IsTrue (is_box_of (slice_get boxes t) g.cat)
box-given boxes [] [] n g h e = absurd (none-some g e)
box-given boxes [] (x ∷ gs) n g h e = absurd (true≢false (sym h))
box-given boxes (t ∷ ns) [] n g h e = absurd (none-some g e)
box-given boxes (t ∷ ns) (x ∷ gs) zero g h e = (
  t,
  refl,
  subst (λ (y : Given Ref). IsTrue (is_box_of (slice_get boxes t) y.cat)) (some-same e)
      (and-left (is_box_of (slice_get boxes t) x.cat) (given_fit boxes ns gs) h),
)
box-given boxes (t ∷ ns) (x ∷ gs) (suc n) g h e =
    box-given boxes ns gs n g (and-right (is_box_of (slice_get boxes t) x.cat) (given_fit boxes ns gs) h) e

-- a number is below what is above a list that has it
below-above : (f : ℕ → ℕ) (ns : List ℕ) (n t : ℕ) → slice_get ns n ≡ Some t → f t < above (map f ns)
below-above f [] n t h = absurd (none-some t h)
below-above f (x ∷ ns) zero t h = subst (λ y. f y < above (map f (x ∷ ns))) (some-same h) (omega arith)
below-above f (x ∷ ns) (suc n) t h = let l = below-above f ns n t h in omega (arith, l)

module _ (p : Program) (keeps : Keeps p) (box : ℕ) (c : Cat Ref) (at : cat_of p box ≡ Some c) where
  -- the box, which is of the cat
  pub the-box : (b : BoxInfo) × (slice_get p.boxes box ≡ Some b) × (slice_get p.cats b.cat ≡ Some c)
  the-box = and-then-some (λ (b : BoxInfo). slice_get p.cats b.cat) (slice_get p.boxes box) c at

  -- the cat of a box is a checked one
  keeps-cat : KeepsCat p.cats c
  keeps-cat = all-at (KeepsCat p.cats) p.cats the-box.0.cat c the-box.2 keeps.cats

  -- the box is a checked one
  keeps-box : KeepsBox p the-box.0
  keeps-box = all-at (KeepsBox p) p.boxes box the-box.0 the-box.1 keeps.boxes

  -- each procedure of the box is a checked one
  pub keeps-procedure : (number : ℕ) (q : Proc Ref) → procedure_of p box number ≡ Some q →
      KeepsProcedure p.cats c q
  keeps-procedure number q there =
      all-at (KeepsProcedure p.cats c) c.procs number q
      (ap (option_and_then (λ (d : Cat Ref). slice_get d.procs number)) (sym at) ∙ there) keeps-cat.procs

  -- a procedure of the cat of a box is one of the box
  procedure-there : (b : BoxInfo) (d : Cat Ref) (target number : ℕ) (r : Proc Ref) →
      slice_get p.boxes target ≡ Some b → slice_get p.cats b.cat ≡ Some d →
      slice_get d.procs number ≡ Some r →
      procedure_of p target number ≡ Some r
  procedure-there b d target number r has_box has_cat has_procedure =
      ap (λ (o : Option BoxInfo). option_and_then (λ (e : Cat Ref). slice_get e.procs number)
      (option_and_then (λ (x : BoxInfo). slice_get p.cats x.cat) o)) has_box
      ∙ (ap (option_and_then (λ (e : Cat Ref). slice_get e.procs number)) has_cat ∙ has_procedure)

  -- where the given box and the procedure are found
  reaches : (form : Form Ref → Bool) (call : Call Ref) (r : Proc Ref) (b : BoxInfo) (d : Cat Ref) (n t : ℕ)
      (target : BoxInfo) → IsTrue (form r.form) → call.target ≡ R.Given n →
      call.method ≡ R.Method (method_of call.method) → slice_get d.procs (method_of call.method) ≡ Some r →
      slice_get p.boxes box ≡ Some b → b.level ≡ above (map (level_of p) b.given) →
      slice_get b.given n ≡ Some t → slice_get p.boxes t ≡ Some target →
      slice_get p.cats target.cat ≡ Some d → GoesDown p form box call r
  reaches form call r b d n t target fits target_named method_named there has_box level given has_target
      has_cat =
      let is : target_of p box call.target ≡ t =
      ap (target_of p box) target_named
      ∙ (ap (λ (o : Option BoxInfo). given_in o n) has_box
      ∙ get_or_from_slice_get b.given n t 0 given) in
      let mine : above (map (level_of p) b.given) ≡ level_of p box = sym level ∙ sym (ap level_in has_box) in
      record {
        caller = b;
        caller_there = has_box;
        given = n;
        target_named = target_named;
        target_given = given ∙ ap (λ m. Some m) (sym is);
        lower =
            subst (λ m. level_of p m < level_of p box) (sym is)
            (subst (λ m. level_of p t < m) mine (below-above (level_of p) b.given n t given));
        method_named = method_named;
        there =
            ap (λ m. procedure_of p m (method_of call.method)) is
            ∙ procedure-there target d t (method_of call.method) r has_target has_cat there;
        form_is = fits;
      }

  -- a call of a checked text goes to a procedure of a lower box
  pub goes-down : (q : Proc Ref) (form : Form Ref → Bool) (call : Call Ref) (r : Proc Ref) →
      called (scope_of p.cats c q) call ≡ Some r → IsTrue (form r.form) → GoesDown p form box call r
  goes-down q form call r named fits =
      let found =
      and-then-some (method_at call.method) (given_cat (scope_of p.cats c q) call.target) r named in
      let name = given-named (scope_of p.cats c q) call.target found.0 found.1 in
      let declared =
      and-then-some (λ (g : Given Ref). cat_at p.cats g.cat) (slice_get c.given name.0) found.0 name.2 in
      let cat = cat-named p.cats declared.0.cat found.0 declared.2 in
      let method = method-named call.method found.0 r found.2 in
      let same_cat : keeps-box.cat.0 ≡ c = some-same (sym keeps-box.cat.1 ∙ the-box.2) in
      let fit : IsTrue (given_fit p.boxes the-box.0.given c.given) =
      subst (λ (d : Cat Ref). IsTrue (given_fit p.boxes the-box.0.given d.given)) same_cat
      keeps-box.cat.2 in
      let t = box-given p.boxes the-box.0.given c.given name.0 declared.0 fit declared.1 in
      let b =
      box-there (slice_get p.boxes t.0) cat.0
      (subst (λ (n : Ref). IsTrue (is_box_of (slice_get p.boxes t.0) n)) cat.1 t.2) in
      reaches form call r the-box.0 found.0 name.0 t.0 b.0 fits name.1 method.0 method.1 the-box.1
      keeps-box.level t.1 b.1 (cat-kept b.0 cat.0 found.0 b.2 cat.2)
    where
      cat-kept : (b : BoxInfo) (k : ℕ) (d : Cat Ref) → b.cat ≡ k → slice_get p.cats k ≡ Some d →
          slice_get p.cats b.cat ≡ Some d
      cat-kept b k d e h = ap (λ n. slice_get p.cats n) e ∙ h

-- no values, of no kinds
pub none-are : AreOf [] []
none-are = record { kinds = refl; sizes = All-nil HasSize }

-- values of some kinds, and one more
one-more : (values : List Value) (kinds : List Kind) (v : Value) (k : Kind) → AreOf values kinds → IsOf v k →
    AreOf (values ++ v ∷ []) (kinds ++ k ∷ [])
one-more values kinds v k are is = record {
  kinds =
      map-append kind_of values (v ∷ [])
      ∙ (ap (λ l. l ++ kind_of v ∷ []) are.kinds ∙ ap (λ j. kinds ++ j ∷ []) is.0);
  sizes = All-push HasSize values v are.sizes is.1;
}

-- arguments that fit are of the kinds of the parameters
module _ (s : Scope) (vars slots : List Value) (typed_vars : AreOf vars s.vars)
    (typed_slots : AreOf slots s.slots) where
  -- further arguments that fit are of the kinds of the further parameters
  args-after : (front : List Kind) (values : List Value) (es : List (Expr Ref)) (ks : List Kind) →
      AreOf values front → IsTrue (arguments_fit s es ks) →
      IfOk (arguments_after values es vars slots) (λ l. AreOf l (front ++ ks))
  args-after front values [] [] h fit = subst (AreOf values) (sym (append-nil front)) h
  args-after front values [] (k ∷ ks) h fit = absurd (true≢false (sym fit))
  args-after front values (e ∷ es) [] h fit = absurd (true≢false (sym fit))
  args-after front values (e ∷ es) (k ∷ ks) h fit =
      by (value e vars slots)
      (value-gives s vars slots typed_vars typed_slots e k
      (is-of-some k (kind_in s e) (and-left (is_of k (kind_in s e)) (arguments_fit s es ks) fit)))
      (λ v f. subst (λ l. IfOk (arguments_after (values ++ v ∷ []) es vars slots) (λ m. AreOf m l))
      (append_assoc front (k ∷ []) ks)
      (args-after (front ++ k ∷ []) (values ++ v ∷ []) es ks
      (one-more values front v k h f)
      (and-right (is_of k (kind_in s e)) (arguments_fit s es ks) fit)))
    where
      by : (ev : Evaluated) → Gives ev k →
          ((v : Value) → IsOf v k →
          IfOk (arguments_after (values ++ v ∷ []) es vars slots) (λ m. AreOf m (front ++ k ∷ ks))) →
          IfOk (argument_then ev values (λ rest. arguments_after rest es vars slots))
          (λ m. AreOf m (front ++ k ∷ ks))
      by (Err t) f go = tt
      by (Ok v) f go = go v f

module _ (s : Scope) (form : Form Ref → Bool) (bind : Option Ref) (call : Call Ref)
    (fits : IsTrue (call_fits s form bind call)) where
  -- a call that fits names a procedure
  pub call-named : (r : Proc Ref) × (called s call ≡ Some r)
  call-named = by (called s call) fits
    where
      by : (o : Option (Proc Ref)) → IsTrue (meets s form bind call.args o) → (r : Proc Ref) × (o ≡ Some r)
      by None h = absurd (true≢false (sym h))
      by (Some r) h = (r, refl)

  module _ (r : Proc Ref) (named : called s call ≡ Some r) where
    -- the procedure that is named meets the call
    meets-it : IsTrue (meets s form bind call.args (Some r))
    meets-it = subst (λ o. IsTrue (meets s form bind call.args o)) named fits

    -- the procedure that is named is of the wanted form
    pub form-is : IsTrue (form r.form)
    form-is =
        and-left (form r.form)
        (arguments_fit s call.args (param_kinds r.params) && bind_fits s bind r.gives) meets-it

    -- arguments and result of a call match the procedure that is named
    pub call-matches : Matches s bind call r
    call-matches =
        let both =
        and-right (form r.form)
        (arguments_fit s call.args (param_kinds r.params) && bind_fits s bind r.gives) meets-it in
        record {
          args =
              λ vars slots typed_vars typed_slots.
              args-after s vars slots typed_vars typed_slots [] [] call.args (param_kinds r.params) none-are
              (and-left (arguments_fit s call.args (param_kinds r.params)) (bind_fits s bind r.gives) both);
          bound =
              bound-is bind
              (and-right (arguments_fit s call.args (param_kinds r.params)) (bind_fits s bind r.gives) both);
        }
      where
        bound-is : (o : Option Ref) → IsTrue (bind_fits s o r.gives) → (name : Ref) → o ≡ Some name →
            (kind_set s name ≡ Some K.Int) × (r.gives ≡ true)
        bound-is None h name e = absurd (none-some name e)
        bound-is (Some other) h name e = (
          is-of-some K.Int (kind_set s name)
              (subst (λ n. IsTrue (is_of K.Int (kind_set s n))) (some-same e)
              (and-right r.gives (is_of K.Int (kind_set s other)) h)),
          and-left r.gives (is_of K.Int (kind_set s other)) h,
        )
