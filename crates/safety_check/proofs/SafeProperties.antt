-- A property that is true of the start values, and of whose cat no procedure is bad, is kept.
use Rattle.std.proofs.Common.{◌≡◌, ◌≢◌, ℕ, zero, suc, nat_eq, ℤ, Bool, true, false}
use Rattle.std.proofs.Common.{◌||◌}
use Rattle.std.proofs.Common.{if◌then◌else◌, IsTrue, List, [], ◌∷◌, map, Option, None, Some, Ok}
use Rattle.std.proofs.Common.{Err}
use Rattle.std.proofs.Common.{option_and_then, refl, sym, ap, subst, ◌∙◌, arith, true≢false, inl, inr}
use Rattle.std.specs.Prelude.{◌⊎◌, slice_get, slice_index_or, IfSome, ◌==◌}
use Rattle.std.proofs.lemmas.Option.{slice_get_within}
use Rattle.seuss_program.specs.declared.program.Program.{Program}
use Rattle.seuss_program.specs.declared.program.BoxInfo.{BoxInfo}
use Rattle.seuss_program.specs.declared.program.ActionInfo.{ActionInfo}
use Rattle.seuss_program.specs.declared.tree.Ref.{Ref}
use Rattle.seuss_program.specs.declared.tree.Ref.TheVariants as R
use Rattle.seuss_program.specs.declared.tree.Kind.{Kind}
use Rattle.seuss_program.specs.declared.tree.Kind.TheVariants as K
use Rattle.seuss_program.specs.declared.tree.Cat.{Cat}
use Rattle.seuss_program.specs.declared.tree.Proc.{Proc}
use Rattle.seuss_program.specs.declared.state.State.{State}
use Rattle.seuss_program.specs.declared.state.Value.{Value}
use Rattle.seuss_program.specs.declared.state.Value.TheVariants as V
use Rattle.seuss_program.specs.Programs.{cat_of, procedure_of, level_of, target_of, method_of, vars_of}
use Rattle.seuss_program.specs.Values.{Evaluated, value, named}
use Rattle.seuss_program.specs.Bodies.{Callee, assigned}
use Rattle.seuss_program.specs.Attempts.{attempt, attempt_of, action_attempt, entry_slots, tight}
use Rattle.seuss_program.specs.Initials.{initial_boxes, starts_of, with_input}
use Rattle.seuss_program.specs.Keeping.{Keeps, HasForm, AreOf, Scope, scope_of, kind_at, var_kinds}
use Rattle.seuss_program.specs.Keeping.{param_kinds, form_fits}
use Rattle.meaning_laws.specs.Forms.{AreFormed}
use Rattle.meaning_laws.proofs.ValueKinds.{Gives, value-gives}
use Rattle.meaning_laws.proofs.KeptForms.{KeepsForm, attempt-keeps-form, entry-kinds, vars-other}
use Rattle.meaning_laws.proofs.KeptForms.{variable-kinds}
use Rattle.meaning_laws.proofs.OtherBoxes.{StaysBelow, attempt-stays}
use Rattle.meaning_laws.proofs.ActionProcedures.{action-form}
use Rattle.safety_check.proofs.PerformedActions.{performs, alone}
use Rattle.meaning_laws.proofs.CalledProcedures.{and-then-some, keeps-procedure, call-named, form-is}
use Rattle.meaning_laws.proofs.CalledProcedures.{goes-down, none-are}
use Rattle.safety_check.specs.Regions.{Region, Regions, Frame, regions_of, Fit, Lies, truth_of}
use Rattle.safety_check.specs.Regions.{is_name}
use Rattle.safety_check.specs.Regions.{is_among}
use Rattle.safety_check.specs.RegionValues.{region, region_in, Told}
use Rattle.safety_check.specs.Ends.{ends_of}
use Rattle.safety_check.specs.Texts.{form_names, expr_names}
use Rattle.safety_check.specs.Cases.{IsCase}
use Rattle.safety_check.specs.Properties.{Property, property_scope, IsProperty, IsBoxOf, HoldsAt, Holds}
use Rattle.safety_check.specs.Properties.{Ended, IsKept}
use Rattle.safety_check.specs.Properties.{All_ended}
use Rattle.safety_check.specs.Safety.{isnt_false, may_hold, is_true, does_hold, seen_by, IsBad}
use Rattle.safety_check.specs.Safety.{is_any_among}
use Rattle.safety_check.specs.Safety.{IsSafe}
use Rattle.safety_check.proofs.RegionLaws.{truth-is}
use Rattle.safety_check.proofs.ExpressionRegions.{value-told-in}
use Rattle.safety_check.proofs.NameRegions.{name-same}
use Rattle.safety_check.proofs.AssignedNames.{performed-framed}
use Rattle.safety_check.proofs.BodyEnds.{Stays, plainly}
use Rattle.safety_check.proofs.AttemptEnds.{Untouched, Reaches, performed-leaves}
use Rattle.safety_check.proofs.CasesCover.{case-there}
use Rattle.safety_check.proofs.SameValues.{same-value}
use Rattle.safety_check.proofs.PropertyValues.{IsThere, value-there}

-- a property that is true of a value may hold in its region, and one that does hold there is true
may-hold : (o : Option Region) → Told o (Ok (V.Bool true)) → may_hold o ≡ true
may-hold None h = absurd h
may-hold (Some r) h = by (truth_of r) (truth-is r (V.Bool true) h)
  where
    by : (k : Option Bool) → IfSome k (λ k. true ≡ k) → isnt_false k ≡ true
    by None e = refl
    by (Some b) e = sym e

-- a property that is told to hold is true
does-hold : (o : Option Region) (ev : Evaluated) → Told o ev → IsThere ev → Gives ev K.Bool →
    does_hold o ≡ true →
    ev ≡ Ok (V.Bool true)
does-hold o (Err t) told there kind h = absurd there
does-hold None (Ok v) told there kind h = absurd told
does-hold (Some r) (Ok (V.Int z)) told there kind h = absurd (cc)
does-hold (Some r) (Ok (V.Seq zs)) told there kind h = absurd (cc)
does-hold (Some r) (Ok (V.Bool b)) told there kind h =
    ap (λ x. Ok (V.Bool x)) (by (truth_of r) (truth-is r (V.Bool b) told) h)
  where
    by : (k : Option Bool) → IfSome k (λ k. b ≡ k) → is_true k ≡ true → b ≡ true
    by None e i = absurd (true≢false (sym i))
    by (Some k) e i = e ∙ i

-- names that are assigned are none of the property's
not-assigned : (names seen : List Ref) (m : Ref) → is_any_among names seen ≡ false → is_among m seen ≡ true →
    is_among m names ≡ false
not-assigned [] seen m h e = refl
not-assigned (n ∷ ns) seen m h e = by (is_name n m) refl (is_among n seen) refl h
    (λ i. not-assigned ns seen m i e)
  where
    by : (b : Bool) → is_name n m ≡ b → (a : Bool) → is_among n seen ≡ a → a || is_any_among ns seen ≡ false →
        (is_any_among ns seen ≡ false → is_among m ns ≡ false) → is_name n m || is_among m ns ≡ false
    by b i true j h next = absurd (true≢false h)
    by true i false j h next =
        absurd (true≢false (sym (subst (λ x. is_among x seen ≡ true) (sym (name-same n m i)) e) ∙ j))
    by false i false j h next = ap (λ x. x || is_among m ns) i ∙ next h

module _ (p : Program) (keeps : Keeps p) (property : Property) (is : IsProperty p property) where
  -- no procedure of the cat is bad
  pub record NoneBad : Type 0 where
    pub by : (number : ℕ) (q : Proc Ref) → slice_get is.cat.procs number ≡ Some q →
        IsBad is.cat q property → ⊥

  -- what the property sees
  scope : Scope
  scope = property_scope p is.cat

  -- the property has its value in its region
  told : (regions : Regions) (vars slots : List Value) → AreOf vars (var_kinds is.cat.vars) →
      Fit regions vars slots →
      Told (region property.expr regions) (value property.expr vars [])
  told regions vars slots typed fit =
      value-told-in (property_scope p is.cat) vars [] regions typed none-are
      (record { at = by }) property.expr K.Bool
      is.kind
    where
      by : (name : Ref) (k : Kind) → kind_at (property_scope p is.cat) name ≡ Some k →
          Lies (regions name) (named name vars [])
      by (R.Var n) k h = fit.at (R.Var n)
      by (R.Slot n) k h = absurd (cc)
      by (R.Given n) k h = absurd (cc)
      by (R.Method n) k h = absurd (cc)
      by (R.Cat n) k h = absurd (cc)

  -- a box of the cat has this cat
  cat-is : (box : ℕ) → IsBoxOf p property box → cat_of p box ≡ Some is.cat
  cat-is box b =
      ap (option_and_then (λ (x : BoxInfo). slice_get p.cats x.cat)) b.there
      ∙ (ap (λ n. slice_get p.cats n) b.cat ∙ is.there)

  -- a callee keeps the property of each box where its attempts go on
  pub record KeepsProperty (callee : Callee) : Type 0 where
    pub by : (box number other : ℕ) (r : Proc Ref) (args : List Value) (state : State) (budget : ℕ) →
        procedure_of p box number ≡ Some r → AreOf args (param_kinds r.params) → HasForm p state →
        IsBoxOf p property other → HoldsAt property state other →
        let called = callee box number args state budget in
        Ended called.outcome → HoldsAt property called.state other

  module _ (none_bad : NoneBad) (callee : Callee) (safe : KeepsForm p callee) (below : StaysBelow p callee)
      (kept : KeepsProperty callee) where
    -- another box than the one of the attempt
    module _ (box other : ℕ) (differ : other ≢ box) (is_box : IsBoxOf p property other) (c : Cat Ref)
        (at : cat_of p box ≡ Some c) (q : Proc Ref) where
      assigned-other-box : (name : Ref) (v : Value) (state : State) (slots : List Value) (budget : ℕ) →
          vars_of (assigned box name v state slots budget).state other ≡ vars_of state other
      assigned-other-box (R.Var n) v state slots budget = vars-other state box other n v differ
      assigned-other-box (R.Slot n) v state slots budget = refl
      assigned-other-box (R.Given n) v state slots budget = refl
      assigned-other-box (R.Method n) v state slots budget = refl
      assigned-other-box (R.Cat n) v state slots budget = refl

      stays : Stays p callee box (scope_of p.cats c q) (λ state. HoldsAt property state other)
      stays = record {
        put = λ name v state slots budget h.
            ap (λ vars. value property.expr vars []) (assigned-other-box name v state slots budget) ∙ h;
        call = λ form bind call fits args state budget formed typed ends h.
            let named = call-named (scope_of p.cats c q) form bind call fits in
            let down =
            goes-down p keeps box c at q form call named.0 named.1
            (form-is (scope_of p.cats c q) form bind call fits named.0 named.1) in
            kept.by (target_of p box call.target) (method_of call.method) other named.0 args state budget
            down.there
            (typed named.0 named.1) formed is_box h ends;
      }

      other-kept : (number : ℕ) (args : List Value) (state : State) (budget : ℕ) →
          procedure_of p box number ≡ Some q →
          AreOf args (param_kinds q.params) → HasForm p state → HoldsAt property state other →
          let called = attempt_of p callee box (Some q) args state budget in
          Ended called.outcome → HoldsAt property called.state other
      other-kept number args state budget there typed form h ends =
          by (performed-leaves p keeps callee safe below box c at q
          (λ state. HoldsAt property state other) stays q.form
          (keeps-procedure p keeps box c at number q there).text (record { vars = []; slots = [] }) state
          (entry_slots q args) budget
          (plainly p keeps callee safe below box c at q (λ state. HoldsAt property state other) stays state
          (entry_slots q args) (record { state_is = form; slots_are = entry-kinds q args typed }) h) ends)
        where
          by : (Untouched p keeps callee safe below box c at q
              (λ state. HoldsAt property state other) stays state
              (attempt_of p callee box (Some q) args state budget).state
              ⊎ Reaches p keeps callee safe below box c at q (λ state. HoldsAt property state other) stays
              (ends_of q.form (record { vars = []; slots = [] }))
              (attempt_of p callee box (Some q) args state budget).state) →
              HoldsAt property (attempt_of p callee box (Some q) args state budget).state other
          by (inl u) = u.other
          by (inr r) = r.inside.other

    -- the box of the attempt itself
    module _ (box : ℕ) (is_box : IsBoxOf p property box) (number : ℕ) (q : Proc Ref)
        (there : procedure_of p box number ≡ Some q) (args : List Value) (state : State) (budget : ℕ)
        (typed : AreOf args (param_kinds q.params)) (form : HasForm p state)
        (holds : HoldsAt property state box) where
      at : cat_of p box ≡ Some is.cat
      at = cat-is box is_box

      in_cat : slice_get is.cat.procs number ≡ Some q
      in_cat = ap (option_and_then (λ (c : Cat Ref). slice_get c.procs number)) (sym (cat-is box is_box))
          ∙ there

      text : IsTrue (form_fits (scope_of p.cats is.cat q) q.form)
      text = (keeps-procedure p keeps box is.cat (cat-is box is_box) number q there).text

      formed : AreFormed p q state (entry_slots q args)
      formed = record { state_is = form; slots_are = entry-kinds q args typed }

      vars_typed : AreOf (vars_of state box) (var_kinds is.cat.vars)
      vars_typed = variable-kinds p box is.cat (cat-is box is_box) state form

      abbrev after : State
      after = (attempt_of p callee box (Some q) args state budget).state

      -- nothing of the property is assigned
      unassigned : is_any_among (form_names q.form) (expr_names property.expr) ≡ false →
          HoldsAt property (attempt_of p callee box (Some q) args state budget).state box
      unassigned none =
          same-value (property_scope p is.cat) (vars_of (attempt_of p callee box
          (Some q) args state budget).state box) []
          (vars_of state box) [] property.expr K.Bool is.kind by
          ∙ holds
        where
          by : (m : Ref) (j : Kind) → is_among m (expr_names property.expr) ≡ true →
              kind_at (property_scope p is.cat) m ≡ Some j →
              named m (vars_of (attempt_of p callee box (Some q) args state budget).state box) []
              ≡ named m (vars_of state box) []
          by (R.Var n) j i k =
              (performed-framed p keeps callee safe below box is.cat (cat-is box is_box) q (form_names q.form)
              (vars_of state box) (entry_slots q args) q.form text (record { by = λ m e. e }) state
              (entry_slots q args)
              budget (record { formed = formed; same = λ m e. refl })).same n
              (not-assigned (form_names q.form) (expr_names property.expr) (R.Var n) none i)
          by (R.Slot n) j i k = absurd (cc)
          by (R.Given n) j i k = refl
          by (R.Method n) j i k = refl
          by (R.Cat n) j i k = refl

      abbrev Free : State → Type 0
      Free state = Unit {0}

      free : Stays p callee box (scope_of p.cats is.cat q) Free
      free = record {
        put = λ name v state slots budget h. tt;
        call = λ form bind call fits args state budget formed typed ends h. tt;
      }

      -- a procedure that isn't bad
      assigned-kept : is_any_among (form_names q.form) (expr_names property.expr) ≡ true →
          Ended (attempt_of p callee box (Some q) args state budget).outcome →
          HoldsAt property (attempt_of p callee box (Some q) args state budget).state box
      assigned-kept some ends =
          let cover =
          case-there is.cat q (seen_by property q) (vars_of state box) args vars_typed typed in
          by cover.frame cover.case cover.fit
          (performed-leaves p keeps callee safe below box is.cat
          (cat-is box is_box) q Free free q.form text cover.frame
          state (entry_slots q args) budget (record { formed = formed; fit = cover.fit; other = tt }) ends)
        where
          by : (frame : Frame) →
              IsCase is.cat q (seen_by property q) frame →
              Fit (regions_of frame) (vars_of state box) (entry_slots q args) →
              (Untouched p keeps callee safe below box is.cat (cat-is box is_box) q Free free state
              (attempt_of p callee box (Some q) args state budget).state
              ⊎ Reaches p keeps callee safe below box is.cat (cat-is box is_box) q Free free
              (ends_of q.form frame)
              (attempt_of p callee box (Some q) args state budget).state) →
              HoldsAt property (attempt_of p callee box (Some q) args state budget).state box
          by frame case fit (inl u) = ap (λ vars. value property.expr vars []) u.vars ∙ holds
          by frame case fit (inr r) = decide (does_hold (region_in property.expr r.end)) refl
            where
              last : State
              last = (attempt_of p callee box (Some q) args state budget).state

              last_typed : AreOf (vars_of last box) (var_kinds is.cat.vars)
              last_typed = variable-kinds p box is.cat (cat-is box is_box) last r.inside.formed.state_is

              decide : (b : Bool) → does_hold (region_in property.expr r.end) ≡ b → HoldsAt property last box
              decide true e =
                  does-hold (region_in property.expr r.end) (value property.expr (vars_of last box) [])
                  (told (regions_of r.end) (vars_of last box) r.slots last_typed r.inside.fit)
                  (value-there (property_scope p is.cat) (vars_of last box) [] property.expr K.Bool is.kind
                  is.allowed)
                  (value-gives (property_scope p is.cat) (vars_of last box) [] last_typed none-are
                  property.expr K.Bool is.kind) e
              decide false e = absurd (none_bad.by number q in_cat (record {
                assigns_it = some;
                why = inr (record {
                  frame = frame;
                  case = case;
                  before =
                      may-hold (region_in property.expr frame)
                      (subst (Told (region_in property.expr frame)) holds
                      (told (regions_of frame) (vars_of state box) (entry_slots q args) vars_typed fit));
                  end = r.end;
                  ends = r.ends_there;
                  after = e;
                });
              }))

      own-kept : Ended (attempt_of p callee box (Some q) args state budget).outcome →
          HoldsAt property (attempt_of p callee box (Some q) args state budget).state box
      own-kept ends = by (is_any_among (form_names q.form) (expr_names property.expr)) refl
        where
          by : (b : Bool) → is_any_among (form_names q.form) (expr_names property.expr) ≡ b →
              HoldsAt property (attempt_of p callee box (Some q) args state budget).state box
          by true e = assigned-kept e ends
          by false e = unassigned e

    -- each box
    pub procedure-kept : (box number other : ℕ) (q : Proc Ref) (args : List Value) (state : State)
        (budget : ℕ) →
        procedure_of p box number ≡ Some q → AreOf args (param_kinds q.params) → HasForm p state →
        IsBoxOf p property other → HoldsAt property state other →
        let called = attempt_of p callee box (Some q) args state budget in
        Ended called.outcome → HoldsAt property called.state other
    procedure-kept box number other q args state budget there typed form is_box h ends =
        by (nat_eq other box) refl
      where
        by : (b : Bool) → nat_eq other box ≡ b →
            HoldsAt property (attempt_of p callee box (Some q) args state budget).state other
        by true e =
            let same : other ≡ box = grind (arith, e) in
            subst (λ n. HoldsAt property (attempt_of p callee box (Some q) args state budget).state n)
            (sym same)
            (own-kept box (subst (IsBoxOf p property) same is_box) number q there args state budget typed form
            (subst (HoldsAt property state) same h) ends)
        by false e =
            let differ : other ≢ box = grind (arith, e) in
            let at = and-then-some (λ (c : Cat Ref). slice_get c.procs number) (cat_of p box) q there in
            other-kept box other differ is_box at.0 at.1 q number args state budget there typed form h ends

  -- attempts of every depth keep the property of each box
  pub attempts-keep : NoneBad → (depth : ℕ) → KeepsProperty (attempt p depth)
  attempts-keep none_bad zero = record {
    by = λ box number other r args state budget there typed form is_box h ends. h;
  }
  attempts-keep none_bad (suc depth) = next (attempts-keep none_bad depth)
    where
      next : KeepsProperty (attempt p depth) → KeepsProperty (attempt p (suc depth))
      next kept = record {
        by = λ box number other r args state budget there typed form is_box h.
            subst (λ o. Ended (attempt_of p (attempt p depth) box o args state budget).outcome →
            HoldsAt property (attempt_of p (attempt p depth) box o args state budget).state other) (sym there)
            (procedure-kept none_bad (attempt p depth) (attempt-keeps-form p keeps depth)
            (attempt-stays p keeps depth) kept
            box number other r args state budget there typed form is_box h);
      }

  -- and so do attempts of actions
  pub actions-keep : NoneBad → (action : ℕ) (state : State) (budget : ℕ) → HasForm p state →
      Holds p property state →
      let left = action_attempt p (slice_get p.actions action) state budget in
      Ended left.outcome → Holds p property left.state
  actions-keep none_bad action state budget form h = by (slice_get p.actions action) refl
    where
      by : (o : Option ActionInfo) → slice_get p.actions action ≡ o →
          Ended (action_attempt p o state budget).outcome → Holds p property
          (action_attempt p o state budget).state
      by None e ends = h
      by (Some a) e ends =
          let q = performs p keeps action a e in
          record {
            at = λ box is_box.
                (attempts-keep none_bad (suc (level_of p a.box_number))).by a.box_number a.procedure box
                q.procedure []
                state budget q.there
                (subst (AreOf []) (sym (ap param_kinds (alone p keeps a.box_number a.procedure q)))
                none-are) form is_box
                (h.at box is_box) ends;
          }

  -- a box that isn't of the cat `Input` starts with the start values of its cat
  initial-vars : (input : List ℤ) (boxes : List BoxInfo) (n : ℕ) (info : BoxInfo) →
      slice_get boxes n ≡ Some info →
      info.cat ≢ 0 →
      (slice_index_or (initial_boxes p.cats input boxes) n (record { values = [] })).values
      ≡ (starts_of p.cats info).values
  initial-vars input [] n info h differ = absurd (cc)
  initial-vars input (b ∷ bs) n info h differ =
      by (b.cat == 0) refl n h (λ m i. initial-vars input bs m info i differ)
    where
      plain : (bs : List BoxInfo) (n : ℕ) → slice_get bs n ≡ Some info →
          (slice_index_or (map (starts_of p.cats) bs) n (record { values = [] })).values ≡
          (starts_of p.cats info).values
      plain [] n h = absurd (cc)
      plain (x ∷ bs) zero h = let e : x ≡ info = cc in ap (λ (i : BoxInfo). (starts_of p.cats i).values) e
      plain (x ∷ bs) (suc n) h = plain bs n h

      by : (t : Bool) → (b.cat == 0) ≡ t → (n : ℕ) → slice_get (b ∷ bs) n ≡ Some info →
          ((m : ℕ) → slice_get bs m ≡ Some info →
          (slice_index_or (initial_boxes p.cats input bs) m (record { values = [] })).values
          ≡ (starts_of p.cats info).values) →
          (slice_index_or (if t then with_input input (starts_of p.cats b) ∷ map (starts_of p.cats) bs
          else starts_of p.cats b ∷ initial_boxes p.cats input bs) n (record { values = [] })).values
          ≡ (starts_of p.cats info).values
      by true e zero h rec =
          let same : b ≡ info = cc in
          let zero_cat : b.cat ≡ 0 = grind (arith, e) in
          absurd (differ (sym (ap (λ (i : BoxInfo). i.cat) same) ∙ zero_cat))
      by true e (suc n) h rec = plain bs n h
      by false e zero h rec = let same : b ≡ info = cc in ap (λ (i : BoxInfo). (starts_of p.cats i).values)
          same
      by false e (suc n) h rec = rec n h

  -- no procedure of the cat of a safe property is bad
  pub none-bad : IsSafe p property → NoneBad
  none-bad safe = record {
    by = λ number q there bad.
        (safe.none_bad is.cat is.there).at number q (slice_get_within is.cat.procs number q there) there bad;
  }

  -- A property that is safe is kept.
  pub safe-kept : IsSafe p property → IsKept p property
  safe-kept safe = record {
    initially = λ input small. record {
      at = λ box b.
          ap (λ vars. value property.expr vars [])
          (initial-vars input p.boxes box b.info b.there (λ e. let same : property.cat ≡ 0 = sym b.cat
          ∙ e in let two = is.declared in omega (arith, same, two)))
          ∙ safe.starts.at box b.info (slice_get_within p.boxes box b.info b.there) b.there b.cat;
    };
    attempts = actions-keep (none-bad safe);
  }

  -- a run in which each attempt is accepted or rejected leaves a state in which the property holds
  pub runs-keep : NoneBad → (actions : List ℕ) (state : State) (budget : ℕ) → HasForm p state →
      Holds p property state →
      All_ended (tight p actions state budget).outcomes → Holds p property
      (tight p actions state budget).state
  runs-keep none_bad [] state budget form h ends = h
  runs-keep none_bad (a ∷ actions) state budget form h ends =
      let left = action_attempt p (slice_get p.actions a) state budget in
      runs-keep none_bad actions left.state budget (action-form p keeps a state budget form)
      (actions-keep none_bad a state budget form h ends.0) ends.1
