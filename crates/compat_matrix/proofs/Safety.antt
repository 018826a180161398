-- The level of two actions implies that the first one is safe beside the second one.
use Rattle.std.proofs.Common.{◌≡◌, ◌≢◌, ℕ, ◌<◌, ◌≤◌, ◌⊎◌, inl, inr, Bool, true, false, IsTrue, List, []}
use Rattle.std.proofs.Common.{◌∷◌, length, map, Option, Some, option_and_then, refl, sym, ap, ◌∙◌, subst}
use Rattle.std.proofs.Common.{arith, true≢false}
use Rattle.std.specs.Prelude.{slice_get, not, ◌||◌, ◌==◌}
use Rattle.std.proofs.lemmas.List.{length-map}
use Rattle.seuss_base.specs.declared.level.Level.{Level}
use Rattle.seuss_base.specs.declared.level.Level.TheVariants.{Never}
use Rattle.seuss_base.specs.Levels.{rank, IsAtLeast}
use Rattle.seuss_program.specs.declared.tree.Ref.{Ref}
use Rattle.seuss_program.specs.declared.tree.Call.{Call}
use Rattle.seuss_program.specs.declared.tree.Form.{Form}
use Rattle.seuss_program.specs.declared.tree.Form.TheVariants as F
use Rattle.seuss_program.specs.declared.tree.Proc.{Proc}
use Rattle.seuss_program.specs.declared.program.Program.{Program}
use Rattle.seuss_program.specs.declared.program.ActionInfo.{ActionInfo}
use Rattle.seuss_program.specs.declared.program.BoxInfo.{BoxInfo}
use Rattle.seuss_program.specs.declared.state.Value.{Value}
use Rattle.seuss_program.specs.Programs.{procedure_of, cat_of}
use Rattle.seuss_program.specs.Keeping as K
use Rattle.seuss_program.specs.Keeping.{Keeps, KeepsCat, vars_in, var_kinds, is_total}
use Rattle.seuss_program.specs.Lines.{IsIn, InLine, InTail, early_calls, body_calls}
use Rattle.method_code.specs.declared.method.Method.{Method}
use Rattle.method_code.specs.declared.frame.Frame.{Frame}
use Rattle.method_code.specs.declared.frame.End.{End}
use Rattle.method_code.specs.declared.frame.End.TheVariants as E
use Rattle.method_code.specs.Codes.{compiled, method_code, number_of, cat_number, entry_of}
use Rattle.method_code.specs.Steps.{Stepped, step, step_in, entry, leaves}
use Rattle.method_code.specs.Frames.{HasVars, IsPlace}
use Rattle.method_code.specs.Kinds.{Early, Commit, Late, kind_of, kind_by, is_late, calls_early}
use Rattle.method_code.specs.Kinds.{begins_total, IsAction}
use Rattle.method_code.specs.Kinds as KS
use Rattle.method_code.specs.Singles.{is_single}
use Rattle.method_code.specs.Beside.{Start, from, asks, Swaps, Semicommutes, MayBegin, AtEntry}
use Rattle.method_code.specs.Beside.{AtPlace, SafeBeside}
use Rattle.compat_matrix.proofs.NamedMethods.{holds_there}
use Rattle.method_code.proofs.Places.{stands, coded, scope, keeps_procedure, calls_below}
use Rattle.method_code.proofs.Attempting.{named}
use Rattle.method_code.proofs.NamedCalls.{EndNamed, named_form, placed_named}
use Rattle.effect_sets.specs.Effects.{tests, writes, has_early, has_late, is_some_call}
use Rattle.effect_sets.specs.Depends.{StaysInSets, EarlyStaysInTests}
use Rattle.compat_matrix.specs.declared.part.Part.{Part}
use Rattle.compat_matrix.specs.declared.part.Part.TheVariants.{Line, Tail}
use Rattle.compat_matrix.specs.Rule.{CertifiedLevels, Meets, IsAmong, TestsWritten, MayBeLate, IsRule}
use Rattle.compat_matrix.specs.Rule.{Tested, Apart, Certified, Free, IsLevel, none_certified}
use Rattle.compat_matrix.specs.Certified.{AreArguments, entering, Commute, IsSound}
use Rattle.compat_matrix.proofs.Swapping.{apart_swaps, early_swaps, OnlyRejects, idle_first, idle_second}
use Rattle.compat_matrix.proofs.MemberLemmas.{line_rejects, tail_total}
use Rattle.compat_matrix.proofs.Rules.{rule_of, tested_or_not, rank_never, asks_more}

some_in : (call : Call Ref) (calls : List (Call Ref)) → IsIn call calls → is_some_call calls ≡ true
some_in call [] h = elim h [ ]
some_in call (c ∷ calls) h = refl

total_entry : (f : Form Ref) → begins_total (entry_of f) ≡ is_total f
total_entry (F.Total ss) = refl
total_entry (F.Partial alts) = refl
total_entry (F.Action alts) = refl

early_by : (late early : Bool) → kind_by late early ≡ Early → (late ≡ false) × (early ≡ true)
early_by true early h = absurd (other h)
  where
    other : Late ≡ Early → ⊥
    other h = cc
early_by false true h = (refl, refl)
early_by false false h = absurd (other h)
  where
    other : Commit ≡ Early → ⊥
    other h = cc

or_total : (b : Bool) → b || true ≡ true
or_total true = refl
or_total false = refl

module _ (p : Program) (keeps : Keeps p)
    (rejection_place : (box number : ℕ) (q : Proc Ref) (slots : List Value) (budget : ℕ)
    (vars : List Value) →
    procedure_of p box number ≡ Some q → is_total q.form ≡ false →
    step (compiled p) (record { method = number_of p box number; place = 1; slots = slots }) budget vars
    ≡ leaves (number_of p box number) budget vars E.Rejected) where
  -- a box has at most 32 variables
  pub few_vars : (box number : ℕ) (q : Proc Ref) → procedure_of p box number ≡ Some q →
      (vars : List Value) → HasVars p box vars → length vars ≤ 32
  few_vars box number q there vars has =
      let at = stands p box number q there in
      let cat : cat_of p box ≡ Some at.cat =
      ap (λ o. option_and_then (λ (b : BoxInfo). slice_get p.cats b.cat) o) at.box_there
      ∙ at.cat_there in
      let many : length (map K.kind_of vars) ≡ length (var_kinds at.cat.vars) = ap length has.kinds
      ∙ ap (λ o. length (vars_in o)) cat in
      let few = (holds_there (KeepsCat p.cats) p.cats at.info.cat at.cat at.cat_there keeps.cats).few_vars in
      omega (arith, many, few, length-map vars K.kind_of, length-map at.cat.vars (λ v. v.kind))

  module _ (box number : ℕ) (q : Proc Ref) (there : procedure_of p box number ≡ Some q) where
    -- a step of a procedure begins in its code
    begins_method : (frame : Frame) → MayBegin p box number q frame → frame.method ≡ number_of p box number
    begins_method frame (AtEntry args are is) = ap (λ (f : Frame). f.method) is
    begins_method frame (AtPlace method later place) = method

    coded_frame : (frame : Frame) → MayBegin p box number q frame →
        slice_get (compiled p) frame.method ≡ Some (method_code q)
    coded_frame frame begins = ap (slice_get (compiled p)) (begins_method frame begins)
        ∙ coded p box number q there

    -- a step from a rejection place only rejects
    rejecting : (frame : Frame) (budget : ℕ) → frame.method ≡ number_of p box number → frame.place ≡ 1 →
        is_total q.form ≡ false → OnlyRejects (compiled p) (record { frame = frame; budget = budget })
    rejecting frame budget method place form = record {
      method = number_of p box number;
      is = λ vars.
          ap (λ k. step (compiled p) (record { method = k; place = frame.place; slots = frame.slots })
          budget vars) method
          ∙ (ap (λ k. step (compiled p) (record {
            method = number_of p box number;
            place = k;
            slots =
                frame.slots;
          })
          budget vars) place
          ∙ rejection_place box number q frame.slots budget vars there form);
    }

    -- an early step is of a procedure that has preprocedures
    early_has : (frame : Frame) (budget : ℕ) (vars : List Value) → MayBegin p box number q frame →
        calls_early (step (compiled p) frame budget vars).end ≡ true → has_early q.form ≡ true
    early_has frame budget vars begins early = by (step (compiled p) frame budget vars).end early end_named
      where
        by : (end : End) → calls_early end ≡ true → EndNamed (body_calls q.form) (early_calls q.form) end →
            has_early q.form ≡ true
        by (E.Call target method args true) early named =
            some_in named.call (early_calls q.form) named.among
        by (E.Call target method args false) early named = absurd (true≢false (sym early))
        by (E.Returned found) early named = absurd (true≢false (sym early))
        by E.RejectedPlain early named = absurd (true≢false (sym early))
        by E.Rejected early named = absurd (true≢false (sym early))
        by (E.Trapped t) early named = absurd (true≢false (sym early))
        by E.Spent early named = absurd (true≢false (sym early))

        end_named : EndNamed (body_calls q.form) (early_calls q.form)
            (step (compiled p) frame budget vars).end
        end_named =
            let at = stands p box number q there in
            let n = named_form (scope p keeps box number q at) (λ form bind call fit. let r =
            named (scope p keeps box number q at) form bind call fit in
            (calls_below p keeps box number q at call r.0 r.1).given)
            q.form (keeps_procedure p keeps box number q at).text in
            subst (λ (x : Stepped). EndNamed (body_calls q.form) (early_calls q.form) x.end)
            (sym (ap (λ (o : Option Method). step_in o frame budget vars) (coded_frame frame begins)))
            (placed_named (body_calls q.form) (early_calls q.form) (method_code q) frame.method budget
            frame.place vars frame.slots n.0 n.1)

  module _ (late_steps : (box number : ℕ) (q : Proc Ref) (frame : Frame) → procedure_of p box number ≡ Some
      q → MayBegin p box number q frame → is_late (compiled p) frame ≡ true →
      (is_total q.form ≡ true) ⊎ ((has_late q.form ≡ true) ⊎ ((frame.place ≡ 1) ×
      (is_total q.form ≡ false))))
      (later : (q : Proc Ref) (place : ℕ) (slots : List Value) → 0 < place → IsPlace q place slots →
      (has_late q.form ≡ true) ⊎ ((place ≡ 1) × (is_total q.form ≡ false)))
      (sets : (q : Proc Ref) (frame : Frame) (budget : ℕ) → slice_get (compiled p) frame.method ≡ Some
      (method_code q) → StaysInSets (compiled p) q.form frame budget)
      (early_sets : (q : Proc Ref) (frame : Frame) (budget : ℕ) → slice_get (compiled p) frame.method ≡ Some
      (method_code q) → EarlyStaysInTests (compiled p) q.form frame budget)
      (quiet : (f : Form Ref) → IsTrue (is_single f) → has_late f ≡ false) where
    -- A late step is of a procedure that may be late, or it only rejects.
    late_is : (b : ActionInfo) → IsAction p b → (box number : ℕ) (n : Proc Ref) (other : Part) →
        IsAmong p b box number other → procedure_of p box number ≡ Some n →
        (frame : Frame) (budget : ℕ) → MayBegin p box number n frame → is_late (compiled p) frame ≡ true →
        MayBeLate other n.form ⊎ OnlyRejects (compiled p) (record { frame = frame; budget = budget })
    late_is b action box number n other among there frame budget begins late =
        by (late_steps box number n frame there begins late)
      where
        in_tail : is_total n.form ≡ true → (other : Part) → IsAmong p b box number other → other ≡ Tail
        in_tail total Line among =
            absurd (true≢false (sym total ∙ line_rejects p keeps b action box number among n there))
        in_tail total Tail among = refl

        by : (is_total n.form ≡ true) ⊎ ((has_late n.form ≡ true) ⊎ ((frame.place ≡ 1) ×
            (is_total n.form ≡ false))) →
            MayBeLate other n.form ⊎ OnlyRejects (compiled p) (record { frame = frame; budget = budget })
        by (inl total) = inl (inl (in_tail total other among))
        by (inr (inl behind)) = inl (inr behind)
        by (inr (inr rejection)) = inr (rejecting box number n there frame budget
            (begins_method box number n there frame begins) rejection.0 rejection.1)

    -- A step of a procedure without preprocedures, calls and loops begins at its entry, or it only rejects.
    single_is : (box number : ℕ) (q : Proc Ref) → procedure_of p box number ≡ Some q →
        IsTrue (is_single q.form) → (frame : Frame) (budget : ℕ) → MayBegin p box number q frame →
        ((args : List Value) × AreArguments q args × (frame ≡ entry (compiled p) (number_of p box number)
        args)) ⊎ OnlyRejects (compiled p) (record { frame = frame; budget = budget })
    single_is box number q there single frame budget (AtEntry args are is) = inl (args, are, is)
    single_is box number q there single frame budget (AtPlace method after place) =
        inr (by (later q frame.place frame.slots after place))
      where
        by : (has_late q.form ≡ true) ⊎ ((frame.place ≡ 1) × (is_total q.form ≡ false)) → OnlyRejects
            (compiled p) (record { frame = frame; budget = budget })
        by (inl behind) = absurd (true≢false (sym behind ∙ quiet q.form single))
        by (inr rejection) = rejecting box number q there frame budget method rejection.0 rejection.1

    -- steps of procedures that commute change places
    commuting : (box first second : ℕ) (m n : Proc Ref) (level wanted : Level) →
        procedure_of p box first ≡ Some m → procedure_of p box second ≡ Some n →
        Commute p box first second m n level → rank wanted ≤ rank level → (x y : Start) →
        MayBegin p box first m x.frame → MayBegin p box second n y.frame → Semicommutes p box wanted x y
    commuting box first second m n level wanted there here commute le x y begins begins' vars has asked =
        by (single_is box first m there commute.first_single x.frame x.budget begins)
        (single_is box second n here commute.second_single y.frame y.budget begins')
      where
        Begins : ℕ → Proc Ref → Start → Type 0
        Begins number q z = (args : List Value) × AreArguments q args × (z.frame ≡ entry (compiled p)
            (number_of p box number) args)

        entered : Begins first m x → Begins second n y → Swaps (compiled p) x y vars
        entered a b =
            let ex : x ≡ entering p box first a.0 x.budget = ap (λ (f : Frame). record {
              frame = f;
              budget =
                  x.budget;
            }) a.2 in
            let ey : y ≡ entering p box second b.0 y.budget = ap (λ (f : Frame). record {
              frame =
                  f;
              budget = y.budget;
            }) b.2 in
            let swaps = commute.swaps a.0 b.0 x.budget y.budget a.1 b.1 vars has
            (asks_more level wanted (from (compiled p) (entering p box first a.0 x.budget) vars).end le
            (subst (λ (z : Start). IsTrue (asks wanted (from (compiled p) z vars).end)) ex asked)) in
            subst (λ (z : Start). Swaps (compiled p) z y vars) (sym ex)
            (subst (λ (z : Start). Swaps (compiled p) (entering p box first a.0 x.budget) z vars)
            (sym ey) swaps)

        by : Begins first m x ⊎ OnlyRejects (compiled p) x → Begins second n y ⊎ OnlyRejects
            (compiled p) y → Swaps (compiled p) x y vars
        by (inr r) b = idle_first (compiled p) x y vars r
        by (inl a) (inr r) = idle_second (compiled p) x y vars r
        by (inl a) (inl b) = entered a b

    module _ (certified : CertifiedLevels) (sound : IsSound p certified) (a b : ActionInfo)
        (action : IsAction p a) (other_action : IsAction p b) (level wanted : Level)
        (is : IsLevel p certified a b level) (enough : rank wanted ≤ rank level) (real : wanted ≢ Never)
      where
        never_absurd : IsAtLeast Never level → ⊥
        never_absurd h = real (rank_never wanted (omega (arith, h, enough)))

        module _ (box : ℕ) (x y : Start) (first second : ℕ) (m n : Proc Ref)
            (there : procedure_of p box first ≡ Some m) (here : procedure_of p box second ≡ Some n)
            (part other : Part) (among : IsAmong p a box first part) (beside : IsAmong p b box second other)
            (begins : MayBegin p box first m x.frame) (begins' : MayBegin p box second n y.frame) where
          abbrev by_certificate : Level
          by_certificate = certified (cat_number (slice_get p.boxes box)) first second

          pair : (found : Level) → IsRule part other m.form n.form by_certificate found →
              IsAtLeast found level
          pair found rule = is.least found (record {
            box = box;
            first = first;
            second = second;
            part =
                part;
            other = other;
            among = among;
            beside = beside;
            m = m;
            n = n;
            there = there;
            here =
                here;
            rule = rule;
          })

          from_first : StaysInSets (compiled p) m.form x.frame x.budget
          from_first = sets m x.frame x.budget (coded_frame box first m there x.frame begins)

          from_second : StaysInSets (compiled p) n.form y.frame y.budget
          from_second = sets n y.frame y.budget (coded_frame box second n here y.frame begins')

          pub late_pair : is_late (compiled p) y.frame ≡ true → Semicommutes p box wanted x y
          late_pair late vars has asked =
              by (late_is b other_action box second n other beside here y.frame y.budget begins' late)
              (rule_of part other m.form n.form by_certificate)
            where
              ruled : MayBeLate other n.form → (found : Level) →
                  IsRule part other m.form n.form by_certificate found → IsAtLeast found level →
                  Swaps (compiled p) x y vars
              ruled l found (Tested t) h = absurd (never_absurd h)
              ruled l found (Apart t _ k) h = apart_swaps (compiled p) m.form n.form x y from_first
                  from_second vars (few_vars box first m there vars has) k
              ruled l found (Certified t _ k) h =
                  commuting box first second m n by_certificate wanted there here
                  (sound.commute box first second m n by_certificate there here refl (λ e. never_absurd
                  (subst (λ c. IsAtLeast c level) e h)))
                  (omega (arith, h, enough)) x y begins begins' vars has asked
              ruled l found (Free t none) h = absurd (none l)

              by : MayBeLate other n.form ⊎ OnlyRejects (compiled p) y → (found : Level) × IsRule part other
                  m.form n.form by_certificate found → Swaps (compiled p) x y vars
              by (inr r) rule = idle_second (compiled p) x y vars r
              by (inl l) rule = ruled l rule.0 rule.1 (pair rule.0 rule.1)

          pub early_pair : (vars : List Value) → HasVars p box vars → kind_of (compiled p) x.frame
              (from (compiled p) x vars).end ≡ Early → Swaps (compiled p) x y vars
          early_pair vars has early =
              early_swaps (compiled p) m.form n.form x y (early_sets m x.frame x.budget
              (coded_frame box first m there x.frame begins)) from_second vars
              (few_vars box first m there vars has) (λ h. by (tested_or_not part other m.form n.form)
              h)
              early
            where
              kind : (is_late (compiled p) x.frame ≡ false) ×
                  (calls_early (from (compiled p) x vars).end ≡ true)
              kind = early_by (is_late (compiled p) x.frame) (calls_early (from (compiled p) x vars).end)
                  early

              late_where_total : is_total m.form ≡ true → is_late (compiled p) x.frame ≡ true
              late_where_total total =
                  ap (λ o. not (x.frame.place == 0) || KS.is_total o)
                  (coded_frame box first m there x.frame begins)
                  ∙ (ap (λ c. not (x.frame.place == 0) || c) (total_entry m.form ∙ total) ∙ or_total
                  (not (x.frame.place == 0)))

              in_line : (part : Part) → IsAmong p a box first part → part ≡ Line
              in_line Line among = refl
              in_line Tail among =
                  absurd (true≢false
                  (sym (late_where_total (tail_total p keeps a action box first among m there)) ∙ kind.0))

              by : TestsWritten part m.form n.form ⊎ (TestsWritten part m.form n.form → ⊥) →
                  Meets (λ v. tests v m.form) (λ v. writes v n.form) → ⊥
              by (inl t) h = never_absurd (pair Never (Tested t))
              by (inr t) h = t (record {
                line = in_line part among;
                early =
                    early_has box first m there x.frame x.budget vars begins kind.1;
                meets = h;
              })

        part_of : (c : ActionInfo) (box number : ℕ) → InLine p c box number ⊎ InTail p c box number →
            (part : Part) × IsAmong p c box number part
        part_of c box number (inl l) = (Line, l)
        part_of c box number (inr t) = (Tail, t)

        pub safe : SafeBeside p wanted a b
        safe = record {
          late = λ box x y ox oy late.
              let i = part_of a box ox.number ox.among in
              let j = part_of b box oy.number oy.among in
              late_pair box x y ox.number oy.number ox.procedure oy.procedure ox.there oy.there i.0 j.0 i.1
              j.1 ox.begins oy.begins late;
          early = λ box x y ox oy vars has early.
              let i = part_of a box ox.number ox.among in
              let j = part_of b box oy.number oy.among in
              early_pair box x y ox.number oy.number ox.procedure oy.procedure ox.there oy.there i.0 j.0 i.1
              j.1 ox.begins oy.begins vars has early;
        }

-- without certificates there is nothing to be sound
pub none_sound : (p : Program) → IsSound p none_certified
none_sound p = record { commute = λ box first second m n level there here e real. absurd (real (sym e)) }
