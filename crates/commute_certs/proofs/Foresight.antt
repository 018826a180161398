-- What is foreseen of a single method in a case is its run at every point.
use Rattle.std.proofs.Common.{◌≡◌, ℤ, pos, Bool, true, false, ◌&&◌, not, if◌then◌else◌, List, [], ◌∷◌, ◌++◌}
use Rattle.std.proofs.Common.{map, length, Option, None, Some, option_map, Result, Ok, Err, refl, sym, ap}
use Rattle.std.proofs.Common.{subst, ◌∙◌, append_assoc}
use Rattle.std.specs.Prelude.{slice_index_or}
use Rattle.std.specs.List.{flat_map}
use Rattle.std.proofs.Math.ListN.{get_or-map}
use Rattle.std.proofs.lemmas.List.{map-append}
use Rattle.seuss_base.specs.declared.outcome.Outcome.{Outcome}
use Rattle.seuss_base.specs.declared.outcome.Outcome.TheVariants as O
use Rattle.seuss_program.specs.declared.tree.Ref.{Ref}
use Rattle.seuss_program.specs.declared.tree.Kind.{Kind}
use Rattle.seuss_program.specs.declared.tree.Kind.TheVariants as K
use Rattle.seuss_program.specs.declared.tree.Call.{Call}
use Rattle.seuss_program.specs.declared.tree.Pre.{Pre}
use Rattle.seuss_program.specs.declared.tree.Alternative.{Alternative}
use Rattle.seuss_program.specs.declared.tree.Form.{Form}
use Rattle.seuss_program.specs.declared.tree.Form.TheVariants as F
use Rattle.seuss_program.specs.declared.tree.Proc.{Proc}
use Rattle.seuss_program.specs.declared.tree.Statement.{Statement, fold-roll-Statement, map-Statement}
use Rattle.seuss_program.specs.declared.tree.Statement.{roll-Statement, ind-Statement}
use Rattle.seuss_program.specs.declared.tree.Statement.TheOpen as S
use Rattle.seuss_program.specs.declared.tree.Statement.TheOpen.{Statement-F}
use Rattle.seuss_program.specs.declared.state.Value.{Value}
use Rattle.seuss_program.specs.declared.state.Value.TheVariants as VV
use Rattle.seuss_program.specs.Values as V
use Rattle.seuss_program.specs.Programs.{vars_of}
use Rattle.seuss_program.specs.Bodies as M
use Rattle.seuss_program.specs.Bodies.{Ran, Called, Callee, Done}
use Rattle.seuss_program.specs.Attempts as A
use Rattle.seuss_program.specs.Attempts.{entry_slots, locals_of, locals_step, bound_local, form_locals}
use Rattle.seuss_program.specs.Attempts.{first_value, finished, result_of, choice, performed, attempt}
use Rattle.method_code.specs.Singles.{is_false, none_holds, is_plainly_rejected}
use Rattle.shape_terms.specs.declared.num_form.NumForm.{NumForm}
use Rattle.shape_terms.specs.declared.symbol.Symbol.{Symbol}
use Rattle.shape_terms.specs.declared.symbol.Symbol.TheVariants as Y
use Rattle.shape_terms.specs.Points.{Point}
use Rattle.shape_terms.specs.Numbers.{number, literal}
use Rattle.shape_terms.specs.Symbols.{value_at, values_at}
use Rattle.commute_certs.specs.declared.why.Reason.{Reason}
use Rattle.commute_certs.specs.declared.places.Places.{Places}
use Rattle.commute_certs.specs.declared.foreseen.Foreseen.{Foreseen}
use Rattle.commute_certs.specs.Runs.{nothing, one_box, alone, Alone}
use Rattle.commute_certs.specs.Terms as T
use Rattle.commute_certs.specs.Bodies as B
use Rattle.commute_certs.specs.Foreseen as G
use Rattle.commute_certs.specs.Foreseen.{first_symbol, first_slots, result_form, foreseen, outcome_by}
use Rattle.commute_certs.specs.Foreseen.{result_at, is_plain, run_at}
use Rattle.commute_certs.proofs.Comparisons.{not_told, int_at, number_fits}
use Rattle.commute_certs.proofs.Evaluation.{steps}
use Rattle.commute_certs.proofs.Statements.{each, each_each, done, decided_at, body_does}

module _ (p : Point) where
  -- the values that slots start with are those of their symbols
  abbrev begun : Value → Value
  begun v = value_at (first_symbol v) p

  abbrev Kept : List Value → Type 0
  Kept vs = map begun vs ≡ vs

  kept_both : (xs ys : List Value) → Kept xs → Kept ys → Kept (xs ++ ys)
  kept_both xs ys h k = map-append begun xs ys ∙ (ap (λ l. l ++ map begun ys) h ∙ ap (λ l. xs ++ l) k)

  kept_all : {X : Type 0} (f : X → List Value) → ((x : X) → Kept (f x)) → (xs : List X) →
      Kept (flat_map f xs)
  kept_all f h [] = refl
  kept_all f h (x ∷ xs) = kept_both (f x) (flat_map f xs) (h x) (kept_all f h xs)

  kept_zero : Kept (VV.Int (pos 0) ∷ [])
  kept_zero = ap (λ z. VV.Int z ∷ []) (number_fits (pos 0) p refl)

  kept_first : (k : Kind) → Kept (first_value k ∷ [])
  kept_first K.Int = ap (λ z. VV.Int z ∷ []) (number_fits (pos 0) p refl)
  kept_first K.Bool = refl
  kept_first K.Seq = refl

  LocalsSo : Statement Ref → Type 0
  LocalsSo t = Kept (locals_of t)

  locals-roll : (d : Statement-F Ref (Statement Ref)) →
      locals_of (roll-Statement Ref d) ≡ locals_step
      (map-Statement Ref (Statement Ref) (List Value) locals_of d)
  unfolding locals_of
  locals-roll d = fold-roll-Statement Ref (List Value) locals_step d

  layer_kept : (d : Statement-F Ref (Statement Ref)) →
      Kept (locals_step (map-Statement Ref (Statement Ref) (List Value) locals_of d)) →
      LocalsSo (roll-Statement Ref d)
  unfolding LocalsSo
  layer_kept d h = subst (λ vs. Kept vs) (sym (locals-roll d)) h

  module _ (X : Type 0) (f : X → Statement Ref) (each_kept : (x : X) → LocalsSo (f x)) where
    inner : (xs : List X) → Kept (flat_map (λ vs. vs) (each locals_of (each f xs)))
    unfolding LocalsSo
    inner xs = subst (λ ls. Kept (flat_map (λ vs. vs) ls)) (sym (each_each f locals_of xs)) (inside xs)
      where
        inside : (xs : List X) → Kept (flat_map (λ vs. vs) (map (λ x. locals_of (f x)) xs))
        inside [] = refl
        inside (x ∷ xs) = kept_both (locals_of (f x)) (flat_map (λ vs. vs) (map (λ x. locals_of (f x)) xs))
            (each_kept x) (inside xs)

    layer : (y : Statement-F Ref X) → LocalsSo (roll-Statement Ref (map-Statement Ref X (Statement Ref) f y))
    layer (S.Let name kind e) = layer_kept (S.Let name kind e) (kept_first kind)
    layer (S.Assign name e) = layer_kept (S.Assign name e) refl
    layer (S.Call bind call) = layer_kept (S.Call bind call) refl
    layer (S.If cond holds fails) = layer_kept (S.If cond (each f holds) (each f fails))
        (kept_both (flat_map (λ vs. vs) (each locals_of (each f holds)))
        (flat_map (λ vs. vs) (each locals_of (each f fails))) (inner holds) (inner fails))
    layer (S.While cond turn) = layer_kept (S.While cond (each f turn)) (inner turn)

  locals_kept : (t : Statement Ref) → Kept (locals_of t)
  unfolding LocalsSo
  locals_kept = ind-Statement Ref LocalsSo
      (λ x y is. subst (λ z. LocalsSo (roll-Statement Ref z)) is (layer _ (λ e. e.0) (λ e. e.1) y))

  bound_kept : (pre : Option (Pre Ref)) → Kept (bound_local pre)
  bound_kept None = refl
  bound_kept (Some pre) = by_bind pre.bind pre.call
    where
      by_bind : (bind : Option Ref) (call : Call Ref) →
          Kept (bound_local (Some (record { bind = bind; call = call })))
      by_bind None call = refl
      by_bind (Some name) call = kept_zero

  alternative_kept : (a : Alternative Ref) → Kept (bound_local a.pre ++ flat_map locals_of a.body)
  alternative_kept a = kept_both (bound_local a.pre) (flat_map locals_of a.body) (bound_kept a.pre)
      (kept_all locals_of locals_kept a.body)

  form_kept : (f : Form Ref) → Kept (form_locals f)
  form_kept (F.Total ss) = kept_all locals_of locals_kept ss
  form_kept (F.Partial alts) =
      kept_all (λ (a : Alternative Ref). bound_local a.pre ++ flat_map locals_of a.body) alternative_kept
      alts
  form_kept (F.Action alts) =
      kept_all (λ (a : Alternative Ref). bound_local a.pre ++ flat_map locals_of a.body) alternative_kept
      alts

  result_kept : (gives : Bool) → Kept (if gives then VV.Int (pos 0) ∷ [] else [])
  result_kept true = kept_zero
  result_kept false = refl

  values_append : (xs ys : List Symbol) → values_at (xs ++ ys) p ≡ values_at xs p ++ values_at ys p
  values_append xs ys = map-append (λ (s : Symbol). value_at s p) xs ys

  values_first : (vs : List Value) → values_at (map first_symbol vs) p ≡ map begun vs
  values_first [] = refl
  values_first (v ∷ vs) = ap (λ l. value_at (first_symbol v) p ∷ l) (values_first vs)

  -- the slots at the entry
  slots_at : (q : Proc Ref) (args : List Symbol) →
      entry_slots q (values_at args p) ≡ values_at (first_slots q args) p
  slots_at q args =
      append_assoc (values_at args p) (if q.gives then VV.Int (pos 0) ∷ [] else []) (form_locals q.form)
      ∙ (ap (λ vs. values_at args p ++ vs)
      (sym (values_first (entry_slots q [])
      ∙ kept_both (if q.gives then VV.Int (pos 0) ∷ [] else []) (form_locals q.form) (result_kept q.gives)
      (form_kept q.form)))
      ∙ sym (values_append args (map first_symbol (entry_slots q []))))

  -- the result of an accepted call
  found_at : (q : Proc Ref) (slots : List Symbol) →
      result_of q (values_at slots p) ≡ option_map (λ (form : NumForm). number form p) (result_form q slots)
  found_at q slots = by q.gives
    where
      here : V.int_of (slice_index_or (values_at slots p) (length q.params) (VV.Int (pos 0))) ≡ number
          (T.number_in (slice_index_or slots (length q.params) (Y.Number (literal (pos 0))))) p
      here = ap (λ z. V.int_of (slice_index_or (values_at slots p) (length q.params) (VV.Int z)))
          (sym (number_fits (pos 0) p refl))
          ∙ (ap V.int_of (get_or-map (λ (s : Symbol). value_at s p) slots (length q.params)
          (Y.Number (literal (pos 0))))
          ∙ int_at p (slice_index_or slots (length q.params) (Y.Number (literal (pos 0)))))

      by : (b : Bool) → (if b then Some
          (V.int_of (slice_index_or (values_at slots p) (length q.params) (VV.Int (pos 0)))) else None)
          ≡ option_map (λ (form : NumForm). number form p)
          (if b then Some (T.number_in
          (slice_index_or slots (length q.params) (Y.Number (literal (pos 0))))) else None)
      by true = ap (λ z. Some z) here
      by false = refl

  -- what a call leaves
  abbrev called_with : Outcome → Option ℤ → List Value → Called
  called_with outcome found vs = record { outcome = outcome; result = found; state = one_box vs; budget = 0 }

  -- what a call leaves that ends as is foreseen
  abbrev called_at : Foreseen → Called
  called_at f = called_with (outcome_by f.ending) (result_at f.ending p) (values_at f.vars p)

  module _ (callee : Callee) (q : Proc Ref) where
    finished_at : (positive : Bool) (places : Places) →
        finished positive q Done (done p places) ≡ called_at (G.finished positive q places)
    finished_at true places =
        ap (λ found. called_with O.Accepted found (values_at places.vars p)) (found_at q places.slots)
    finished_at false places = refl

    -- a foreseen end isn't a plain rejection, where a body ends
    not_plain : (positive : Bool) (places : Places) → is_plain (G.finished positive q places).ending ≡ false
    not_plain true places = refl
    not_plain false places = refl

    -- what a body ends with
    record EndsAs (positive : Bool) (ran : Ran) (f : Foreseen) : Type 0 where
      called : finished positive q ran.finish ran ≡ called_at f
      plain : is_plain f.ending ≡ false

    body_ends : (positive : Bool) (ts : List (Statement Ref)) (places : Places) (f : Foreseen) →
        G.body_ends q positive (B.body ts places) ≡ Ok f →
        EndsAs positive (M.body nothing callee 0 ts (one_box (values_at places.vars p))
        (values_at places.slots p) 0) f
    body_ends positive ts places f h = by (B.body ts places) refl h
      where
        by : (m : Result Places Reason) → B.body ts places ≡ m → G.body_ends q positive m ≡ Ok f →
            EndsAs positive (M.body nothing callee 0 ts (one_box (values_at places.vars p))
            (values_at places.slots p) 0) f
        by (Ok after) is h =
            let same : G.finished positive q after ≡ f = cc in
            record {
              called = ap (λ (ran : Ran). finished positive q ran.finish ran)
                  (body_does p nothing callee ts places after is)
                  ∙ (finished_at positive after ∙ ap called_at same);
              plain = subst (λ f. is_plain f.ending ≡ false) same (not_plain positive after);
            }
        by (Err why) is h = absurd (not_told why f h)

    -- what a choice comes to
    record Chooses (alts : List (Alternative Ref)) (places : Places) (f : Foreseen) : Type 0 where
      called : choice nothing callee 0 q alts (one_box (values_at places.vars p))
          (values_at places.slots p) 0 ≡ called_at f
      plain : none_holds alts (values_at places.vars p) (values_at places.slots p) ≡ is_plain f.ending

    choice_at : (alts : List (Alternative Ref)) (places : Places) (f : Foreseen) →
        G.choice q alts places ≡ Ok f → Chooses alts places f
    choice_at [] places f h =
        let same : G.rejected_plainly places ≡ f = cc in
        subst (λ f. Chooses [] places f) same (record { called = refl; plain = refl })
    choice_at (a ∷ alts) places f h =
        let s = steps (T.and_then (T.told a.cond places.vars places.slots) T.truth_in)
        (λ b. if b then G.chosen q a a.pre places else G.choice q alts places) f h in
        let d = decided_at p a.cond places s.middle s.start in
        by s.middle d.0 d.1 d.2 (choice_at alts places f) s.onward
      where
        taken : (pre : Option (Pre Ref)) → G.chosen q a pre places ≡ Ok f →
            (A.chosen nothing callee 0 q a pre (one_box (values_at places.vars p))
            (values_at places.slots p) 0 ≡ called_at f) × (is_plain f.ending ≡ false)
        taken None h = let e = body_ends a.positive a.body places f h in (e.called, e.plain)
        taken (Some pre) h = absurd (not_told _ f h)

        by : (b : Bool) (v : Value) →
            V.value a.cond (values_at places.vars p) (values_at places.slots p) ≡ Ok v → V.bool_of v ≡ b →
            (G.choice q alts places ≡ Ok f → Chooses alts places f) →
            (if b then G.chosen q a a.pre places else G.choice q alts places) ≡ Ok f →
            Chooses (a ∷ alts) places f
        by true v is t others h =
            let e = taken a.pre h in
            record {
              called = ap (λ m. A.judged nothing callee 0 q m a
                  (choice nothing callee 0 q alts (one_box (values_at places.vars p))
                  (values_at places.slots p) 0) (one_box (values_at places.vars p))
                  (values_at places.slots p) 0) is
                  ∙ (ap (λ b. if b then A.chosen nothing callee 0 q a a.pre
                  (one_box (values_at places.vars p)) (values_at places.slots p) 0 else choice nothing
                  callee 0 q alts (one_box (values_at places.vars p)) (values_at places.slots p) 0) t
                  ∙ e.0);
              plain = ap (λ m. is_false m && none_holds alts (values_at places.vars p)
                  (values_at places.slots p)) is
                  ∙ (ap (λ b. not b && none_holds alts (values_at places.vars p)
                  (values_at places.slots p)) t ∙ sym e.1);
            }
        by false v is t others h =
            let e : Chooses alts places f = others h in
            record {
              called = ap (λ m. A.judged nothing callee 0 q m a
                  (choice nothing callee 0 q alts (one_box (values_at places.vars p))
                  (values_at places.slots p) 0) (one_box (values_at places.vars p))
                  (values_at places.slots p) 0) is
                  ∙ (ap (λ b. if b then A.chosen nothing callee 0 q a a.pre
                  (one_box (values_at places.vars p)) (values_at places.slots p) 0 else choice nothing
                  callee 0 q alts (one_box (values_at places.vars p)) (values_at places.slots p) 0) t
                  ∙ e.called);
              plain = ap (λ m. is_false m && none_holds alts (values_at places.vars p)
                  (values_at places.slots p)) is
                  ∙ (ap (λ b. not b && none_holds alts (values_at places.vars p)
                  (values_at places.slots p)) t ∙ e.plain);
            }

    record Performs (form : Form Ref) (places : Places) (f : Foreseen) : Type 0 where
      called : performed nothing callee 0 q form (one_box (values_at places.vars p))
          (values_at places.slots p) 0 ≡ called_at f
      plain : is_plainly_rejected form (values_at places.vars p) (values_at places.slots p) ≡ is_plain
          f.ending

    performed_at : (form : Form Ref) (places : Places) (f : Foreseen) → G.performed q form places ≡ Ok f →
        Performs form places f
    performed_at (F.Total ss) places f h = let e = body_ends true ss places f h in
        record { called = e.called; plain = sym e.plain }
    performed_at (F.Partial alts) places f h = let e = choice_at alts places f h in
        record { called = e.called; plain = e.plain }
    performed_at (F.Action alts) places f h = let e = choice_at alts places f h in
        record { called = e.called; plain = e.plain }

  abbrev ended : Called → Bool → Alone
  ended c plain = record { outcome = c.outcome; result = c.result; plain = plain; vars = vars_of c.state 0 }

  -- what is foreseen is the run
  pub foreseen_at : (q : Proc Ref) (args vars : List Symbol) (f : Foreseen) → foreseen q args vars ≡ Ok f →
      alone q (values_at args p) (values_at vars p) ≡ run_at f p
  foreseen_at q args vars f h =
      let e : Performs (attempt nothing 0) q q.form (record { vars = vars; slots = first_slots q args }) f =
      performed_at (attempt nothing 0) q q.form (record { vars = vars; slots = first_slots q args }) f
      h in
      let slots : entry_slots q (values_at args p) ≡ values_at (first_slots q args) p = slots_at q args in
      ap (λ ss. ended (performed nothing (attempt nothing 0) 0 q q.form (one_box (values_at vars p)) ss 0)
      (is_plainly_rejected q.form (values_at vars p) ss)) slots
      ∙ (ap (λ c. ended c (is_plainly_rejected q.form (values_at vars p)
      (values_at (first_slots q args) p))) e.called ∙ ap (λ b. ended (called_at f) b) e.plain)
