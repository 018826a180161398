-- The cases of a procedure cover every state and all arguments.
use Rattle.std.proofs.Common.{◌≡◌, ℕ, zero, suc, ◌+◌, ℤ, pos, ◌+ℤ◌, ◌-ℤ◌, int_lt}
use Rattle.std.proofs.Common.{Bool, true}
use Rattle.std.proofs.Common.{false, if◌then◌else◌, List, [], ◌∷◌, ◌++◌, map, length}
use Rattle.std.proofs.Common.{Some, refl, sym}
use Rattle.std.proofs.Common.{subst, arith, append_assoc}
use Rattle.std.proofs.Common.{inl, inr}
use Rattle.std.specs.Prelude.{◌⊎◌, slice_index_or, ◌≤ℤ◌}
use Rattle.std.specs.List.{flat_map}
use Rattle.std.proofs.lemmas.Int.{ints}
use Rattle.std.specs.List.{Contains}
use Rattle.seuss_program.specs.declared.tree.Ref.{Ref}
use Rattle.seuss_program.specs.declared.tree.Ref.TheVariants as R
use Rattle.seuss_program.specs.declared.tree.Kind.{Kind}
use Rattle.seuss_program.specs.declared.tree.Kind.TheVariants as K
use Rattle.seuss_program.specs.declared.tree.Var.{Var}
use Rattle.seuss_program.specs.declared.tree.Param.{Param}
use Rattle.seuss_program.specs.declared.tree.Cat.{Cat}
use Rattle.seuss_program.specs.declared.tree.Proc.{Proc}
use Rattle.seuss_program.specs.declared.state.Value.{Value}
use Rattle.seuss_program.specs.declared.state.Value.TheVariants as V
use Rattle.seuss_program.specs.Values.{named}
use Rattle.seuss_program.specs.Attempts.{entry_slots, form_locals}
use Rattle.seuss_program.specs.Keeping.{AreOf, kind_of, var_kinds, param_kinds}
use Rattle.meaning_laws.specs.Kinds.{IsOf}
use Rattle.safety_check.specs.Spans.{Span, Within, all_numbers, all_lengths, single, unless_empty, there}
use Rattle.safety_check.specs.Spans.{below}
use Rattle.safety_check.specs.Spans.{beyond, cut_at, is_within, cut_up}
use Rattle.safety_check.specs.Regions.{Region, Numbers, Lengths, Anything, Fit, Lies, Frame}
use Rattle.safety_check.specs.Regions.{regions_of, is_among}
use Rattle.safety_check.specs.Texts.{Seen, cuts_at}
use Rattle.safety_check.specs.Cases.{kind_choices, vars_choices, params_choices, one_choice, IsRow, IsCase}
use Rattle.safety_check.proofs.SpanLaws.{fits-within, single-within, not-empty}
use Rattle.safety_check.proofs.RegionLaws.{exactly-lies}

-- one of some items is such
abbrev pub Some_in : {A : Type 0} → (A → Type 0) → List A → Type 0
Some_in P [] = ⊥
Some_in P (x ∷ xs) = P x ⊎ Some_in P xs

-- it is one of more items
in-left : {A : Type 0} (P : A → Type 0) (xs ys : List A) → Some_in P xs → Some_in P (xs ++ ys)
in-left P [] ys h = absurd h
in-left P (x ∷ xs) ys (inl h) = inl h
in-left P (x ∷ xs) ys (inr h) = inr (in-left P xs ys h)

-- it is one of all items
in-right : {A : Type 0} (P : A → Type 0) (xs ys : List A) → Some_in P ys → Some_in P (xs ++ ys)
in-right P [] ys h = h
in-right P (x ∷ xs) ys h = inr (in-right P xs ys h)

-- it is one of what its item gives
in-flat : {A B : Type 0} (P : A → Type 0) (Q : B → Type 0) (f : A → List B) →
    ((x : A) → P x → Some_in Q (f x)) → (xs : List A) → Some_in P xs → Some_in Q (flat_map f xs)
in-flat P Q f g [] h = absurd h
in-flat P Q f g (x ∷ xs) (inl h) = in-left Q (f x) (flat_map f xs) (g x h)
in-flat P Q f g (x ∷ xs) (inr h) = in-right Q (f x) (flat_map f xs) (in-flat P Q f g xs h)

-- it is one of what the items give
in-map : {A B : Type 0} (P : A → Type 0) (Q : B → Type 0) (f : A → B) → ((x : A) → P x → Q (f x)) →
    (xs : List A) → Some_in P xs → Some_in Q (map f xs)
in-map P Q f g [] h = absurd h
in-map P Q f g (x ∷ xs) (inl h) = inl (g x h)
in-map P Q f g (x ∷ xs) (inr h) = inr (in-map P Q f g xs h)

-- which is an element of the list
pub record Found {A : Type 0} (P : A → Type 0) (xs : List A) : Type 0 where
  pub x : A
  pub there : Contains xs x
  pub holds : P x

-- the element that is such
pub found-in : {A : Type 0} (P : A → Type 0) (xs : List A) → Some_in P xs → Found P xs
found-in P [] h = absurd h
found-in P (x ∷ xs) (inl h) = record { x = x; there = (0, omega arith, refl); holds = h }
found-in P (x ∷ xs) (inr h) =
    let rest = found-in P xs h in
    record {
      x = rest.x;
      there = (suc rest.there.0, omega (arith, rest.there.1), rest.there.2);
      holds = rest.holds;
    }

-- a cut leaves each number of the span in a part
below-cut : (z c : ℤ) → int_lt z c ≡ true → z ≤ℤ (c -ℤ pos 1)
below-cut z c h = grind (arith, ints)

-- a number above a cut
above-cut : (z c : ℤ) → int_lt c z ≡ true → (c +ℤ pos 1) ≤ℤ z
above-cut z c h = grind (arith, ints)

-- a number neither below nor above a cut is the cut
at-cut : (z c : ℤ) → int_lt z c ≡ false → int_lt c z ≡ false → z ≡ c
at-cut z c h g = grind (arith, ints)

-- a span with a number is there
there-in : (s : Span) (z : ℤ) → Within s z → Some_in (λ t. Within t z) (there (unless_empty s))
there-in s z h = subst (λ o. Some_in (λ t. Within t z) (there o)) (sym (not-empty s z h)) (inl h)

-- each number is below the cut, at it or above it
parts-cover : (c : ℤ) (s : Span) (z : ℤ) → Within s z →
    Some_in (λ t. Within t z) (below c s ++ (single c ∷ beyond c s))
parts-cover c s z h = by (int_lt z c) (int_lt c z) refl refl
  where
    low : Span
    low = record { least = s.least; most = Some (c -ℤ pos 1) }

    high : Span
    high = record { least = c +ℤ pos 1; most = s.most }

    by : (a b : Bool) → int_lt z c ≡ a → int_lt c z ≡ b →
        Some_in (λ t. Within t z) (below c s ++ (single c ∷ beyond c s))
    by true b e f =
        in-left (λ t. Within t z) (below c s) (single c ∷ beyond c s)
        (there-in low z (record { from = h.from; up_to = below-cut z c e }))
    by false true e f =
        in-right (λ t. Within t z) (below c s) (single c ∷ beyond c s)
        (inr (there-in high z (record { from = above-cut z c f; up_to = h.up_to })))
    by false false e f =
        in-right (λ t. Within t z) (below c s) (single c ∷ beyond c s)
        (inl (subst (λ x. Within (single x) z) (at-cut z c e f) (single-within z)))

-- a cut leaves each number in a span
cut-cover : (c : ℤ) (s : Span) (z : ℤ) → Within s z → Some_in (λ t. Within t z) (cut_at c s)
cut-cover c s z h = by (is_within s c)
  where
    by : (b : Bool) → Some_in (λ t. Within t z) (if b then below c s ++ (single c ∷ beyond c s) else s ∷ [])
    by true = parts-cover c s z h
    by false = inl h

-- cuts leave each number of some spans in a span
pub cuts-cover : (cs : List ℤ) (spans : List Span) (z : ℤ) → Some_in (λ t. Within t z) spans →
    Some_in (λ t. Within t z) (cut_up cs spans)
cuts-cover [] spans z h = h
cuts-cover (c ∷ cs) spans z h =
    cuts-cover cs (flat_map (cut_at c) spans) z
    (in-flat (λ t. Within t z) (λ t. Within t z) (cut_at c) (λ t i. cut-cover c t z i) spans h)

-- a value of a kind lies in one of the kind's regions
kind-cover : (k : Kind) (counts : Bool) (cs : List ℤ) (v : Value) → IsOf v k →
    Some_in (λ r. Lies r v) (kind_choices k counts cs)
kind-cover K.Int counts cs (V.Int z) h =
    in-map (λ t. Within t z) (λ r. Lies r (V.Int z)) Numbers (λ t i. i) (cut_up cs (all_numbers ∷ []))
    (cuts-cover cs (all_numbers ∷ []) z (inl (fits-within z h.1)))
kind-cover K.Int counts cs (V.Bool b) h = absurd (cc)
kind-cover K.Int counts cs (V.Seq zs) h = absurd (cc)
kind-cover K.Bool true cs (V.Bool true) h = inl refl
kind-cover K.Bool true cs (V.Bool false) h = inr (inl refl)
kind-cover K.Bool false cs (V.Bool b) h = inl tt
kind-cover K.Bool counts cs (V.Int z) h = absurd (cc)
kind-cover K.Bool counts cs (V.Seq zs) h = absurd (cc)
kind-cover K.Seq counts cs (V.Seq zs) h =
    in-map (λ t. Within t (pos (length zs))) (λ r. Lies r (V.Seq zs)) Lengths (λ t i. i)
    (cut_up cs (all_lengths ∷ []))
    (cuts-cover cs (all_lengths ∷ []) (pos (length zs)) (inl (record {
      from = omega (arith, ints);
      up_to =
          tt;
    })))
kind-cover K.Seq counts cs (V.Int z) h = absurd (cc)
kind-cover K.Seq counts cs (V.Bool b) h = absurd (cc)

-- one region of each for values, place by place
pub record Covered (choices : List (List Region)) (values : List Value) : Type 0 where
  pub row : List Region
  pub is_row : IsRow choices row
  pub lies : (n : ℕ) → Lies (slice_index_or row n Anything) (slice_index_or values n (V.Int (pos 0)))

-- no values
nothing-covered : Covered [] []
nothing-covered = record { row = []; is_row = tt; lies = λ n. refl }

-- one more value
cover-next : (choices : List Region) (more : List (List Region)) (v : Value) (values : List Value) →
    Some_in (λ r. Lies r v) choices → Covered more values → Covered (choices ∷ more) (v ∷ values)
cover-next choices more v values h rest =
    let one = found-in (λ r. Lies r v) choices h in
    record {
      row = one.x ∷ rest.row;
      is_row = (one.there, rest.is_row);
      lies = by one.x one.holds;
    }
  where
    by : (r : Region) → Lies r v → (n : ℕ) →
        Lies (slice_index_or (r ∷ rest.row) n Anything) (slice_index_or (v ∷ values) n (V.Int (pos 0)))
    by r lies zero = lies
    by r lies (suc n) = rest.lies n

-- a value of this kind whose numbers have 64 bits
first-is : (v : Value) (vs : List Value) (k : Kind) (ks : List Kind) → AreOf (v ∷ vs) (k ∷ ks) → IsOf v k
first-is v vs k ks h =
    let same : kind_of v ≡ k = let e = h.kinds in cc in
    (same, h.sizes 0 v (omega arith))

-- the values after the first one have their kinds
rest-are : (v : Value) (vs : List Value) (k : Kind) (ks : List Kind) → AreOf (v ∷ vs) (k ∷ ks) → AreOf vs ks
rest-are v vs k ks h = record {
  kinds = let e = h.kinds in cc;
  sizes = λ n d less. h.sizes (suc n) d (omega (arith, less));
}

-- the regions of variables cover their values
vars-cover : (seen : Seen) (number : ℕ) (vs : List Var) (values : List Value) → AreOf values (var_kinds vs) →
    Covered (vars_choices seen number vs) values
vars-cover seen number [] [] h = nothing-covered
vars-cover seen number [] (v ∷ values) h = let e = h.kinds in absurd (cc)
vars-cover seen number (x ∷ vs) [] h = let e = h.kinds in absurd (cc)
vars-cover seen number (x ∷ vs) (v ∷ values) h =
    cover-next (kind_choices x.kind (is_among (R.Var number) seen.names) (cuts_at (R.Var number) seen.cuts))
    (vars_choices seen (number + 1) vs) v values
    (kind-cover x.kind (is_among (R.Var number) seen.names) (cuts_at (R.Var number) seen.cuts) v
    (first-is v values x.kind (var_kinds vs) h))
    (vars-cover seen (number + 1) vs values (rest-are v values x.kind (var_kinds vs) h))

-- and so do those of the other slots, which have one value
others-cover : (values : List Value) → Covered (map one_choice values) values
others-cover [] = nothing-covered
others-cover (v ∷ values) =
    cover-next (one_choice v) (map one_choice values) v values (inl (exactly-lies v)) (others-cover values)

-- and those of parameters with other slots after them
params-cover : (seen : Seen) (number : ℕ) (xs : List Param) (args others : List Value) →
    AreOf args (param_kinds xs) →
    Covered (params_choices seen number xs ++ map one_choice others) (args ++ others)
params-cover seen number [] [] others h = others-cover others
params-cover seen number [] (v ∷ args) others h = let e = h.kinds in absurd (cc)
params-cover seen number (x ∷ xs) [] others h = let e = h.kinds in absurd (cc)
params-cover seen number (x ∷ xs) (v ∷ args) others h =
    cover-next (kind_choices x.kind true (cuts_at (R.Slot number) seen.cuts))
    (params_choices seen (number + 1) xs ++ map one_choice others) v (args ++ others)
    (kind-cover x.kind true (cuts_at (R.Slot number) seen.cuts) v (first-is v args x.kind (param_kinds xs) h))
    (params-cover seen (number + 1) xs args others (rest-are v args x.kind (param_kinds xs) h))

-- a case of a procedure in which these variables and arguments lie
pub record CaseOf (c : Cat Ref) (q : Proc Ref) (seen : Seen) (vars args : List Value) : Type 0 where
  pub frame : Frame
  pub case : IsCase c q seen frame
  pub fit : Fit (regions_of frame) vars (entry_slots q args)

-- there is one for all values of their kinds
pub case-there : (c : Cat Ref) (q : Proc Ref) (seen : Seen) (vars args : List Value) →
    AreOf vars (var_kinds c.vars) → AreOf args (param_kinds q.params) → CaseOf c q seen vars args
case-there c q seen vars args typed_vars typed_args =
    let own = vars-cover seen 0 c.vars vars typed_vars in
    let others = params-cover seen 0 q.params args (entry_slots q []) typed_args in
    record {
      frame = record { vars = own.row; slots = others.row };
      case = record { vars = own.is_row; slots = others.is_row };
      fit = record { at = by own.row others.row own.lies others.lies };
    }
  where
    by : (rs qs : List Region) →
        ((n : ℕ) → Lies (slice_index_or rs n Anything) (slice_index_or vars n (V.Int (pos 0)))) →
        ((n : ℕ) → Lies (slice_index_or qs n Anything) (slice_index_or (args ++ entry_slots q []) n
        (V.Int (pos 0)))) →
        (name : Ref) →
        Lies (regions_of (record { vars = rs; slots = qs }) name) (named name vars (entry_slots q args))
    by rs qs own others (R.Var n) = own n
    by rs qs own others (R.Slot n) =
        subst (λ (vs : List Value). Lies (slice_index_or qs n Anything) (slice_index_or vs n (V.Int (pos 0))))
        (sym (append_assoc args (if q.gives then V.Int (pos 0) ∷ [] else []) (form_locals q.form))) (others n)
    by rs qs own others (R.Given n) = refl
    by rs qs own others (R.Method n) = refl
    by rs qs own others (R.Cat n) = refl
