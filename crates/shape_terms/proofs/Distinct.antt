-- A state and all arguments are of one case alone, and each point of a case gives a state and arguments.
use Rattle.std.proofs.Common.{◌≡◌, ℕ, zero, suc, ◌*◌, ◌+◌, ◌<◌, ◌≤◌, ◌⊎◌, inl, inr, ⊎_elim, arith, Bool}
use Rattle.std.proofs.Common.{true, false, ◌||◌, List, [], ◌∷◌, ◌++◌, length, map, refl, sym, ap, ◌∙◌}
use Rattle.std.proofs.Common.{subst}
use Rattle.std.specs.Prelude.{All}
use Rattle.std.specs.List.{range_with_len}
use Rattle.std.specs.Int.{w64}
use Rattle.std.specs.Int.RustNames.{FitsSigned}
use Rattle.std.proofs.lemmas.Int.{SFits-int_wrap}
use Rattle.std.proofs.lemmas.List.Elements.{All-nil, All-cons, All-append}
use Rattle.std.proofs.lemmas.List.FromFn.{length-map-range_with_len}
use Rattle.seuss_program.specs.declared.state.Value.{Value}
use Rattle.seuss_program.specs.declared.state.Value.TheVariants as V
use Rattle.seuss_program.specs.declared.tree.Kind.{Kind}
use Rattle.seuss_program.specs.declared.tree.Kind.TheVariants as K
use Rattle.seuss_program.specs.declared.tree.Ref.{Ref}
use Rattle.seuss_program.specs.declared.tree.Var.{Var}
use Rattle.seuss_program.specs.declared.tree.Param.{Param}
use Rattle.seuss_program.specs.declared.tree.Proc.{Proc}
use Rattle.seuss_program.specs.declared.tree.Hint.{Hint}
use Rattle.seuss_program.specs.Keeping.{AreOf, kind_of, var_kinds, param_kinds}
use Rattle.shape_terms.specs.declared.num_form.NumForm.{NumForm}
use Rattle.shape_terms.specs.declared.shape.Shape.{Shape}
use Rattle.shape_terms.specs.declared.shape.Shape.TheVariants as Q
use Rattle.shape_terms.specs.declared.symbol.Symbol.{Symbol}
use Rattle.shape_terms.specs.declared.symbol.Symbol.TheVariants as S
use Rattle.shape_terms.specs.declared.case.Case.{Case}
use Rattle.shape_terms.specs.Points.{Point, HasNumbers}
use Rattle.shape_terms.specs.Numbers.{number, atom}
use Rattle.shape_terms.specs.Sequences.{numbers, items}
use Rattle.shape_terms.specs.Symbols.{value_at, values_at, IsOf}
use Rattle.shape_terms.specs.Texts.{in_form}
use Rattle.shape_terms.proofs.Bits.{HasBits, all_sizes_of}
use Rattle.shape_terms.specs.Cases.{atoms_from, exact_choice, long_choice, sequence_choices, depth_of}
use Rattle.shape_terms.specs.Cases.{var_choices, vars_choices, param_choices, rows_of, cases_with}
use Rattle.shape_terms.specs.Cases.{cases_from, Pair, choices_of_vars, choices_of_first, choices_of_second}
use Rattle.shape_terms.specs.Cases.{cases_of}
use Rattle.shape_terms.proofs.LengthLemmas.{length_of_numbers, length_of_long}
use Rattle.shape_terms.proofs.Members.{Within, within_append_back, within_map_back, within_flat_back}
use Rattle.shape_terms.proofs.Picks.{Picks, picks_of_row, IsUnique, AreUnique, unique_picks}

-- as many atoms as are asked for
pub length_of_atoms : (first many : ℕ) → length (atoms_from first many) ≡ many
length_of_atoms first many = length-map-range_with_len atom first many

below_range : (first many x : ℕ) → Within (range_with_len first many) x → x < first + many
below_range first zero x h = absurd h
below_range first (suc many) x (inl e) = omega arith
below_range first (suc many) x (inr h) =
    let below : x < first + 1 + many = below_range (first + 1) many x h in omega arith

-- what a case of a sequence is: a length below the sum of the depths, or all from there on
abbrev IsExactOrLong : ℕ → ℕ → ℕ → Symbol → Type 0
IsExactOrLong place front back s =
    ((n : ℕ) × (n < front + back) × (exact_choice place n ≡ s)) ⊎ (long_choice place front back ≡ s)

exact_or_long : (place front back : ℕ) (s : Symbol) → Within (sequence_choices place front back) s →
    IsExactOrLong place front back s
exact_or_long place front back s h =
    ⊎_elim (λ (l : Within (map (exact_choice place) (range_with_len 0 (front + back))) s). inl (exact l))
    (λ (r : Within (long_choice place front back ∷ []) s). inr (long r))
    (within_append_back (map (exact_choice place) (range_with_len 0 (front + back)))
    (long_choice place front back ∷ []) s h)
  where
    exact : Within (map (exact_choice place) (range_with_len 0 (front + back))) s →
        (n : ℕ) × (n < front + back) × (exact_choice place n ≡ s)
    exact l =
        let found : (n : ℕ) × Within (range_with_len 0 (front + back)) n × (exact_choice place n ≡ s) =
        within_map_back (exact_choice place) (range_with_len 0 (front + back)) s l in
        (found.0, omega (arith, below_range 0 (front + back) found.0 found.1), found.2)

    long : Within (long_choice place front back ∷ []) s → long_choice place front back ≡ s
    long (inl e) = e
    long (inr r) = absurd r

-- the length of a sequence, and 0 for other values
abbrev length_in : Value → ℕ
length_in (V.Int z) = 0
length_in (V.Bool b) = 0
length_in (V.Seq zs) = length zs

length_of_exact : (place n : ℕ) (p : Point) → length_in (value_at (exact_choice place n) p) ≡ n
length_of_exact place n p = length_of_numbers (atoms_from (8 * place) n) p ∙ length_of_atoms (8 * place) n

least_of_long : (place front back : ℕ) (p : Point) →
    front + back ≤ length_in (value_at (long_choice place front back) p)
least_of_long place front back p = omega (
  arith,
  length_of_long (atoms_from (8 * place) front) (atoms_from (8 * place + front) back) place p,
  length_of_atoms (8 * place) front,
  length_of_atoms (8 * place + front) back,
)

same_lengths : (s t s' t' : Symbol) (p q : Point) → s' ≡ s → t' ≡ t → value_at s p ≡ value_at t q →
    length_in (value_at s' p) ≡ length_in (value_at t' q)
same_lengths s t s' t' p q e f h =
    ap (λ x. length_in (value_at x p)) e ∙ ap length_in h ∙ sym (ap (λ x. length_in (value_at x q)) f)

unique_sequence : (place front back : ℕ) → IsUnique (sequence_choices place front back)
unique_sequence place front back s t p q a b h =
    both (exact_or_long place front back s a) (exact_or_long place front back t b)
  where
    both : IsExactOrLong place front back s → IsExactOrLong place front back t → s ≡ t
    both (inl x) (inl y) = sym x.2 ∙ ap (exact_choice place) (sym (length_of_exact place x.0 p)
        ∙ same_lengths s t (exact_choice place x.0) (exact_choice place y.0) p q x.2 y.2 h
        ∙ length_of_exact place y.0 q) ∙ y.2
    both (inl x) (inr y) = absurd (omega (
      arith,
      x.1,
      length_of_exact place x.0 p,
      least_of_long place front back q,
      same_lengths s t (exact_choice place x.0) (long_choice place front back) p q x.2 y h,
    ))
    both (inr x) (inl y) = absurd (omega (
      arith,
      y.1,
      length_of_exact place y.0 q,
      least_of_long place front back p,
      same_lengths s t (long_choice place front back) (exact_choice place y.0) p q x y.2 h,
    ))
    both (inr x) (inr y) = sym x ∙ y

only_one : (x : Symbol) → IsUnique (x ∷ [])
only_one x s t p q (inl a) (inl b) h = sym a ∙ b
only_one x s t p q (inl a) (inr b) h = absurd b
only_one x s t p q (inr a) b h = absurd a

unique_truth : IsUnique (S.Truth true ∷ S.Truth false ∷ [])
unique_truth s t p q (inl a) (inl b) h = sym a ∙ b
unique_truth s t p q (inl a) (inr (inl b)) h =
    absurd (apart (ap (λ x. value_at x p) a ∙ h ∙ sym (ap (λ x. value_at x q) b)))
  where
    apart : V.Bool true ≡ V.Bool false → ⊥
    apart e = cc
unique_truth s t p q (inl a) (inr (inr b)) h = absurd b
unique_truth s t p q (inr (inl a)) (inl b) h =
    absurd (apart (ap (λ x. value_at x p) a ∙ h ∙ sym (ap (λ x. value_at x q) b)))
  where
    apart : V.Bool false ≡ V.Bool true → ⊥
    apart e = cc
unique_truth s t p q (inr (inl a)) (inr (inl b)) h = sym a ∙ b
unique_truth s t p q (inr (inl a)) (inr (inr b)) h = absurd b
unique_truth s t p q (inr (inr a)) b h = absurd a

unique_choice : (kind : Kind) (place : ℕ) (in_text : Bool) (front back : ℕ) →
    IsUnique (var_choices kind place in_text front back)
unique_choice K.Int place in_text front back = only_one (S.Number (atom (8 * place)))
unique_choice K.Bool place true front back = unique_truth
unique_choice K.Bool place false front back = only_one (S.Untold place)
unique_choice K.Seq place true front back = unique_sequence place front back
unique_choice K.Seq place false front back = unique_sequence place 0 0

unique_vars : (place : ℕ) (m n : Proc Ref) (hints : List (Hint Ref)) (vars : List Var) →
    AreUnique (vars_choices place m n hints vars)
unique_vars place m n hints [] = tt
unique_vars place m n hints (v ∷ vs) = (
  unique_choice v.kind place (in_form place m.form || in_form place n.form) (depth_of true place hints)
      (depth_of false place hints),
  unique_vars (place + 1) m n hints vs,
)

unique_params : (place : ℕ) (params : List Param) → AreUnique (param_choices place params)
unique_params place [] = tt
unique_params place (x ∷ xs) = (unique_choice x.kind place true 0 0, unique_params (place + 1) xs)

-- the rows of a case
pub record HasRows (pair : Pair) (c : Case) : Type 0 where
  pub vars : Picks (choices_of_vars pair) c.vars
  pub first : Picks (choices_of_first pair) c.first
  pub second : Picks (choices_of_second pair) c.second

pub rows_of_case : (pair : Pair) (c : Case) → Within (cases_of pair) c → HasRows pair c
rows_of_case pair c h =
    let vs : (v : List Symbol) × Within (rows_of (choices_of_vars pair)) v × Within
    (cases_from v (rows_of (choices_of_first pair)) (rows_of (choices_of_second pair))) c =
    within_flat_back
    (λ (v : List Symbol). cases_from v (rows_of (choices_of_first pair)) (rows_of (choices_of_second pair)))
    (rows_of (choices_of_vars pair)) c h in
    let fs : (f : List Symbol) × Within (rows_of (choices_of_first pair)) f × Within
    (cases_with vs.0 f (rows_of (choices_of_second pair))) c =
    within_flat_back (λ (f : List Symbol). cases_with vs.0 f (rows_of (choices_of_second pair)))
    (rows_of (choices_of_first pair)) c vs.2 in
    let made : List Symbol → Case = λ s. record { vars = vs.0; first = fs.0; second = s } in
    let ss : (s : List Symbol) × Within (rows_of (choices_of_second pair)) s × (made s ≡ c) =
    within_map_back made (rows_of (choices_of_second pair)) c fs.2 in
    subst (HasRows pair) ss.2 (record {
      vars = picks_of_row (choices_of_vars pair) vs.0 vs.1;
      first = picks_of_row (choices_of_first pair) fs.0 fs.1;
      second = picks_of_row (choices_of_second pair) ss.0 ss.1;
    })

abbrev row_case : List Symbol → List Symbol → List Symbol → Case
row_case vars first second = record { vars = vars; first = first; second = second }

pub one_case : (pair : Pair) (c d : Case) (p q : Point) (state args others : List Value) →
    Within (cases_of pair) c → Within (cases_of pair) d →
    IsOf c p state args others → IsOf d q state args others → c ≡ d
one_case pair c d p q state args others a b x y =
    let r : HasRows pair c = rows_of_case pair c a in
    let t : HasRows pair d = rows_of_case pair d b in
    let vars : c.vars ≡ d.vars =
    unique_picks (choices_of_vars pair)
    (unique_vars 0 pair.first pair.second pair.hints pair.cat.vars) c.vars d.vars p q r.vars t.vars
    (x.vars ∙ sym y.vars) in
    let first : c.first ≡ d.first =
    unique_picks (choices_of_first pair)
    (unique_params (length pair.cat.vars) pair.first.params) c.first d.first p q r.first t.first
    (x.first ∙ sym y.first) in
    let second : c.second ≡ d.second = unique_picks (choices_of_second pair)
    (unique_params (length pair.cat.vars + length pair.first.params) pair.second.params) c.second d.second p
    q r.second t.second (x.second ∙ sym y.second) in
    ap (λ l. row_case l c.first c.second) vars ∙ ap (λ l. row_case d.vars l c.second) first
    ∙ ap (λ l. row_case d.vars d.first l) second

-- what each point of a case gives: values of the right kinds, whose numbers have 64 bits
kind_of_sequence : (place front back : ℕ) (s : Symbol) (p : Point) →
    Within (sequence_choices place front back) s → kind_of (value_at s p) ≡ K.Seq
kind_of_sequence place front back s p h = by_form (exact_or_long place front back s h)
  where
    by_form : IsExactOrLong place front back s → kind_of (value_at s p) ≡ K.Seq
    by_form (inl x) = sym (ap (λ y. kind_of (value_at y p)) x.2)
    by_form (inr x) = sym (ap (λ y. kind_of (value_at y p)) x)

kind_of_only : (x s : Symbol) (k : Kind) (p : Point) → kind_of (value_at x p) ≡ k → Within (x ∷ []) s →
    kind_of (value_at s p) ≡ k
kind_of_only x s k p e (inl a) = sym (ap (λ y. kind_of (value_at y p)) a) ∙ e
kind_of_only x s k p e (inr a) = absurd a

kind_of_truth : (s : Symbol) (p : Point) → Within (S.Truth true ∷ S.Truth false ∷ []) s →
    kind_of (value_at s p) ≡ K.Bool
kind_of_truth s p (inl a) = sym (ap (λ y. kind_of (value_at y p)) a)
kind_of_truth s p (inr a) = kind_of_only (S.Truth false) s K.Bool p refl a

kind_of_choice : (kind : Kind) (place : ℕ) (in_text : Bool) (front back : ℕ) (s : Symbol) (p : Point) →
    Within (var_choices kind place in_text front back) s → kind_of (value_at s p) ≡ kind
kind_of_choice K.Int place in_text front back s p h =
    kind_of_only (S.Number (atom (8 * place))) s K.Int p refl h
kind_of_choice K.Bool place true front back s p h = kind_of_truth s p h
kind_of_choice K.Bool place false front back s p h = kind_of_only (S.Untold place) s K.Bool p refl h
kind_of_choice K.Seq place true front back s p h = kind_of_sequence place front back s p h
kind_of_choice K.Seq place false front back s p h = kind_of_sequence place 0 0 s p h

numbers_fit : (forms : List NumForm) (p : Point) → All (FitsSigned w64) (numbers forms p)
numbers_fit [] p = All-nil (FitsSigned w64)
numbers_fit (x ∷ xs) p =
    All-cons (FitsSigned w64) (number x p) (numbers xs p) (SFits-int_wrap w64 _) (numbers_fit xs p)

items_fit : (s : Shape) (p : Point) → HasNumbers p → All (FitsSigned w64) (items s p)
items_fit (Q.Exact xs) p has = numbers_fit xs p
items_fit (Q.Long xs r ys) p has = All-append (FitsSigned w64) (numbers xs p ++ p.rests r) (numbers ys p)
    (All-append (FitsSigned w64) (numbers xs p) (p.rests r) (numbers_fit xs p) (has.rests r))
    (numbers_fit ys p)

bits_at : (s : Symbol) (p : Point) → HasNumbers p → HasBits (value_at s p)
bits_at (S.Number form) p has = SFits-int_wrap w64 _
bits_at (S.Truth b) p has = tt
bits_at (S.Untold k) p has = tt
bits_at (S.Sequence s) p has = items_fit s p has

all_bits : (ss : List Symbol) (p : Point) → HasNumbers p → All HasBits (values_at ss p)
all_bits [] p has = All-nil HasBits
all_bits (s ∷ ss) p has =
    All-cons HasBits (value_at s p) (values_at ss p) (bits_at s p has) (all_bits ss p has)

joined : (k l : Kind) (ks ls : List Kind) → k ≡ l → ks ≡ ls → k ∷ ks ≡ l ∷ ls
joined k l ks ls e f = ap (λ x. x ∷ ks) e ∙ ap (λ x. l ∷ x) f

kinds_of_vars : (place : ℕ) (m n : Proc Ref) (hints : List (Hint Ref)) (vars : List Var) (ss : List Symbol)
    (p : Point) →
    Picks (vars_choices place m n hints vars) ss → map kind_of (values_at ss p) ≡ var_kinds vars
kinds_of_vars place m n hints [] [] p picks = refl
kinds_of_vars place m n hints [] (s ∷ ss) p picks = absurd picks
kinds_of_vars place m n hints (v ∷ vs) [] p picks = absurd picks
kinds_of_vars place m n hints (v ∷ vs) (s ∷ ss) p picks = joined _ _ _ _
    (kind_of_choice v.kind place (in_form place m.form || in_form place n.form) (depth_of true place hints)
    (depth_of false place hints) s p picks.0)
    (kinds_of_vars (place + 1) m n hints vs ss p picks.1)

kinds_of_params : (place : ℕ) (params : List Param) (ss : List Symbol) (p : Point) →
    Picks (param_choices place params) ss →
    map kind_of (values_at ss p) ≡ param_kinds params
kinds_of_params place [] [] p picks = refl
kinds_of_params place [] (s ∷ ss) p picks = absurd picks
kinds_of_params place (x ∷ xs) [] p picks = absurd picks
kinds_of_params place (x ∷ xs) (s ∷ ss) p picks = joined _ _ _ _
    (kind_of_choice x.kind place true 0 0 s p picks.0) (kinds_of_params (place + 1) xs ss p picks.1)

pub vars_at_point : (pair : Pair) (c : Case) (p : Point) → Within (cases_of pair) c → HasNumbers p →
    AreOf (values_at c.vars p) (var_kinds pair.cat.vars)
vars_at_point pair c p h has = record {
  kinds =
      kinds_of_vars 0 pair.first pair.second pair.hints pair.cat.vars c.vars p (rows_of_case pair c h).vars;
  sizes = all_sizes_of (values_at c.vars p) (all_bits c.vars p has);
}

pub first_at_point : (pair : Pair) (c : Case) (p : Point) → Within (cases_of pair) c → HasNumbers p →
    AreOf (values_at c.first p) (param_kinds pair.first.params)
first_at_point pair c p h has = record {
  kinds = kinds_of_params (length pair.cat.vars) pair.first.params c.first p (rows_of_case pair c h).first;
  sizes = all_sizes_of (values_at c.first p) (all_bits c.first p has);
}

pub second_at_point : (pair : Pair) (c : Case) (p : Point) → Within (cases_of pair) c → HasNumbers p →
    AreOf (values_at c.second p) (param_kinds pair.second.params)
second_at_point pair c p h has = record {
  kinds =
      kinds_of_params (length pair.cat.vars + length pair.first.params) pair.second.params c.second p
      (rows_of_case pair c h).second;
  sizes = all_sizes_of (values_at c.second p) (all_bits c.second p has);
}
