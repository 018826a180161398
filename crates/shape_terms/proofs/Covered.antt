-- Every state and all arguments are of a case.
use Rattle.std.proofs.Common.{◌≡◌, ℕ, suc, ◌+◌, ◌≤◌, arith, true, false, ◌||◌, List, [], ◌∷◌, length, map}
use Rattle.std.proofs.Common.{refl, ap, ◌∙◌, subst}
use Rattle.std.specs.Prelude.{All, Option, None, Some, option_and_then, slice_get}
use Rattle.std.specs.Option.{option_map}
use Rattle.std.proofs.lemmas.List.Elements.{All-head, All-tail}
use Rattle.seuss_program.specs.declared.state.Value.{Value}
use Rattle.seuss_program.specs.declared.tree.Ref.{Ref}
use Rattle.seuss_program.specs.declared.tree.Var.{Var}
use Rattle.seuss_program.specs.declared.tree.Param.{Param}
use Rattle.seuss_program.specs.declared.tree.Proc.{Proc}
use Rattle.seuss_program.specs.declared.tree.Hint.{Hint}
use Rattle.seuss_program.specs.declared.tree.Semi.{Semi}
use Rattle.seuss_program.specs.declared.tree.Cat.{Cat}
use Rattle.seuss_program.specs.declared.program.Program.{Program}
use Rattle.seuss_program.specs.Keeping.{AreOf, Keeps, KeepsCat, kind_of, var_kinds, param_kinds, method_at}
use Rattle.shape_terms.specs.declared.apart.Apart.TheVariants as A
use Rattle.shape_terms.specs.declared.symbol.Symbol.{Symbol}
use Rattle.shape_terms.specs.declared.case.Case.{Case}
use Rattle.shape_terms.specs.Points.{Point, HasNumbers, point_of}
use Rattle.shape_terms.specs.Symbols.{IsOf}
use Rattle.shape_terms.specs.Texts.{in_form}
use Rattle.shape_terms.proofs.Bits.{HasBits, all_bits_of}
use Rattle.shape_terms.specs.Cases.{depth_of, vars_choices, param_choices, rows_of, cases_with, cases_from}
use Rattle.shape_terms.specs.Cases.{cases_between, HasFew, pair_of, pair_at, Pair, choices_of_vars}
use Rattle.shape_terms.specs.Cases.{choices_of_first, choices_of_second, cases_of}
use Rattle.shape_terms.proofs.PointLemmas.{zero_fits}
use Rattle.shape_terms.proofs.CaseLemmas.{few_depth, few_of_kept, found_in_all}
use Rattle.shape_terms.proofs.Members.{Within, within_map, within_flat}
use Rattle.shape_terms.proofs.Agreements.{Agree, agree_below, agree_on, agree_back}
use Rattle.shape_terms.proofs.ChosenLemmas.{choose}
use Rattle.shape_terms.proofs.Fillings.{no_row, CanChoose, Filled, fill}

can_vars : (place : ℕ) (m n : Proc Ref) (hints : List (Hint Ref)) (vars : List Var) (xs : List Value) →
    All (λ (h : Hint Ref). h.depth ≤ 4) hints →
    map kind_of xs ≡ var_kinds vars → All HasBits xs → CanChoose place (vars_choices place m n hints vars) xs
can_vars place m n hints [] [] few e bits = tt
can_vars place m n hints [] (x ∷ xs) few e bits = cc
can_vars place m n hints (v ∷ vs) [] few e bits = cc
can_vars place m n hints (v ∷ vs) (x ∷ xs) few e bits =
    let one : kind_of x ≡ v.kind = cc in
    let more : map kind_of xs ≡ var_kinds vs = cc in (
      λ q has.
          choose v.kind place (in_form place m.form || in_form place n.form) (depth_of true place hints)
          (depth_of false place hints) x q
          (omega (arith, few_depth true place hints few, few_depth false place hints few)) one
          (All-head HasBits x xs bits) has,
      can_vars (place + 1) m n hints vs xs few more (All-tail HasBits x xs bits),
    )

can_params : (place : ℕ) (params : List Param) (xs : List Value) → map kind_of xs ≡ param_kinds params →
    All HasBits xs →
    CanChoose place (param_choices place params) xs
can_params place [] [] e bits = tt
can_params place [] (x ∷ xs) e bits = cc
can_params place (v ∷ vs) [] e bits = cc
can_params place (v ∷ vs) (x ∷ xs) e bits =
    let one : kind_of x ≡ v.kind = cc in
    let more : map kind_of xs ≡ param_kinds vs = cc in (
      λ q has. choose v.kind place true 0 0 x q (omega arith) one (All-head HasBits x xs bits) has,
      can_params (place + 1) vs xs more (All-tail HasBits x xs bits),
    )

length_of_vars : (place : ℕ) (m n : Proc Ref) (hints : List (Hint Ref)) (vars : List Var) →
    length (vars_choices place m n hints vars) ≡ length vars
length_of_vars place m n hints [] = refl
length_of_vars place m n hints (v ∷ vs) = ap suc (length_of_vars (place + 1) m n hints vs)

length_of_params : (place : ℕ) (params : List Param) → length (param_choices place params) ≡ length params
length_of_params place [] = refl
length_of_params place (x ∷ xs) = ap suc (length_of_params (place + 1) xs)

within_cases : (rows firsts seconds : List (List Symbol)) (vars first second : List Symbol) →
    Within rows vars → Within firsts first → Within seconds second →
    Within (cases_between rows firsts seconds) (record { vars = vars; first = first; second = second })
within_cases rows firsts seconds vars first second a b c =
    within_flat (λ (vs : List Symbol). cases_from vs firsts seconds) rows vars
    (record { vars = vars; first = first; second = second }) a
    (within_flat (λ (fs : List Symbol). cases_with vars fs seconds) firsts first
    (record { vars = vars; first = first; second = second }) b
    (within_map (λ (ss : List Symbol). record { vars = vars; first = first; second = ss }) seconds second c))

-- a case of a certificate of which values are, with the point at which they are
pub record IsCovered (pair : Pair) (state args others : List Value) : Type 0 where
  pub case : Case
  pub point : Point
  pub within : Within (cases_of pair) case
  pub numbers : HasNumbers point
  pub values : IsOf case point state args others

pub covered : (pair : Pair) (state args others : List Value) →
    All (λ (h : Hint Ref). h.depth ≤ 4) pair.hints →
    AreOf state (var_kinds pair.cat.vars) → AreOf args (param_kinds pair.first.params) →
    AreOf others (param_kinds pair.second.params) →
    IsCovered pair state args others
covered pair state args others few s a o =
    let v : ℕ = length pair.cat.vars in
    let m : ℕ = v + length pair.first.params in
    let one : Filled 0 (0 + length (choices_of_vars pair)) (rows_of (choices_of_vars pair)) state
    (point_of A.Zero) =
    fill (choices_of_vars pair) state 0 ([] ∷ []) [] (point_of A.Zero)
    (can_vars 0 pair.first pair.second pair.hints pair.cat.vars state few s.kinds
    (all_bits_of state s.sizes)) zero_fits
    (no_row 0 (point_of A.Zero)) in
    let two : Filled v (v + length (choices_of_first pair))
    (rows_of (choices_of_first pair)) args one.point =
    fill (choices_of_first pair) args v ([] ∷ []) [] one.point
    (can_params v pair.first.params args a.kinds (all_bits_of args a.sizes)) one.numbers
    (no_row v one.point) in
    let three : Filled m (m + length (choices_of_second pair))
    (rows_of (choices_of_second pair)) others two.point =
    fill (choices_of_second pair) others m ([] ∷ []) [] two.point
    (can_params m pair.second.params others o.kinds (all_bits_of others o.sizes)) two.numbers
    (no_row m two.point) in
    let first_end : 0 + length (choices_of_vars pair) ≤ v =
    omega (arith, length_of_vars 0 pair.first pair.second pair.hints pair.cat.vars) in
    let second_end : v + length (choices_of_first pair) ≤ m =
    omega (arith, length_of_params v pair.first.params) in
    let from_two : Agree v two.point three.point =
    agree_below v m two.point three.point (omega arith) three.agrees in
    let from_one : Agree v one.point three.point =
    agree_on v one.point two.point three.point two.agrees from_two in
    record {
      case = record { vars = one.found.row; first = two.found.row; second = three.found.row };
      point = three.point;
      within =
          within_cases (rows_of (choices_of_vars pair)) (rows_of (choices_of_first pair))
          (rows_of (choices_of_second pair))
          one.found.row two.found.row three.found.row one.found.within two.found.within three.found.within;
      numbers = three.numbers;
      values = record {
        vars =
            one.found.alone three.point one.point
            (agree_below (0 + length (choices_of_vars pair)) v three.point one.point first_end
            (agree_back v one.point three.point from_one)) ∙ one.found.value;
        first =
            two.found.alone three.point two.point
            (agree_below (v + length (choices_of_first pair)) m three.point two.point second_end
            (agree_back m two.point three.point three.agrees)) ∙ two.found.value;
        second = three.found.value;
      };
    }

-- the hints of a certificate that is kept
hints_in : (o : Option (Proc Ref)) (r : Option (Proc Ref)) (c : Cat Ref) (s : Semi Ref) (pair : Pair) →
    option_and_then
    (λ (m : Proc Ref). option_map
    (λ (n : Proc Ref). record { cat = c; first = m; second = n; hints = s.hints }) r) o ≡ Some pair →
    s.hints ≡ pair.hints
hints_in None r c s pair e = cc
hints_in (Some m) None c s pair e = cc
hints_in (Some m) (Some n) c s pair e = hints_of e
  where
    hints_of : Some (record { cat = c; first = m; second = n; hints = s.hints }) ≡ Some pair →
        s.hints ≡ pair.hints
    hints_of e =
        ap (λ (x : Pair). x.hints) (same_pair (record { cat = c; first = m; second = n; hints = s.hints }) e)
      where
        same_pair : (x : Pair) → Some x ≡ Some pair → x ≡ pair
        same_pair x e = cc

hints_at : (c : Cat Ref) (o : Option (Semi Ref)) (semi : ℕ) (pair : Pair) → HasFew c →
    slice_get c.semis semi ≡ o →
    option_and_then (pair_of c) o ≡ Some pair → All (λ (h : Hint Ref). h.depth ≤ 4) pair.hints
hints_at c None semi pair few is e = absurd (cc)
hints_at c (Some s) semi pair few is e =
    subst (All (λ (h : Hint Ref). h.depth ≤ 4))
    (hints_in (method_at s.first c) (method_at s.second c) c s pair e)
    (found_in_all
    (λ (s : Semi Ref). All (λ (h : Hint Ref). h.depth ≤ 4) s.hints) c.semis semi s is few.depths)

hints_from : (p : Program) (o : Option (Cat Ref)) (cat semi : ℕ) (pair : Pair) → Keeps p →
    slice_get p.cats cat ≡ o →
    option_and_then (λ (c : Cat Ref). option_and_then (pair_of c) (slice_get c.semis semi)) o ≡ Some pair →
    All (λ (h : Hint Ref). h.depth ≤ 4) pair.hints
hints_from p None cat semi pair keeps is e = absurd (cc)
hints_from p (Some c) cat semi pair keeps is e = hints_at c (slice_get c.semis semi) semi pair
    (few_of_kept p.cats c (found_in_all (KeepsCat p.cats) p.cats cat c is keeps.cats)) refl e

pub kept_hints : (p : Program) (cat semi : ℕ) (pair : Pair) → Keeps p → pair_at p cat semi ≡ Some pair →
    All (λ (h : Hint Ref). h.depth ≤ 4) pair.hints
kept_hints p cat semi pair keeps e = hints_from p (slice_get p.cats cat) cat semi pair keeps refl e
