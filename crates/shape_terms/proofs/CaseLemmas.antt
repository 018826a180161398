-- Lists that loops make, one item more at a time.
use Rattle.std.proofs.Common.{Bool, true, false, ◌||◌, Some, subst, ◌≡◌, ℕ, ◌+◌, ◌-◌, ◌<◌, ◌≤◌, arith, List}
use Rattle.std.proofs.Common.{[], ◌∷◌, ◌++◌, length, get_or, take, map, sym, ap, ◌∙◌}
use Rattle.std.specs.List.{flat_map, range_with_len}
use Rattle.std.specs.Prelude.{All, ◌&&◌, if◌then◌else◌, slice_get}
use Rattle.std.proofs.lemmas.List.{take_more, flat_map_more, length-append, length-map}
use Rattle.std.proofs.lemmas.List.Elements.{All-nil, All-cons, All-head, All-tail, All-map, All-append}
use Rattle.std.proofs.lemmas.List.Elements.{All-weaker, All-get_or}
use Rattle.std.proofs.lemmas.Option.{get_or_from_slice_get, slice_get_within}
use Rattle.std.proofs.lemmas.List.FromFn.{map-range_with_len_more, length-range_with_len}
use Rattle.shape_terms.specs.declared.symbol.Symbol.{Symbol}
use Rattle.shape_terms.specs.Numbers.{atom}
use Rattle.shape_terms.specs.Cases.{atoms_from, exact_choice, long_choice, sequence_choices, depth_of}
use Rattle.shape_terms.specs.Cases.{same_side, var_choices, vars_choices, param_choices, HasFew}
use Rattle.shape_terms.specs.Texts.{is_variable, in_form}
use Rattle.seuss_program.specs.declared.tree.Kind.{Kind}
use Rattle.seuss_program.specs.declared.tree.Kind.TheVariants as K
use Rattle.seuss_program.specs.declared.tree.Ref.{Ref}
use Rattle.seuss_program.specs.declared.tree.Var.{Var}
use Rattle.seuss_program.specs.declared.tree.Param.{Param}
use Rattle.seuss_program.specs.declared.tree.Proc.{Proc}
use Rattle.seuss_program.specs.declared.tree.Hint.{Hint}
use Rattle.seuss_program.specs.declared.tree.Semi.{Semi}
use Rattle.seuss_program.specs.declared.tree.Cat.{Cat}
use Rattle.seuss_program.specs.Attempts.{entry_slots}
use Rattle.seuss_program.specs.Keeping.{KeepsCat, KeepsProcedure, KeepsSemi, KeepsHint, param_kinds, kind_of}

-- a list with one more item of a longer list
pub one_more : {X : Type 0} (old new before after : List X) (x y : X) → new ≡ old ++ x ∷ [] → x ≡ y →
    old ≡ before →
    after ≡ before ++ y ∷ [] → new ≡ after
one_more old new before after x y e f g h =
    e ∙ ap (λ l. l ++ x ∷ []) g ∙ ap (λ z. before ++ z ∷ []) f ∙ sym h

pub atoms_grown : (first at : ℕ) → first ≤ at →
    atoms_from first (at + 1 - first) ≡ atoms_from first (at - first) ++ atom at ∷ []
atoms_grown first at h =
    ap (atoms_from first) (counted first at h)
    ∙ map-range_with_len_more atom first (at - first) at (omega arith)
  where
    counted : (first at : ℕ) → first ≤ at → at + 1 - first ≡ (at - first) + 1
    counted first at h = omega arith

pub exact_grown : (place n : ℕ) →
    map (exact_choice place) (range_with_len 0 (n + 1))
    ≡ map (exact_choice place) (range_with_len 0 n) ++ exact_choice place n ∷ []
exact_grown place n = map-range_with_len_more (exact_choice place) 0 n n (omega arith)

-- what the items of a list are mapped to, end to end, with one more item
pub flat_grown : {X Y : Type 0} (f : X → List Y) (xs : List X) (at : ℕ) (x : X) (old new : List Y) →
    at < length xs → x ≡ get_or xs at x →
    old ≡ flat_map f (take at xs) → new ≡ old ++ f x → new ≡ flat_map f (take (at + 1) xs)
flat_grown f xs at x old new h is before pushed =
    pushed ∙ ap (λ l. l ++ f x) before ∙ flat_map_more f [] (take at xs) x
    ∙ ap (λ y. flat_map f (take at xs ++ y ∷ [])) is ∙ ap (flat_map f) (sym (take_more xs at x h))

few_lengths : (place front back : ℕ) → front ≤ 4 → back ≤ 4 → length (sequence_choices place front back) ≤ 9
few_lengths place front back h k = omega (
  arith,
  length-append (map (exact_choice place) (range_with_len 0 (front + back)))
      (long_choice place front back ∷ []),
  length-map (range_with_len 0 (front + back)) (exact_choice place),
  length-range_with_len 0 (front + back),
)

-- at most nine cases of each place
pub few_choices : (kind : Kind) (place : ℕ) (in_text : Bool) (front back : ℕ) → front ≤ 4 → back ≤ 4 →
    length (var_choices kind place in_text front back) ≤ 9
few_choices K.Int place in_text front back h k = omega arith
few_choices K.Bool place true front back h k = omega arith
few_choices K.Bool place false front back h k = omega arith
few_choices K.Seq place true front back h k = few_lengths place front back h k
few_choices K.Seq place false front back h k = few_lengths place 0 0 (omega arith) (omega arith)

few_either : (b : Bool) (m n : ℕ) → m ≤ 4 → n ≤ 4 → (if b then m else n) ≤ 4
few_either true m n h k = h
few_either false m n h k = k

pub few_depth : (side : Bool) (v : ℕ) (hints : List (Hint Ref)) → All (λ (h : Hint Ref). h.depth ≤ 4) hints →
    depth_of side v hints ≤ 4
few_depth side v [] few = omega arith
few_depth side v (h ∷ hs) few =
    few_either (is_variable v h.name && same_side side h.front) h.depth (depth_of side v hs)
    (All-head (λ (h : Hint Ref). h.depth ≤ 4) h hs few)
    (few_depth side v hs (All-tail (λ (h : Hint Ref). h.depth ≤ 4) h hs few))

abbrev pub IsFew : List Symbol → Type 0
IsFew symbols = length symbols ≤ 9

pub few_of_vars : (place : ℕ) (m n : Proc Ref) (hints : List (Hint Ref)) (vars : List Var) →
    All (λ (h : Hint Ref). h.depth ≤ 4) hints →
    All IsFew (vars_choices place m n hints vars)
few_of_vars place m n hints [] few = All-nil IsFew
few_of_vars place m n hints (v ∷ vs) few = All-cons IsFew _ (vars_choices (place + 1) m n hints vs)
    (few_choices v.kind place (in_form place m.form || in_form place n.form) (depth_of true place hints)
    (depth_of false place hints)
    (few_depth true place hints few) (few_depth false place hints few))
    (few_of_vars (place + 1) m n hints vs few)

pub few_of_params : (place : ℕ) (params : List Param) → All IsFew (param_choices place params)
few_of_params place [] = All-nil IsFew
few_of_params place (x ∷ xs) =
    All-cons IsFew _ (param_choices (place + 1) xs)
    (few_choices x.kind place true 0 0 (omega arith) (omega arith))
    (few_of_params (place + 1) xs)

-- the counts of all places are small
pub few_counts : (vars firsts seconds : List (List Symbol)) → All IsFew vars → All IsFew firsts →
    All IsFew seconds →
    All (λ count. count ≤ 9) (map (λ (symbols : List Symbol). length symbols) (vars ++ firsts ++ seconds))
few_counts vars firsts seconds a b c =
    All-map (λ count. count ≤ 9) (λ (symbols : List Symbol). length symbols) (vars ++ firsts ++ seconds)
    (All-append IsFew (vars ++ firsts) seconds (All-append IsFew vars firsts a b) c)

-- what a cat that is kept has
pub few_of_kept : (cats : List (Cat Ref)) (c : Cat Ref) → KeepsCat cats c → HasFew c
few_of_kept cats c kept = record {
  vars = kept.few_vars;
  params =
      All-weaker (KeepsProcedure cats c) (λ (q : Proc Ref). length q.params ≤ 32)
      (λ q k. few_params q k) c.procs kept.procs;
  depths = All-weaker (KeepsSemi c) (λ (s : Semi Ref). All (λ (h : Hint Ref). h.depth ≤ 4) s.hints)
      (λ s k. All-weaker (KeepsHint c) (λ (h : Hint Ref). h.depth ≤ 4) (λ h l. l.depth) s.hints k.hints)
      c.semis kept.semis;
}
  where
    few_params : (q : Proc Ref) → KeepsProcedure cats c q → length q.params ≤ 32
    few_params q k =
        omega (
          arith,
          k.slots,
          length-append (param_kinds q.params) (map kind_of (entry_slots q [])),
          length-map q.params (λ (x : Param). x.kind),
        )

-- what holds of all holds of the one that is found
pub found_in_all : {X : Type 0} (P : X → Type 0) (xs : List X) (n : ℕ) (x : X) → slice_get xs n ≡ Some x →
    All P xs → P x
found_in_all P xs n x e all =
    subst P (get_or_from_slice_get xs n x x e) (All-get_or P xs n x (slice_get_within xs n x e) all)
