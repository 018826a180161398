-- How many rows and cases there are.
use Rattle.std.proofs.Common.{◌≡◌, ℕ, ◌+◌, ◌*◌, ◌≤◌, ◌↔◌, arith, Bool, true, false, ◌||◌, List, [], ◌∷◌}
use Rattle.std.proofs.Common.{◌++◌, length, take, map, None, sym, ap, ◌∙◌, subst}
use Rattle.std.specs.List.{flat_map, range_with_len}
use Rattle.std.proofs.Math.Nat.{mul_assoc, suc-mul}
use Rattle.std.proofs.lemmas.List.{length-append, length-map, map-append}
use Rattle.seuss_program.specs.declared.tree.Kind.{Kind}
use Rattle.seuss_program.specs.declared.tree.Kind.TheVariants as K
use Rattle.seuss_program.specs.declared.tree.Ref.{Ref}
use Rattle.seuss_program.specs.declared.tree.Var.{Var}
use Rattle.seuss_program.specs.declared.tree.Param.{Param}
use Rattle.seuss_program.specs.declared.tree.Proc.{Proc}
use Rattle.seuss_program.specs.declared.tree.Hint.{Hint}
use Rattle.shape_terms.specs.declared.symbol.Symbol.{Symbol}
use Rattle.shape_terms.specs.declared.case.Case.{Case}
use Rattle.shape_terms.specs.Texts.{in_form}
use Rattle.shape_terms.specs.Cases.{exact_choice, long_choice, sequence_choices, depth_of, var_choices}
use Rattle.shape_terms.specs.Cases.{vars_choices, param_choices, rows_before, rows_after, rows_of}
use Rattle.shape_terms.specs.Cases.{first_above, cases_with, cases_from, cases_between, Pair}
use Rattle.shape_terms.specs.Cases.{choices_of_vars, choices_of_first, choices_of_second, cases_of}
use Rattle.shape_terms.specs.Counts.{product, counts_of}
use Rattle.shape_terms.proofs.CountLemmas.{NoneZero, product_append, first_within, none_exactly}

-- as many lists of one length, one behind the other
length_flat : {X Y : Type 0} (f : X → List Y) (n : ℕ) → ((x : X) → length (f x) ≡ n) → (xs : List X) →
    length (flat_map f xs) ≡ length xs * n
length_flat f n h [] = omega arith
length_flat f n h (x ∷ xs) =
    length-append (f x) (flat_map f xs) ∙ one_more _ _ _ (h x) (length_flat f n h xs)
    ∙ sym (suc-mul (length xs) n)
  where
    one_more : (a b c : ℕ) → a ≡ n → b ≡ c → a + b ≡ c + n
    one_more a b c e f = omega (arith, e, f)

-- as many rows as the product of how many symbols each place has
length_after : (choices rows : List (List Symbol)) →
    length (rows_after rows choices) ≡ length rows * product (map length choices)
length_after [] rows = omega arith
length_after (symbols ∷ more) rows =
    length_after more (rows_before rows symbols)
    ∙ ap (λ n. n * product (map length more)) (length_flat
    (λ (row : List Symbol). map (λ (s : Symbol). row ++ s ∷ []) symbols) (length symbols)
    (λ row. length-map symbols (λ (s : Symbol). row ++ s ∷ [])) rows)
    ∙ mul_assoc (length rows) (length symbols) (product (map length more))

length_rows : (choices : List (List Symbol)) → length (rows_of choices) ≡ product (map length choices)
length_rows choices = length_after choices ([] ∷ []) ∙ once (product (map length choices))
  where
    once : (n : ℕ) → 1 * n ≡ n
    once n = omega arith

-- as many cases as rows of variables times rows of both methods' parameters
length_between : (rows firsts seconds : List (List Symbol)) →
    length (cases_between rows firsts seconds) ≡ length rows * (length firsts * length seconds)
length_between rows firsts seconds =
    length_flat (λ (vars : List Symbol). cases_from vars firsts seconds) (length firsts * length seconds)
    (λ vars. length_flat (λ (first : List Symbol). cases_with vars first seconds) (length seconds)
    (λ first. length-map seconds (λ (second : List Symbol). made vars first second)) firsts) rows
  where
    made : List Symbol → List Symbol → List Symbol → Case
    made vars first second = record { vars = vars; first = first; second = second }

-- the counts of three lists of places, and their product
counts_of_three : (vs fs ss : List (List Symbol)) →
    map length (vs ++ fs ++ ss) ≡ map length vs ++ map length fs ++ map length ss
counts_of_three vs fs ss =
    map-append length (vs ++ fs) ss ∙ ap (λ ns. ns ++ map length ss) (map-append length vs fs)

product_of_three : (vs fs ss : List (List Symbol)) → product (map length (vs ++ fs ++ ss))
    ≡ product (map length vs) * (product (map length fs) * product (map length ss))
product_of_three vs fs ss = ap product (counts_of_three vs fs ss)
    ∙ product_append (map length vs ++ map length fs) (map length ss)
    ∙ ap (λ n. n * product (map length ss)) (product_append (map length vs) (map length fs))
    ∙ mul_assoc (product (map length vs)) (product (map length fs)) (product (map length ss))

-- as many cases as the product of how many each place has
length_of_all : (vs fs ss : List (List Symbol)) →
    length (cases_between (rows_of vs) (rows_of fs) (rows_of ss)) ≡ product (map length (vs ++ fs ++ ss))
length_of_all vs fs ss = length_between (rows_of vs) (rows_of fs) (rows_of ss)
    ∙ ap (λ n. n * (length (rows_of fs) * length (rows_of ss))) (length_rows vs)
    ∙ ap (λ n. product (map length vs) * (n * length (rows_of ss))) (length_rows fs)
    ∙ ap (λ n. product (map length vs) * (product (map length fs) * n)) (length_rows ss)
    ∙ sym (product_of_three vs fs ss)

-- each place has a case
some_of_sequence : (place front back : ℕ) → 1 ≤ length (sequence_choices place front back)
some_of_sequence place front back = omega (
  arith,
  length-append
      (map (exact_choice place) (range_with_len 0 (front + back))) (long_choice place front back ∷ []),
)

some_choice : (kind : Kind) (place : ℕ) (in_text : Bool) (front back : ℕ) →
    1 ≤ length (var_choices kind place in_text front back)
some_choice K.Int place in_text front back = omega arith
some_choice K.Bool place true front back = omega arith
some_choice K.Bool place false front back = omega arith
some_choice K.Seq place true front back = some_of_sequence place front back
some_choice K.Seq place false front back = some_of_sequence place 0 0

some_of_vars : (place : ℕ) (m n : Proc Ref) (hints : List (Hint Ref)) (vars : List Var) →
    NoneZero (map length (vars_choices place m n hints vars))
some_of_vars place m n hints [] = tt
some_of_vars place m n hints (v ∷ vs) = (
  some_choice v.kind place (in_form place m.form || in_form place n.form) (depth_of true place hints)
      (depth_of false place hints),
  some_of_vars (place + 1) m n hints vs,
)

some_of_params : (place : ℕ) (params : List Param) → NoneZero (map length (param_choices place params))
some_of_params place [] = tt
some_of_params place (x ∷ xs) = (some_choice x.kind place true 0 0, some_of_params (place + 1) xs)

none_zero_append : (ms ns : List ℕ) → NoneZero ms → NoneZero ns → NoneZero (ms ++ ns)
none_zero_append [] ns h k = k
none_zero_append (m ∷ ms) ns h k = (h.0, none_zero_append ms ns h.1 k)

-- each place of a certificate has a case
pub some_of_each : (pair : Pair) → NoneZero (counts_of pair)
some_of_each pair = subst NoneZero
    (sym (counts_of_three (choices_of_vars pair) (choices_of_first pair) (choices_of_second pair)))
    (none_zero_append (map length (choices_of_vars pair) ++ map length (choices_of_first pair))
    (map length (choices_of_second pair))
    (none_zero_append (map length (choices_of_vars pair)) (map length (choices_of_first pair))
    (some_of_vars 0 pair.first pair.second pair.hints pair.cat.vars)
    (some_of_params (length pair.cat.vars) pair.first.params))
    (some_of_params (length pair.cat.vars + length pair.first.params) pair.second.params))

-- a certificate has as many cases as the product of how many each place has
pub length_of_cases : (pair : Pair) → length (cases_of pair) ≡ product (counts_of pair)
length_of_cases pair =
    length_of_all (choices_of_vars pair) (choices_of_first pair) (choices_of_second pair)

-- a certificate has too many cases exactly where the first products of counts tell it
pub few_exactly : (pair : Pair) → (first_above 1 (counts_of pair) ≡ None) ↔ (length (cases_of pair) ≤ 4096)
few_exactly pair = subst (λ n. (first_above 1 (counts_of pair) ≡ None) ↔ (n ≤ 4096))
    (sym (length_of_cases pair)) (none_exactly (counts_of pair) (some_of_each pair))

-- the number of cases is at least each product of first counts
pub at_least : (pair : Pair) (many : ℕ) → product (take many (counts_of pair)) ≤ length (cases_of pair)
at_least pair many = subst (λ n. product (take many (counts_of pair)) ≤ n) (sym (length_of_cases pair))
    (first_within (counts_of pair) many (some_of_each pair))
