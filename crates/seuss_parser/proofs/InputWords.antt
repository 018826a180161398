-- The words of a text are those of its lines.
use Rattle.std.proofs.Common.{◌≡◌, ℕ, ◌+◌, ◌<◌, Bool, true, false, not, eqb, List, [], ◌∷◌, ◌++◌, length}
use Rattle.std.proofs.Common.{get_or, take, drop, refl, sym, ap, ◌∙◌, subst, arith}
use Rattle.std.specs.List.{slice_split, onto_first, flat_map, filter}
use Rattle.std.proofs.lemmas.Bool.{eqb-true, ne_eqb, cond-true}
use Rattle.std.proofs.lemmas.List.{take-append-drop, drop_more}
use Rattle.std.proofs.lemmas.List.Elements.{filter-append}
use Rattle.std.proofs.lemmas.List.Splits.{slice_split-cons_yes, slice_split-cons_no, length-slice_split}
use Rattle.std.proofs.lemmas.List.Sums.{count_by-le-length}
use Rattle.seuss_text.specs.Bytes.{line_feed, is_white}
use Rattle.seuss_parser.specs.Inputs.{lines_of, words_of, filled}

-- there is always a first part
split_some : {X : Type 0} (p : X → Bool) (xs : List X) → 0 < length (slice_split p xs)
split_some p xs = omega (arith, length-slice_split p xs)

-- an item goes onto the first of some parts, whatever stands behind them
onto_front : {X : Type 0} (x : X) (parts others : List (List X)) → 0 < length parts →
    onto_first x (parts ++ others) ≡ onto_first x parts ++ others
onto_front x [] others some = absurd (omega arith)
onto_front x (part ∷ parts) others some = refl

-- an item at which the second test doesn't cut either
cut_no : {X : Type 0} (q : X → Bool) (x : X) (parts : List (List X)) → 0 < length parts → q x ≡ false →
    flat_map (slice_split q) (onto_first x parts) ≡ onto_first x (flat_map (slice_split q) parts)
cut_no q x [] some e = absurd (omega arith)
cut_no q x (part ∷ parts) some e =
    ap (λ ys. ys ++ flat_map (slice_split q) parts) (slice_split-cons_no q x part e) ∙
    sym (onto_front x (slice_split q part) (flat_map (slice_split q) parts) (split_some q part))

-- an item at which the second test cuts
cut_yes : {X : Type 0} (q : X → Bool) (x : X) (parts : List (List X)) → 0 < length parts → q x ≡ true →
    flat_map (slice_split q) (onto_first x parts) ≡ [] ∷ flat_map (slice_split q) parts
cut_yes q x [] some e = absurd (omega arith)
cut_yes q x (part ∷ parts) some e =
    ap (λ ys. ys ++ flat_map (slice_split q) parts) (slice_split-cons_yes q x part e)

-- Cutting by one test and then by a wider one is cutting by the wider one.
pub split_wider : {X : Type 0} (p q : X → Bool) → ((x : X) → p x ≡ true → q x ≡ true) → (xs : List X) →
    slice_split q xs ≡ flat_map (slice_split q) (slice_split p xs)
split_wider p q wider [] = refl
split_wider {X} p q wider (x ∷ xs) = go (p x) (q x) refl refl (split_wider p q wider xs)
  where
    parts : List (List X)
    parts = slice_split p xs

    go : (a b : Bool) → p x ≡ a → q x ≡ b → slice_split q xs ≡ flat_map (slice_split q) parts →
        slice_split q (x ∷ xs) ≡ flat_map (slice_split q) (slice_split p (x ∷ xs))
    go true b e f ih =
        slice_split-cons_yes q x xs (wider x e) ∙ ap (λ ys. [] ∷ ys) ih ∙
        ap (λ ys. flat_map (slice_split q) ys) (sym (slice_split-cons_yes p x xs e))
    go false true e f ih =
        slice_split-cons_yes q x xs f ∙ ap (λ ys. [] ∷ ys) ih ∙
        sym (cut_yes q x parts (split_some p xs) f) ∙
        ap (λ ys. flat_map (slice_split q) ys) (sym (slice_split-cons_no p x xs e))
    go false false e f ih =
        slice_split-cons_no q x xs f ∙ ap (λ ys. onto_first x ys) ih ∙
        sym (cut_no q x parts (split_some p xs) f) ∙
        ap (λ ys. flat_map (slice_split q) ys) (sym (slice_split-cons_no p x xs e))

-- what passes a test in all parts together is what passes it in each
filter_parts : {X Y : Type 0} (p : Y → Bool) (f : X → List Y) (xs : List X) →
    filter p (flat_map f xs) ≡ flat_map (λ x. filter p (f x)) xs
filter_parts p f [] = refl
filter_parts p f (x ∷ xs) =
    filter-append p (f x) (flat_map f xs) ∙ ap (λ ys. filter p (f x) ++ ys) (filter_parts p f xs)

-- a line feed is white
feed_white : (b : ℕ) → eqb b line_feed ≡ true → is_white b ≡ true
feed_white b e = subst (λ k. is_white k ≡ true) (sym (eqb-true b line_feed e)) refl

pub words_by_line : (text : List ℕ) → words_of text ≡ flat_map words_of (lines_of text)
words_by_line text =
    ap filled
    (split_wider (λ b. eqb b line_feed) is_white feed_white text) ∙
    filter_parts (λ word. not (eqb (length word) 0)) (slice_split is_white) (lines_of text)

-- a text has few lines
pub few_lines : (text : List ℕ) → length (lines_of text) < length text + 2
few_lines text =
    omega (
      arith,
      length-slice_split (λ b. eqb b line_feed) text,
      count_by-le-length (λ b. eqb b line_feed) text,
    )

-- an item at a place, among those before it and those behind it
pub item_there : {X : Type 0} (all front : List X) (n : ℕ) (x : X) → front ≡ take n all → n < length all →
    x ≡ get_or all n x → all ≡ front ++ x ∷ drop (n + 1) all
item_there all front n x e less here =
    sym (take-append-drop n all) ∙ ap (λ ys. ys ++ drop n all) (sym e) ∙
    ap (λ ys. front ++ ys) (drop_more all n x less ∙ ap (λ y. y ∷ drop (n + 1) all) (sym here))

-- a part that has a byte, among others
pub filled_there : (parts behind : List (List ℕ)) (part : List ℕ) → 0 < length part →
    filled (parts ++ part ∷ behind) ≡ filled parts ++ part ∷ filled behind
filled_there parts behind part some =
    filter-append (λ word. not (eqb (length word) 0)) parts (part ∷ behind) ∙
    ap (λ ys. filled parts ++ ys)
    (cond-true _ _ _ (ap not (ne_eqb (length part) 0 (λ none. omega arith))))

-- what is filled in some parts, and in some more
pub filled_more : (parts others : List (List ℕ)) → filled (parts ++ others) ≡ filled parts ++ filled others
filled_more parts others = filter-append (λ word. not (eqb (length word) 0)) parts others
