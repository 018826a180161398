-- By which words phrases begin, and by which words phrases with what follows them begin.
use Rattle.std.proofs.Common.{◌≡◌, ℕ, Bool, true, false, cond, List, [], ◌∷◌, ◌++◌, refl, sym, ap, ◌∙◌}
use Rattle.std.proofs.Common.{subst}
use Rattle.std.proofs.Common.{inl, inr, Option, Some, None, ◌==◌}
use Rattle.std.specs.Prelude.{is_some}
use Rattle.seuss_parser.specs.Phrases.{Piece, words_in, Phrase, OneWord, OneMark, Then, Only, Either}
use Rattle.seuss_parser.specs.Phrases.{Optional}
use Rattle.seuss_parser.specs.Phrases.{Many, Whole}
use Rattle.seuss_parser.specs.Words.{is_symbol, as_symbol, as_name, as_numeral, as_one_of, name_of}
use Rattle.seuss_parser.specs.Words.{numeral_of}
use Rattle.seuss_parser.specs.Words.{meaning_of, marked_as}
use Rattle.seuss_parser.specs.declared.word.Marked.{Marked}
use Rattle.seuss_parser.specs.declared.word.Numeral.{Numeral}
use Rattle.seuss_parser.specs.declared.symbol.Symbol.{Symbol}
use Rattle.seuss_parser.specs.declared.word.Word.{Word}
use Rattle.seuss_parser.specs.declared.word.Sort.{Sort}
use Rattle.seuss_parser.specs.declared.word.Sort.TheVariants.{Fixed, Name as Named, Number}
use Rattle.seuss_program.specs.declared.tree.Name.{Name}
use Rattle.seuss_parser.proofs.Sets.{Sorts, Follows, has, others, Part, part-has, part-follows}
use Rattle.seuss_parser.proofs.Sets.{the_symbol, the_names, the_numbers, joined, or_also}
use Rattle.seuss_parser.proofs.ListLemmas.{words_in-append_then}
use Rattle.seuss_parser.proofs.Tells.{StartsIn, Firsts, Leads}

-- what is read as a value is of a set of words
pub record ReadsIn {A : Type 0} (reads : Word → Option A) (set : Sorts) : Type 0 where
  pub at : (word : Word) (value : A) → reads word ≡ Some value → has set word.sort ≡ true

pub symbol-in : (symbol : Symbol) → ReadsIn (as_symbol symbol) (the_symbol symbol)
symbol-in symbol = record {
  at = λ word line read. by_test word.line word.sort line
      (is_symbol symbol word.sort) refl read;
}
  where
    by_sort : (sort : Sort) → is_symbol symbol sort ≡ true → has (the_symbol symbol) sort ≡ true
    by_sort (Fixed found) is = is
    by_sort (Named text) is = is
    by_sort (Number value) is = is

    by_test : (line : ℕ) (sort : Sort) (found : ℕ) (b : Bool) → is_symbol symbol sort ≡ b →
        cond b (Some line) None ≡ Some found → has (the_symbol symbol) sort ≡ true
    by_test line sort found true is read = by_sort sort is
    by_test line sort found false is read = absurd (cc)

pub name-in : ReadsIn as_name the_names
name-in = record { at = λ word name read. by_sort word.line word.sort name read }
  where
    by_sort : (line : ℕ) (sort : Sort) (name : Name) → name_of line sort ≡ Some name →
        has the_names sort ≡ true
    by_sort line (Fixed found) name read = absurd (cc)
    by_sort line (Named text) name read = refl
    by_sort line (Number value) name read = absurd (cc)

pub numeral-in : ReadsIn as_numeral the_numbers
numeral-in = record { at = λ word numeral read. by_sort word.line word.sort numeral read }
  where
    by_sort : (line : ℕ) (sort : Sort) (numeral : Numeral) → numeral_of line sort ≡ Some numeral →
        has the_numbers sort ≡ true
    by_sort line (Fixed found) numeral read = absurd (cc)
    by_sort line (Named text) numeral read = absurd (cc)
    by_sort line (Number value) numeral read = refl

-- the symbols of a table
abbrev pub the_table : {A : Type 0} → (Symbol → Option A) → Sorts
the_table table = record { symbols = λ s. is_some (table s); names = false; numbers = false }

pub table-in : {A : Type 0} (table : Symbol → Option A) → ReadsIn (as_one_of table) (the_table table)
table-in {A} table = record { at = λ word value read. by_sort word.line word.sort value read }
  where
    by_found : (line : ℕ) (o : Option A) (value : Marked A) → marked_as line o ≡ Some value →
        is_some o ≡ true
    by_found line None value read = absurd (cc)
    by_found line (Some a) value read = refl

    by_sort : (line : ℕ) (sort : Sort) (value : Marked A) → meaning_of table line sort ≡ Some value →
        has (the_table table) sort ≡ true
    by_sort line (Fixed found) value read = by_found line (table found) value read
    by_sort line (Named text) value read = absurd (cc)
    by_sort line (Number n) value read = absurd (cc)

pub firsts-word : {A : Type 0} {reads : Word → Option A} {set : Sorts} → ReadsIn reads set →
    (passes : Bool) →
    Firsts (OneWord reads passes) set
firsts-word {A} {reads} {set} is_in passes = record {
  at = λ value room pieces left one. record {
    first = record { word = one.word; passes = passes };
    others = [];
    pieces_are = one.spelled;
    is_in = is_in.at one.word value one.read;
  };
}

pub firsts-mark : {A : Type 0} {reads : Word → Option A} {set : Sorts} → ReadsIn reads set →
    Firsts (OneMark reads) set
firsts-mark {A} {reads} {set} is_in = record {
  at = λ value room pieces left one. record {
    first = record { word = one.word; passes = room == 0 };
    others = [];
    pieces_are = one.spelled;
    is_in = is_in.at one.word value one.read;
  };
}

pub firsts-then : {A B : Type 0} {P : Phrase A} {Q : A → Phrase B} {set : Sorts} → Firsts P set →
    Firsts (λ v r ps l. Then P Q v r ps l) set
firsts-then {A} {B} {P} {Q} {set} first = record {
  at = λ value room pieces left both.
      let start = first.at both.first room both.front both.between both.begins in record {
        first = start.first;
        others = start.others ++ both.back;
        pieces_are = both.spelled ∙ ap (λ ps. ps ++ both.back) start.pieces_are;
        is_in = start.is_in;
      };
}

pub starts-wider : {set wide : Sorts} {pieces : List Piece} → Part set wide → StartsIn set pieces →
    StartsIn wide pieces
starts-wider {set} {wide} {pieces} part start = record {
  first = start.first;
  others = start.others;
  pieces_are = start.pieces_are;
  is_in = part-has set wide part start.first.word.sort start.is_in;
}

pub firsts-wider : {A : Type 0} {P : Phrase A} {set wide : Sorts} → Part set wide → Firsts P set →
    Firsts P wide
firsts-wider {A} {P} {set} {wide} part firsts =
    record {
      at = λ value room pieces left phrase. starts-wider part
          (firsts.at value room pieces left phrase);
    }

left-joined : (a b : Sorts) (sort : Sort) → has a sort ≡ true → has (joined a b) sort ≡ true
left-joined a b (Fixed s) is = rw is refl
left-joined a b (Named text) is = rw is refl
left-joined a b (Number value) is = rw is refl

or-right : (a b : Bool) → b ≡ true → or_also a b ≡ true
or-right true b is = refl
or-right false b is = is

right-joined : (a b : Sorts) (sort : Sort) → has b sort ≡ true → has (joined a b) sort ≡ true
right-joined a b (Fixed s) is = or-right (a.symbols s) (b.symbols s) is
right-joined a b (Named text) is = or-right a.names b.names is
right-joined a b (Number value) is = or-right a.numbers b.numbers is

starts-left : (a b : Sorts) (pieces : List Piece) → StartsIn a pieces → StartsIn (joined a b) pieces
starts-left a b pieces start = record {
  first = start.first;
  others = start.others;
  pieces_are = start.pieces_are;
  is_in = left-joined a b start.first.word.sort start.is_in;
}

starts-right : (a b : Sorts) (pieces : List Piece) → StartsIn b pieces → StartsIn (joined a b) pieces
starts-right a b pieces start = record {
  first = start.first;
  others = start.others;
  pieces_are = start.pieces_are;
  is_in = right-joined a b start.first.word.sort start.is_in;
}

pub firsts-either : {A : Type 0} {P Q : Phrase A} {a b : Sorts} → Firsts P a → Firsts Q b →
    Firsts (Either P Q) (joined a b)
firsts-either {A} {P} {Q} {a} {b} one other = record { at = at }
  where
    at : (value : A) (room : ℕ) (pieces : List Piece) (left : ℕ) → Either P Q value room pieces left →
        StartsIn (joined a b) pieces
    at value room pieces left (inl phrase) = starts-left a b pieces (one.at value room pieces left phrase)
    at value room pieces left (inr phrase) = starts-right a b pieces (other.at value room pieces left phrase)

-- behind any number of phrases there is another one
pub firsts-many_then : {A B : Type 0} {P : Phrase A} {Q : List A → Phrase B} {a b : Sorts} → Firsts P a →
    ((xs : List A) → Firsts (Q xs) b) → Firsts (λ v r ps l. Then (Many P) Q v r ps l) (joined a b)
firsts-many_then {A} {B} {P} {Q} {a} {b} one last = record {
  at = λ value room pieces left both.
      from both.first value room both.between both.front both.back pieces left both.spelled both.begins
      both.goes_on;
}
  where
    from : (xs : List A) (value : B) (room between : ℕ) (front back pieces : List Piece) (left : ℕ) →
        pieces ≡ front ++ back → Many P xs room front between → Q xs value between back left →
        StartsIn (joined a b) pieces
    from [] value room between front back pieces left spelled (none, stays) phrase =
        let start = starts-right a b back ((last []).at value between back left phrase) in record {
          first = start.first;
          others = start.others;
          pieces_are = spelled ∙ ap (λ ps. ps ++ back) none ∙ start.pieces_are;
          is_in = start.is_in;
        }
    from (x ∷ xs) value room between front back pieces left spelled
        (head, middle, tail, front_is, first, others) phrase =
        let start = starts-left a b head (one.at x room head middle first) in record {
          first = start.first;
          others = (start.others ++ tail) ++ back;
          pieces_are = spelled ∙ ap (λ ps. ps ++ back) (front_is ∙ ap (λ ps. ps ++ tail) start.pieces_are);
          is_in = start.is_in;
        }

pub firsts-optional_then : {A B : Type 0} {P : Phrase A} {Q : Option A → Phrase B} {a b : Sorts} →
    Firsts P a →
    ((x : Option A) → Firsts (Q x) b) → Firsts (λ v r ps l. Then (Optional P) Q v r ps l) (joined a b)
firsts-optional_then {A} {B} {P} {Q} {a} {b} one last = record {
  at = λ value room pieces left both.
      from both.first value room both.between both.front both.back pieces left both.spelled both.begins
      both.goes_on;
}
  where
    from : (x : Option A) (value : B) (room between : ℕ) (front back pieces : List Piece) (left : ℕ) →
        pieces ≡ front ++ back → Optional P x room front between → Q x value between back left →
        StartsIn (joined a b) pieces
    from None value room between front back pieces left spelled (none, stays) phrase =
        let start = starts-right a b back ((last None).at value between back left phrase) in record {
          first = start.first;
          others = start.others;
          pieces_are = spelled ∙ ap (λ ps. ps ++ back) none ∙ start.pieces_are;
          is_in = start.is_in;
        }
    from (Some x) value room between front back pieces left spelled first phrase =
        let start = starts-left a b front (one.at x room front between first) in record {
          first = start.first;
          others = start.others ++ back;
          pieces_are = spelled ∙ ap (λ ps. ps ++ back) start.pieces_are;
          is_in = start.is_in;
        }

pub firsts-whole : {A : Type 0} {P : Phrase A} {set : Sorts} → (marks : ℕ) → Firsts P set →
    Firsts (λ v r ps l. Whole marks P v r ps l) set
firsts-whole {A} {P} {set} marks firsts =
    record { at = λ value room pieces left all. firsts.at value marks pieces all.unused all.spelled }

-- a phrase that has a word, whatever follows it
pub leads-firsts : {A : Type 0} {Q : Phrase A} {set may : Sorts} (behind : Sorts) → Firsts Q set →
    Part set may → Leads Q behind may
leads-firsts {A} {Q} {set} {may} behind firsts part = record {
  at = λ value room pieces left after phrase follows.
      let start = starts-wider part (firsts.at value room pieces left phrase) in
      subst (λ ps. Follows may (words_in ps ++ after)) (sym start.pieces_are) start.is_in;
}

-- a phrase of no words
pub leads-only : {A : Type 0} {this : A} {behind may : Sorts} → Part behind may →
    Leads (Only this) behind may
leads-only {A} {this} {behind} {may} part = record {
  at = λ value room pieces left after only follows.
      subst (λ ps. Follows may (words_in ps ++ after)) (sym only.spelled)
      (part-follows behind may part after follows);
}

pub leads-then : {A B : Type 0} {P : Phrase A} {Q : A → Phrase B} {behind middle may : Sorts} →
    Leads P middle may → ((x : A) → Leads (Q x) behind middle) →
    Leads (λ v r ps l. Then P Q v r ps l) behind may
leads-then {A} {B} {P} {Q} {behind} {middle} {may} first next = record {
  at = λ value room pieces left after both follows.
      let later = (next both.first).at value both.between both.back left after both.goes_on follows in
      let all = first.at both.first room both.front both.between (words_in both.back ++ after) both.begins
      later in
      subst (λ (ws : List Word). Follows may ws)
      (sym (ap (λ ps. words_in ps ++ after) both.spelled ∙ words_in-append_then both.front both.back after))
      all;
}

pub leads-many : {A : Type 0} {P : Phrase A} {set behind may : Sorts} → Firsts P set → Part set may →
    Part behind may → Leads (Many P) behind may
leads-many {A} {P} {set} {behind} {may} firsts part part-behind = record { at = at }
  where
    at : (xs : List A) (room : ℕ) (pieces : List Piece) (left : ℕ) (after : List Word) →
        Many P xs room pieces left → Follows behind after → Follows may (words_in pieces ++ after)
    at [] room pieces left after (none, stays) follows =
        subst (λ ps. Follows may (words_in ps ++ after)) (sym none)
        (part-follows behind may part-behind after follows)
    at (x ∷ xs) room pieces left after (head, middle, tail, spelled, first, others) follows =
        let start = starts-wider part (firsts.at x room head middle first) in
        subst (λ ps. Follows may (words_in ps ++ after))
        (sym (spelled ∙ ap (λ ps. ps ++ tail) start.pieces_are)) start.is_in

pub leads-optional : {A : Type 0} {P : Phrase A} {set behind may : Sorts} → Firsts P set →
    Part set may → Part behind may → Leads (Optional P) behind may
leads-optional {A} {P} {set} {behind} {may} firsts part part-behind = record { at = at }
  where
    at : (x : Option A) (room : ℕ) (pieces : List Piece) (left : ℕ) (after : List Word) →
        Optional P x room pieces left → Follows behind after → Follows may (words_in pieces ++ after)
    at None room pieces left after (none, stays) follows =
        subst (λ ps. Follows may (words_in ps ++ after)) (sym none)
        (part-follows behind may part-behind after follows)
    at (Some x) room pieces left after phrase follows =
        let start = starts-wider part (firsts.at x room pieces left phrase) in
        subst (λ ps. Follows may (words_in ps ++ after)) (sym start.pieces_are) start.is_in
