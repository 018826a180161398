-- What stands behind a name that is assigned: a call, or an expression, as the word behind the next name
-- tells.
use Rattle.std.proofs.Common.{◌≡◌, ℕ, zero, suc, ◌≤◌, ◌<◌, Bool, true, false, cond, List, [], ◌∷◌, ◌++◌}
use Rattle.std.proofs.Common.{refl, sym}
use Rattle.std.proofs.Common.{◌∙◌, ap, subst, Option, Some, None, arith, inl, inr, length}
use Rattle.std.proofs.lemmas.List.Elements.{All-nil, All-cons, All-head, All-tail}
use Rattle.std.specs.Prelude.{nat_eq}
use Rattle.seuss_parser.specs.Phrases.{Piece, words_in, AreKept, Phrase, Then, Only, Either}
use Rattle.seuss_parser.specs.Readings.{Read, Got, Refused, Unexpected, TooDeep, read_then, either, ends}
use Rattle.seuss_parser.specs.Readings.{got_word}
use Rattle.seuss_parser.specs.Words.{as_name, is_symbol, name_of}
use Rattle.seuss_parser.specs.Symbols.{symbol_number}
use Rattle.seuss_parser.specs.Grammar.{IsValueName, IsChain, IsPrimary}
use Rattle.seuss_parser.specs.Grammar.{IsUnary, IsProduct, IsSum, IsComparison, IsNegation, IsConjunction}
use Rattle.seuss_parser.specs.Grammar.{IsDisjunction, IsExpression, IsWholeExpression, IsCall, max_marks}
use Rattle.seuss_parser.specs.ExpressionReading.{read_whole_expression}
use Rattle.seuss_parser.specs.StatementReading.{read_call_of, read_call, read_bound_call, read_assigned}
use Rattle.seuss_parser.specs.Fronts.{begins_with, begins_call, is_name}
use Rattle.seuss_parser.specs.Trees.{expression}
use Rattle.seuss_parser.specs.declared.symbol.Symbol.{Symbol}
use Rattle.seuss_parser.specs.declared.symbol.Symbol.TheVariants as S
use Rattle.seuss_parser.specs.declared.word.Word.{Word}
use Rattle.seuss_parser.specs.declared.word.Sort.{Sort}
use Rattle.seuss_parser.specs.declared.word.Sort.TheVariants.{Fixed, Name as Named, Number}
use Rattle.seuss_program.specs.declared.tree.Name.{Name}
use Rattle.seuss_program.specs.declared.tree.Expr.{Expr}
use Rattle.seuss_program.specs.declared.tree.Node.TheVariants as N
use Rattle.seuss_program.specs.declared.tree.Op.{Op}
use Rattle.seuss_program.specs.declared.tree.Call.{Call}
use Rattle.seuss_program.specs.declared.tree.Statement.{Statement}
use Rattle.seuss_program.specs.declared.tree.Statement.TheVariants as T
use Rattle.seuss_parser.proofs.Sets.{Sorts, has, Follows, part-has, part-follows}
use Rattle.seuss_parser.proofs.Sets.{everything, others, the_symbol, the_names, or_also}
use Rattle.seuss_parser.proofs.ListLemmas.{append-nothing, append-cancel, alike-behind, length-rest}
use Rattle.seuss_parser.proofs.ListLemmas.{words_in-append_then}
use Rattle.seuss_parser.proofs.Tells.{Alike, Other, PassesAt, Tells}
use Rattle.seuss_parser.proofs.Tells.{Reads}
use Rattle.seuss_parser.proofs.ChoiceReads.{behind_of, Narrows, tells-as, has-others}
use Rattle.seuss_parser.proofs.ChoiceReads.{tested-alike, sample-either}
use Rattle.seuss_parser.proofs.FirstSets.{name-in, symbol-in}
use Rattle.seuss_parser.proofs.WordTests.{tests-symbol}
use Rattle.seuss_parser.proofs.CommonReads.{after, last, follows-anything}
use Rattle.seuss_parser.proofs.ExpressionReads.{behind_expression, may_follow, operator}
use Rattle.seuss_parser.proofs.CallReads.{own_brackets, reads-whole_expression, IsCallOf}
use Rattle.seuss_parser.proofs.CallReads.{reads-call_of, reads-call}

alike-self : (words : List Word) → Alike words words
alike-self [] = tt
alike-self (word ∷ words) = refl

-- kept pieces don't pass a limit
pub kept-passes : (pieces : List Piece) (taken : List Word) (word : Word) → AreKept pieces →
    PassesAt pieces taken word → ⊥
kept-passes pieces taken word kept past = from past.front past.back (subst AreKept past.pieces_are kept)
  where
    from : (front back : List Piece) → AreKept (front ++ record { word = word; passes = true } ∷ back) → ⊥
    from [] back all =
        let is : true ≡ false = All-head (λ (p : Piece). p.passes ≡ false)
        (record { word = word; passes = true }) back all in
        absurd (cc)
    from (piece ∷ front) back all =
        from front back (All-tail (λ (p : Piece). p.passes ≡ false) piece
        (front ++ record { word = word; passes = true } ∷ back) all)

-- what is read stops in the words, or at their end
pub read-shorter : {A : Type 0} (P Q : Phrase A) (may : Sorts) (room : ℕ) (words : List Word)
    (read : Read A) →
    Tells P Q may room words read → length (behind_of read) ≤ length words
read-shorter P Q may room words (Got value left rest) found =
    length-rest (words_in found.pieces) rest words found.words_are
read-shorter P Q may room words (Refused Unexpected rest) first =
    length-rest (words_in first.pieces) rest words first.words_are
read-shorter P Q may room words (Refused TooDeep rest) first =
    length-rest (words_in first.pieces) rest words first.words_are

-- a phrase with what may follow it, in these very words
pub record InWords {A : Type 0} (Q : Phrase A) (may : Sorts) (room : ℕ) (words : List Word) : Type 0 where
  pub value : A
  pub pieces : List Piece
  pub left : ℕ
  pub after : List Word
  pub spelled : Q value room pieces left
  pub fits : Follows may after
  pub words_are : words ≡ words_in pieces ++ after

-- phrases in the same words, one of them within the limits, are one
module _ {A : Type 0} (P Q : Phrase A) (may : Sorts) (room : ℕ) (words : List Word) where
  as-other : (taken rest : List Word) → words ≡ taken ++ rest → InWords Q may room words →
      Other Q may room taken rest
  as-other taken rest are one = record {
    value = one.value;
    pieces = one.pieces;
    left = one.left;
    after = one.after;
    behind = rest;
    spelled = one.spelled;
    fits = one.fits;
    words_are = sym one.words_are ∙ are;
    alike = alike-self rest;
  }

  pub same-pieces : (read : Read A) → Tells P Q may room words read →
      (one other : InWords Q may room words) →
      AreKept one.pieces → other.pieces ≡ one.pieces
  unfolding as-other
  same-pieces (Got value left rest) found one other kept =
      (found.only (as-other (words_in found.pieces) rest found.words_are other)).pieces_same
      ∙ sym (found.only (as-other (words_in found.pieces) rest found.words_are one)).pieces_same
  same-pieces (Refused Unexpected rest) first one other kept =
      absurd (first.dead (as-other (words_in first.pieces) rest first.words_are one))
  same-pieces (Refused TooDeep rest) first one other kept =
      absurd (kept-passes one.pieces (words_in first.pieces) first.word kept
      (first.passes (as-other (words_in first.pieces) rest first.words_are one)))

-- a name alone is an expression
chain-alone : (ops : Symbol → Option Op) (R : Phrase (Expr Name)) (value : Expr Name) (room : ℕ)
    (pieces : List Piece) (left : ℕ) → R value room pieces left → IsChain ops R value room pieces left
unfolding IsChain
chain-alone ops R value room pieces left part = record {
  first = value;
  front = pieces;
  between = left;
  back = [];
  spelled = sym (append-nothing pieces);
  begins = part;
  goes_on = record {
    first = [];
    front = [];
    between = left;
    back = [];
    spelled = refl;
    begins = (refl, refl);
    goes_on = record { is_this = refl; spelled = refl; room_stays = refl };
  };
}

name-alone : (R : Phrase (Expr Name)) (word : Word) (name : Name) (room : ℕ) → as_name word ≡ Some name →
    IsDisjunction R (expression name.line (N.Name name)) room (record { word = word; passes = false } ∷ [])
    room
unfolding IsDisjunction IsConjunction IsNegation IsComparison IsSum IsProduct IsUnary IsPrimary IsValueName
name-alone R word name room read =
    chain-alone _ _ value room pieces room (chain-alone _ _ value room pieces room (record {
      first = [];
      front = [];
      between = room;
      back = pieces;
      spelled = refl;
      begins = (refl, refl);
      goes_on = record {
        first = value;
        front = pieces;
        between = room;
        back = [];
        spelled = refl;
        begins = record {
          first = value;
          front = pieces;
          between = room;
          back = [];
          spelled = refl;
          begins = chain-alone _ _ value room pieces room (chain-alone _ _ value room pieces room (record {
            first = [];
            front = [];
            between = room;
            back = pieces;
            spelled = refl;
            begins = (refl, refl);
            goes_on = record {
              first = value;
              front = pieces;
              between = room;
              back = [];
              spelled = refl;
              begins = inr (inr (inl (record {
                first = name;
                front = pieces;
                between = room;
                back = [];
                spelled = refl;
                begins = record { word = word; spelled = refl; read = read; room_stays = refl };
                goes_on = record { is_this = refl; spelled = refl; room_stays = refl };
              })));
              goes_on = record { is_this = refl; spelled = refl; room_stays = refl };
            };
          }));
          goes_on = record {
            first = None;
            front = [];
            between = room;
            back = [];
            spelled = refl;
            begins = (refl, refl);
            goes_on = record { is_this = refl; spelled = refl; room_stays = refl };
          };
        };
        goes_on = record { is_this = refl; spelled = refl; room_stays = refl };
      };
    }))
  where
    pieces : List Piece
    pieces = record { word = word; passes = false } ∷ []

    value : Expr Name
    value = expression name.line (N.Name name)

abbrev one_piece : Word → List Piece
one_piece word = record { word = word; passes = false } ∷ []

one-kept : (word : Word) → AreKept (one_piece word)
one-kept word = All-cons (λ (p : Piece). p.passes ≡ false) (record { word = word; passes = false }) [] refl
    (All-nil (λ (p : Piece). p.passes ≡ false))

whole-alone : (any : ℕ) (word : Word) (name : Name) (room : ℕ) → as_name word ≡ Some name →
    IsWholeExpression (suc any) (expression name.line (N.Name name)) room (one_piece word) room
unfolding IsWholeExpression
whole-alone any word name room read = record {
  unused = max_marks;
  spelled = name-alone (IsExpression any) word name max_marks read;
  room_stays = refl;
}

-- NAME "." at the front
record CallFront (words : List Word) : Type 0 where
  name : Word
  dot : Word
  rest : List Word
  words_are : words ≡ name ∷ dot ∷ rest
  is_named : is_name name.sort ≡ true
  is_dot : has (the_symbol S.Dot) dot.sort ≡ true

call-front : (words : List Word) → begins_call words ≡ true → CallFront words
call-front [] test = absurd (cc)
call-front (word ∷ words) test = by_name (is_name word.sort) refl test
  where
    dot_sort : (sort : Sort) → is_symbol S.Dot sort ≡ true → has (the_symbol S.Dot) sort ≡ true
    dot_sort (Fixed found) is = is
    dot_sort (Named text) is = is
    dot_sort (Number value) is = is

    by_words : (others : List Word) → is_name word.sort ≡ true → begins_with S.Dot others ≡ true →
        CallFront (word ∷ others)
    by_words [] named is = absurd (cc)
    by_words (second ∷ others) named is = record {
      name = word;
      dot = second;
      rest = others;
      words_are = refl;
      is_named = named;
      is_dot = dot_sort second.sort is;
    }

    by_name : (b : Bool) → is_name word.sort ≡ b → cond b (begins_with S.Dot words) false ≡ true →
        CallFront (word ∷ words)
    by_name true named is = by_words words named is
    by_name false named is = absurd (cc)

-- a word that is a name
named-word : (word : Word) → is_name word.sort ≡ true → (name : Name) × (as_name word ≡ Some name)
named-word word is = by_sort word.line word.sort is
  where
    by_sort : (line : ℕ) (sort : Sort) → is_name sort ≡ true →
        (name : Name) × (name_of line sort ≡ Some name)
    by_sort line (Fixed found) is = absurd (cc)
    by_sort line (Named text) is = (record { text = text; line = line }, refl)
    by_sort line (Number value) is = absurd (cc)

-- what may follow a statement: no operator, and no dot
abbrev pub behind_statement : Sorts
behind_statement = may_follow (λ s. or_also (nat_eq (symbol_number s) (symbol_number S.Dot)) (operator s))

no_expression : (value : Expr Name) (room : ℕ) (pieces : List Piece) (left : ℕ) →
    IsWholeExpression 0 value room pieces left → ⊥
unfolding IsWholeExpression
no_expression value room pieces left phrase = phrase.spelled

-- an expression with what may follow it doesn't begin as a call
dotless : (any : ℕ) (value : Expr Name) (room : ℕ) (pieces : List Piece) (left : ℕ) (after : List Word) →
    IsWholeExpression any value room pieces left → Follows behind_statement after →
    begins_call (words_in pieces ++ after) ≡ false
dotless zero value room pieces left after phrase follows = absurd
    (no_expression value room pieces left phrase)
dotless (suc any) value room pieces left after phrase follows =
    by_test (begins_call (words_in pieces ++ after)) refl
  where
    dotted : CallFront (words_in pieces ++ after) → ⊥
    dotted front =
        let words = words_in pieces ++ after in
        let name = named-word front.name front.is_named in
        let dot_follows : has behind_expression front.dot.sort ≡ true =
        part-has (the_symbol S.Dot) behind_expression (record { shown = refl }) front.dot.sort front.is_dot
        in
        let alone : InWords (IsWholeExpression (suc any)) behind_expression room words = record {
          value = expression name.0.line (N.Name name.0);
          pieces = one_piece front.name;
          left = room;
          after = front.dot ∷ front.rest;
          spelled = whole-alone any front.name name.0 room name.1;
          fits = dot_follows;
          words_are = front.words_are;
        } in
        let given : InWords (IsWholeExpression (suc any)) behind_expression room words = record {
          value = value;
          pieces = pieces;
          left = left;
          after = after;
          spelled = phrase;
          fits = part-follows behind_statement behind_expression (record { shown = refl }) after follows;
          words_are = refl;
        } in
        let same : pieces ≡ one_piece front.name = same-pieces (IsWholeExpression own_brackets)
        (IsWholeExpression (suc any)) behind_expression room words (read_whole_expression room words)
        ((reads-whole_expression (suc any) (suc room)).tells room words (omega arith)) alone given
        (one-kept front.name) in
        let after_is : after ≡ front.dot ∷ front.rest = append-cancel (front.name ∷ []) after
        (front.dot ∷ front.rest) (ap (λ ps. words_in ps ++ after) (sym same) ∙ front.words_are) in
        let dotted_after : Follows behind_statement (front.dot ∷ front.rest) =
        subst (λ (ws : List Word). Follows behind_statement ws) after_is follows in
        let is_out : has (others behind_statement) front.dot.sort ≡ true =
        part-has (the_symbol S.Dot) (others behind_statement) (record { shown = refl }) front.dot.sort
        front.is_dot in
        let none : has behind_statement front.dot.sort ≡ false =
        has-others behind_statement front.dot.sort is_out in
        let both : true ≡ false = sym dotted_after ∙ none in
        absurd (cc)

    by_test : (b : Bool) → begins_call (words_in pieces ++ after) ≡ b →
        begins_call (words_in pieces ++ after) ≡ false
    by_test true test = absurd (dotted (call-front (words_in pieces ++ after) test))
    by_test false test = test

-- a call begins as one
call-begins : (any : ℕ) (value : Call Name) (room : ℕ) (pieces : List Piece) (left : ℕ) (after : List Word) →
    IsCall any value room pieces left → begins_call (words_in pieces ++ after) ≡ true
unfolding IsCall
call-begins any value room pieces left after call =
    let rest = call.goes_on in
    let name = call.begins in
    let dot = rest.begins in
    let named : has the_names name.word.sort ≡ true = name-in.at name.word call.first name.read in
    let dotted : has (the_symbol S.Dot) dot.word.sort ≡ true = (symbol-in S.Dot).at dot.word rest.first
    dot.read in
    let pieces_are : pieces ≡ record { word = name.word; passes = false } ∷
    record { word = dot.word; passes = false } ∷ rest.back =
    call.spelled ∙ ap (λ ps. ps ++ call.back) name.spelled
    ∙ ap (λ ps. record { word = name.word; passes = false } ∷ ps)
    (rest.spelled ∙ ap (λ ps. ps ++ rest.back) dot.spelled) in
    ap (λ ps. begins_call (words_in ps ++ after)) pieces_are
    ∙ ap (λ b. cond b (is_symbol S.Dot dot.word.sort) false) (name_sort name.word.sort named)
    ∙ dot_sort dot.word.sort dotted
  where
    name_sort : (sort : Sort) → has the_names sort ≡ true → is_name sort ≡ true
    name_sort (Fixed found) is = is
    name_sort (Named text) is = is
    name_sort (Number value) is = is

    dot_sort : (sort : Sort) → has (the_symbol S.Dot) sort ≡ true → is_symbol S.Dot sort ≡ true
    dot_sort (Fixed found) is = is
    dot_sort (Named text) is = is
    dot_sort (Number value) is = is

-- two words that are alike, and the first of which was taken, are tested alike
tested-ahead : (word : Word) (taken rest behind : List Word) → Alike rest behind →
    begins_call ((word ∷ taken) ++ rest) ≡ begins_call ((word ∷ taken) ++ behind)
tested-ahead word taken rest behind alike =
    ap (λ b. cond (is_name word.sort) b false)
    (tested-alike (begins_with S.Dot) (the_symbol S.Dot) (tests-symbol S.Dot) (taken ++ rest)
    (taken ++ behind)
    (alike-behind taken rest behind alike))

behind-last : {A B : Type 0} (change : A → B) (read : Read A) →
    behind_of (read_then read (λ x. ends (change x))) ≡ behind_of read
behind-last change (Got value left rest) = refl
behind-last change (Refused fault rest) = refl

-- reading a call takes its first name
call-takes : (room : ℕ) (word : Word) (words : List Word) → is_name word.sort ≡ true →
    length (behind_of (read_call room (word ∷ words))) ≤ length words
unfolding read_call
call-takes room word words named =
    let name = named-word word named in
    subst (λ o. length (behind_of (read_then (got_word false room word words o) read_call_of)) ≤ length
    words)
    (sym name.1)
    (read-shorter (IsCallOf own_brackets name.0) (IsCallOf 0 name.0) everything room words
    (read_call_of name.0 room words) ((reads-call_of 0 (suc room) name.0).tells room words (omega arith)))

-- the name alone, where nothing is taken
lone-name : (room : ℕ) (word : Word) (words rest : List Word) → is_name word.sort ≡ true →
    word ∷ words ≡ rest →
    Other (IsWholeExpression 1) behind_expression room [] rest
lone-name room word words rest named are =
    let name = named-word word named in record {
      value = expression name.0.line (N.Name name.0);
      pieces = one_piece word;
      left = room;
      after = [];
      behind = word ∷ [];
      spelled = whole-alone 0 word name.0 room name.1;
      fits = tt;
      words_are = refl;
      alike = subst (λ (ws : List Word). Alike ws (word ∷ [])) are refl;
    }

-- reading an expression that begins with a name takes it
expression-takes : (room : ℕ) (word : Word) (words : List Word) → is_name word.sort ≡ true →
    length (behind_of (read_whole_expression room (word ∷ words))) ≤ length words
unfolding lone-name
expression-takes room word words named = by_read (read_whole_expression room (word ∷ words))
    ((reads-whole_expression 1 (suc room)).tells room (word ∷ words) (omega arith))
  where
    alone : (rest : List Word) → word ∷ words ≡ rest →
        Other (IsWholeExpression 1) behind_expression room [] rest
    alone rest are = lone-name room word words rest named are

    some : (piece : Piece) (pieces : List Piece) (rest : List Word) →
        word ∷ words ≡ words_in (piece ∷ pieces) ++ rest → length rest ≤ length words
    some piece pieces rest are = length-rest (words_in pieces) rest words
        (append-cancel (word ∷ []) words (words_in pieces ++ rest)
        (are ∙ ap (λ w. w ∷ (words_in pieces ++ rest))
        (first_same are)))
      where
        first_same : word ∷ words ≡ piece.word ∷ (words_in pieces ++ rest) → piece.word ≡ word
        first_same same = cc

    not_nothing : one_piece word ≡ [] → ⊥
    not_nothing same = absurd (cc)

    by_read : (read : Read (Expr Name)) → Tells (IsWholeExpression own_brackets) (IsWholeExpression 1)
        behind_expression room (word ∷ words) read → length (behind_of read) ≤ length words
    by_read (Got value left rest) found = by_pieces found.pieces found.words_are
        (λ o. (found.only o).pieces_same)
      where
        by_pieces : (pieces : List Piece) → word ∷ words ≡ words_in pieces ++ rest →
            ((o : Other (IsWholeExpression 1) behind_expression room (words_in pieces) rest) →
            o.pieces ≡ pieces) →
            length rest ≤ length words
        by_pieces [] are only = absurd (not_nothing (only (alone rest are)))
        by_pieces (piece ∷ pieces) are only = some piece pieces rest are
    by_read (Refused Unexpected rest) first = by_pieces first.pieces first.words_are first.dead
      where
        by_pieces : (pieces : List Piece) → word ∷ words ≡ words_in pieces ++ rest →
            (Other (IsWholeExpression 1) behind_expression room (words_in pieces) rest → ⊥) →
            length rest ≤ length words
        by_pieces [] are dead = absurd (dead (alone rest are))
        by_pieces (piece ∷ pieces) are dead = some piece pieces rest are
    by_read (Refused TooDeep rest) first = by_pieces first.pieces first.words_are first.passes
      where
        by_pieces : (pieces : List Piece) → word ∷ words ≡ words_in pieces ++ rest →
            ((o : Other (IsWholeExpression 1) behind_expression room (words_in pieces) rest) →
            PassesAt o.pieces (words_in pieces) first.word) → length rest ≤ length words
        by_pieces [] are passes = absurd (kept-passes (one_piece word) [] first.word (one-kept word)
            (passes (alone rest are)))
        by_pieces (piece ∷ pieces) are passes = some piece pieces rest are

-- a call whose result is bound to the name, and a value that it is assigned
unfoldable pub IsBoundCall : ℕ → Name → Phrase (Statement Name)
IsBoundCall brackets name value room pieces left =
    Then (IsCall brackets) (λ call. Only (T.Call (Some name) call)) value room pieces left

unfoldable pub IsAssigned : ℕ → Name → Phrase (Statement Name)
IsAssigned brackets name value room pieces left =
    Then (IsWholeExpression brackets) (λ e. Only (T.Assign name e)) value room pieces left

module _ (any depth : ℕ) (name : Name) where
  reads-bound_call : Reads (IsBoundCall own_brackets name) (IsBoundCall any name) (read_bound_call name)
      depth
      everything
  unfolding IsBoundCall read_bound_call
  reads-bound_call = last (λ call. T.Call (Some name) call) (reads-call any depth)

  reads-assigned : Reads (IsAssigned own_brackets name) (IsAssigned any name) (read_assigned name) depth
      behind_expression
  unfolding IsAssigned read_assigned
  reads-assigned = last (λ value. T.Assign name value) (reads-whole_expression any depth)

  bound-takes : (room : ℕ) (word : Word) (words : List Word) → is_name word.sort ≡ true →
      length (behind_of (read_bound_call name room (word ∷ words))) ≤ length words
  unfolding read_bound_call
  bound-takes room word words named =
      subst (λ (ws : List Word). length ws ≤ length words)
      (sym (behind-last (λ call. T.Call (Some name) call) (read_call room (word ∷ words))))
      (call-takes room word words named)

  assigned-takes : (room : ℕ) (word : Word) (words : List Word) → is_name word.sort ≡ true →
      length (behind_of (read_assigned name room (word ∷ words))) ≤ length words
  unfolding read_assigned
  assigned-takes room word words named =
      subst (λ (ws : List Word). length ws ≤ length words)
      (sym (behind-last (λ value. T.Assign name value) (read_whole_expression room (word ∷ words))))
      (expression-takes room word words named)

  bound-begins : (value : Statement Name) (room : ℕ) (pieces : List Piece) (left : ℕ) (after : List Word) →
      IsBoundCall any name value room pieces left → begins_call (words_in pieces ++ after) ≡ true
  unfolding IsBoundCall
  bound-begins value room pieces left after both =
      ap begins_call (ap (λ ps. words_in ps ++ after) both.spelled
      ∙ words_in-append_then both.front both.back after)
      ∙ call-begins any both.first room both.front both.between (words_in both.back ++ after) both.begins

  assigned-dotless : (value : Statement Name) (room : ℕ) (pieces : List Piece) (left : ℕ)
      (after : List Word) →
      IsAssigned any name value room pieces left → Follows behind_statement after →
      begins_call (words_in pieces ++ after) ≡ false
  unfolding IsAssigned
  assigned-dotless value room pieces left after both follows =
      ap (λ ps. begins_call (words_in ps ++ after))
      (both.spelled ∙ ap (λ ps. both.front ++ ps) both.goes_on.spelled ∙ append-nothing both.front)
      ∙ dotless any both.first room both.front both.between after both.begins follows

  -- where nothing was taken, nothing is left
  not_all : (rest words : List Word) → length rest ≤ length words → (word : Word) → rest ≡ word ∷ words → ⊥
  not_all rest words short word are =
      let long : length rest ≡ suc (length words) = ap (λ ws. length ws) are in
      absurd (omega arith)

  abbrev Any : Phrase (Statement Name)
  Any = Either (IsBoundCall any name) (IsAssigned any name)

  abbrev Own : Phrase (Statement Name)
  Own = Either (IsBoundCall own_brackets name) (IsAssigned own_brackets name)

  -- words that begin as a call go on as one, where the reading takes a word
  call-narrows : (room : ℕ) (word : Word) (others rest : List Word) → length rest ≤ length others →
      begins_call (word ∷ others) ≡ true →
      Narrows (IsBoundCall own_brackets name) (IsBoundCall any name) Own Any everything behind_statement room
      (word ∷ others) rest
  call-narrows room word others rest short test = record {
    at = λ taken are o. by_taken taken are o.value o.pieces o.left o.after o.behind o.spelled o.fits
        o.words_are
        o.alike;
  }
    where
      by_taken : (taken : List Word) → word ∷ others ≡ taken ++ rest → (value : Statement Name)
          (pieces : List Piece) (left : ℕ) (after next : List Word) → Any value room pieces left →
          Follows behind_statement after → words_in pieces ++ after ≡ taken ++ next → Alike rest next →
          IsBoundCall any name value room pieces left × Follows everything after
      by_taken taken are value pieces left after next (inl phrase) follows words_are alike =
          (phrase, follows-anything after)
      by_taken [] are value pieces left after next (inr phrase) follows words_are alike =
          absurd (not_all rest others short word (sym are))
      by_taken (first ∷ taken) are value pieces left after next (inr phrase) follows words_are alike =
          let one : begins_call (words_in pieces ++ after) ≡ false =
          assigned-dotless value room pieces left after phrase follows in
          let two : begins_call ((first ∷ taken) ++ rest) ≡ begins_call ((first ∷ taken) ++ next) =
          tested-ahead first taken rest next alike in
          let three : true ≡ false =
          sym test ∙ ap begins_call are ∙ two ∙ ap begins_call (sym words_are) ∙ one in
          absurd (cc)

  -- words that don't begin as a call go on as an expression, if at all
  value-narrows : (room : ℕ) (words rest : List Word) →
      ((word : Word) (others : List Word) → words ≡ word ∷ others → is_name word.sort ≡ true →
      length rest ≤ length others) → begins_call words ≡ false →
      Narrows (IsAssigned own_brackets name) (IsAssigned any name) Own Any behind_expression
      behind_statement room
      words rest
  value-narrows room words rest takes test = record {
    at = λ taken are o. by_taken taken are o.value o.pieces o.left o.after o.behind o.spelled o.fits
        o.words_are
        o.alike;
  }
    where
      first-name : (word : Word) (others : List Word) (front : CallFront (word ∷ others)) →
          is_name word.sort ≡ true
      first-name word others front =
          let same : front.name ≡ word = cc_first front.words_are in
          subst (λ (w : Word). is_name w.sort ≡ true) same front.is_named
        where
          cc_first : word ∷ others ≡ front.name ∷ front.dot ∷ front.rest → front.name ≡ word
          cc_first same = cc

      nothing_taken : (rest next : List Word) → words ≡ rest → CallFront next → Alike rest next →
          ((word : Word) (others : List Word) → words ≡ word ∷ others → is_name word.sort ≡ true →
          length rest ≤ length others) → ⊥
      nothing_taken [] [] are front alike short =
          let same : [] ≡ front.name ∷ front.dot ∷ front.rest = front.words_are in absurd (cc)
      nothing_taken [] (other ∷ next) are front alike short = alike
      nothing_taken (word ∷ rest) [] are front alike short = alike
      nothing_taken (word ∷ rest) (other ∷ next) are front alike short =
          let named : is_name word.sort ≡ true =
          subst (λ (w : Word). is_name w.sort ≡ true) (sym alike) (first-name other next front) in
          let low : length (word ∷ rest) ≤ length rest = short word rest are named in
          absurd (omega arith)

      by_taken : (taken : List Word) → words ≡ taken ++ rest → (value : Statement Name)
          (pieces : List Piece) (left : ℕ) (after next : List Word) → Any value room pieces left →
          Follows behind_statement after → words_in pieces ++ after ≡ taken ++ next → Alike rest next →
          IsAssigned any name value room pieces left × Follows behind_expression after
      by_taken taken are value pieces left after next (inr phrase) follows words_are alike =
          (phrase, part-follows behind_statement behind_expression (record { shown = refl }) after follows)
      by_taken [] are value pieces left after next (inl phrase) follows words_are alike =
          let begun : begins_call next ≡ true = ap begins_call (sym words_are)
          ∙ bound-begins value room pieces left after phrase in
          absurd (nothing_taken rest next are (call-front next begun) alike takes)
      by_taken (first ∷ taken) are value pieces left after next (inl phrase) follows words_are alike =
          let one : begins_call (words_in pieces ++ after) ≡ true =
          bound-begins value room pieces left after phrase in
          let two : begins_call ((first ∷ taken) ++ rest) ≡ begins_call ((first ∷ taken) ++ next) =
          tested-ahead first taken rest next alike in
          let three : false ≡ true =
          sym test ∙ ap begins_call are ∙ two ∙ ap begins_call (sym words_are) ∙ one in
          absurd (cc)

  pub reads-call_or_value : Reads Own Any (either begins_call (read_bound_call name) (read_assigned name))
      depth
      behind_statement
  reads-call_or_value = record {
    sample = sample-either reads-bound_call.sample;
    tells = λ room words fits. by_test room words fits (begins_call words) refl;
  }
    where
      called : (room : ℕ) (words : List Word) → room < depth → begins_call words ≡ true →
          Tells Own Any behind_statement room words (read_bound_call name room words)
      called room [] fits test = absurd (cc)
      called room (word ∷ others) fits test =
          tells-as (IsBoundCall own_brackets name) (IsBoundCall any name) Own Any everything
          behind_statement room
          (word ∷ others) (λ value ps left phrase. inl phrase) (read_bound_call name room (word ∷ others))
          (call-narrows room word others (behind_of (read_bound_call name room (word ∷ others)))
          (bound-takes room word others (named word others (call-front (word ∷ others) test))) test)
          (reads-bound_call.tells room (word ∷ others) fits)
        where
          named : (word : Word) (others : List Word) → CallFront (word ∷ others) → is_name word.sort ≡ true
          named word others front =
              subst (λ (w : Word). is_name w.sort ≡ true) (same front.words_are) front.is_named
            where
              same : word ∷ others ≡ front.name ∷ front.dot ∷ front.rest → front.name ≡ word
              same equal = cc

      by_test : (room : ℕ) (words : List Word) → room < depth → (b : Bool) → begins_call words ≡ b →
          Tells Own Any behind_statement room words
          (cond b (read_bound_call name room words) (read_assigned name room words))
      by_test room words fits true test = called room words fits test
      by_test room words fits false test =
          tells-as (IsAssigned own_brackets name) (IsAssigned any name) Own Any behind_expression
          behind_statement
          room words (λ value ps left phrase. inr phrase) (read_assigned name room words)
          (value-narrows room words (behind_of (read_assigned name room words))
          (λ word others are named. subst
          (λ (ws : List Word). length (behind_of (read_assigned name room ws))
          ≤ length others) (sym are) (assigned-takes room word others named)) test)
          (reads-assigned.tells room words fits)
