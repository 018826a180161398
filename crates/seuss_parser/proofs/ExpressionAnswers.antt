-- What reading one expression answers: the one that the words taken are, or the place of the refusal.
use Rattle.std.proofs.Common.{◌≡◌, ℕ, ◌+◌, ◌-◌, ◌≤◌, true, List, [], ◌∷◌, ◌++◌, refl, sym, ◌∙◌, ap}
use Rattle.std.proofs.Common.{subst, arith, length, length-append, append_assoc, Result, Ok, Err, drop}
use Rattle.std.proofs.lemmas.List.{length-drop}
use Rattle.std.proofs.lemmas.List.Elements.{All-nil}
use Rattle.seuss_parser.specs.Phrases.{Piece, words_in}
use Rattle.seuss_parser.specs.Readings.{Read, Gives, Got, Refused, Unexpected, TooDeep}
use Rattle.seuss_parser.specs.Grammar.{IsWholeExpression}
use Rattle.seuss_parser.specs.ExpressionReading.{read_whole_expression}
use Rattle.seuss_parser.specs.Spelling.{IsWord}
use Rattle.seuss_parser.specs.Answers.{last_line}
use Rattle.seuss_parser.specs.WholeReading.{front_line, refusal_of}
use Rattle.seuss_parser.specs.SingleExpressions.{DerivesExpression, AreExpression, BeginsExpression}
use Rattle.seuss_parser.specs.SingleExpressions.{AreEnded, AreTaken, IsExpressionAt, IsNoExpressionAt}
use Rattle.seuss_parser.specs.SingleExpressions.{IsTooDeepAt, ParsesExpression}
use Rattle.seuss_parser.specs.declared.refusal.ParseRefusal.TheVariants as refusals
use Rattle.seuss_parser.specs.declared.stop.Stop.{Stop}
use Rattle.seuss_parser.specs.declared.stop.Stop.TheVariants as stops
use Rattle.seuss_parser.specs.declared.word.Word.{Word}
use Rattle.seuss_program.specs.declared.tree.Name.{Name}
use Rattle.seuss_program.specs.declared.tree.Expr.{Expr}
use Rattle.seuss_parser.proofs.ListLemmas.{append-nothing, append-cancel, words_in-append}
use Rattle.seuss_parser.proofs.Tells.{Alike, Other, Begins, IsFound, IsUnexpected, IsTooDeep, Tells}
use Rattle.seuss_parser.proofs.CallReads.{own_brackets, reads-whole_expression}
use Rattle.seuss_parser.proofs.ExpressionReads.{behind_expression}
use Rattle.seuss_parser.proofs.ProgramAnswers.{same-front, begun-words, same-place}
use Rattle.seuss_parser.proofs.CutReads.{Again, FoundAgain, RefusedAgain}
use Rattle.seuss_parser.proofs.CutExpressions.{cut-whole_expression}

-- what reading tells of expressions of some depth
told : (any : ℕ) (words : List Word) (read : Read (Expr Name)) → read_whole_expression 0 words ≡ read →
    Tells (IsWholeExpression own_brackets) (IsWholeExpression any) behind_expression 0 words read
told any words read is =
    subst (λ r. Tells (IsWholeExpression own_brackets) (IsWholeExpression any) behind_expression 0 words r)
    is ((reads-whole_expression any 1).tells 0 words (omega arith))

-- what was read is read again of fewer words
read-again : (words : List Word) (read : Read (Expr Name)) → read_whole_expression 0 words ≡ read →
    Again read_whole_expression 0 words read
read-again words read is =
    subst (λ r. Again read_whole_expression 0 words r) is (cut-whole_expression.at 0 words)

begins-expression : (pieces : List Piece) → Begins (IsWholeExpression own_brackets) 0 pieces →
    BeginsExpression pieces
begins-expression pieces begun = record {
  rest = begun.rest;
  words = begun.words;
  value = begun.value;
  derives = record { brackets = own_brackets; unused = begun.left; derives = begun.spelled };
}

-- a whole expression, against words that were read
whole-other : (pieces : List Piece) (value : Expr Name) (d : DerivesExpression pieces value)
    (taken rest behind : List Word) → words_in pieces ≡ taken ++ behind → Alike rest behind →
    Other (IsWholeExpression d.brackets) behind_expression 0 taken rest
whole-other pieces value d taken rest behind are alike = record {
  value = value;
  pieces = pieces;
  left = d.unused;
  after = [];
  behind = behind;
  spelled = d.derives;
  fits = tt;
  words_are = append-nothing (words_in pieces) ∙ are;
  alike = alike;
}

-- No expression has this word behind these.
record NoneHas (front : List Word) (word : Word) : Type 0 where
  none : (pieces : List Piece) (value : Expr Name) → DerivesExpression pieces value →
      (behind : List Word) → words_in pieces ≡ front ++ word ∷ behind → ⊥

ended-by : (front rest : List Word) →
    ((word : Word) (others : List Word) → rest ≡ word ∷ others → NoneHas front word) → AreEnded front rest
ended-by front [] none = tt
ended-by front (word ∷ rest) none = λ may. (none word rest refl).none (may.pieces ++ may.begins.rest)
    may.begins.value may.begins.derives (words_in may.begins.rest)
    (begun-words may.pieces may.begins.rest front word may.words_are)

-- words that begin with this one
alike-with : (rest : List Word) (word : Word) (others behind : List Word) → rest ≡ word ∷ others →
    Alike rest (word ∷ behind)
alike-with rest word others behind are = subst (λ ws. Alike ws (word ∷ behind)) (sym are) refl

-- an expression that was found, with what is left behind it
module _ (words : List Word) (value : Expr Name) (left : ℕ) (rest : List Word)
    (got : read_whole_expression 0 words ≡ Got value left rest) where
  found-base : IsFound (IsWholeExpression own_brackets) (IsWholeExpression 0) behind_expression 0 words value
      left rest
  found-base = told 0 words (Got value left rest) got

  abbrev found-front : List Word
  found-front = words_in found-base.pieces

  found-more : (word : Word) (others : List Word) → rest ≡ word ∷ others → NoneHas found-front word
  unfolding whole-other
  found-more word others rest_is = record {
    none = λ pieces other d behind are.
        let found = told d.brackets words (Got value left rest) got in
        let front_same : found-front ≡ words_in found.pieces =
        same-front words found-front (words_in found.pieces) rest found-base.words_are found.words_are in
        let are_found : words_in pieces ≡ words_in found.pieces ++ (word ∷ behind) =
        are ∙ ap (λ ws. ws ++ (word ∷ behind)) front_same in
        let same = found.only (whole-other pieces other d (words_in found.pieces) rest (word ∷ behind)
        are_found (alike-with rest word others behind rest_is)) in
        let words_same : words_in found.pieces ++ [] ≡ words_in found.pieces ++ (word ∷ behind) =
        append-nothing (words_in found.pieces) ∙ sym (ap words_in same.pieces_same) ∙ are_found in
        let nothing_is : [] ≡ word ∷ behind = append-cancel (words_in found.pieces) [] (word ∷ behind)
        words_same in
        absurd (cc);
  }

  found-taken : AreTaken words found-front rest
  found-taken = record {
    words_are = found-base.words_are;
    begun = record {
      pieces = found-base.pieces;
      kept = found-base.kept;
      words_are = refl;
      begins = record {
        rest = [];
        words = All-nil IsWord;
        value = value;
        derives = record {
          brackets = own_brackets;
          unused = left;
          derives = subst (λ ps. IsWholeExpression own_brackets value 0 ps left)
              (sym (append-nothing found-base.pieces)) found-base.spelled;
        };
      };
    };
    ended = ended-by found-front rest (λ word others are. found-more word others are);
  }

  found-this : AreExpression found-front value
  found-this = record {
    pieces = found-base.pieces;
    derives = record { brackets = own_brackets; unused = left; derives = found-base.spelled };
    kept = found-base.kept;
    words_are = refl;
  }

  found-alone : read_whole_expression 0 found-front ≡ Got value left []
  found-alone =
      let found : FoundAgain read_whole_expression 0 words value left rest =
      read-again words (Got value left rest) got in
      let front_same : found.taken ≡ found-front =
      same-front words found.taken found-front rest found.words_are found-base.words_are in
      ap (λ ws. read_whole_expression 0 ws) (sym front_same ∙ sym (append-nothing found.taken))
      ∙ found.again [] rest refl

  found-only : (other : Expr Name) → AreExpression found-front other → other ≡ value
  unfolding whole-other
  found-only other o =
      let found = told o.derives.brackets found-front (Got value left []) found-alone in
      (found.only (whole-other o.pieces other o.derives (words_in found.pieces) [] []
      (o.words_are ∙ found.words_are) tt)).value_same

-- the place behind the words that were taken
place-behind : (all front rest : List Word) (from count : ℕ) → drop from all ≡ front ++ rest →
    from ≤ length all → count ≡ length all → count - length rest ≡ from + length front
place-behind all front rest from count are within count_is =
    let long : length (drop from all) ≡ length all - from = length-drop from all in
    let same : length (drop from all) ≡ length (front ++ rest) = ap (λ ws. length ws) are in
    let parts : length (front ++ rest) ≡ length front + length rest = length-append front rest in
    omega (arith, within, count_is, long, same, parts)

pub expression-found : (all words : List Word) (from count : ℕ) → words ≡ drop from all →
    from ≤ length all → count ≡ length all → (value : Expr Name) (left : ℕ) (rest : List Word) →
    read_whole_expression 0 words ≡ Got value left rest →
    ParsesExpression (Ok (value, count - length rest)) all from
expression-found all words from count words_are within count_is value left rest got = record {
  front = found-front words value left rest got;
  rest = rest;
  taken = subst (λ ws. AreTaken ws (found-front words value left rest got) rest) words_are
      (found-taken words value left rest got);
  is_this = found-this words value left rest got;
  only_this = found-only words value left rest got;
  next_is = place-behind all (found-front words value left rest got) rest from count
      (sym words_are ∙ (found-base words value left rest got).words_are) within count_is;
}

-- a word that goes on nothing, or the end of the words
module _ (words rest : List Word) (is : read_whole_expression 0 words ≡ Refused Unexpected rest) where
  refused-base : IsUnexpected (IsWholeExpression own_brackets) (IsWholeExpression 0) behind_expression 0
      words rest
  refused-base = told 0 words (Refused Unexpected rest) is

  abbrev refused-front : List Word
  refused-front = words_in refused-base.pieces

  refused-more : (word : Word) (others : List Word) → rest ≡ word ∷ others → NoneHas refused-front word
  refused-more word others rest_is = record {
    none = λ pieces value d behind are.
        let first = told d.brackets words (Refused Unexpected rest) is in
        let front_same : refused-front ≡ words_in first.pieces = same-front words refused-front
        (words_in first.pieces) rest refused-base.words_are first.words_are in
        first.dead (whole-other pieces value d (words_in first.pieces) rest (word ∷ behind)
        (are ∙ ap (λ ws. ws ++ (word ∷ behind)) front_same) (alike-with rest word others behind rest_is));
  }

  refused-taken : AreTaken words refused-front rest
  refused-taken = record {
    words_are = refused-base.words_are;
    begun = record {
      pieces = refused-base.pieces;
      kept = refused-base.kept;
      words_are = refl;
      begins = begins-expression refused-base.pieces refused-base.live;
    };
    ended = ended-by refused-front rest (λ word others are. refused-more word others are);
  }

  refused-alone : read_whole_expression 0 refused-front ≡ Refused Unexpected []
  refused-alone =
      let refused : RefusedAgain read_whole_expression 0 words rest =
      read-again words (Refused Unexpected rest) is in
      let front_same : refused.taken ≡ refused-front =
      same-front words refused.taken refused-front rest refused.words_are refused-base.words_are in
      ap (λ ws. read_whole_expression 0 ws) (sym front_same) ∙ refused.again

  refused-none : (pieces : List Piece) (value : Expr Name) → DerivesExpression pieces value →
      words_in pieces ≡ refused-front → ⊥
  refused-none pieces value d are =
      let first = told d.brackets refused-front (Refused Unexpected []) refused-alone in
      first.dead (whole-other pieces value d (words_in first.pieces) [] [] (are ∙ first.words_are) tt)

pub expression-unexpected : (all words : List Word) (from end : ℕ) → words ≡ drop from all →
    end ≡ last_line all → (rest : List Word) → read_whole_expression 0 words ≡ Refused Unexpected rest →
    IsNoExpressionAt all from (front_line rest end)
expression-unexpected all words from end words_are end_is rest is = record {
  front = refused-front words rest is;
  rest = rest;
  taken = subst (λ ws. AreTaken ws (refused-front words rest is) rest) words_are
      (refused-taken words rest is);
  none = refused-none words rest is;
  line_is = ap (λ line. front_line rest line) end_is;
}

-- a word that passes the limit of marks
module _ (words : List Word) (rest : List Word)
    (is : read_whole_expression 0 words ≡ Refused TooDeep rest) where
  deep-base : IsTooDeep (IsWholeExpression own_brackets) (IsWholeExpression 0) behind_expression 0 words rest
  deep-base = told 0 words (Refused TooDeep rest) is

  deep-always : (others : List Piece) (last : Piece) → BeginsExpression (others ++ last ∷ []) →
      words_in others ≡ words_in deep-base.pieces → last.word ≡ deep-base.word → last.passes ≡ true
  unfolding whole-other
  deep-always others last begun front_is word_is =
      let d = begun.derives in
      let first = told d.brackets words (Refused TooDeep rest) is in
      let front_same : words_in deep-base.pieces ≡ words_in first.pieces = same-front words
      (words_in deep-base.pieces) (words_in first.pieces) rest deep-base.words_are first.words_are in
      let begins_are : words_in (others ++ last ∷ []) ≡ words_in first.pieces ++ last.word ∷ [] =
      words_in-append others (last ∷ []) ∙ ap (λ ws. ws ++ last.word ∷ []) (front_is ∙ front_same) in
      let alike : Alike rest (last.word ∷ words_in begun.rest) =
      subst (λ w. Alike rest (w ∷ words_in begun.rest)) (sym word_is)
      (alike-with rest deep-base.word deep-base.behind (words_in begun.rest) deep-base.rest_is) in
      let past = first.passes (whole-other ((others ++ last ∷ []) ++ begun.rest) begun.value d
      (words_in first.pieces) rest (last.word ∷ words_in begun.rest)
      (begun-words (others ++ last ∷ []) begun.rest (words_in first.pieces) last.word begins_are) alike) in
      let same : last ≡ record { word = first.word; passes = true } =
      same-place past.front others (record { word = first.word; passes = true }) last past.back begun.rest
      (past.front_is ∙ sym front_same ∙ sym front_is)
      (sym (append_assoc others (last ∷ []) begun.rest) ∙ past.pieces_are) in
      ap (λ (p : Piece). p.passes) same

pub expression-deep : (all words : List Word) (from end : ℕ) → words ≡ drop from all →
    (rest : List Word) → read_whole_expression 0 words ≡ Refused TooDeep rest →
    IsTooDeepAt all from (front_line rest end)
expression-deep all words from end words_are rest is = record {
  front = words_in (deep-base words rest is).pieces;
  word = (deep-base words rest is).word;
  rest = (deep-base words rest is).behind;
  words_are = sym words_are ∙ (deep-base words rest is).words_are
      ∙ ap (λ ws. words_in (deep-base words rest is).pieces ++ ws) (deep-base words rest is).rest_is;
  line_is = ap (λ ws. front_line ws end) (deep-base words rest is).rest_is;
  passes = record {
    pieces = (deep-base words rest is).pieces;
    kept = (deep-base words rest is).kept;
    words_are = refl;
    begins = begins-expression
        ((deep-base words rest is).pieces
        ++ record { word = (deep-base words rest is).word; passes = true } ∷ [])
        (deep-base words rest is).live;
    always = deep-always words rest is;
  };
}

-- the refusal, from why reading stopped
pub expression-stopped : (all words : List Word) (from end : ℕ) → words ≡ drop from all →
    end ≡ last_line all → (stop : Stop) (left : ℕ) (rest : List Word) →
    Gives {A = Expr Name} (Err stop) left rest (read_whole_expression 0 words) →
    ParsesExpression (Err (refusal_of stop (front_line rest end))) all from
expression-stopped all words from end words_are end_is stops.Unexpected left rest gives =
    expression-unexpected all words from end words_are end_is rest gives
expression-stopped all words from end words_are end_is stops.TooDeep left rest gives =
    expression-deep all words from end words_are rest gives
expression-stopped all words from end words_are end_is stops.Memory left rest gives = tt
