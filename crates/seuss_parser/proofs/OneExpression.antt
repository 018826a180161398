-- The words of a text from a place on have one answer: how far they are taken is one place.
use Rattle.std.proofs.Common.{◌≡◌, ℕ, ◌+◌, true, false, List, [], ◌∷◌, ◌++◌, refl, sym, ◌∙◌, ap, subst}
use Rattle.std.proofs.Common.{append_assoc, length, take, drop, Result, Ok, Err, All}
use Rattle.std.proofs.lemmas.List.{take-append-drop}
use Rattle.std.proofs.lemmas.List.Elements.{All-cons, All-head, All-append}
use Rattle.seuss_parser.specs.Phrases.{Piece, words_in}
use Rattle.seuss_parser.specs.Spelling.{IsWord}
use Rattle.seuss_parser.specs.Answers.{last_line}
use Rattle.seuss_parser.specs.WholeReading.{front_line}
use Rattle.seuss_parser.specs.SingleExpressions.{DerivesExpression, AreExpression, BeginsExpression, MayBegin}
use Rattle.seuss_parser.specs.SingleExpressions.{AreBegun, AreEnded, AreTaken, PassesMarks, IsTooDeepAt}
use Rattle.seuss_parser.specs.SingleExpressions.{IsExpressionAt, IsNoExpressionAt, ParsesExpression}
use Rattle.seuss_parser.specs.SingleExpressions.{SaysOfWords}
use Rattle.seuss_parser.specs.declared.refusal.ParseRefusal.{ParseRefusal}
use Rattle.seuss_parser.specs.declared.refusal.ParseRefusal.TheVariants.{Syntax, Nesting, Memory}
use Rattle.seuss_parser.specs.declared.word.Word.{Word}
use Rattle.seuss_program.specs.declared.tree.Expr.{Expr}
use Rattle.seuss_program.specs.declared.tree.Name.{Name}
use Rattle.seuss_parser.proofs.ListLemmas.{words_in-append}
use Rattle.seuss_parser.proofs.Extents.{all-behind, split, IsBlocked, Extent, one-extent, kept-at, same-rest}

-- an expression that begins with pieces begins with the first ones of them
begins-shorter : (pieces before : List Piece) (at : Piece) (after : List Piece) →
    pieces ≡ before ++ at ∷ after → All IsWord (words_in after) → BeginsExpression pieces →
    BeginsExpression (before ++ at ∷ [])
begins-shorter pieces before at after are words begun = record {
  rest = after ++ begun.rest;
  words = subst (λ (ws : List Word). All IsWord ws) (sym (words_in-append after begun.rest))
      (All-append IsWord (words_in after) (words_in begun.rest) words begun.words);
  value = begun.value;
  derives = subst (λ ps. DerivesExpression ps begun.value)
      (ap (λ ps. ps ++ begun.rest) are ∙ append_assoc before (at ∷ after) begun.rest
      ∙ sym (append_assoc before (at ∷ []) (after ++ begun.rest))) begun.derives;
}

-- no expression goes on behind words that are ended
ended-blocked : (front rest : List Word) → AreEnded front rest → IsBlocked AreBegun front rest
ended-blocked front [] ended = record { beyond = λ word others are behind all begun. absurd (cc) }
ended-blocked front (next ∷ rest) ended = record {
  beyond = λ word others are behind all begun.
      let part = split begun.pieces front word behind begun.words_are in
      let same : next ≡ word = cc in
      ended (record {
        pieces = part.before ++ part.at ∷ [];
        begins = begins-shorter begun.pieces part.before part.at part.after part.pieces_are
            (subst (λ (ws : List Word). All IsWord ws) (sym part.after_is) all) begun.begins;
        words_are = words_in-append part.before (part.at ∷ [])
            ∙ ap (λ ws. ws ++ part.at.word ∷ []) part.before_is
            ∙ ap (λ w. front ++ w ∷ []) (part.at_is ∙ sym same);
      });
}

taken-extent : (words front rest : List Word) → AreTaken words front rest → Extent AreBegun words
taken-extent words front rest taken = record {
  front = front;
  rest = rest;
  words_are = taken.words_are;
  begins = taken.begun;
  blocked = ended-blocked front rest taken.ended;
}

-- nor behind those before a word that passes the limit
deep-blocked : (front : List Word) (word : Word) (rest : List Word) → PassesMarks front word →
    IsBlocked AreBegun front (word ∷ rest)
deep-blocked front word rest passes = record {
  beyond = λ next others are behind all begun.
      let part = split begun.pieces front next behind begun.words_are in
      let same : word ≡ next = cc in
      let past : part.at.passes ≡ true = passes.always part.before part.at
      (begins-shorter begun.pieces part.before part.at part.after part.pieces_are
      (subst (λ (ws : List Word). All IsWord ws) (sym part.after_is) all) begun.begins)
      part.before_is (part.at_is ∙ sym same) in
      let kept : part.at.passes ≡ false =
      kept-at begun.pieces part.before part.at part.after begun.kept part.pieces_are in
      absurd (cc);
}

-- what stands before a word that passes the limit begins an expression
deep-begins : (front : List Word) (word : Word) → IsWord word → PassesMarks front word → AreBegun front
deep-begins front word is_word passes = record {
  pieces = passes.pieces;
  kept = passes.kept;
  words_are = passes.words_are;
  begins = record {
    rest = record { word = word; passes = true } ∷ passes.begins.rest;
    words = All-cons IsWord word (words_in passes.begins.rest) is_word passes.begins.words;
    value = passes.begins.value;
    derives = subst (λ ps. DerivesExpression ps passes.begins.value)
        (append_assoc passes.pieces (record { word = word; passes = true } ∷ []) passes.begins.rest)
        passes.begins.derives;
  };
}

deep-extent : (all : List Word) (from line : ℕ) → All IsWord (drop from all) → IsTooDeepAt all from line →
    Extent AreBegun (drop from all)
deep-extent all from line words is = record {
  front = is.front;
  rest = is.word ∷ is.rest;
  words_are = is.words_are;
  begins = deep-begins is.front is.word
      (All-head IsWord is.word is.rest (all-behind IsWord is.front (is.word ∷ is.rest)
      (subst (λ (ws : List Word). All IsWord ws) is.words_are words))) is.passes;
  blocked = deep-blocked is.front is.word is.rest is.passes;
}

-- the words that are taken are the same ones
taken-front : (words front rest other last : List Word) → All IsWord words → AreTaken words front rest →
    AreTaken words other last → front ≡ other
unfolding taken-extent
taken-front words front rest other last all one two =
    one-extent words all (taken-extent words front rest one) (taken-extent words other last two)

taken-rest : (words front rest other last : List Word) → All IsWord words → AreTaken words front rest →
    AreTaken words other last → rest ≡ last
taken-rest words front rest other last all one two =
    same-rest words front other rest last one.words_are two.words_are
    (taken-front words front rest other last all one two)

-- a word that an expression may have here doesn't end the words
goes-on : (front rest : List Word) (word : Word) (others : List Word) → AreEnded front rest →
    rest ≡ word ∷ others → MayBegin (front ++ word ∷ []) → ⊥
goes-on front [] word others ended are may = absurd (cc)
goes-on front (next ∷ rest) word others ended are may =
    let same : word ≡ next = cc in
    ended (subst (λ w. MayBegin (front ++ w ∷ [])) same may)

-- words that are taken up to their end pass no limit there
taken-not_deep : (all : List Word) (from line : ℕ) (front rest : List Word) →
    All IsWord (drop from all) → AreTaken (drop from all) front rest → IsTooDeepAt all from line → ⊥
unfolding taken-extent deep-extent
taken-not_deep all from line front rest words one two =
    let fronts : front ≡ two.front = one-extent (drop from all) words
    (taken-extent (drop from all) front rest one) (deep-extent all from line words two) in
    let rests : rest ≡ two.word ∷ two.rest = same-rest (drop from all) front two.front rest
    (two.word ∷ two.rest) one.words_are two.words_are fronts in
    goes-on front rest two.word two.rest one.ended rests (record {
      pieces = two.passes.pieces ++ record { word = two.word; passes = true } ∷ [];
      begins = two.passes.begins;
      words_are = words_in-append two.passes.pieces (record { word = two.word; passes = true } ∷ [])
          ∙ ap (λ ws. ws ++ two.word ∷ []) (two.passes.words_are ∙ sym fronts);
    })

module _ (all : List Word) (from : ℕ) (words : All IsWord (drop from all)) where
  same-expression : (value other : Expr Name) (next last : ℕ) → IsExpressionAt all from value next →
      IsExpressionAt all from other last → (value ≡ other) × (next ≡ last)
  same-expression value other next last one two =
      let fronts : one.front ≡ two.front = taken-front (drop from all) one.front one.rest two.front two.rest
      words one.taken two.taken in (
        sym (one.only_this other (subst (λ ws. AreExpression ws other) (sym fronts) two.is_this)),
        one.next_is ∙ ap (λ ws. from + length ws) fronts ∙ sym two.next_is,
      )

  expression-or_none : (value : Expr Name) (next line : ℕ) → IsExpressionAt all from value next →
      IsNoExpressionAt all from line → ⊥
  expression-or_none value next line one two =
      let fronts : one.front ≡ two.front = taken-front (drop from all) one.front one.rest two.front two.rest
      words one.taken two.taken in
      two.none one.is_this.pieces value one.is_this.derives (one.is_this.words_are ∙ fronts)

  same-none : (line other : ℕ) → IsNoExpressionAt all from line → IsNoExpressionAt all from other →
      line ≡ other
  same-none line other one two =
      let rests : one.rest ≡ two.rest = taken-rest (drop from all) one.front one.rest two.front two.rest
      words one.taken two.taken in
      one.line_is ∙ ap (λ ws. front_line ws (last_line all)) rests ∙ sym two.line_is

  same-deep : (line other : ℕ) → IsTooDeepAt all from line → IsTooDeepAt all from other → line ≡ other
  unfolding deep-extent
  same-deep line other one two =
      let fronts : one.front ≡ two.front = one-extent (drop from all) words
      (deep-extent all from line words one) (deep-extent all from other words two) in
      let rests : one.word ∷ one.rest ≡ two.word ∷ two.rest = same-rest (drop from all) one.front two.front
      (one.word ∷ one.rest) (two.word ∷ two.rest) one.words_are two.words_are fronts in
      let word : one.word ≡ two.word = cc in
      one.line_is ∙ ap (λ (w : Word). w.line) word ∙ sym two.line_is

  answers-same : (one other : Result (Expr Name × ℕ) ParseRefusal) → ParsesExpression one all from →
      ParsesExpression other all from → SaysOfWords one → SaysOfWords other → one ≡ other
  answers-same (Ok (value, next)) (Ok (other, last)) one two here there =
      let same = same-expression value other next last one two in
      ap (λ v. Ok (v, next)) same.0 ∙ ap (λ n. Ok (other, n)) same.1
  answers-same (Ok (value, next)) (Err (Syntax line)) one two here there =
      absurd (expression-or_none value next line one two)
  answers-same (Ok (value, next)) (Err (Nesting line)) one two here there =
      absurd (taken-not_deep all from line one.front one.rest words one.taken two)
  answers-same (Ok found) (Err Memory) one two here there = absurd there
  answers-same (Err (Syntax line)) (Ok (value, next)) one two here there =
      absurd (expression-or_none value next line two one)
  answers-same (Err (Syntax line)) (Err (Syntax other)) one two here there =
      ap (λ n. Err (Syntax n)) (same-none line other one two)
  answers-same (Err (Syntax line)) (Err (Nesting other)) one two here there =
      absurd (taken-not_deep all from other one.front one.rest words one.taken two)
  answers-same (Err (Syntax line)) (Err Memory) one two here there = absurd there
  answers-same (Err (Nesting line)) (Ok (value, next)) one two here there =
      absurd (taken-not_deep all from line two.front two.rest words two.taken one)
  answers-same (Err (Nesting line)) (Err (Syntax other)) one two here there =
      absurd (taken-not_deep all from line two.front two.rest words two.taken one)
  answers-same (Err (Nesting line)) (Err (Nesting other)) one two here there =
      ap (λ n. Err (Nesting n)) (same-deep line other one two)
  answers-same (Err (Nesting line)) (Err Memory) one two here there = absurd there
  answers-same (Err Memory) other one two here there = absurd here

-- Words from a place on have one answer, want of memory apart.
pub one-expression : (all : List Word) (from : ℕ) (one other : Result (Expr Name × ℕ) ParseRefusal) →
    All IsWord all → ParsesExpression one all from → ParsesExpression other all from → SaysOfWords one →
    SaysOfWords other → one ≡ other
one-expression all from one other words this that here there =
    answers-same all from (all-behind IsWord (take from all) (drop from all)
    (subst (λ (ws : List Word). All IsWord ws) (sym (take-append-drop from all)) words))
    one other this that here there
