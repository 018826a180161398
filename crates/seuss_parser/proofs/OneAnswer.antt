-- Words have one answer: the place of a refusal is the first one, and so there is one place.
use Rattle.std.proofs.Common.{◌≡◌, ℕ, true, false, List, [], ◌∷◌, ◌++◌, ◌⊎◌, inl, inr, refl, sym, ◌∙◌, ap}
use Rattle.std.proofs.Common.{subst}
use Rattle.std.proofs.Common.{append_assoc, Result, Ok, Err, All}
use Rattle.std.proofs.lemmas.List.Elements.{All-nil, All-cons, All-head, All-tail, All-append}
use Rattle.seuss_parser.specs.Phrases.{Piece, words_in, AreKept}
use Rattle.seuss_parser.specs.Spelling.{Derives, AreProgram, BeginsProgram, IsViable, IsWord}
use Rattle.seuss_parser.specs.Answers.{IsBeginning, last_line, IsNotGoneOn, IsSyntax, Passes, IsNesting}
use Rattle.seuss_parser.specs.Answers.{Parses}
use Rattle.seuss_parser.specs.Answers.{IsAnswered}
use Rattle.seuss_parser.specs.declared.refusal.ParseRefusal.{ParseRefusal}
use Rattle.seuss_parser.specs.declared.refusal.ParseRefusal.TheVariants.{Syntax, Nesting, Memory}
use Rattle.seuss_parser.specs.declared.word.Word.{Word}
use Rattle.seuss_program.specs.declared.tree.Tree.{Tree}
use Rattle.seuss_parser.proofs.ListLemmas.{append-nothing, words_in-append}
use Rattle.seuss_parser.proofs.Extents.{all-behind, split, IsBlocked, Extent, one-extent, kept-at, same-rest}

-- a program that begins with pieces begins with the first ones of them
begins-shorter : (pieces before : List Piece) (at : Piece) (after : List Piece) →
    pieces ≡ before ++ at ∷ after → All IsWord (words_in after) → BeginsProgram pieces →
    BeginsProgram (before ++ at ∷ [])
begins-shorter pieces before at after are words begun = record {
  rest = after ++ begun.rest;
  words = subst (λ (ws : List Word). All IsWord ws) (sym (words_in-append after begun.rest))
      (All-append IsWord (words_in after) (words_in begun.rest) words begun.words);
  tree = begun.tree;
  derives = subst (λ ps. Derives ps begun.tree)
      (ap (λ ps. ps ++ begun.rest) are ∙ append_assoc before (at ∷ after) begun.rest
      ∙ sym (append_assoc before (at ∷ []) (after ++ begun.rest))) begun.derives;
}

-- the extent of a program, and of each refusal
program-extent : (words : List Word) (tree : Tree) → AreProgram words tree → Extent IsBeginning words
program-extent words tree program = record {
  front = words;
  rest = [];
  words_are = sym (append-nothing words);
  begins = record {
    pieces = program.pieces;
    kept = program.kept;
    words_are = program.words_are;
    begins = record {
      rest = [];
      words = All-nil IsWord;
      tree = tree;
      derives = subst (λ ps. Derives ps tree) (sym (append-nothing program.pieces)) program.derives;
    };
  };
  blocked = record { beyond = λ word others are behind all begins. absurd (cc) };
}

syntax-blocked : (front rest : List Word) (line : ℕ) → IsNotGoneOn front rest line →
    IsBlocked IsBeginning front rest
syntax-blocked front [] line ends = record { beyond = λ word others are behind all begins. absurd (cc) }
syntax-blocked front (next ∷ rest) line ends = record {
  beyond = λ word others are behind all begins.
      let part = split begins.pieces front word behind begins.words_are in
      let same : next ≡ word = cc in
      ends.1 (record {
        pieces = part.before ++ part.at ∷ [];
        begins = begins-shorter begins.pieces part.before part.at part.after part.pieces_are
            (subst (λ (ws : List Word). All IsWord ws) (sym part.after_is) all) begins.begins;
        words_are = words_in-append part.before (part.at ∷ [])
            ∙ ap (λ ws. ws ++ part.at.word ∷ []) part.before_is
            ∙ ap (λ w. front ++ w ∷ []) (part.at_is ∙ sym same);
      });
}

syntax-extent : (words : List Word) (line : ℕ) → IsSyntax words line → Extent IsBeginning words
syntax-extent words line is = record {
  front = is.front;
  rest = is.rest;
  words_are = is.words_are;
  begins = is.begins;
  blocked = syntax-blocked is.front is.rest line is.ends;
}

passes-blocked : (front : List Word) (word : Word) (rest : List Word) → Passes front word →
    IsBlocked IsBeginning front (word ∷ rest)
passes-blocked front word rest passes = record {
  beyond = λ next others are behind all begins.
      let part = split begins.pieces front next behind begins.words_are in
      let same : word ≡ next = cc in
      let past : part.at.passes ≡ true = passes.always part.before part.at
      (begins-shorter begins.pieces part.before part.at part.after part.pieces_are
      (subst (λ (ws : List Word). All IsWord ws) (sym part.after_is) all) begins.begins)
      part.before_is (part.at_is ∙ sym same) in
      let kept : part.at.passes ≡ false =
      kept-at begins.pieces part.before part.at part.after begins.kept part.pieces_are in
      absurd (cc);
}

-- what stands before a word that passes a limit begins a program
passes-begins : (front : List Word) (word : Word) → IsWord word → Passes front word → IsBeginning front
passes-begins front word is_word passes = record {
  pieces = passes.pieces;
  kept = passes.kept;
  words_are = passes.words_are;
  begins = record {
    rest = record { word = word; passes = true } ∷ passes.begins.rest;
    words = All-cons IsWord word (words_in passes.begins.rest) is_word passes.begins.words;
    tree = passes.begins.tree;
    derives = subst (λ ps. Derives ps passes.begins.tree)
        (append_assoc passes.pieces (record { word = word; passes = true } ∷ []) passes.begins.rest)
        passes.begins.derives;
  };
}

nesting-extent : (words : List Word) (line : ℕ) → All IsWord words → IsNesting words line →
    Extent IsBeginning words
nesting-extent words line all is = record {
  front = is.front;
  rest = is.word ∷ is.rest;
  words_are = is.words_are;
  begins = passes-begins is.front is.word
      (All-head IsWord is.word is.rest (all-behind IsWord is.front (is.word ∷ is.rest)
      (subst (λ (ws : List Word). All IsWord ws) is.words_are all))) is.passes;
  blocked = passes-blocked is.front is.word is.rest is.passes;
}

-- the line of a refusal behind these words
line-at : List Word → List Word → ℕ
line-at front [] = last_line front
line-at front (word ∷ rest) = word.line

line-is : (front rest : List Word) (line : ℕ) → IsNotGoneOn front rest line → line ≡ line-at front rest
unfolding line-at
line-is front [] line ends = ends.0
line-is front (word ∷ rest) line ends = ends.0

syntax-one : (words : List Word) (line other : ℕ) → All IsWord words → IsSyntax words line →
    IsSyntax words other →
    line ≡ other
unfolding syntax-extent
syntax-one words line other all one two =
    let fronts : one.front ≡ two.front =
    one-extent words all (syntax-extent words line one) (syntax-extent words other two) in
    let rests : one.rest ≡ two.rest =
    same-rest words one.front two.front one.rest two.rest one.words_are two.words_are fronts in
    line-is one.front one.rest line one.ends ∙ ap (λ ws. line-at ws one.rest) fronts
    ∙ ap (λ ws. line-at two.front ws) rests ∙ sym (line-is two.front two.rest other two.ends)

-- words that end here are no program
ended : (front rest : List Word) (line : ℕ) → IsNotGoneOn front rest line → rest ≡ [] → (tree : Tree) →
    AreProgram front tree → ⊥
ended front [] line ends none tree program = ends.1 program.pieces tree program.derives program.words_are
ended front (word ∷ rest) line ends none tree program = absurd (cc)

program-no_syntax : (words : List Word) (tree : Tree) (line : ℕ) → All IsWord words → AreProgram words tree →
    IsSyntax words line → ⊥
unfolding program-extent syntax-extent
program-no_syntax words tree line all program is =
    let front : words ≡ is.front =
    one-extent words all (program-extent words tree program) (syntax-extent words line is) in
    let rest : [] ≡ is.rest = same-rest words words is.front [] is.rest (sym (append-nothing words))
    is.words_are
    front in
    ended is.front is.rest line is.ends (sym rest) tree
    (subst (λ (ws : List Word). AreProgram ws tree) front program)

program-no_nesting : (words : List Word) (tree : Tree) (line : ℕ) → All IsWord words →
    AreProgram words tree →
    IsNesting words line → ⊥
unfolding program-extent nesting-extent
program-no_nesting words tree line all program is =
    let front : words ≡ is.front =
    one-extent words all (program-extent words tree program) (nesting-extent words line all is) in
    let rest : [] ≡ is.word ∷ is.rest = same-rest words words is.front [] (is.word ∷ is.rest)
    (sym (append-nothing words)) is.words_are front in
    absurd (cc)

-- a word that some program has here is expected
expected : (front rest : List Word) (line : ℕ) (word : Word) (others : List Word) →
    IsNotGoneOn front rest line →
    rest ≡ word ∷ others → IsViable (front ++ word ∷ []) → ⊥
expected front [] line word others ends are viable = absurd (cc)
expected front (next ∷ rest) line word others ends are viable =
    let same : word ≡ next = cc in
    ends.1 (subst (λ w. IsViable (front ++ w ∷ [])) same viable)

syntax-no_nesting : (words : List Word) (line other : ℕ) → All IsWord words → IsSyntax words line →
    IsNesting words other → ⊥
unfolding syntax-extent nesting-extent
syntax-no_nesting words line other all one two =
    let fronts : one.front ≡ two.front =
    one-extent words all (syntax-extent words line one) (nesting-extent words other all two) in
    let rests : one.rest ≡ two.word ∷ two.rest = same-rest words one.front two.front one.rest
    (two.word ∷ two.rest) one.words_are two.words_are fronts in
    expected one.front one.rest line two.word two.rest one.ends rests (record {
      pieces = two.passes.pieces ++ record { word = two.word; passes = true } ∷ [];
      begins = two.passes.begins;
      words_are = words_in-append two.passes.pieces (record { word = two.word; passes = true } ∷ [])
          ∙ ap (λ ws. ws ++ two.word ∷ []) (two.passes.words_are ∙ sym fronts);
    })

nesting-one : (words : List Word) (line other : ℕ) → All IsWord words → IsNesting words line →
    IsNesting words other → line ≡ other
unfolding nesting-extent
nesting-one words line other all one two =
    let fronts : one.front ≡ two.front =
    one-extent words all (nesting-extent words line all one) (nesting-extent words other all two) in
    let rests : one.word ∷ one.rest ≡ two.word ∷ two.rest = same-rest words one.front two.front
    (one.word ∷ one.rest) (two.word ∷ two.rest) one.words_are two.words_are fronts in
    let word : one.word ≡ two.word = cc in
    one.line_is ∙ ap (λ (w : Word). w.line) word ∙ sym two.line_is

-- Words have one answer, want of memory apart.
pub one-answer : (words : List Word) (r s : Result Tree ParseRefusal) → All IsWord words →
    Parses r words → Parses s words → IsAnswered r → IsAnswered s → r ≡ s
one-answer words (Ok tree) (Ok other) all one two here there = ap Ok (sym (one.1 other two.0))
one-answer words (Ok tree) (Err (Syntax line)) all one two here there =
    absurd (program-no_syntax words tree line all one.0 two)
one-answer words (Ok tree) (Err (Nesting line)) all one two here there =
    absurd (program-no_nesting words tree line all one.0 two)
one-answer words (Ok tree) (Err Memory) all one two here there = absurd there
one-answer words (Err (Syntax line)) (Ok other) all one two here there =
    absurd (program-no_syntax words other line all two.0 one)
one-answer words (Err (Syntax line)) (Err (Syntax other)) all one two here there =
    ap (λ n. Err (Syntax n)) (syntax-one words line other all one two)
one-answer words (Err (Syntax line)) (Err (Nesting other)) all one two here there =
    absurd (syntax-no_nesting words line other all one two)
one-answer words (Err (Syntax line)) (Err Memory) all one two here there = absurd there
one-answer words (Err (Nesting line)) (Ok other) all one two here there =
    absurd (program-no_nesting words other line all two.0 one)
one-answer words (Err (Nesting line)) (Err (Syntax other)) all one two here there =
    absurd (syntax-no_nesting words other line all two one)
one-answer words (Err (Nesting line)) (Err (Nesting other)) all one two here there =
    ap (λ n. Err (Nesting n)) (nesting-one words line other all one two)
one-answer words (Err (Nesting line)) (Err Memory) all one two here there = absurd there
one-answer words (Err Memory) s all one two here there = absurd here
