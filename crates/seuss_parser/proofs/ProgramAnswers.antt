-- What reading a program and looking for the end of the words answers: the one tree that the words are, or
-- the
-- place of the refusal.
use Rattle.std.proofs.Common.{◌≡◌, ℕ, suc, ◌+◌, true, List, [], ◌∷◌, ◌++◌, refl, sym, ◌∙◌, ap}
use Rattle.std.proofs.Common.{subst, arith, length, length-append, append_assoc, Result, Ok, Err}
use Rattle.std.proofs.lemmas.List.Elements.{All-nil}
use Rattle.seuss_parser.specs.Phrases.{Piece, words_in}
use Rattle.seuss_parser.specs.Readings.{Read, Got, Refused, Unexpected, TooDeep}
use Rattle.seuss_parser.specs.Grammar.{IsProgram}
use Rattle.seuss_parser.specs.DeclarationReading.{read_program}
use Rattle.seuss_parser.specs.Spelling.{Derives, AreProgram, BeginsProgram, IsWord}
use Rattle.seuss_parser.specs.Answers.{IsBeginning, last_line, IsNotGoneOn, IsSyntax, Parses}
use Rattle.seuss_parser.specs.declared.refusal.ParseRefusal.{ParseRefusal}
use Rattle.seuss_parser.specs.declared.refusal.ParseRefusal.TheVariants.{Syntax, Nesting}
use Rattle.seuss_parser.specs.declared.word.Word.{Word}
use Rattle.seuss_program.specs.declared.tree.Tree.{Tree}
use Rattle.seuss_parser.proofs.Sets.{nothing}
use Rattle.seuss_parser.proofs.ListLemmas.{append-nothing, append-cancel, words_in-append}
use Rattle.seuss_parser.proofs.Tells.{Alike, Other, Begins, IsFound, IsUnexpected, IsTooDeep, Tells}
use Rattle.seuss_parser.proofs.CallReads.{own_brackets}
use Rattle.seuss_parser.proofs.StatementReads.{own_blocks}
use Rattle.seuss_parser.proofs.DeclarationReads.{reads-program}

-- what stands before the same words is the same
pub append-cancel_right : {A : Type 0} (xs ys rest : List A) → xs ++ rest ≡ ys ++ rest → xs ≡ ys
append-cancel_right [] [] rest same = refl
append-cancel_right [] (y ∷ ys) rest same =
    let long : length rest ≡ suc (length (ys ++ rest)) = ap (λ zs. length zs) same in
    let parts : length (ys ++ rest) ≡ length ys + length rest = length-append ys rest in
    absurd (omega arith)
append-cancel_right (x ∷ xs) [] rest same =
    let long : suc (length (xs ++ rest)) ≡ length rest = ap (λ zs. length zs) same in
    let parts : length (xs ++ rest) ≡ length xs + length rest = length-append xs rest in
    absurd (omega arith)
append-cancel_right (x ∷ xs) (y ∷ ys) rest same =
    let first : x ≡ y = cc in
    let others : xs ++ rest ≡ ys ++ rest = cc in
    ap (λ z. z ∷ xs) first ∙ ap (λ zs. y ∷ zs) (append-cancel_right xs ys rest others)

-- pieces at one place, behind as many words
pub same-place : (front others : List Piece) (piece last : Piece) (back rest : List Piece) →
    words_in front ≡ words_in others → others ++ last ∷ rest ≡ front ++ piece ∷ back → last ≡ piece
same-place [] [] piece last back rest words same = cc
same-place [] (other ∷ others) piece last back rest words same = absurd (cc)
same-place (first ∷ front) [] piece last back rest words same = absurd (cc)
same-place (first ∷ front) (other ∷ others) piece last back rest words same =
    let behind : others ++ last ∷ rest ≡ front ++ piece ∷ back = cc in
    let before : words_in front ≡ words_in others = cc in
    same-place front others piece last back rest before behind

-- what reading tells of programs of some depth
told : (any blocks : ℕ) (words : List Word) (read : Read Tree) → read_program 0 words ≡ read →
    Tells (IsProgram own_brackets own_blocks) (IsProgram any blocks) nothing 0 words read
told any blocks words read is =
    subst (λ r. Tells (IsProgram own_brackets own_blocks) (IsProgram any blocks) nothing 0 words r) is
    ((reads-program 1 any blocks).tells 0 words (omega arith))

begins-program : (pieces : List Piece) → Begins (IsProgram own_brackets own_blocks) 0 pieces →
    BeginsProgram pieces
begins-program pieces begun = record {
  rest = begun.rest;
  words = begun.words;
  tree = begun.value;
  derives = record {
    brackets = own_brackets;
    blocks = own_blocks;
    unused = begun.left;
    derives = begun.spelled;
  };
}

-- a whole program, against words that were read
whole-other : (pieces : List Piece) (tree : Tree) (d : Derives pieces tree) (taken rest behind : List Word) →
    words_in pieces ≡ taken ++ behind → Alike rest behind →
    Other (IsProgram d.brackets d.blocks) nothing 0 taken rest
whole-other pieces tree d taken rest behind are alike = record {
  value = tree;
  pieces = pieces;
  left = d.unused;
  after = [];
  behind = behind;
  spelled = d.derives;
  fits = tt;
  words_are = append-nothing (words_in pieces) ∙ are;
  alike = alike;
}

-- No program goes on behind these words as the others do.
pub record NoneGoesOn (front rest : List Word) : Type 0 where
  pub none : (pieces : List Piece) (tree : Tree) → Derives pieces tree → (behind : List Word) →
      words_in pieces ≡ front ++ behind → Alike rest behind → ⊥

-- the words of a program that begins with others
pub begun-words : (pieces rest : List Piece) (front : List Word) (word : Word) →
    words_in pieces ≡ front ++ word ∷ [] →
    words_in (pieces ++ rest) ≡ front ++ word ∷ words_in rest
begun-words pieces rest front word are =
    words_in-append pieces rest ∙ ap (λ ws. ws ++ words_in rest) are
    ∙ append_assoc front (word ∷ []) (words_in rest)

syntax-at_word : (front : List Word) (word : Word) (rest : List Word) → NoneGoesOn front (word ∷ rest) →
    IsNotGoneOn front (word ∷ rest) word.line
syntax-at_word front word rest ends = (
  refl,
  λ viable. ends.none (viable.pieces ++ viable.begins.rest) viable.begins.tree viable.begins.derives
      (word ∷ words_in viable.begins.rest)
      (begun-words viable.pieces viable.begins.rest front word viable.words_are) refl,
)

syntax-at_end : (front : List Word) → NoneGoesOn front [] → IsNotGoneOn front [] (last_line front)
syntax-at_end front ends = (
  refl,
  λ pieces tree derives are. ends.none pieces tree derives [] (are ∙ sym (append-nothing front)) tt,
)

-- the words before those that are left don't depend on how they were found
pub same-front : (words front other rest : List Word) → words ≡ front ++ rest → words ≡ other ++ rest →
    front ≡ other
same-front words front other rest one two = append-cancel_right front other rest (sym one ∙ two)

-- what is found with nothing left is the one program that the words are
pub found-parses : (words : List Word) (tree : Tree) (left : ℕ) → read_program 0 words ≡ Got tree left [] →
    Parses (Ok tree) words
unfolding whole-other
found-parses words tree left got = (program, λ other o. unique other o)
  where
    program : AreProgram words tree
    program =
        let found = told 0 0 words (Got tree left []) got in record {
          pieces = found.pieces;
          derives = record {
            brackets = own_brackets;
            blocks = own_blocks;
            unused = left;
            derives = found.spelled;
          };
          kept = found.kept;
          words_are = sym (found.words_are ∙ append-nothing (words_in found.pieces));
        }

    unique : (other : Tree) → AreProgram words other → other ≡ tree
    unique other o =
        let found = told o.derives.brackets o.derives.blocks words (Got tree left []) got in
        (found.only (whole-other o.pieces other o.derives (words_in found.pieces) [] []
        (o.words_are ∙ found.words_are) tt)).value_same

-- what is found with words left goes on no further
pub more-parses : (words : List Word) (tree : Tree) (left : ℕ) (word : Word) (rest : List Word) →
    read_program 0 words ≡ Got tree left (word ∷ rest) → Parses (Err (Syntax word.line)) words
unfolding whole-other
more-parses words tree left word rest got = record {
  front = front;
  rest = word ∷ rest;
  words_are = base.words_are;
  begins = record {
    pieces = base.pieces;
    kept = base.kept;
    words_are = refl;
    begins = record {
      rest = [];
      words = All-nil IsWord;
      tree = tree;
      derives = record {
        brackets = own_brackets;
        blocks = own_blocks;
        unused = left;
        derives = subst (λ ps. IsProgram own_brackets own_blocks tree 0 ps left)
            (sym (append-nothing base.pieces)) base.spelled;
      };
    };
  };
  ends = syntax-at_word front word rest (record { none = none });
}
  where
    base : IsFound (IsProgram own_brackets own_blocks) (IsProgram 0 0) nothing 0 words tree left
        (word ∷ rest)
    base = told 0 0 words (Got tree left (word ∷ rest)) got

    front : List Word
    front = words_in base.pieces

    none : (pieces : List Piece) (other : Tree) → Derives pieces other → (behind : List Word) →
        words_in pieces ≡ words_in base.pieces ++ behind → Alike (word ∷ rest) behind → ⊥
    none pieces other d [] are alike = alike
    none pieces other d (next ∷ behind) are alike =
        let found = told d.brackets d.blocks words (Got tree left (word ∷ rest)) got in
        let front_same : words_in base.pieces ≡ words_in found.pieces = same-front words
        (words_in base.pieces)
        (words_in found.pieces) (word ∷ rest) base.words_are found.words_are in
        let are_found : words_in pieces ≡ words_in found.pieces ++ (next ∷ behind) =
        are ∙ ap (λ ws. ws ++ (next ∷ behind)) front_same in
        let same = found.only (whole-other pieces other d (words_in found.pieces) (word ∷ rest)
        (next ∷ behind)
        are_found alike) in
        let words_same : words_in found.pieces ++ [] ≡ words_in found.pieces ++ (next ∷ behind) =
        append-nothing (words_in found.pieces) ∙ sym (ap words_in same.pieces_same) ∙ are_found in
        let nothing_is : [] ≡ next ∷ behind = append-cancel (words_in found.pieces) [] (next ∷ behind)
        words_same in
        absurd (cc)

-- a refusal of a word, or of the end
module _ (words rest : List Word) (is : read_program 0 words ≡ Refused Unexpected rest) where
  refused-base : IsUnexpected (IsProgram own_brackets own_blocks) (IsProgram 0 0) nothing 0 words rest
  refused-base = told 0 0 words (Refused Unexpected rest) is

  refused-begins : IsBeginning (words_in refused-base.pieces)
  refused-begins = record {
    pieces = refused-base.pieces;
    kept = refused-base.kept;
    words_are = refl;
    begins = begins-program refused-base.pieces refused-base.live;
  }

  refused-none : NoneGoesOn (words_in refused-base.pieces) rest
  refused-none = record {
    none = λ pieces tree d behind are alike.
        let first = told d.brackets d.blocks words (Refused Unexpected rest) is in
        let front_same : words_in refused-base.pieces ≡ words_in first.pieces =
        same-front words (words_in refused-base.pieces) (words_in first.pieces) rest refused-base.words_are
        first.words_are in
        first.dead (whole-other pieces tree d (words_in first.pieces) rest behind
        (are ∙ ap (λ ws. ws ++ behind) front_same) alike);
  }

pub unexpected-parses : (words : List Word) (word : Word) (rest : List Word) →
    read_program 0 words ≡ Refused Unexpected (word ∷ rest) → Parses (Err (Syntax word.line)) words
unexpected-parses words word rest is = record {
  front = words_in (refused-base words (word ∷ rest) is).pieces;
  rest = word ∷ rest;
  words_are = (refused-base words (word ∷ rest) is).words_are;
  begins = refused-begins words (word ∷ rest) is;
  ends = syntax-at_word (words_in (refused-base words (word ∷ rest) is).pieces) word rest
      (refused-none words (word ∷ rest) is);
}

pub ended-parses : (words : List Word) → read_program 0 words ≡ Refused Unexpected [] →
    Parses (Err (Syntax (last_line words))) words
ended-parses words is =
    let front = words_in (refused-base words [] is).pieces in
    let all : words ≡ front = (refused-base words [] is).words_are ∙ append-nothing front in
    subst (λ line. IsSyntax words line) (ap last_line (sym all)) (record {
      front = front;
      rest = [];
      words_are = (refused-base words [] is).words_are;
      begins = refused-begins words [] is;
      ends = syntax-at_end front (refused-none words [] is);
    })

-- a word that passes a limit
pub deep-parses : (words : List Word) (word : Word) (rest : List Word) →
    read_program 0 words ≡ Refused TooDeep (word ∷ rest) → Parses (Err (Nesting word.line)) words
unfolding whole-other
deep-parses words word rest is = record {
  front = words_in base.pieces;
  word = word;
  rest = rest;
  words_are = base.words_are;
  line_is = refl;
  passes = record {
    pieces = base.pieces;
    kept = base.kept;
    words_are = refl;
    begins = begins-program (base.pieces ++ record { word = word; passes = true } ∷ [])
        (subst (λ w. Begins (IsProgram own_brackets own_blocks) 0
        (base.pieces ++ record { word = w; passes = true } ∷ [])) (first_word base.rest_is) base.live);
    always = λ others last begun front_is word_is. always others last begun front_is word_is;
  };
}
  where
    base : IsTooDeep (IsProgram own_brackets own_blocks) (IsProgram 0 0) nothing 0 words (word ∷ rest)
    base = told 0 0 words (Refused TooDeep (word ∷ rest)) is

    first_word : {next : Word} {behind : List Word} → word ∷ rest ≡ next ∷ behind → next ≡ word
    first_word same = cc

    always : (others : List Piece) (last : Piece) → BeginsProgram (others ++ last ∷ []) →
        words_in others ≡ words_in base.pieces → last.word ≡ word → last.passes ≡ true
    always others last begun front_is word_is =
        let d = begun.derives in
        let first = told d.brackets d.blocks words (Refused TooDeep (word ∷ rest)) is in
        let front_same : words_in base.pieces ≡ words_in first.pieces = same-front words
        (words_in base.pieces)
        (words_in first.pieces) (word ∷ rest) base.words_are first.words_are in
        let begins_are : words_in (others ++ last ∷ []) ≡ words_in first.pieces ++ last.word ∷ [] =
        words_in-append others (last ∷ []) ∙ ap (λ ws. ws ++ last.word ∷ []) (front_is ∙ front_same) in
        let past = first.passes (whole-other ((others ++ last ∷ []) ++ begun.rest) begun.tree d
        (words_in first.pieces) (word ∷ rest) (last.word ∷ words_in begun.rest)
        (begun-words (others ++ last ∷ []) begun.rest (words_in first.pieces) last.word begins_are)
        (sym word_is)) in
        let same : last ≡ record { word = first.word; passes = true } =
        same-place past.front others (record { word = first.word; passes = true }) last past.back begun.rest
        (past.front_is ∙ sym front_same ∙ sym front_is)
        (sym (append_assoc others (last ∷ []) begun.rest) ∙ past.pieces_are) in
        ap (λ (p : Piece). p.passes) same

-- at the end of the words no limit is passed
pub deep-not_end : (words : List Word) → read_program 0 words ≡ Refused TooDeep [] → ⊥
deep-not_end words is =
    let first = told 0 0 words (Refused TooDeep []) is in
    let same : [] ≡ first.word ∷ first.behind = first.rest_is in
    absurd (cc)

-- what is answered where this was read
abbrev pub answer_of : List Word → Read Tree → Result Tree ParseRefusal
answer_of words (Got tree left []) = Ok tree
answer_of words (Got tree left (word ∷ rest)) = Err (Syntax word.line)
answer_of words (Refused Unexpected []) = Err (Syntax (last_line words))
answer_of words (Refused Unexpected (word ∷ rest)) = Err (Syntax word.line)
answer_of words (Refused TooDeep []) = Err (Nesting 1)
answer_of words (Refused TooDeep (word ∷ rest)) = Err (Nesting word.line)

-- Reading a program, and looking for the end of the words, answers what the parser is to answer.
pub program-answers : (words : List Word) (read : Read Tree) → read_program 0 words ≡ read →
    Parses (answer_of words read) words
program-answers words (Got tree left []) is = found-parses words tree left is
program-answers words (Got tree left (word ∷ rest)) is = more-parses words tree left word rest is
program-answers words (Refused Unexpected []) is = ended-parses words is
program-answers words (Refused Unexpected (word ∷ rest)) is = unexpected-parses words word rest is
program-answers words (Refused TooDeep []) is = absurd (deep-not_end words is)
program-answers words (Refused TooDeep (word ∷ rest)) is = deep-parses words word rest is
