-- What reading tells of phrases: what is found is spelled, and nothing else could have been; what is refused
-- goes on nothing, or passes a limit.
use Rattle.std.proofs.Common.{◌≡◌, ℕ, ◌<◌, ◌≤◌, true, List, [], ◌∷◌, ◌++◌, All}
use Rattle.seuss_parser.specs.Phrases.{Piece, words_in, AreKept, Phrase}
use Rattle.seuss_parser.specs.Readings.{Read, Got, Refused, Reading, Unexpected, TooDeep}
use Rattle.seuss_parser.specs.Spelling.{IsWord}
use Rattle.seuss_parser.specs.declared.word.Word.{Word}
use Rattle.seuss_parser.proofs.Sets.{Sorts, has, Follows}

-- both words are at their end, or begin with the same word
abbrev pub Alike : List Word → List Word → Type 0
Alike [] [] = Unit {0}
Alike [] (other ∷ behind) = ⊥
Alike (word ∷ rest) [] = ⊥
Alike (word ∷ rest) (other ∷ behind) = word ≡ other

-- any phrase with what may follow it, whose words are those taken and the next one behind them
pub record Other {A : Type 0} (Q : Phrase A) (may : Sorts) (room : ℕ) (taken rest : List Word) : Type 0 where
  pub value : A
  pub pieces : List Piece
  pub left : ℕ
  pub after : List Word
  pub behind : List Word
  pub spelled : Q value room pieces left
  pub fits : Follows may after
  pub words_are : words_in pieces ++ after ≡ taken ++ behind
  pub alike : Alike rest behind

-- it has this value and these pieces
pub record IsSame {A : Type 0} {Q : Phrase A} {may : Sorts} {room : ℕ} {taken rest : List Word}
    (value : A) (pieces : List Piece) (left : ℕ) (other : Other Q may room taken rest) : Type 0 where
  pub value_same : other.value ≡ value
  pub pieces_same : other.pieces ≡ pieces
  pub left_same : other.left ≡ left

-- the pieces begin a phrase, whose other words are of any text
pub record Begins {A : Type 0} (P : Phrase A) (room : ℕ) (pieces : List Piece) : Type 0 where
  pub value : A
  pub rest : List Piece
  pub left : ℕ
  pub words : All IsWord (words_in rest)
  pub spelled : P value room (pieces ++ rest) left

-- behind the words taken, the next word passes a limit
pub record PassesAt (pieces : List Piece) (taken : List Word) (word : Word) : Type 0 where
  pub front : List Piece
  pub back : List Piece
  pub pieces_are : pieces ≡ front ++ record { word = word; passes = true } ∷ back
  pub front_is : words_in front ≡ taken

pub record IsFound {A : Type 0} (P Q : Phrase A) (may : Sorts) (room : ℕ) (words : List Word) (value : A)
    (left : ℕ) (rest : List Word) : Type 0 where
  pub pieces : List Piece
  pub kept : AreKept pieces
  pub words_are : words ≡ words_in pieces ++ rest
  pub spelled : P value room pieces left
  pub falls : left ≤ room
  pub only : (other : Other Q may room (words_in pieces) rest) → IsSame value pieces left other

pub record IsUnexpected {A : Type 0} (P Q : Phrase A) (may : Sorts) (room : ℕ) (words : List Word)
    (rest : List Word) : Type 0 where
  pub pieces : List Piece
  pub kept : AreKept pieces
  pub words_are : words ≡ words_in pieces ++ rest
  pub live : Begins P room pieces
  pub dead : Other Q may room (words_in pieces) rest → ⊥

pub record IsTooDeep {A : Type 0} (P Q : Phrase A) (may : Sorts) (room : ℕ) (words : List Word)
    (rest : List Word) : Type 0 where
  pub pieces : List Piece
  pub kept : AreKept pieces
  pub words_are : words ≡ words_in pieces ++ rest
  pub word : Word
  pub behind : List Word
  pub rest_is : rest ≡ word ∷ behind
  pub live : Begins P room (pieces ++ record { word = word; passes = true } ∷ [])
  pub passes : (other : Other Q may room (words_in pieces) rest) →
      PassesAt other.pieces (words_in pieces) word

-- what was read tells of the phrase P, and of each one of Q
abbrev pub Tells : {A : Type 0} → Phrase A → Phrase A → Sorts → ℕ → List Word → Read A → Type 0
Tells P Q may room words (Got value left rest) = IsFound P Q may room words value left rest
Tells P Q may room words (Refused Unexpected rest) = IsUnexpected P Q may room words rest
Tells P Q may room words (Refused TooDeep rest) = IsTooDeep P Q may room words rest

-- there is a phrase, with any room
pub record Sample {A : Type 0} (P : Phrase A) : Type 0 where
  pub at : (room : ℕ) → Begins P room []

-- Reading, with less room than this, tells of P, and of each one of Q that such a word may follow.
pub record Reads {A : Type 0} (P Q : Phrase A) (one : Reading A) (depth : ℕ) (may : Sorts) : Type 0 where
  pub sample : Sample P
  pub tells : (room : ℕ) (words : List Word) → room < depth → Tells P Q may room words (one room words)

-- a phrase has a word, and its first one is in the set
pub record StartsIn (set : Sorts) (pieces : List Piece) : Type 0 where
  pub first : Piece
  pub others : List Piece
  pub pieces_are : pieces ≡ first ∷ others
  pub is_in : has set first.word.sort ≡ true

pub record Firsts {A : Type 0} (Q : Phrase A) (set : Sorts) : Type 0 where
  pub at : (value : A) (room : ℕ) (pieces : List Piece) (left : ℕ) → Q value room pieces left →
      StartsIn set pieces

-- the first word of a phrase and what may follow it is in the set, if there is one
pub record Leads {A : Type 0} (Q : Phrase A) (behind : Sorts) (set : Sorts) : Type 0 where
  pub at : (value : A) (room : ℕ) (pieces : List Piece) (left : ℕ) (after : List Word) →
      Q value room pieces left → Follows behind after → Follows set (words_in pieces ++ after)
