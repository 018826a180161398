-- Phrases: which words spell a value. A phrase is a relation of a value, the marks that there is room for
-- in the expression around it, the pieces, and the room that they leave. A piece is a word, and whether it
-- passes a limit where it stands.
use Rattle.std.specs.Prelude.{◌≡◌, ℕ, pred, ◌==◌, Bool, false, List, [], ◌∷◌, ◌++◌, ◌⊎◌, Option, Some, None}
use Rattle.std.specs.Prelude.{map, All}
use Rattle.seuss_parser.specs.declared.word.Word.{Word}

infixl 10 ◌>>=◌
infixl 10 ◌>>◌
-- a word of a phrase, and whether it passes a limit where it stands
pub record Piece : Type 0 where
  pub word : Word
  pub passes : Bool

-- the words of pieces
abbrev pub words_in : List Piece → List Word
words_in pieces = map (λ (p : Piece). p.word) pieces

-- none of the pieces passes a limit
abbrev pub AreKept : List Piece → Type 0
AreKept pieces = All (λ (p : Piece). p.passes ≡ false) pieces

-- what is spelled, by the value, the room before, the pieces and the room after
abbrev pub Phrase : Type 0 → Type 1
Phrase A = A → ℕ → List Piece → ℕ → Type 0

-- one word that is read as the value; `passes` says whether it passes a limit here
pub record OneWord {A : Type 0} (reads : Word → Option A) (passes : Bool) (value : A) (room : ℕ)
    (pieces : List Piece) (left : ℕ) : Type 0 where
  pub word : Word
  pub spelled : pieces ≡ record { word = word; passes = passes } ∷ []
  pub read : reads word ≡ Some value
  pub room_stays : left ≡ room

-- one word that is read as the value and counts as a mark: it passes the limit where no room is left
pub record OneMark {A : Type 0} (reads : Word → Option A) (value : A) (room : ℕ) (pieces : List Piece)
    (left : ℕ) : Type 0 where
  pub word : Word
  pub spelled : pieces ≡ record { word = word; passes = room == 0 } ∷ []
  pub read : reads word ≡ Some value
  pub room_falls : left ≡ pred room

-- a phrase, and after it one that may depend on its value
pub record Then {A B : Type 0} (P : Phrase A) (Q : A → Phrase B) (value : B) (room : ℕ)
    (pieces : List Piece) (left : ℕ) : Type 0 where
  pub first : A
  pub front : List Piece
  pub between : ℕ
  pub back : List Piece
  pub spelled : pieces ≡ front ++ back
  pub begins : P first room front between
  pub goes_on : Q first value between back left

-- no words, and this value
pub record Only {A : Type 0} (this : A) (value : A) (room : ℕ) (pieces : List Piece) (left : ℕ) : Type 0
  where
    pub is_this : value ≡ this
    pub spelled : pieces ≡ []
    pub room_stays : left ≡ room

-- nothing spells a value
abbrev pub Nothing : {A : Type 0} → Phrase A
Nothing value room pieces left = ⊥

-- one of two phrases
abbrev pub Either : {A : Type 0} → Phrase A → Phrase A → Phrase A
Either P Q value room pieces left = P value room pieces left ⊎ Q value room pieces left

-- a phrase, or nothing
abbrev pub Optional : {A : Type 0} → Phrase A → Phrase (Option A)
Optional P None room pieces left = (pieces ≡ []) × (left ≡ room)
Optional P (Some value) room pieces left = P value room pieces left

-- any number of phrases, one after the other
abbrev pub Many : {A : Type 0} → Phrase A → Phrase (List A)
Many P [] room pieces left = (pieces ≡ []) × (left ≡ room)
Many P (value ∷ values) room pieces left =
    (front : List Piece) × (between : ℕ) × (back : List Piece) × (pieces ≡ front ++ back) ×
    P value room front between × Many P values between back left

-- an expression that no other one contains, with room for so many marks
pub record Whole {A : Type 0} (marks : ℕ) (P : Phrase A) (value : A) (room : ℕ) (pieces : List Piece)
    (left : ℕ) : Type 0 where
  pub unused : ℕ
  pub spelled : P value marks pieces unused
  pub room_stays : left ≡ room

-- the same for the `do` of a grammar
abbrev pub ◌>>=◌ : {A B : Type 0} → Phrase A → (A → Phrase B) → Phrase B
(P >>= Q) value room pieces left = Then P Q value room pieces left

-- where the first value doesn't matter
abbrev pub ◌>>◌ : {A B : Type 0} → Phrase A → Phrase B → Phrase B
(P >> Q) value room pieces left = Then P (λ first. Q) value room pieces left
