-- Reading one word tells of the phrases of one word.
use Rattle.std.proofs.Common.{◌≡◌, ℕ, zero, suc, pred, ◌≤◌, ◌==◌, Bool, true, false, List, [], ◌∷◌, ◌++◌}
use Rattle.std.proofs.Common.{Option, Some, None, refl, sym, ap, ◌∙◌, arith}
use Rattle.std.proofs.lemmas.List.Elements.{All-nil, All-cons}
use Rattle.seuss_parser.specs.Phrases.{Piece, words_in, Phrase, OneWord, OneMark, Only}
use Rattle.seuss_parser.specs.Readings.{Got, Refused, Unexpected, TooDeep, got_word, one_word}
use Rattle.seuss_parser.specs.Readings.{one_mark, ends}
use Rattle.seuss_parser.specs.Spelling.{IsWord}
use Rattle.seuss_parser.specs.declared.word.Word.{Word}
use Rattle.seuss_parser.proofs.Sets.{Sorts, everything}
use Rattle.seuss_parser.proofs.Tells.{Alike, Other, Begins}
use Rattle.seuss_parser.proofs.Tells.{Tells, Sample, Reads}

more-than_zero : (room : ℕ) → (suc room == 0) ≡ false
more-than_zero room = grind arith

-- a word of some text that is read
pub record WordSample {A : Type 0} (reads : Word → Option A) : Type 0 where
  pub word : Word
  pub value : A
  pub is_word : IsWord word
  pub read : reads word ≡ Some value

-- one piece that is read as the value
pub record OnePiece {A : Type 0} (reads : Word → Option A) (passes : Bool) (out : ℕ) (value : A)
    (pieces : List Piece) (left : ℕ) : Type 0 where
  pub word : Word
  pub spelled : pieces ≡ record { word = word; passes = passes } ∷ []
  pub read : reads word ≡ Some value
  pub left_is : left ≡ out

-- words that begin alike begin with the same word
alike-first : (word : Word) (rest behind : List Word) (first : Word) (after : List Word) →
    Alike (word ∷ rest) behind → first ∷ after ≡ behind → first ≡ word
alike-first word rest [] first after alike same = absurd (cc)
alike-first word rest (other ∷ behind) first after alike same = cc

alike-end : (behind : List Word) (first : Word) (after : List Word) →
    Alike [] behind → first ∷ after ≡ behind → ⊥
alike-end [] first after alike same = absurd (cc)
alike-end (other ∷ behind) first after alike same = alike

module _ {A : Type 0} (reads : Word → Option A) (P : Phrase A) (room : ℕ) (passes : Bool) (out : ℕ)
    (falls : out ≤ room) (may : Sorts)
    (to : (value : A) (pieces : List Piece) (left : ℕ) → P value room pieces left →
    OnePiece reads passes out value pieces left)
    (from : (value : A) (pieces : List Piece) (left : ℕ) → OnePiece reads passes out value pieces left →
    P value room pieces left) where
  -- the words of another phrase
  other-words : (taken rest : List Word) (o : Other P may room taken rest) →
      (to o.value o.pieces o.left o.spelled).word ∷ o.after ≡ taken ++ o.behind
  other-words taken rest o =
      let one = to o.value o.pieces o.left o.spelled in
      let same : words_in o.pieces ++ o.after ≡ one.word ∷ o.after =
      ap (λ ps. words_in ps ++ o.after) one.spelled in
      sym same ∙ o.words_are

  pub nothing-tells : Begins P room [] → Tells P P may room [] (Refused Unexpected [])
  nothing-tells sample = record {
    pieces = [];
    kept = All-nil (λ (p : Piece). p.passes ≡ false);
    words_are = refl;
    live = sample;
    dead = λ o. alike-end o.behind _ o.after o.alike (other-words [] [] o);
  }

  wrong-tells : (word : Word) (rest : List Word) → Begins P room [] → reads word ≡ None →
      Tells P P may room (word ∷ rest) (Refused Unexpected (word ∷ rest))
  wrong-tells word rest sample wrong = record {
    pieces = [];
    kept = All-nil (λ (p : Piece). p.passes ≡ false);
    words_are = refl;
    live = sample;
    dead = λ o. let one = to o.value o.pieces o.left o.spelled in
        let same : one.word ≡ word =
        alike-first word rest o.behind one.word o.after o.alike (other-words [] (word ∷ rest) o) in
        let read : reads one.word ≡ Some o.value = one.read in
        let at : reads one.word ≡ None = ap reads same ∙ wrong in
        absurd (cc);
  }

  passing-tells : (word : Word) (rest : List Word) (value : A) → passes ≡ true → reads word ≡ Some value →
      Tells P P may room (word ∷ rest) (Refused TooDeep (word ∷ rest))
  passing-tells word rest value pass read = record {
    pieces = [];
    kept = All-nil (λ (p : Piece). p.passes ≡ false);
    words_are = refl;
    word = word;
    behind = rest;
    rest_is = refl;
    live = record {
      value = value;
      rest = [];
      left = out;
      words = All-nil IsWord;
      spelled = from value (record { word = word; passes = true } ∷ []) out (record {
        word = word;
        spelled = ap (λ b. record { word = word; passes = b } ∷ []) (sym pass);
        read = read;
        left_is = refl;
      });
    };
    passes = λ o. let one = to o.value o.pieces o.left o.spelled in
        let same : one.word ≡ word =
        alike-first word rest o.behind one.word o.after o.alike (other-words [] (word ∷ rest) o) in
        record {
          front = [];
          back = [];
          pieces_are = one.spelled ∙ ap (λ b. record { word = one.word; passes = b } ∷ []) pass
              ∙ ap (λ w. record { word = w; passes = true } ∷ []) same;
          front_is = refl;
        };
  }

  found-tells : (word : Word) (rest : List Word) (value : A) → passes ≡ false → reads word ≡ Some value →
      Tells P P may room (word ∷ rest) (Got value out rest)
  found-tells word rest value kept read = record {
    pieces = record { word = word; passes = passes } ∷ [];
    kept = All-cons (λ (p : Piece). p.passes ≡ false) (record { word = word; passes = passes }) [] kept
        (All-nil (λ (p : Piece). p.passes ≡ false));
    words_are = refl;
    spelled = from value (record { word = word; passes = passes } ∷ []) out (record {
      word = word;
      spelled = refl;
      read = read;
      left_is = refl;
    });
    falls = falls;
    only = λ o. let one = to o.value o.pieces o.left o.spelled in
        let words : one.word ∷ o.after ≡ word ∷ o.behind = other-words (word ∷ []) rest o in
        let same : one.word ≡ word = cc in
        let at : reads one.word ≡ Some value = ap reads same ∙ read in
        let found : reads one.word ≡ Some o.value = one.read in
        record {
          value_same = cc;
          pieces_same = one.spelled ∙ ap (λ w. record { word = w; passes = passes } ∷ []) same;
          left_same = one.left_is;
        };
  }

  pub word-tells : (word : Word) (rest : List Word) → Begins P room [] →
      Tells P P may room (word ∷ rest) (got_word passes out word rest (reads word))
  word-tells word rest sample = by_value (reads word) refl
    where
      by_pass : (b : Bool) (value : A) → passes ≡ b → reads word ≡ Some value →
          Tells P P may room (word ∷ rest) (got_word b out word rest (Some value))
      by_pass true value pass read = passing-tells word rest value pass read
      by_pass false value pass read = found-tells word rest value pass read

      by_value : (o : Option A) → reads word ≡ o →
          Tells P P may room (word ∷ rest) (got_word passes out word rest o)
      by_value None read = wrong-tells word rest sample read
      by_value (Some value) read = by_pass passes value refl read

module _ {A : Type 0} (reads : Word → Option A) (sample : WordSample reads) (depth : ℕ) where
  pub sample-word : (passes : Bool) → Sample (OneWord reads passes)
  sample-word passes = record {
    at = λ room. record {
      value = sample.value;
      rest = record { word = sample.word; passes = passes } ∷ [];
      left = room;
      words = All-cons IsWord sample.word [] sample.is_word (All-nil IsWord);
      spelled = record { word = sample.word; spelled = refl; read = sample.read; room_stays = refl };
    };
  }

  pub reads-word : (passes : Bool) → Reads (OneWord reads passes) (OneWord reads passes)
      (one_word reads passes) depth everything
  reads-word passes = record { sample = sample-word passes; tells = λ room words fits. by_words room words }
    where
      to : (room : ℕ) (value : A) (pieces : List Piece) (left : ℕ) →
          OneWord reads passes value room pieces left →
          OnePiece reads passes room value pieces left
      to room value pieces left one =
          record { word = one.word; spelled = one.spelled; read = one.read; left_is = one.room_stays }

      from : (room : ℕ) (value : A) (pieces : List Piece) (left : ℕ) →
          OnePiece reads passes room value pieces left → OneWord reads passes value room pieces left
      from room value pieces left one =
          record { word = one.word; spelled = one.spelled; read = one.read; room_stays = one.left_is }

      by_words : (room : ℕ) (words : List Word) → Tells (OneWord reads passes) (OneWord reads passes)
          everything room words (one_word reads passes room words)
      by_words room [] = nothing-tells reads (OneWord reads passes) room passes room (omega arith) everything
          (to room) (from room) ((sample-word passes).at room)
      by_words room (word ∷ rest) = word-tells reads (OneWord reads passes) room passes room (omega arith)
          everything (to room) (from room) word rest ((sample-word passes).at room)

  pub sample-mark : Sample (OneMark reads)
  sample-mark = record {
    at = λ room. record {
      value = sample.value;
      rest = record { word = sample.word; passes = room == 0 } ∷ [];
      left = pred room;
      words = All-cons IsWord sample.word [] sample.is_word (All-nil IsWord);
      spelled = record { word = sample.word; spelled = refl; read = sample.read; room_falls = refl };
    };
  }

  pub reads-mark : Reads (OneMark reads) (OneMark reads) (one_mark reads) depth everything
  reads-mark = record { sample = sample-mark; tells = λ room words fits. by_words room words }
    where
      to : (room : ℕ) (value : A) (pieces : List Piece) (left : ℕ) → OneMark reads value room pieces left →
          OnePiece reads (room == 0) (pred room) value pieces left
      to room value pieces left one =
          record { word = one.word; spelled = one.spelled; read = one.read; left_is = one.room_falls }

      from : (room : ℕ) (value : A) (pieces : List Piece) (left : ℕ) →
          OnePiece reads (room == 0) (pred room) value pieces left → OneMark reads value room pieces left
      from room value pieces left one =
          record { word = one.word; spelled = one.spelled; read = one.read; room_falls = one.left_is }

      to_more : (room : ℕ) (value : A) (pieces : List Piece) (left : ℕ) →
          OneMark reads value (suc room) pieces left → OnePiece reads false room value pieces left
      to_more room value pieces left one = record {
        word = one.word;
        spelled = one.spelled ∙ ap (λ b. record { word = one.word; passes = b } ∷ []) (more-than_zero room);
        read = one.read;
        left_is = one.room_falls;
      }

      from_more : (room : ℕ) (value : A) (pieces : List Piece) (left : ℕ) →
          OnePiece reads false room value pieces left → OneMark reads value (suc room) pieces left
      from_more room value pieces left one = record {
        word = one.word;
        spelled = one.spelled ∙
            ap (λ b. record { word = one.word; passes = b } ∷ []) (sym (more-than_zero room));
        read = one.read;
        room_falls = one.left_is;
      }

      by_words : (room : ℕ) (words : List Word) →
          Tells (OneMark reads) (OneMark reads) everything room words (one_mark reads room words)
      by_words room [] = nothing-tells reads (OneMark reads) room (room == 0) (pred room) (omega arith)
          everything (to room) (from room) (sample-mark.at room)
      by_words zero (word ∷ rest) = word-tells reads (OneMark reads) 0 true 0 (omega arith)
          everything (to 0) (from 0) word rest (sample-mark.at 0)
      by_words (suc room) (word ∷ rest) = word-tells reads (OneMark reads) (suc room) false room
          (omega arith)
          everything (to_more room) (from_more room) word rest (sample-mark.at (suc room))

pub reads-ends : {A : Type 0} (this : A) (depth : ℕ) →
    Reads (Only this) (Only this) (ends this) depth everything
reads-ends this depth = record {
  sample = record {
    at = λ room. record {
      value = this;
      rest = [];
      left = room;
      words = All-nil IsWord;
      spelled = record { is_this = refl; spelled = refl; room_stays = refl };
    };
  };
  tells = λ room words fits. record {
    pieces = [];
    kept = All-nil (λ (p : Piece). p.passes ≡ false);
    words_are = refl;
    spelled = record { is_this = refl; spelled = refl; room_stays = refl };
    falls = omega arith;
    only = λ o. record {
      value_same = o.spelled.is_this;
      pieces_same = o.spelled.spelled;
      left_same = o.spelled.room_stays;
    };
  };
}
