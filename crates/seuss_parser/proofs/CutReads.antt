-- Reading sees the words that it takes and the next one alone: where fewer words stand behind those taken, it
-- finds the same.
use Rattle.std.proofs.Common.{◌≡◌, ℕ, zero, suc, Bool, true, false, cond, List, [], ◌∷◌, ◌++◌, refl, sym, ap}
use Rattle.std.proofs.Common.{◌∙◌, append_assoc, Option, Some, None}
use Rattle.seuss_parser.specs.Readings.{Read, Got, Refused, Reading, Unexpected, TooDeep, read_then}
use Rattle.seuss_parser.specs.Readings.{got_word, got_mark, one_word, one_mark, ends, either, optional}
use Rattle.seuss_parser.specs.Readings.{whole}
use Rattle.seuss_parser.specs.declared.word.Word.{Word}
use Rattle.seuss_parser.proofs.Sets.{Sorts}
use Rattle.seuss_parser.proofs.ChoiceReads.{TestsFirst}

-- these words were taken, and what was found is found again, wherever the words behind are cut off
pub record FoundAgain {A : Type 0} (one : Reading A) (room : ℕ) (words : List Word) (value : A) (left : ℕ)
    (rest : List Word) : Type 0 where
  pub taken : List Word
  pub words_are : words ≡ taken ++ rest
  pub again : (mid back : List Word) → rest ≡ mid ++ back → one room (taken ++ mid) ≡ Got value left mid

-- these words were taken, and are refused at their end where none stand behind them
pub record RefusedAgain {A : Type 0} (one : Reading A) (room : ℕ) (words rest : List Word) : Type 0 where
  pub taken : List Word
  pub words_are : words ≡ taken ++ rest
  pub again : one room taken ≡ Refused Unexpected []

-- what was read is read again of fewer words
abbrev pub Again : {A : Type 0} → Reading A → ℕ → List Word → Read A → Type 0
Again one room words (Got value left rest) = FoundAgain one room words value left rest
Again one room words (Refused Unexpected rest) = RefusedAgain one room words rest
Again one room words (Refused TooDeep rest) = Unit {0}

-- whatever is read is read again of fewer words
pub record Cuts {A : Type 0} (one : Reading A) : Type 0 where
  pub at : (room : ℕ) (words : List Word) → Again one room words (one room words)

pub cut-word : {A : Type 0} (reads : Word → Option A) (passes : Bool) → Cuts (one_word reads passes)
cut-word {A} reads passes = record { at = at }
  where
    by_value : (room : ℕ) (word : Word) (rest : List Word) (o : Option A) → reads word ≡ o → (b : Bool) →
        passes ≡ b → Again (one_word reads passes) room (word ∷ rest) (got_word b room word rest o)
    by_value room word rest None is b pass = record { taken = []; words_are = refl; again = refl }
    by_value room word rest (Some value) is true pass = tt
    by_value room word rest (Some value) is false pass = record {
      taken = word ∷ [];
      words_are = refl;
      again = λ mid back are. ap (λ o. got_word passes room word mid o) is
          ∙ ap (λ b. got_word b room word mid (Some value)) pass;
    }

    at : (room : ℕ) (words : List Word) →
        Again (one_word reads passes) room words (one_word reads passes room words)
    at room [] = record { taken = []; words_are = refl; again = refl }
    at room (word ∷ rest) = by_value room word rest (reads word) refl passes refl

pub cut-mark : {A : Type 0} (reads : Word → Option A) → Cuts (one_mark reads)
cut-mark {A} reads = record { at = at }
  where
    by_value : (room : ℕ) (word : Word) (rest : List Word) (o : Option A) → reads word ≡ o →
        Again (one_mark reads) room (word ∷ rest) (got_mark room word rest o)
    by_value zero word rest None is = record { taken = []; words_are = refl; again = refl }
    by_value zero word rest (Some value) is = tt
    by_value (suc left) word rest None is = record { taken = []; words_are = refl; again = refl }
    by_value (suc left) word rest (Some value) is = record {
      taken = word ∷ [];
      words_are = refl;
      again = λ mid back are. ap (λ o. got_mark (suc left) word mid o) is;
    }

    at : (room : ℕ) (words : List Word) → Again (one_mark reads) room words (one_mark reads room words)
    at room [] = record { taken = []; words_are = refl; again = refl }
    at room (word ∷ rest) = by_value room word rest (reads word) refl

pub cut-ends : {A : Type 0} (value : A) → Cuts (ends value)
cut-ends value = record {
  at = λ room words. record { taken = []; words_are = refl; again = λ mid back are. refl };
}

module _ {A B : Type 0} (one : Reading A) (next : A → Reading B) where
  abbrev Both : Reading B
  Both room words = read_then (one room words) next

  -- behind what the first reading found
  second-again : (room : ℕ) (words : List Word) (x : A) (between : ℕ) (rest : List Word) →
      FoundAgain one room words x between rest → (read : Read B) → Again (next x) between rest read →
      Again Both room words read
  second-again room words x between rest found (Got value left last) later = record {
    taken = found.taken ++ later.taken;
    words_are = found.words_are ∙ ap (λ ws. found.taken ++ ws) later.words_are
        ∙ sym (append_assoc found.taken later.taken last);
    again = λ mid back are.
        ap (λ ws. read_then (one room ws) next) (append_assoc found.taken later.taken mid)
        ∙ ap (λ r. read_then r next) (found.again (later.taken ++ mid) back (later.words_are
        ∙ ap (λ ws. later.taken ++ ws) are ∙ sym (append_assoc later.taken mid back)))
        ∙ later.again mid back are;
  }
  second-again room words x between rest found (Refused Unexpected last) later = record {
    taken = found.taken ++ later.taken;
    words_are = found.words_are ∙ ap (λ ws. found.taken ++ ws) later.words_are
        ∙ sym (append_assoc found.taken later.taken last);
    again = ap (λ r. read_then r next) (found.again later.taken last later.words_are) ∙ later.again;
  }
  second-again room words x between rest found (Refused TooDeep last) later = tt

  first-again : (room : ℕ) (words : List Word) (read : Read A) → Again one room words read →
      ((x : A) → Cuts (next x)) → Again Both room words (read_then read next)
  first-again room words (Got x between rest) found cuts =
      second-again room words x between rest found (next x between rest) ((cuts x).at between rest)
  first-again room words (Refused Unexpected rest) refused cuts = record {
    taken = refused.taken;
    words_are = refused.words_are;
    again = ap (λ r. read_then r next) refused.again;
  }
  first-again room words (Refused TooDeep rest) refused cuts = tt

-- one reading and another behind it
pub cut-then : {A B : Type 0} {one : Reading A} {next : A → Reading B} → Cuts one →
    ((x : A) → Cuts (next x)) → Cuts (λ room words. read_then (one room words) next)
cut-then {A} {B} {one} {next} first cuts = record {
  at = λ room words. first-again one next room words (one room words) (first.at room words) cuts;
}

-- a value that is changed at the end
pub cut-last : {A B : Type 0} {one : Reading A} (change : A → B) → Cuts one →
    Cuts (λ room words. read_then (one room words) (λ x. ends (change x)))
cut-last change first = cut-then first (λ x. cut-ends (change x))

-- a reading is refused where no words are left
pub record IsNoneAtEnd {A : Type 0} (one : Reading A) : Type 0 where
  pub at : (room : ℕ) → one room [] ≡ Refused Unexpected []

-- where the words begin so, the first one isn't refused as unexpected
pub record IsReady {A : Type 0} (starts : List Word → Bool) (one : Reading A) : Type 0 where
  pub at : (room : ℕ) (word : Word) (words : List Word) → starts (word ∷ words) ≡ true →
      one room (word ∷ words) ≡ Refused Unexpected (word ∷ words) → ⊥

module _ (starts : List Word → Bool) (set : Sorts) (tests : TestsFirst starts set) where
  -- the test looks at the first word alone
  pub same-start : (b : Bool) (word : Word) (words others : List Word) → starts (word ∷ words) ≡ b →
      starts (word ∷ others) ≡ b
  same-start b word words others is = tests.some word others ∙ sym (tests.some word words) ∙ is

  pub ends-start : (words mid back : List Word) → starts words ≡ false → words ≡ mid ++ back →
      starts mid ≡ false
  ends-start words [] back is are = tests.none
  ends-start words (word ∷ mid) back is are =
      same-start false word (mid ++ back) mid (ap starts (sym are) ∙ is)

  -- one of two readings that take a word
  module _ {A : Type 0} (one other : Reading A) (one-none : IsNoneAtEnd one)
      (other-none : IsNoneAtEnd other) where
    abbrev Chosen : Bool → Reading A
    Chosen b room words = cond b (one room words) (other room words)

    chosen-none : (b : Bool) (room : ℕ) → Chosen b room [] ≡ Refused Unexpected []
    chosen-none true room = one-none.at room
    chosen-none false room = other-none.at room

    either-found : (b : Bool) (room : ℕ) (words : List Word) (value : A) (left : ℕ)
        (rest taken : List Word) → starts words ≡ b → words ≡ taken ++ rest →
        ((mid back : List Word) → rest ≡ mid ++ back → Chosen b room (taken ++ mid) ≡ Got value left mid) →
        FoundAgain (either starts one other) room words value left rest
    either-found b room words value left rest [] is are again =
        let at_end : Chosen b room [] ≡ Got value left [] = again [] rest refl in
        let none : Chosen b room [] ≡ Refused Unexpected [] = chosen-none b room in
        let same : Refused Unexpected [] ≡ Got value left [] = sym none ∙ at_end in
        absurd (cc)
    either-found b room words value left rest (word ∷ taken) is are again = record {
      taken = word ∷ taken;
      words_are = are;
      again = λ mid back rest_is.
          ap (λ c. cond c (one room (word ∷ taken ++ mid)) (other room (word ∷ taken ++ mid)))
          (same-start b word (taken ++ rest) (taken ++ mid) (ap starts (sym are) ∙ is))
          ∙ again mid back rest_is;
    }

    either-refused : (b : Bool) (room : ℕ) (words rest taken : List Word) → starts words ≡ b →
        words ≡ taken ++ rest → Chosen b room taken ≡ Refused Unexpected [] →
        RefusedAgain (either starts one other) room words rest
    either-refused b room words rest [] is are again = record {
      taken = [];
      words_are = are;
      again = ap (λ c. cond c (one room []) (other room [])) tests.none ∙ other-none.at room;
    }
    either-refused b room words rest (word ∷ taken) is are again = record {
      taken = word ∷ taken;
      words_are = are;
      again = ap (λ c. cond c (one room (word ∷ taken)) (other room (word ∷ taken)))
          (same-start b word (taken ++ rest) taken (ap starts (sym are) ∙ is)) ∙ again;
    }

    either-again : (b : Bool) (room : ℕ) (words : List Word) → starts words ≡ b → (read : Read A) →
        Again (Chosen b) room words read → Again (either starts one other) room words read
    either-again b room words is (Got value left rest) found =
        either-found b room words value left rest found.taken is found.words_are found.again
    either-again b room words is (Refused Unexpected rest) refused =
        either-refused b room words rest refused.taken is refused.words_are refused.again
    either-again b room words is (Refused TooDeep rest) refused = tt

    pub cut-either : Cuts one → Cuts other → Cuts (either starts one other)
    cut-either first second = record { at = λ room words. by_test room words (starts words) refl }
      where
        by_test : (room : ℕ) (words : List Word) (b : Bool) → starts words ≡ b →
            Again (either starts one other) room words (cond b (one room words) (other room words))
        by_test room words true is = either-again true room words is (one room words) (first.at room words)
        by_test room words false is =
            either-again false room words is (other room words) (second.at room words)

  -- a reading where the words begin so, and else a value of no words
  module _ {A : Type 0} (one : Reading A) (value : A) (none : IsNoneAtEnd one)
      (ready : IsReady starts one) where
    abbrev Perhaps : Reading A
    Perhaps room words = cond (starts words) (one room words) (Got value room words)

    perhaps-found : (room : ℕ) (words : List Word) (found : A) (left : ℕ) (rest taken : List Word) →
        starts words ≡ true → words ≡ taken ++ rest →
        ((mid back : List Word) → rest ≡ mid ++ back → one room (taken ++ mid) ≡ Got found left mid) →
        FoundAgain Perhaps room words found left rest
    perhaps-found room words found left rest [] is are again =
        let at_end : one room [] ≡ Got found left [] = again [] rest refl in
        let same : Refused Unexpected [] ≡ Got found left [] = sym (none.at room) ∙ at_end in
        absurd (cc)
    perhaps-found room words found left rest (word ∷ taken) is are again = record {
      taken = word ∷ taken;
      words_are = are;
      again = λ mid back rest_is.
          ap (λ c. cond c (one room (word ∷ taken ++ mid)) (Got value room (word ∷ taken ++ mid)))
          (same-start true word (taken ++ rest) (taken ++ mid) (ap starts (sym are) ∙ is))
          ∙ again mid back rest_is;
    }

    perhaps-refused : (room : ℕ) (words rest taken : List Word) → starts words ≡ true →
        words ≡ taken ++ rest → one room words ≡ Refused Unexpected rest →
        one room taken ≡ Refused Unexpected [] → RefusedAgain Perhaps room words rest
    perhaps-refused room [] rest [] is are read again =
        let same : false ≡ true = sym tests.none ∙ is in absurd (cc)
    perhaps-refused room (word ∷ words) rest [] is are read again =
        absurd (ready.at room word words is (read ∙ ap (λ ws. Refused Unexpected ws) (sym are)))
    perhaps-refused room words rest (word ∷ taken) is are read again = record {
      taken = word ∷ taken;
      words_are = are;
      again = ap (λ c. cond c (one room (word ∷ taken)) (Got value room (word ∷ taken)))
          (same-start true word (taken ++ rest) taken (ap starts (sym are) ∙ is)) ∙ again;
    }

    pub cut-perhaps : Cuts one → Cuts Perhaps
    cut-perhaps cuts = record { at = λ room words. by_test room words (starts words) refl }
      where
        by_read : (room : ℕ) (words : List Word) → starts words ≡ true → (read : Read A) →
            one room words ≡ read → Again one room words read → Again Perhaps room words read
        by_read room words is (Got found left rest) read again =
            perhaps-found room words found left rest again.taken is again.words_are again.again
        by_read room words is (Refused Unexpected rest) read again =
            perhaps-refused room words rest again.taken is again.words_are read again.again
        by_read room words is (Refused TooDeep rest) read again = tt

        by_test : (room : ℕ) (words : List Word) (b : Bool) → starts words ≡ b →
            Again Perhaps room words (cond b (one room words) (Got value room words))
        by_test room words true is = by_read room words is (one room words) refl (cuts.at room words)
        by_test room words false is = record {
          taken = [];
          words_are = refl;
          again = λ mid back are. ap (λ c. cond c (one room mid) (Got value room mid))
              (ends-start words mid back is are);
        }

-- an expression that no other one contains
pub cut-whole : {A : Type 0} (marks : ℕ) (one : Reading A) → Cuts one → Cuts (whole marks one)
cut-whole {A} marks one cuts = record {
  at = λ room words. by_read room words (one marks words) (cuts.at marks words);
}
  where
    by_read : (room : ℕ) (words : List Word) (read : Read A) → Again one marks words read →
        Again (whole marks one) room words (read_then read (λ value left rest. Got value room rest))
    by_read room words (Got value left rest) found = record {
      taken = found.taken;
      words_are = found.words_are;
      again = λ mid back are.
          ap (λ r. read_then r (λ value left rest. Got value room rest)) (found.again mid back are);
    }
    by_read room words (Refused Unexpected rest) refused = record {
      taken = refused.taken;
      words_are = refused.words_are;
      again = ap (λ r. read_then r (λ value left rest. Got value room rest)) refused.again;
    }
    by_read room words (Refused TooDeep rest) refused = tt
