-- Reading as many as stand here sees the words that it takes and the next one alone.
use Rattle.std.proofs.Common.{◌≡◌, ℕ, zero, suc, ◌≤◌, ◌<◌, ◌+◌, Bool, true, false, cond, List, [], ◌∷◌}
use Rattle.std.proofs.Common.{◌++◌, refl, sym, ap, ◌∙◌, arith, length, length-append, append_assoc}
use Rattle.seuss_parser.specs.Readings.{Read, Got, Refused, Reading, Unexpected, TooDeep, read_then}
use Rattle.seuss_parser.specs.Readings.{many_up_to, many, with_front}
use Rattle.seuss_parser.specs.declared.word.Word.{Word}
use Rattle.seuss_parser.proofs.Sets.{Sorts}
use Rattle.seuss_parser.proofs.ChoiceReads.{TestsFirst}
use Rattle.seuss_parser.proofs.CutReads.{Again, Cuts, IsNoneAtEnd, IsReady, same-start, ends-start}

module _ (starts : List Word → Bool) (set : Sorts) (tests : TestsFirst starts set) where
  -- as many as stand here
  module _ {A : Type 0} (one : Reading A) (none : IsNoneAtEnd one) (ready : IsReady starts one)
      (cuts : Cuts one) where
    abbrev Behind : ℕ → A → Reading (List A)
    Behind n value left rest = with_front value (many_up_to n starts one left rest)

    -- what was read is read again of fewer words, with as many turns as there are words
    record FoundMany (room : ℕ) (words : List Word) (values : List A) (left : ℕ) (rest : List Word) : Type 0
      where
        taken : List Word
        words_are : words ≡ taken ++ rest
        again : (n : ℕ) (mid back : List Word) → rest ≡ mid ++ back → length (taken ++ mid) ≤ n →
            many_up_to n starts one room (taken ++ mid) ≡ Got values left mid

    record RefusedMany (room : ℕ) (words rest : List Word) : Type 0 where
      taken : List Word
      words_are : words ≡ taken ++ rest
      again : (n : ℕ) → length taken ≤ n → many_up_to n starts one room taken ≡ Refused Unexpected []

    abbrev ManyAgain : ℕ → List Word → Read (List A) → Type 0
    ManyAgain room words (Got values left rest) = FoundMany room words values left rest
    ManyAgain room words (Refused Unexpected rest) = RefusedMany room words rest
    ManyAgain room words (Refused TooDeep rest) = Unit {0}

    none-more : (n room : ℕ) (words : List Word) → starts words ≡ false →
        many_up_to n starts one room words ≡ Got [] room words
    none-more zero room words is = refl
    none-more (suc n) room words is = ap (λ c. cond c (read_then (one room words) (Behind n))
        (Got [] room words)) is

    one-more : (n room : ℕ) (words : List Word) → starts words ≡ true →
        many_up_to (suc n) starts one room words ≡ read_then (one room words) (Behind n)
    one-more n room words is = ap (λ c. cond c (read_then (one room words) (Behind n))
        (Got [] room words)) is

    no-words : (room : ℕ) (words : List Word) → starts words ≡ false →
        FoundMany room words [] room words
    no-words room words is = record {
      taken = [];
      words_are = refl;
      again = λ n mid back are short.
          none-more n room mid (ends-start starts set tests words mid back is are);
    }

    -- behind one that was found, by the words that it took
    more-found : (room : ℕ) (words : List Word) (x : A) (between : ℕ) (rest taken : List Word) →
        starts words ≡ true → words ≡ taken ++ rest →
        ((mid back : List Word) → rest ≡ mid ++ back → one room (taken ++ mid) ≡ Got x between mid) →
        (read : Read (List A)) → ManyAgain between rest read →
        ManyAgain room words (read_then read (λ values left last. Got (x ∷ values) left last))
    more-found room words x between rest [] is are again read later =
        let at_end : one room [] ≡ Got x between [] = again [] rest refl in
        let same : Refused Unexpected [] ≡ Got x between [] = sym (none.at room) ∙ at_end in
        absurd (cc)
    more-found room words x between rest (word ∷ taken) is are again (Got values left last) later = record {
      taken = word ∷ taken ++ later.taken;
      words_are = are ∙ ap (λ ws. word ∷ taken ++ ws) later.words_are
          ∙ sym (append_assoc (word ∷ taken) later.taken last);
      again = λ n mid back rest_is short. turn n mid back rest_is short;
    }
      where
        turn : (n : ℕ) (mid back : List Word) → last ≡ mid ++ back →
            length ((word ∷ taken ++ later.taken) ++ mid) ≤ n →
            many_up_to n starts one room ((word ∷ taken ++ later.taken) ++ mid) ≡ Got (x ∷ values) left mid
        turn zero mid back rest_is short = absurd (omega (arith, short))
        turn (suc n) mid back rest_is short =
            let split : (word ∷ taken ++ later.taken) ++ mid ≡ (word ∷ taken) ++ (later.taken ++ mid) =
            append_assoc (word ∷ taken) later.taken mid in
            let long : length ((word ∷ taken ++ later.taken) ++ mid)
            ≡ suc (length (taken ++ (later.taken ++ mid))) = ap (λ ws. length ws) split in
            let parts : length (taken ++ (later.taken ++ mid)) ≡ length taken + length (later.taken ++ mid) =
            length-append taken (later.taken ++ mid) in
            let shorter : length (later.taken ++ mid) ≤ n = omega (arith, short) in
            ap (λ ws. many_up_to (suc n) starts one room ws) split
            ∙ one-more n room (word ∷ taken ++ (later.taken ++ mid))
            (same-start starts set tests true word (taken ++ rest) (taken ++ (later.taken ++ mid))
            (ap starts (sym are) ∙ is))
            ∙ ap (λ r. read_then r (Behind n)) (again (later.taken ++ mid) back (later.words_are
            ∙ ap (λ ws. later.taken ++ ws) rest_is ∙ sym (append_assoc later.taken mid back)))
            ∙ ap (λ r. with_front x r) (later.again n mid back rest_is shorter)
    more-found room words x between rest (word ∷ taken) is are again (Refused Unexpected last) later =
        record {
          taken = word ∷ taken ++ later.taken;
          words_are = are ∙ ap (λ ws. word ∷ taken ++ ws) later.words_are
              ∙ sym (append_assoc (word ∷ taken) later.taken last);
          again = λ n short. turn n short;
        }
      where
        turn : (n : ℕ) → length (word ∷ taken ++ later.taken) ≤ n →
            many_up_to n starts one room (word ∷ taken ++ later.taken) ≡ Refused Unexpected []
        turn zero short = absurd (omega (arith, short))
        turn (suc n) short =
            let parts : length (taken ++ later.taken) ≡ length taken + length later.taken =
            length-append taken later.taken in
            let shorter : length later.taken ≤ n = omega (arith, short) in
            one-more n room (word ∷ taken ++ later.taken)
            (same-start starts set tests true word (taken ++ rest) (taken ++ later.taken)
            (ap starts (sym are) ∙ is))
            ∙ ap (λ r. read_then r (Behind n)) (again later.taken last later.words_are)
            ∙ ap (λ r. with_front x r) (later.again n shorter)
    more-found room words x between rest (word ∷ taken) is are again (Refused TooDeep last) later = tt

    more-refused : (room : ℕ) (words rest taken : List Word) → starts words ≡ true →
        words ≡ taken ++ rest → one room words ≡ Refused Unexpected rest →
        one room taken ≡ Refused Unexpected [] → RefusedMany room words rest
    more-refused room [] rest [] is are read again =
        let same : false ≡ true = sym tests.none ∙ is in absurd (cc)
    more-refused room (word ∷ words) rest [] is are read again =
        absurd (ready.at room word words is (read ∙ ap (λ ws. Refused Unexpected ws) (sym are)))
    more-refused room words rest (word ∷ taken) is are read again = record {
      taken = word ∷ taken;
      words_are = are;
      again = λ n short. turn n short;
    }
      where
        turn : (n : ℕ) → length (word ∷ taken) ≤ n →
            many_up_to n starts one room (word ∷ taken) ≡ Refused Unexpected []
        turn zero short = absurd (omega (arith, short))
        turn (suc n) short =
            one-more n room (word ∷ taken)
            (same-start starts set tests true word (taken ++ rest) taken (ap starts (sym are) ∙ is))
            ∙ ap (λ r. read_then r (Behind n)) again

    -- fewer words are left behind what was found
    fewer : (room : ℕ) (words : List Word) (x : A) (between : ℕ) (rest taken : List Word) →
        words ≡ taken ++ rest →
        ((mid back : List Word) → rest ≡ mid ++ back → one room (taken ++ mid) ≡ Got x between mid) →
        length rest < length words
    fewer room words x between rest [] are again =
        let at_end : one room [] ≡ Got x between [] = again [] rest refl in
        let same : Refused Unexpected [] ≡ Got x between [] = sym (none.at room) ∙ at_end in
        absurd (cc)
    fewer room words x between rest (word ∷ taken) are again =
        let long : length words ≡ suc (length (taken ++ rest)) = ap (λ ws. length ws) are in
        let parts : length (taken ++ rest) ≡ length taken + length rest = length-append taken rest in
        omega arith

    some-again : (fuel : ℕ) → ((room : ℕ) (words : List Word) → length words ≤ fuel →
        ManyAgain room words (many_up_to fuel starts one room words)) →
        (room : ℕ) (words : List Word) → length words ≤ suc fuel → (b : Bool) → starts words ≡ b →
        ManyAgain room words (cond b (read_then (one room words) (Behind fuel)) (Got [] room words))
    some-again fuel below room words long true is = by_read (one room words) refl (cuts.at room words)
      where
        by_read : (read : Read A) → one room words ≡ read → Again one room words read →
            ManyAgain room words (read_then read (Behind fuel))
        by_read (Got x between rest) read found =
            let less : length rest < length words =
            fewer room words x between rest found.taken found.words_are found.again in
            more-found room words x between rest found.taken is found.words_are found.again
            (many_up_to fuel starts one between rest) (below between rest (omega (arith, less, long)))
        by_read (Refused Unexpected rest) read refused =
            more-refused room words rest refused.taken is refused.words_are read refused.again
        by_read (Refused TooDeep rest) read refused = tt
    some-again fuel below room words long false is = no-words room words is

    many-again : (fuel room : ℕ) (words : List Word) → length words ≤ fuel →
        ManyAgain room words (many_up_to fuel starts one room words)
    many-again zero room [] long = no-words room [] tests.none
    many-again zero room (word ∷ words) long = absurd (omega (arith, long))
    many-again (suc fuel) room words long =
        some-again fuel (λ r ws short. many-again fuel r ws short) room words long (starts words) refl

    pub cut-many : Cuts (many starts one)
    cut-many = record {
      at = λ room words. once room words (many starts one room words)
          (many-again (length words) room words (omega arith));
    }
      where
        once : (room : ℕ) (words : List Word) (read : Read (List A)) → ManyAgain room words read →
            Again (many starts one) room words read
        once room words (Got values left rest) found = record {
          taken = found.taken;
          words_are = found.words_are;
          again = λ mid back are. found.again (length (found.taken ++ mid)) mid back are (omega arith);
        }
        once room words (Refused Unexpected rest) refused = record {
          taken = refused.taken;
          words_are = refused.words_are;
          again = refused.again (length refused.taken) (omega arith);
        }
        once room words (Refused TooDeep rest) refused = tt
