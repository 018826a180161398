-- Reading one of two phrases, a phrase that may be left out, and any number of them.
use Rattle.std.proofs.Common.{◌≡◌, ℕ, ◌≤◌, ◌<◌, Bool, true, false, cond, List, [], ◌∷◌, ◌++◌}
use Rattle.std.proofs.Common.{refl, sym, ap, ◌∙◌, arith, inl, inr}
use Rattle.std.specs.Prelude.{not}
use Rattle.seuss_parser.specs.Phrases.{Piece, words_in, AreKept, Phrase, Then, Either}
use Rattle.seuss_parser.specs.Readings.{Read, Got, Refused, Reading, Unexpected, TooDeep, read_then, either}
use Rattle.seuss_parser.specs.declared.word.Word.{Word}
use Rattle.seuss_parser.specs.declared.word.Sort.{Sort}
use Rattle.seuss_parser.specs.declared.word.Sort.TheVariants.{Fixed, Name as Named, Number}
use Rattle.seuss_parser.proofs.Sets.{Sorts, Follows, has, others, Part, part-has, part-follows}
use Rattle.seuss_parser.proofs.ListLemmas.{alike-behind}
use Rattle.seuss_parser.proofs.Tells.{Alike, Other, Begins}
use Rattle.seuss_parser.proofs.Tells.{Tells, Sample, Reads, Firsts, Leads}
use Rattle.seuss_parser.proofs.ThenReads.{then-tells, sample-then}

-- the words behind what was read
abbrev pub behind_of : {A : Type 0} → Read A → List Word
behind_of (Got value left rest) = rest
behind_of (Refused fault rest) = rest

pub begins-as : {A : Type 0} (P other : Phrase A) (room : ℕ) (pieces : List Piece) →
    ((value : A) (ps : List Piece) (left : ℕ) → P value room ps left → other value room ps left) →
    Begins P room pieces → Begins other room pieces
begins-as P other room pieces to begun = record {
  value = begun.value;
  rest = begun.rest;
  left = begun.left;
  words = begun.words;
  spelled = to begun.value (pieces ++ begun.rest) begun.left begun.spelled;
}

module _ {A : Type 0} (P Q P-other Q-other : Phrase A) (may behind : Sorts) (room : ℕ) (words : List Word)
  where
    -- Any phrase of the second kind that agrees with the words is one of the first kind.
    pub record Narrows (rest : List Word) : Type 0 where
      pub at : (taken : List Word) → words ≡ taken ++ rest → (o : Other Q-other behind room taken rest) →
          Q o.value room o.pieces o.left × Follows may o.after

    narrowed : (taken rest : List Word) → words ≡ taken ++ rest → Narrows rest →
        Other Q-other behind room taken rest → Other Q may room taken rest
    narrowed taken rest are narrow o =
        let at = narrow.at taken are o in record {
          value = o.value;
          pieces = o.pieces;
          left = o.left;
          after = o.after;
          behind = o.behind;
          spelled = at.0;
          fits = at.1;
          words_are = o.words_are;
          alike = o.alike;
        }

    -- what is told of a phrase is told of another one, where the words tell that it is of the first kind
    pub tells-as : ((value : A) (ps : List Piece) (left : ℕ) → P value room ps left →
        P-other value room ps left) →
        (read : Read A) → Narrows (behind_of read) → Tells P Q may room words read →
        Tells P-other Q-other behind room words read
    unfolding narrowed
    tells-as to (Got value left rest) narrow found = record {
      pieces = found.pieces;
      kept = found.kept;
      words_are = found.words_are;
      spelled = to value found.pieces left found.spelled;
      falls = found.falls;
      only = λ o. let same = found.only (narrowed (words_in found.pieces) rest found.words_are narrow o) in
          record {
            value_same = same.value_same;
            pieces_same = same.pieces_same;
            left_same = same.left_same;
          };
    }
    tells-as to (Refused Unexpected rest) narrow first = record {
      pieces = first.pieces;
      kept = first.kept;
      words_are = first.words_are;
      live = begins-as P P-other room first.pieces to first.live;
      dead = λ o. first.dead (narrowed (words_in first.pieces) rest first.words_are narrow o);
    }
    tells-as to (Refused TooDeep rest) narrow first = record {
      pieces = first.pieces;
      kept = first.kept;
      words_are = first.words_are;
      word = first.word;
      behind = first.behind;
      rest_is = first.rest_is;
      live = begins-as P P-other room (first.pieces ++ record { word = first.word; passes = true } ∷ []) to
          first.live;
      passes = λ o.
          let past = first.passes (narrowed (words_in first.pieces) rest first.words_are narrow o) in
          record {
            front = past.front;
            back = past.back;
            pieces_are = past.pieces_are;
            front_is = past.front_is;
          };
    }

-- the same phrases under another form, and fewer words behind them
pub reads-as : {A : Type 0} {P Q P-other Q-other : Phrase A} {one : Reading A} {depth : ℕ}
    {may behind : Sorts} →
    ((value : A) (room : ℕ) (ps : List Piece) (left : ℕ) → P value room ps left →
    P-other value room ps left) →
    ((value : A) (room : ℕ) (ps : List Piece) (left : ℕ) → Q-other value room ps left →
    Q value room ps left) →
    Part behind may → Reads P Q one depth may → Reads P-other Q-other one depth behind
reads-as {A} {P} {Q} {P-other} {Q-other} {one} {depth} {may} {behind} to from part reads = record {
  sample = record {
    at = λ room. begins-as P P-other room [] (λ value ps left. to value room ps left) (reads.sample.at room);
  };
  tells = λ room words fits. tells-as P Q P-other Q-other may behind room words
      (λ value ps left. to value room ps left) (one room words)
      (record {
        at = λ taken are o. (
          from o.value room o.pieces o.left o.spelled,
          part-follows behind may part o.after o.fits,
        );
      })
      (reads.tells room words fits);
}

-- fewer words may stand behind it
pub narrower : {A : Type 0} {P Q : Phrase A} {one : Reading A} {depth : ℕ} {may behind : Sorts} →
    Part behind may → Reads P Q one depth may → Reads P Q one depth behind
narrower part reads = reads-as (λ value room ps left phrase. phrase) (λ value room ps left phrase. phrase)
    part reads

-- behind a first phrase, with the room that it leaves
pub reads-then_at : {A B : Type 0} {P Q : Phrase A} {P-next Q-next : A → Phrase B} {one : Reading A}
    {next : A → Reading B} {depth inner : ℕ} {may behind : Sorts} → Reads P Q one depth may →
    ((x : A) → Reads (P-next x) (Q-next x) (next x) inner behind) →
    ((x : A) → Leads (Q-next x) behind may) →
    ((x : A) (room : ℕ) (ps : List Piece) (left : ℕ) → P x room ps left → AreKept ps → left ≤ room →
    room < depth → left < inner) →
    Reads (λ v r ps l. Then P P-next v r ps l) (λ v r ps l. Then Q Q-next v r ps l)
    (λ room words. read_then (one room words) next) depth behind
reads-then_at {A} {B} {P} {Q} {P-next} {Q-next} {one} {next} {depth} {inner} {may} {behind} first second fit
    falls =
    record {
      sample = sample-then first.sample (λ x. (second x).sample);
      tells = λ room words fits. then-tells P Q P-next Q-next may behind fit room words
          (λ x. (second x).sample) next
          (λ x between rest found. (second x).tells between rest
          (falls x room found.pieces between found.spelled found.kept found.falls fits))
          (one room words) (first.tells room words fits);
    }

pub reads-then : {A B : Type 0} {P Q : Phrase A} {P-next Q-next : A → Phrase B} {one : Reading A}
    {next : A → Reading B} {depth : ℕ} {may behind : Sorts} → Reads P Q one depth may →
    ((x : A) → Reads (P-next x) (Q-next x) (next x) depth behind) →
    ((x : A) → Leads (Q-next x) behind may) →
    Reads (λ v r ps l. Then P P-next v r ps l) (λ v r ps l. Then Q Q-next v r ps l)
    (λ room words. read_then (one room words) next) depth behind
reads-then first second fit = reads-then_at first second fit
    (λ x room ps left phrase kept low fits. omega arith)

pub sample-either : {A : Type 0} {P other : Phrase A} → Sample P → Sample (Either P other)
sample-either {A} {P} {other} one = record {
  at = λ room. begins-as P (Either P other) room [] (λ value ps left phrase. inl phrase) (one.at room);
}

-- a test of the first word
pub record TestsFirst (starts : List Word → Bool) (set : Sorts) : Type 0 where
  pub none : starts [] ≡ false
  pub some : (word : Word) (words : List Word) → starts (word ∷ words) ≡ has set word.sort

flipped : (b : Bool) → not b ≡ true → b ≡ false
flipped true h = sym h
flipped false h = refl

pub has-others : (set : Sorts) (sort : Sort) → has (others set) sort ≡ true → has set sort ≡ false
has-others set (Fixed s) is = flipped (set.symbols s) is
has-others set (Named text) is = flipped set.names is
has-others set (Number value) is = flipped set.numbers is

module _ (starts : List Word → Bool) (set : Sorts) (tests : TestsFirst starts set) where
  -- words that begin alike are tested alike
  pub tested-alike : (words all : List Word) → Alike words all → starts words ≡ starts all
  tested-alike [] [] alike = refl
  tested-alike [] (other ∷ behind) alike = absurd alike
  tested-alike (word ∷ rest) [] alike = absurd alike
  tested-alike (word ∷ rest) (other ∷ behind) alike =
      tests.some word rest ∙ ap (λ (w : Word). has set w.sort) alike ∙ sym (tests.some other behind)

  follows-tested : (words : List Word) → Follows (others set) words → starts words ≡ false
  follows-tested [] follows = tests.none
  follows-tested (word ∷ words) follows = tests.some word words ∙ has-others set word.sort follows

  -- the words of another phrase are tested as those that were read
  other-tested : {A : Type 0} (Q : Phrase A) (may : Sorts) (room : ℕ) (words taken rest : List Word) →
      words ≡ taken ++ rest → (o : Other Q may room taken rest) →
      starts words ≡ starts (words_in o.pieces ++ o.after)
  other-tested Q may room words taken rest are o =
      ap starts are ∙ tested-alike (taken ++ rest) (taken ++ o.behind)
      (alike-behind taken rest o.behind o.alike) ∙ ap starts (sym o.words_are)

  -- a phrase that begins so passes the test
  pub firsts-tested : {A : Type 0} (Q : Phrase A) (first : Sorts) → Firsts Q first → Part first set →
      (value : A) (room : ℕ) (pieces : List Piece) (left : ℕ) (after : List Word) →
      Q value room pieces left → starts (words_in pieces ++ after) ≡ true
  firsts-tested Q first firsts part value room pieces left after phrase =
      let start = firsts.at value room pieces left phrase in
      ap (λ ps. starts (words_in ps ++ after)) start.pieces_are
      ∙ tests.some start.first.word (words_in start.others ++ after)
      ∙ part-has first set part start.first.word.sort start.is_in

  -- no phrase that begins so agrees with words that fail the test
  pub firsts-apart : {A : Type 0} (Q : Phrase A) (first may : Sorts) → Firsts Q first → Part first set →
      (room : ℕ) (words taken rest : List Word) → words ≡ taken ++ rest → starts words ≡ false →
      (value : A) (pieces : List Piece) (left : ℕ) (after behind : List Word) → Q value room pieces left →
      words_in pieces ++ after ≡ taken ++ behind → Alike rest behind → ⊥
  firsts-apart Q first may firsts part room words taken rest are fails value pieces left after behind phrase
      words_are alike =
      let one : starts (words_in pieces ++ after) ≡ true =
      firsts-tested Q first firsts part value room pieces left after phrase in
      let two : starts words ≡ starts (words_in pieces ++ after) =
      ap starts are ∙ tested-alike (taken ++ rest) (taken ++ behind) (alike-behind taken rest behind alike)
      ∙ ap starts (sym words_are) in
      absurd (cc)

  -- no words that fail the test agree with words that pass it
  pub leads-apart : (words taken rest : List Word) → words ≡ taken ++ rest → starts words ≡ true →
      (all behind : List Word) → Follows (others set) all → all ≡ taken ++ behind → Alike rest behind → ⊥
  leads-apart words taken rest are passes all behind follows words_are alike =
      let one : starts all ≡ false = follows-tested all follows in
      let two : starts words ≡ starts all =
      ap starts are ∙ tested-alike (taken ++ rest) (taken ++ behind) (alike-behind taken rest behind alike)
      ∙ ap starts (sym words_are) in
      absurd (cc)

  module _ {A : Type 0} (P Q P-other Q-other : Phrase A) (one other : Reading A) (depth : ℕ)
      (may may-other behind first second : Sorts) where
    -- one of two phrases, told apart by a test of the first word
    pub reads-either : Reads P Q one depth may → Reads P-other Q-other other depth may-other →
        Firsts Q first → Leads Q-other behind second →
        Part behind may → Part behind may-other →
        Part first set → Part second (others set) →
        Reads (Either P P-other) (Either Q Q-other) (either starts one other) depth behind
    reads-either reads reads-other firsts leads part part-other passes fails = record {
      sample = record {
        at = λ room. begins-as P (Either P P-other) room [] (λ value ps left phrase. inl phrase)
            (reads.sample.at room);
      };
      tells = λ room words fits. by_test room words fits (starts words) refl;
    }
      where
        in_first : (room : ℕ) (words : List Word) → starts words ≡ true → (rest : List Word) →
            Narrows P Q (Either P P-other) (Either Q Q-other) may behind room words rest
        in_first room words test rest = record {
          at = λ taken are o. by_case taken are o.value o.pieces o.left o.after o.behind o.spelled o.fits
              o.words_are o.alike;
        }
          where
            by_case : (taken : List Word) → words ≡ taken ++ rest →
                (value : A) (pieces : List Piece) (left : ℕ)
                (after next : List Word) → Either Q Q-other value room pieces left → Follows behind after →
                words_in pieces ++ after ≡ taken ++ next → Alike rest next →
                Q value room pieces left × Follows may after
            by_case taken are value pieces left after next (inl phrase) follows words_are alike =
                (phrase, part-follows behind may part after follows)
            by_case taken are value pieces left after next (inr phrase) follows words_are alike =
                absurd (leads-apart words taken rest are test (words_in pieces ++ after) next
                (part-follows second (others set) fails (words_in pieces ++ after)
                (leads.at value room pieces left after phrase follows)) words_are alike)

        in_second : (room : ℕ) (words : List Word) → starts words ≡ false → (rest : List Word) →
            Narrows P-other Q-other (Either P P-other) (Either Q Q-other) may-other behind room words rest
        in_second room words test rest = record {
          at = λ taken are o. by_case taken are o.value o.pieces o.left o.after o.behind o.spelled o.fits
              o.words_are o.alike;
        }
          where
            by_case : (taken : List Word) → words ≡ taken ++ rest →
                (value : A) (pieces : List Piece) (left : ℕ)
                (after next : List Word) → Either Q Q-other value room pieces left → Follows behind after →
                words_in pieces ++ after ≡ taken ++ next → Alike rest next →
                Q-other value room pieces left × Follows may-other after
            by_case taken are value pieces left after next (inl phrase) follows words_are alike =
                absurd (firsts-apart Q first may firsts passes room words taken rest are test value pieces
                left
                after next phrase words_are alike)
            by_case taken are value pieces left after next (inr phrase) follows words_are alike =
                (phrase, part-follows behind may-other part-other after follows)

        by_test : (room : ℕ) (words : List Word) → room < depth → (b : Bool) → starts words ≡ b →
            Tells (Either P P-other) (Either Q Q-other) behind room words
            (cond b (one room words) (other room words))
        by_test room words fits true test = tells-as P Q (Either P P-other) (Either Q Q-other) may behind
            room words
            (λ value ps left phrase. inl phrase) (one room words)
            (in_first room words test (behind_of (one room words))) (reads.tells room words fits)
        by_test room words fits false test =
            tells-as P-other Q-other (Either P P-other) (Either Q Q-other) may-other behind room words
            (λ value ps left phrase. inr phrase) (other room words)
            (in_second room words test (behind_of (other room words))) (reads-other.tells room words fits)
