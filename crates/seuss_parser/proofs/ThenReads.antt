-- Reading one phrase and then another tells of both, one behind the other.
use Rattle.std.proofs.Common.{◌≡◌, ℕ, ◌≤◌, true, false, List, [], ◌∷◌, ◌++◌, refl, sym, ap, ◌∙◌, subst}
use Rattle.std.proofs.Common.{append_assoc, arith, All}
use Rattle.std.proofs.lemmas.List.Elements.{All-append}
use Rattle.seuss_parser.specs.Phrases.{Piece, words_in, Phrase, Then}
use Rattle.seuss_parser.specs.Readings.{Read, Got, Refused, Reading, Unexpected, TooDeep, read_then}
use Rattle.seuss_parser.specs.Spelling.{IsWord}
use Rattle.seuss_parser.specs.declared.word.Word.{Word}
use Rattle.seuss_parser.proofs.Sets.{Sorts}
use Rattle.seuss_parser.proofs.ListLemmas.{words_in-append, words_in-append_then, append-cancel}
use Rattle.seuss_parser.proofs.ListLemmas.{alike-behind}
use Rattle.seuss_parser.proofs.Tells.{Alike, Other, IsSame, Begins, PassesAt, IsFound}
use Rattle.seuss_parser.proofs.Tells.{Tells, Sample, Leads}

-- the words of a phrase that is going on are those of its parts
pub begins-then : {A B : Type 0} (P : Phrase A) (Q : A → Phrase B) (room : ℕ) (pieces : List Piece) →
    ((x : A) → Sample (Q x)) → Begins P room pieces → Begins (λ v r ps l. Then P Q v r ps l) room pieces
begins-then P Q room pieces samples begun =
    let next = (samples begun.value).at begun.left in record {
      value = next.value;
      rest = begun.rest ++ next.rest;
      left = next.left;
      words = subst (λ (ws : List Word). All IsWord ws) (sym (words_in-append begun.rest next.rest))
          (All-append IsWord (words_in begun.rest) (words_in next.rest) begun.words next.words);
      spelled = record {
        first = begun.value;
        front = pieces ++ begun.rest;
        between = begun.left;
        back = next.rest;
        spelled = sym (append_assoc pieces begun.rest next.rest);
        begins = begun.spelled;
        goes_on = next.spelled;
      };
    }

pub sample-then : {A B : Type 0} {P : Phrase A} {Q : A → Phrase B} → Sample P → ((x : A) → Sample (Q x)) →
    Sample (λ v r ps l. Then P Q v r ps l)
sample-then {A} {B} {P} {Q} first samples =
    record { at = λ room. begins-then P Q room [] samples (first.at room) }

module _ {A B : Type 0} (P Q : Phrase A) (P-next Q-next : A → Phrase B) (may behind : Sorts)
    (fit : (x : A) → Leads (Q-next x) behind may) (room : ℕ) (words : List Word) where
  abbrev Both : Phrase B
  Both value r pieces left = Then P P-next value r pieces left

  abbrev Any : Phrase B
  Any value r pieces left = Then Q Q-next value r pieces left

  -- the words of any phrase, by its two parts
  parts-words : (taken rest : List Word) (o : Other Any behind room taken rest) →
      words_in o.spelled.front ++ (words_in o.spelled.back ++ o.after) ≡ taken ++ o.behind
  parts-words taken rest o =
      sym (words_in-append_then o.spelled.front o.spelled.back o.after)
      ∙ ap (λ ps. words_in ps ++ o.after) (sym o.spelled.spelled) ∙ o.words_are

  -- the first part of any phrase, where both agree with the words up to some word of the second
  front-other : (front taken last rest all : List Word) → rest ≡ taken ++ last → all ≡ front ++ taken →
      (o : Other Any behind room all last) → Other Q may room front rest
  front-other front taken last rest all rest_is all_is o = record {
    value = o.spelled.first;
    pieces = o.spelled.front;
    left = o.spelled.between;
    after = words_in o.spelled.back ++ o.after;
    behind = taken ++ o.behind;
    spelled = o.spelled.begins;
    fits = (fit o.spelled.first).at o.value o.spelled.between o.spelled.back o.left o.after
        o.spelled.goes_on o.fits;
    words_are = parts-words all last o ∙ ap (λ ws. ws ++ o.behind) all_is
        ∙ append_assoc front taken o.behind;
    alike = subst (λ (ws : List Word). Alike ws (taken ++ o.behind)) (sym rest_is)
        (alike-behind taken last o.behind o.alike);
  }

  -- the first part of any phrase, where both agree up to some word of the first
  early-other : (front rest : List Word) → (o : Other Any behind room front rest) →
      Other Q may room front rest
  early-other front rest o = record {
    value = o.spelled.first;
    pieces = o.spelled.front;
    left = o.spelled.between;
    after = words_in o.spelled.back ++ o.after;
    behind = o.behind;
    spelled = o.spelled.begins;
    fits = (fit o.spelled.first).at o.value o.spelled.between o.spelled.back o.left o.after
        o.spelled.goes_on o.fits;
    words_are = parts-words front rest o;
    alike = o.alike;
  }

  moved : (x y : A) (value : B) (from to : ℕ) (pieces : List Piece) (left : ℕ) → x ≡ y → from ≡ to →
      Q-next x value from pieces left → Q-next y value to pieces left
  moved x y value from to pieces left same room_same phrase =
      subst (λ n. Q-next y value n pieces left) room_same
      (subst (λ z. Q-next z value from pieces left) same phrase)

  -- the second part, where the first one is what was found
  back-other : (x : A) (between : ℕ) (rest : List Word) (found : IsFound P Q may room words x between rest)
      (taken last all : List Word) → rest ≡ taken ++ last → all ≡ words_in found.pieces ++ taken →
      (o : Other Any behind room all last) → Other (Q-next x) behind between taken last
  unfolding front-other
  back-other x between rest found taken last all rest_is all_is o =
      let same = found.only (front-other (words_in found.pieces) taken last rest all rest_is all_is o) in
      let words_same : words_in o.spelled.front ≡ words_in found.pieces = ap words_in same.pieces_same in
      let all_words : words_in o.spelled.front ++ (words_in o.spelled.back ++ o.after)
      ≡ (words_in found.pieces ++ taken) ++ o.behind =
      parts-words all last o ∙ ap (λ ws. ws ++ o.behind) all_is in
      record {
        value = o.value;
        pieces = o.spelled.back;
        left = o.left;
        after = o.after;
        behind = o.behind;
        spelled = moved o.spelled.first x o.value o.spelled.between between o.spelled.back o.left
            same.value_same same.left_same o.spelled.goes_on;
        fits = o.fits;
        words_are = append-cancel (words_in found.pieces) (words_in o.spelled.back ++ o.after)
            (taken ++ o.behind)
            (ap (λ ws. ws ++ (words_in o.spelled.back ++ o.after)) (sym words_same) ∙ all_words
            ∙ append_assoc (words_in found.pieces) taken o.behind);
        alike = o.alike;
      }

  front-same : (x : A) (between : ℕ) (rest : List Word) (found : IsFound P Q may room words x between rest)
      (taken last all : List Word) → rest ≡ taken ++ last → all ≡ words_in found.pieces ++ taken →
      (o : Other Any behind room all last) → o.spelled.front ≡ found.pieces
  unfolding front-other
  front-same x between rest found taken last all rest_is all_is o =
      (found.only (front-other (words_in found.pieces) taken last rest all rest_is all_is o)).pieces_same

  whole-words : (front : List Piece) (back : List Piece) (rest last : List Word) →
      words ≡ words_in front ++ rest → rest ≡ words_in back ++ last →
      words ≡ words_in (front ++ back) ++ last
  whole-words front back rest last words_are rest_is =
      words_are ∙ ap (λ ws. words_in front ++ ws) rest_is ∙ sym (words_in-append_then front back last)

  begins-back : (x : A) (front : List Piece) (between : ℕ) (back : List Piece) → P x room front between →
      Begins (P-next x) between back → Begins Both room (front ++ back)
  begins-back x front between back first begun = record {
    value = begun.value;
    rest = begun.rest;
    left = begun.left;
    words = begun.words;
    spelled = record {
      first = x;
      front = front;
      between = between;
      back = back ++ begun.rest;
      spelled = append_assoc front back begun.rest;
      begins = first;
      goes_on = begun.spelled;
    };
  }

  -- what the second reading tells, behind what the first one found
  second-tells : (x : A) (between : ℕ) (rest : List Word) → IsFound P Q may room words x between rest →
      (read : Read B) → Tells (P-next x) (Q-next x) behind between rest read →
      Tells Both Any behind room words read
  unfolding back-other
  second-tells x between rest found (Got value left last) next = record {
    pieces = found.pieces ++ next.pieces;
    kept = All-append (λ (p : Piece). p.passes ≡ false) found.pieces next.pieces found.kept next.kept;
    words_are = whole-words found.pieces next.pieces rest last found.words_are next.words_are;
    spelled = record {
      first = x;
      front = found.pieces;
      between = between;
      back = next.pieces;
      spelled = refl;
      begins = found.spelled;
      goes_on = next.spelled;
    };
    falls = let one : left ≤ between = next.falls in let two : between ≤ room = found.falls in omega arith;
    only = λ o. only o;
  }
    where
      only : (o : Other Any behind room (words_in (found.pieces ++ next.pieces)) last) →
          IsSame value (found.pieces ++ next.pieces) left o
      only o =
          let same = next.only (back-other x between rest found (words_in next.pieces) last
          (words_in (found.pieces ++ next.pieces)) next.words_are
          (words_in-append found.pieces next.pieces) o) in
          let front : o.spelled.front ≡ found.pieces = front-same x between rest found
          (words_in next.pieces) last (words_in (found.pieces ++ next.pieces)) next.words_are
          (words_in-append found.pieces next.pieces) o in
          record {
            value_same = same.value_same;
            pieces_same = o.spelled.spelled ∙ ap (λ ps. ps ++ o.spelled.back) front
                ∙ ap (λ ps. found.pieces ++ ps) same.pieces_same;
            left_same = same.left_same;
          }
  second-tells x between rest found (Refused Unexpected last) next = record {
    pieces = found.pieces ++ next.pieces;
    kept = All-append (λ (p : Piece). p.passes ≡ false) found.pieces next.pieces found.kept next.kept;
    words_are = whole-words found.pieces next.pieces rest last found.words_are next.words_are;
    live = begins-back x found.pieces between next.pieces found.spelled next.live;
    dead = λ o. next.dead (back-other x between rest found (words_in next.pieces) last
        (words_in (found.pieces ++ next.pieces)) next.words_are (words_in-append found.pieces next.pieces)
        o);
  }
  second-tells x between rest found (Refused TooDeep last) next = record {
    pieces = found.pieces ++ next.pieces;
    kept = All-append (λ (p : Piece). p.passes ≡ false) found.pieces next.pieces found.kept next.kept;
    words_are = whole-words found.pieces next.pieces rest last found.words_are next.words_are;
    word = next.word;
    behind = next.behind;
    rest_is = next.rest_is;
    live = subst (λ ps. Begins Both room ps)
        (sym (append_assoc found.pieces next.pieces (record { word = next.word; passes = true } ∷ [])))
        (begins-back x found.pieces between (next.pieces ++ record { word = next.word; passes = true } ∷ [])
        found.spelled next.live);
    passes = λ o. passes o;
  }
    where
      passes : (o : Other Any behind room (words_in (found.pieces ++ next.pieces)) last) →
          PassesAt o.pieces (words_in (found.pieces ++ next.pieces)) next.word
      passes o =
          let past = next.passes (back-other x between rest found (words_in next.pieces) last
          (words_in (found.pieces ++ next.pieces)) next.words_are
          (words_in-append found.pieces next.pieces) o) in
          let front : o.spelled.front ≡ found.pieces = front-same x between rest found
          (words_in next.pieces) last (words_in (found.pieces ++ next.pieces)) next.words_are
          (words_in-append found.pieces next.pieces) o in
          record {
            front = found.pieces ++ past.front;
            back = past.back;
            pieces_are = o.spelled.spelled ∙ ap (λ ps. ps ++ o.spelled.back) front
                ∙ ap (λ ps. found.pieces ++ ps) past.pieces_are
                ∙ sym (append_assoc found.pieces past.front
                (record { word = next.word; passes = true } ∷ past.back));
            front_is = words_in-append found.pieces past.front
                ∙ ap (λ ws. words_in found.pieces ++ ws) past.front_is
                ∙ sym (words_in-append found.pieces next.pieces);
          }

  -- what reading one and then another tells
  pub then-tells : (samples : (x : A) → Sample (P-next x)) (next : A → Reading B) →
      ((x : A) (between : ℕ) (rest : List Word) → IsFound P Q may room words x between rest →
      Tells (P-next x) (Q-next x) behind between rest (next x between rest)) →
      (read : Read A) → Tells P Q may room words read →
      Tells Both Any behind room words (read_then read next)
  unfolding early-other
  then-tells samples next second (Got x between rest) found =
      second-tells x between rest found (next x between rest) (second x between rest found)
  then-tells samples next second (Refused Unexpected rest) first = record {
    pieces = first.pieces;
    kept = first.kept;
    words_are = first.words_are;
    live = begins-then P P-next room first.pieces samples first.live;
    dead = λ o. first.dead (early-other (words_in first.pieces) rest o);
  }
  then-tells samples next second (Refused TooDeep rest) first = record {
    pieces = first.pieces;
    kept = first.kept;
    words_are = first.words_are;
    word = first.word;
    behind = first.behind;
    rest_is = first.rest_is;
    live = begins-then P P-next room (first.pieces ++ record { word = first.word; passes = true } ∷ [])
        samples first.live;
    passes = λ o. let past = first.passes (early-other (words_in first.pieces) rest o) in record {
      front = past.front;
      back = past.back ++ o.spelled.back;
      pieces_are = o.spelled.spelled ∙ ap (λ ps. ps ++ o.spelled.back) past.pieces_are
          ∙ append_assoc past.front (record { word = first.word; passes = true } ∷ past.back) o.spelled.back;
      front_is = past.front_is;
    };
  }
