-- Reading a phrase that may be left out, any number of phrases, and a whole expression.
use Rattle.std.proofs.Common.{◌≡◌, ℕ, zero, suc, ◌≤◌, ◌<◌, ◌+◌, Bool, true, false, cond, List, [], ◌∷◌}
use Rattle.std.proofs.Common.{◌++◌}
use Rattle.std.proofs.Common.{refl, sym, ap, ◌∙◌, subst, arith, length, Option, Some, None, length-append}
use Rattle.std.proofs.lemmas.List.Elements.{All-nil}
use Rattle.seuss_parser.specs.Phrases.{Piece, words_in, Phrase, Then, Only, Optional, Many, Whole}
use Rattle.seuss_parser.specs.Readings.{Read, Got, Refused, Reading, Unexpected, TooDeep, read_then}
use Rattle.seuss_parser.specs.Readings.{optional, read_as, many, many_up_to, with_front, whole, ends}
use Rattle.seuss_parser.specs.Spelling.{IsWord}
use Rattle.seuss_parser.specs.declared.word.Word.{Word}
use Rattle.seuss_parser.proofs.Sets.{Sorts, Follows, others, Part, part-follows, part-self, part-everything}
use Rattle.seuss_parser.proofs.ListLemmas.{words_in-append_then, append-nothing}
use Rattle.seuss_parser.proofs.Tells.{Alike, Other, Begins, IsFound}
use Rattle.seuss_parser.proofs.Tells.{Tells, Sample, Reads, StartsIn, Firsts}
use Rattle.seuss_parser.proofs.ThenReads.{then-tells, sample-then}
use Rattle.seuss_parser.proofs.WordReads.{reads-ends}
use Rattle.seuss_parser.proofs.ChoiceReads.{behind_of, tells-as, narrower}
use Rattle.seuss_parser.proofs.ChoiceReads.{TestsFirst, firsts-apart, leads-apart}
use Rattle.seuss_parser.proofs.FirstSets.{leads-only, leads-then, leads-many}

-- a phrase, moved along equations
pub phrase-moved : {A : Type 0} (P : Phrase A) (x y : A) (room : ℕ) (front pieces : List Piece)
    (left out : ℕ) →
    x ≡ y → front ≡ pieces → left ≡ out → P x room front left → P y room pieces out
phrase-moved P x y room front pieces left out same words rooms phrase =
    subst (λ n. P y room pieces n) rooms
    (subst (λ ps. P y room ps left) words (subst (λ z. P z room front left) same phrase))

pub sample-optional : {A : Type 0} {P : Phrase A} → Sample (Optional P)
sample-optional {A} {P} = record {
  at = λ room. record {
    value = None;
    rest = [];
    left = room;
    words = All-nil IsWord;
    spelled = (refl, refl);
  };
}

pub sample-many : {A : Type 0} {P : Phrase A} → Sample (Many P)
sample-many {A} {P} = record {
  at = λ room. record { value = []; rest = []; left = room; words = All-nil IsWord; spelled = (refl, refl) };
}

module _ {A : Type 0} (P Q : Phrase A) (one : Reading A) (starts : List Word → Bool) (depth : ℕ)
    (may behind first set : Sorts) (tests : TestsFirst starts set) (reads : Reads P Q one depth may)
    (firsts : Firsts Q first) (passes : Part first set) (fails : Part behind (others set))
    (part : Part behind may) where
  some-optional : (room : ℕ) (words : List Word) → room < depth → starts words ≡ true →
      Tells (Optional P) (Optional Q) behind room words (read_as Some (one room words))
  some-optional room words fits test =
      tells-as (λ v r ps l. Then P (λ x. Only (Some x)) v r ps l)
      (λ v r ps l. Then Q (λ x. Only (Some x)) v r ps l)
      (Optional P) (Optional Q) behind behind room words to (read_as Some (one room words))
      (record {
        at = λ taken are o. from taken (behind_of (read_as Some (one room words))) are o.value o.pieces
            o.left
            o.after o.behind o.spelled o.fits o.words_are o.alike;
      })
      (then-tells P Q (λ x. Only (Some x)) (λ x. Only (Some x)) may behind (λ x. leads-only part) room words
      (λ x. (reads-ends (Some x) depth).sample) (λ x. ends (Some x))
      (λ x between rest found. (narrower (part-everything behind) (reads-ends (Some x) depth)).tells between
      rest
      (let low : between ≤ room = found.falls in omega arith))
      (one room words) (reads.tells room words fits))
    where
      to : (value : Option A) (ps : List Piece) (left : ℕ) → Then P (λ x. Only (Some x)) value room ps left →
          Optional P value room ps left
      to None ps left both = let is : None ≡ Some both.first = both.goes_on.is_this in absurd (cc)
      to (Some value) ps left both =
          let is : Some value ≡ Some both.first = both.goes_on.is_this in
          phrase-moved P both.first value room both.front ps both.between left (cc)
          (sym (both.spelled ∙ ap (λ qs. both.front ++ qs) both.goes_on.spelled ∙ append-nothing both.front))
          (sym both.goes_on.room_stays) both.begins

      from : (taken rest : List Word) → words ≡ taken ++ rest →
          (value : Option A) (pieces : List Piece) (left : ℕ)
          (after next : List Word) → Optional Q value room pieces left → Follows behind after →
          words_in pieces ++ after ≡ taken ++ next → Alike rest next →
          Then Q (λ x. Only (Some x)) value room pieces left × Follows behind after
      from taken rest are None pieces left after next (none, stays) follows words_are alike =
          absurd (leads-apart starts set tests words taken rest are test (words_in pieces ++ after) next
          (subst (λ ps. Follows (others set) (words_in ps ++ after)) (sym none)
          (part-follows behind (others set) fails after follows)) words_are alike)
      from taken rest are (Some value) pieces left after next phrase follows words_are alike = (
        record {
          first = value;
          front = pieces;
          between = left;
          back = [];
          spelled = sym (append-nothing pieces);
          begins = phrase;
          goes_on = record { is_this = refl; spelled = refl; room_stays = refl };
        },
        follows,
      )

  none-optional : (room : ℕ) (words : List Word) → starts words ≡ false →
      Tells (Optional P) (Optional Q) behind room words (Got None room words)
  none-optional room words test = record {
    pieces = [];
    kept = All-nil (λ (p : Piece). p.passes ≡ false);
    words_are = refl;
    spelled = (refl, refl);
    falls = omega arith;
    only = λ o. let same = from o.value o.pieces o.left o.after o.behind o.spelled o.words_are o.alike in
        record { value_same = same.0; pieces_same = same.1; left_same = same.2 };
  }
    where
      from : (value : Option A) (pieces : List Piece) (left : ℕ) (after next : List Word) →
          Optional Q value room pieces left → words_in pieces ++ after ≡ [] ++ next → Alike words next →
          (value ≡ None) × (pieces ≡ []) × (left ≡ room)
      from None pieces left after next (none, stays) words_are alike = (refl, none, stays)
      from (Some value) pieces left after next phrase words_are alike =
          absurd (firsts-apart starts set tests Q first may firsts passes room words [] words refl test
          value pieces
          left after next phrase words_are alike)

  pub reads-optional : Reads (Optional P) (Optional Q) (optional starts one) depth behind
  reads-optional = record {
    sample = sample-optional;
    tells = λ room words fits. by_test room words fits (starts words) refl;
  }
    where
      by_test : (room : ℕ) (words : List Word) → room < depth → (b : Bool) → starts words ≡ b →
          Tells (Optional P) (Optional Q) behind room words
          (cond b (read_as Some (one room words)) (Got None room words))
      by_test room words fits true test = some-optional room words fits test
      by_test room words fits false test = none-optional room words test

module _ {A : Type 0} (P Q : Phrase A) (one : Reading A) (starts : List Word → Bool) (depth : ℕ)
    (may behind first set : Sorts) (tests : TestsFirst starts set) (reads : Reads P Q one depth may)
    (firsts-own : Firsts P first) (firsts : Firsts Q first) (passes : Part first set)
    (fails : Part behind (others set)) (part : Part behind may)
    (again : Part first may) where
  none-many : (room : ℕ) (words : List Word) → starts words ≡ false →
      Tells (Many P) (Many Q) behind room words (Got [] room words)
  none-many room words test = record {
    pieces = [];
    kept = All-nil (λ (p : Piece). p.passes ≡ false);
    words_are = refl;
    spelled = (refl, refl);
    falls = omega arith;
    only = λ o. let same = from o.value o.pieces o.left o.after o.behind o.spelled o.words_are o.alike in
        record { value_same = same.0; pieces_same = same.1; left_same = same.2 };
  }
    where
      from : (value : List A) (pieces : List Piece) (left : ℕ) (after next : List Word) →
          Many Q value room pieces left → words_in pieces ++ after ≡ [] ++ next → Alike words next →
          (value ≡ []) × (pieces ≡ []) × (left ≡ room)
      from [] pieces left after next (none, stays) words_are alike = (refl, none, stays)
      from (value ∷ values) pieces left after next (front, between, back, spelled, phrase, others)
          words_are alike =
          absurd (firsts-apart starts set tests Q first may firsts passes room words [] words refl test
          value front
          between (words_in back ++ after) next phrase
          (sym (words_in-append_then front back after) ∙ ap (λ ps. words_in ps ++ after)
          (sym spelled) ∙ words_are)
          alike)

  abbrev One : (Phrase A) → Phrase (List A)
  One R value room pieces left = Then R (λ x. λ v r ps l. Then (Many R) (λ xs. Only (x ∷ xs)) v r ps l)
      value room pieces left

  one-many : (R : Phrase A) (value : List A) (room : ℕ) (ps : List Piece) (left : ℕ) →
      One R value room ps left → Many R value room ps left
  one-many R [] room ps left both =
      let is : [] ≡ both.first ∷ both.goes_on.first = both.goes_on.goes_on.is_this in absurd (cc)
  one-many R (x ∷ xs) room ps left both =
      let is : x ∷ xs ≡ both.first ∷ both.goes_on.first = both.goes_on.goes_on.is_this in
      let first_is : both.first ≡ x = cc in
      let others_are : both.goes_on.first ≡ xs = cc in (
        both.front,
        both.between,
        both.back,
        both.spelled,
        subst (λ z. R z room both.front both.between) first_is both.begins,
        phrase-moved (Many R) both.goes_on.first xs both.between both.goes_on.front both.back
            both.goes_on.between left others_are
            (sym (both.goes_on.spelled ∙ ap (λ qs. both.goes_on.front ++ qs) both.goes_on.goes_on.spelled
            ∙ append-nothing both.goes_on.front))
            (sym both.goes_on.goes_on.room_stays) both.goes_on.begins,
      )

  some-many : (fuel : ℕ) → ((room : ℕ) (words : List Word) → room < depth → length words ≤ fuel →
      Tells (Many P) (Many Q) behind room words (many_up_to fuel starts one room words)) →
      (room : ℕ) (words : List Word) → room < depth → length words ≤ suc fuel → starts words ≡ true →
      Tells (Many P) (Many Q) behind room words
      (read_then (one room words) (λ value left rest. with_front value
      (many_up_to fuel starts one left rest)))
  some-many fuel below room words fits long test =
      tells-as (One P) (One Q) (Many P) (Many Q) behind behind room words
      (λ value ps left both. one-many P value room ps left both) all
      (record {
        at = λ taken are o. from taken (behind_of all) are o.value o.pieces o.left o.after o.behind o.spelled
            o.fits o.words_are o.alike;
      })
      (then-tells P Q (λ x. λ v r ps l. Then (Many P) (λ xs. Only (x ∷ xs)) v r ps l)
      (λ x. λ v r ps l. Then (Many Q) (λ xs. Only (x ∷ xs)) v r ps l) may behind
      (λ x. leads-then (leads-many firsts again part) (λ xs. leads-only (part-self behind))) room words
      (λ x. sample-then sample-many (λ xs. (reads-ends (x ∷ xs) depth).sample))
      (λ value left rest. with_front value (many_up_to fuel starts one left rest))
      (λ x between rest found. later x between rest found)
      (one room words) (reads.tells room words fits))
    where
      all : Read (List A)
      all = read_then (one room words)
          (λ value left rest. with_front value (many_up_to fuel starts one left rest))

      from : (taken rest : List Word) → words ≡ taken ++ rest →
          (value : List A) (pieces : List Piece) (left : ℕ)
          (after next : List Word) → Many Q value room pieces left → Follows behind after →
          words_in pieces ++ after ≡ taken ++ next → Alike rest next →
          One Q value room pieces left × Follows behind after
      from taken rest are [] pieces left after next (none, stays) follows words_are alike =
          absurd (leads-apart starts set tests words taken rest are test (words_in pieces ++ after) next
          (subst (λ ps. Follows (others set) (words_in ps ++ after)) (sym none)
          (part-follows behind (others set) fails after follows)) words_are alike)
      from taken rest are (value ∷ values) pieces left after next
          (front, between, back, spelled, phrase, others)
          follows words_are alike = (
            record {
              first = value;
              front = front;
              between = between;
              back = back;
              spelled = spelled;
              begins = phrase;
              goes_on = record {
                first = values;
                front = back;
                between = left;
                back = [];
                spelled = sym (append-nothing back);
                begins = others;
                goes_on = record { is_this = refl; spelled = refl; room_stays = refl };
              };
            },
            follows,
          )

      shorter : (front : List Piece) (rest : List Word) → words ≡ words_in front ++ rest →
          StartsIn first front →
          length rest ≤ fuel
      shorter front rest are start =
          let long_words : length words ≡ suc (length (words_in start.others ++ rest)) =
          ap (λ ws. length ws) are ∙ ap (λ ps. length (words_in ps ++ rest)) start.pieces_are in
          let parts : length (words_in start.others ++ rest) ≡ length (words_in start.others) + length rest =
          length-append (words_in start.others) rest in
          omega arith

      later : (x : A) (between : ℕ) (rest : List Word) → IsFound P Q may room words x between rest →
          Tells (λ v r ps l. Then (Many P) (λ xs. Only (x ∷ xs)) v r ps l)
          (λ v r ps l. Then (Many Q) (λ xs. Only (x ∷ xs)) v r ps l) behind between rest
          (with_front x (many_up_to fuel starts one between rest))
      later x between rest found =
          let low : between ≤ room = found.falls in
          let inside : between < depth = omega arith in
          then-tells (Many P) (Many Q) (λ xs. Only (x ∷ xs)) (λ xs. Only (x ∷ xs)) behind behind
          (λ xs. leads-only (part-self behind)) between rest
          (λ xs. (reads-ends (x ∷ xs) depth).sample) (λ xs. ends (x ∷ xs))
          (λ xs after last each. (narrower (part-everything behind) (reads-ends (x ∷ xs) depth)).tells after
          last
          (let lower : after ≤ between = each.falls in omega arith))
          (many_up_to fuel starts one between rest)
          (below between rest inside (shorter found.pieces rest found.words_are
          (firsts-own.at x room found.pieces between found.spelled)))

  some-or_none : (fuel : ℕ) → ((room : ℕ) (words : List Word) → room < depth → length words ≤ fuel →
      Tells (Many P) (Many Q) behind room words (many_up_to fuel starts one room words)) →
      (room : ℕ) (words : List Word) → room < depth → length words ≤ suc fuel →
      (b : Bool) → starts words ≡ b → Tells (Many P) (Many Q) behind room words
      (cond b
      (read_then (one room words) (λ value left rest. with_front value
      (many_up_to fuel starts one left rest)))
      (Got [] room words))
  some-or_none fuel below room words fits long true test = some-many fuel below room words fits long test
  some-or_none fuel below room words fits long false test = none-many room words test

  many-tells : (fuel room : ℕ) (words : List Word) → room < depth → length words ≤ fuel →
      Tells (Many P) (Many Q) behind room words (many_up_to fuel starts one room words)
  many-tells zero room [] fits long = none-many room [] tests.none
  many-tells zero room (word ∷ words) fits long = absurd (omega arith)
  many-tells (suc fuel) room words fits long =
      some-or_none fuel (λ r ws low short. many-tells fuel r ws low short) room words fits long
      (starts words) refl

  pub reads-many : Reads (Many P) (Many Q) (many starts one) depth behind
  reads-many = record {
    sample = sample-many;
    tells = λ room words fits. many-tells (length words) room words fits (omega arith);
  }

module _ {A : Type 0} (P Q : Phrase A) (marks : ℕ) (may : Sorts) (room : ℕ) (words : List Word) where
  abbrev All-of : Phrase A → Phrase A
  All-of R value r pieces left = Whole marks R value r pieces left

  begins-whole : (pieces : List Piece) → Begins P marks pieces → Begins (All-of P) room pieces
  begins-whole pieces begun = record {
    value = begun.value;
    rest = begun.rest;
    left = room;
    words = begun.words;
    spelled = record { unused = begun.left; spelled = begun.spelled; room_stays = refl };
  }

  within : (taken rest : List Word) → Other (All-of Q) may room taken rest → Other Q may marks taken rest
  within taken rest o = record {
    value = o.value;
    pieces = o.pieces;
    left = o.spelled.unused;
    after = o.after;
    behind = o.behind;
    spelled = o.spelled.spelled;
    fits = o.fits;
    words_are = o.words_are;
    alike = o.alike;
  }

  whole-tells : (read : Read A) → Tells P Q may marks words read →
      Tells (All-of P) (All-of Q) may room words (read_then read (λ value left rest. Got value room rest))
  unfolding within
  whole-tells (Got value left rest) found = record {
    pieces = found.pieces;
    kept = found.kept;
    words_are = found.words_are;
    spelled = record { unused = left; spelled = found.spelled; room_stays = refl };
    falls = omega arith;
    only = λ o. let same = found.only (within (words_in found.pieces) rest o) in record {
      value_same = same.value_same;
      pieces_same = same.pieces_same;
      left_same = o.spelled.room_stays;
    };
  }
  whole-tells (Refused Unexpected rest) first = record {
    pieces = first.pieces;
    kept = first.kept;
    words_are = first.words_are;
    live = begins-whole first.pieces first.live;
    dead = λ o. first.dead (within (words_in first.pieces) rest o);
  }
  whole-tells (Refused TooDeep rest) first = record {
    pieces = first.pieces;
    kept = first.kept;
    words_are = first.words_are;
    word = first.word;
    behind = first.behind;
    rest_is = first.rest_is;
    live = begins-whole (first.pieces ++ record { word = first.word; passes = true } ∷ []) first.live;
    passes = λ o. let past = first.passes (within (words_in first.pieces) rest o) in
        record {
          front = past.front;
          back = past.back;
          pieces_are = past.pieces_are;
          front_is =
              past.front_is;
        };
  }

-- a whole expression, whatever room there is around it
pub reads-whole : {A : Type 0} {P Q : Phrase A} {one : Reading A} {depth : ℕ} {may : Sorts}
    (marks outer : ℕ) →
    marks < depth → Reads P Q one depth may →
    Reads (λ v r ps l. Whole marks P v r ps l) (λ v r ps l. Whole marks Q v r ps l) (whole marks one) outer
    may
reads-whole {A} {P} {Q} {one} {depth} {may} marks outer inside reads = record {
  sample = record { at = λ room. begins-whole P Q marks may room [] [] (reads.sample.at marks) };
  tells = λ room words fits. whole-tells P Q marks may room words (one marks words)
      (reads.tells marks words inside);
}
