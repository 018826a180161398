-- How far words are those of what was begun, as a program or an expression: there is one such place, where
-- what was begun goes on behind no longer one.
use Rattle.std.proofs.Common.{◌≡◌, false, List, [], ◌∷◌, ◌++◌, ◌⊎◌, inl, inr, refl, sym, ◌∙◌, ap, subst}
use Rattle.std.proofs.Common.{All}
use Rattle.std.proofs.lemmas.List.Elements.{All-nil, All-cons, All-head, All-tail}
use Rattle.seuss_parser.specs.Phrases.{Piece, words_in, AreKept}
use Rattle.seuss_parser.specs.Spelling.{IsWord}
use Rattle.seuss_parser.specs.declared.word.Word.{Word}
use Rattle.seuss_parser.proofs.ListLemmas.{append-cancel}

-- what holds of each item of two lists, one behind the other
pub all-behind : {A : Type 0} (P : A → Type 0) (front back : List A) → All P (front ++ back) → All P back
all-behind P [] back all = all
all-behind P (x ∷ front) back all = all-behind P front back (All-tail P x (front ++ back) all)

pub all-before : {A : Type 0} (P : A → Type 0) (front back : List A) → All P (front ++ back) → All P front
all-before P [] back all = All-nil P
all-before P (x ∷ front) back all =
    All-cons P x front (All-head P x (front ++ back) all)
    (all-before P front back (All-tail P x (front ++ back) all))

-- pieces by the place of a word
pub record Split (pieces : List Piece) (front : List Word) (word : Word) (behind : List Word) : Type 0 where
  pub before : List Piece
  pub at : Piece
  pub after : List Piece
  pub pieces_are : pieces ≡ before ++ at ∷ after
  pub before_is : words_in before ≡ front
  pub at_is : at.word ≡ word
  pub after_is : words_in after ≡ behind

split-behind : (piece : Piece) (pieces : List Piece) (first : Word) (front : List Word) (word : Word)
    (behind : List Word) → piece.word ≡ first → Split pieces front word behind →
    Split (piece ∷ pieces) (first ∷ front) word behind
split-behind piece pieces first front word behind first_is part = record {
  before = piece ∷ part.before;
  at = part.at;
  after = part.after;
  pieces_are = ap (λ ps. piece ∷ ps) part.pieces_are;
  before_is = ap (λ w. w ∷ words_in part.before) first_is ∙ ap (λ ws. first ∷ ws) part.before_is;
  at_is = part.at_is;
  after_is = part.after_is;
}

pub split : (pieces : List Piece) (front : List Word) (word : Word) (behind : List Word) →
    words_in pieces ≡ front ++ word ∷ behind → Split pieces front word behind
split [] [] word behind are = absurd (cc)
split [] (first ∷ front) word behind are = absurd (cc)
split (piece ∷ pieces) [] word behind are = record {
  before = [];
  at = piece;
  after = pieces;
  pieces_are = refl;
  before_is = refl;
  at_is = cc;
  after_is = cc;
}
split (piece ∷ pieces) (first ∷ front) word behind are =
    let first_is : piece.word ≡ first = cc in
    let others_are : words_in pieces ≡ front ++ word ∷ behind = cc in
    split-behind piece pieces first front word behind first_is (split pieces front word behind others_are)

-- what is begun doesn't go on behind these words with the next one
pub record IsBlocked (Begun : List Word → Type 0) (front rest : List Word) : Type 0 where
  pub beyond : (word : Word) (others : List Word) → rest ≡ word ∷ others → (behind : List Word) →
      All IsWord behind → Begun (front ++ word ∷ behind) → ⊥

-- how far the words are begun
pub record Extent (Begun : List Word → Type 0) (words : List Word) : Type 0 where
  pub front : List Word
  pub rest : List Word
  pub words_are : words ≡ front ++ rest
  pub begins : Begun front
  pub blocked : IsBlocked Begun front rest

-- one front goes on where the other one ends
record Longer (front rest other : List Word) : Type 0 where
  word : Word
  others : List Word
  behind : List Word
  rest_is : rest ≡ word ∷ others
  other_is : other ≡ front ++ word ∷ behind

abbrev Meeting : List Word → List Word → List Word → List Word → Type 0
Meeting front rest other last = (front ≡ other) ⊎ (Longer front rest other ⊎ Longer other last front)

-- one more word at both fronts
meet-behind : (word second : Word) (front rest other last : List Word) → word ≡ second →
    Meeting front rest other last → Meeting (word ∷ front) rest (second ∷ other) last
meet-behind word second front rest other last same (inl equal) =
    inl (ap (λ w. w ∷ front) same ∙ ap (λ ws. second ∷ ws) equal)
meet-behind word second front rest other last same (inr (inl longer)) = inr (inl (record {
  word = longer.word;
  others = longer.others;
  behind = longer.behind;
  rest_is = longer.rest_is;
  other_is = ap (λ ws. second ∷ ws) longer.other_is
      ∙ ap (λ w. w ∷ (front ++ longer.word ∷ longer.behind)) (sym same);
}))
meet-behind word second front rest other last same (inr (inr longer)) = inr (inr (record {
  word = longer.word;
  others = longer.others;
  behind = longer.behind;
  rest_is = longer.rest_is;
  other_is = ap (λ ws. word ∷ ws) longer.other_is
      ∙ ap (λ w. w ∷ (other ++ longer.word ∷ longer.behind)) same;
}))

meet : (front rest other last : List Word) → front ++ rest ≡ other ++ last → Meeting front rest other last
meet [] rest [] last same = inl refl
meet [] rest (word ∷ other) last same = inr (inl (record {
  word = word;
  others = other ++ last;
  behind = other;
  rest_is = same;
  other_is = refl;
}))
meet (word ∷ front) rest [] last same = inr (inr (record {
  word = word;
  others = front ++ rest;
  behind = front;
  rest_is = sym same;
  other_is = refl;
}))
meet (word ∷ front) rest (second ∷ other) last same =
    let first_same : word ≡ second = cc in
    let others_same : front ++ rest ≡ other ++ last = cc in
    meet-behind word second front rest other last first_same (meet front rest other last others_same)

-- what is begun ends no further on than where it is blocked
not-longer : (Begun : List Word → Type 0) (words front rest other last : List Word) → All IsWord words →
    words ≡ other ++ last → IsBlocked Begun front rest → Begun other → Longer front rest other → ⊥
not-longer Begun words front rest other last all words_are blocked begins longer =
    let in_words : All IsWord (other ++ last) = subst (λ (ws : List Word). All IsWord ws) words_are all in
    let in_other : All IsWord (front ++ longer.word ∷ longer.behind) =
    subst (λ (ws : List Word). All IsWord ws) longer.other_is (all-before IsWord other last in_words) in
    let in_behind : All IsWord longer.behind = All-tail IsWord longer.word longer.behind
    (all-behind IsWord front (longer.word ∷ longer.behind) in_other) in
    blocked.beyond longer.word longer.others longer.rest_is longer.behind in_behind
    (subst Begun longer.other_is begins)

-- two extents of the same words are one
pub one-extent : {Begun : List Word → Type 0} (words : List Word) → All IsWord words →
    (one other : Extent Begun words) → one.front ≡ other.front
one-extent {Begun} words all one other =
    by_meeting (meet one.front one.rest other.front other.rest (sym one.words_are ∙ other.words_are))
  where
    by_meeting : Meeting one.front one.rest other.front other.rest → one.front ≡ other.front
    by_meeting (inl same) = same
    by_meeting (inr (inl longer)) = absurd (not-longer Begun words one.front one.rest other.front
        other.rest all other.words_are one.blocked other.begins longer)
    by_meeting (inr (inr longer)) = absurd (not-longer Begun words other.front other.rest one.front
        one.rest all one.words_are other.blocked one.begins longer)

-- a kept piece doesn't pass a limit
pub kept-at : (pieces before : List Piece) (at : Piece) (after : List Piece) → AreKept pieces →
    pieces ≡ before ++ at ∷ after → at.passes ≡ false
kept-at pieces before at after kept are =
    All-head (λ (p : Piece). p.passes ≡ false) at after
    (all-behind (λ (p : Piece). p.passes ≡ false) before (at ∷ after) (subst AreKept are kept))

-- what is left behind the same words is the same
pub same-rest : (words front other rest last : List Word) → words ≡ front ++ rest → words ≡ other ++ last →
    front ≡ other → rest ≡ last
same-rest words front other rest last one two same =
    append-cancel other rest last (ap (λ ws. ws ++ rest) (sym same) ∙ sym one ∙ two)
