-- How words are made into a phrase: any words of these sorts are a phrase of a value that is the same in
-- what is kept of it, and take so many marks.
use Rattle.std.proofs.Common.{◌≡◌, ℕ, suc, pred, ◌+◌, ◌-◌, ◌≤◌, ◌==◌, false, List, [], ◌∷◌, ◌++◌, map}
use Rattle.std.proofs.Common.{Option, Some, None, inl, inr, ap, sym, refl, ◌∙◌, arith}
use Rattle.std.specs.List.{AllByRecursion, flat_map}
use Rattle.std.proofs.lemmas.List.{map-append}
use Rattle.seuss_parser.specs.declared.word.Word.{Word}
use Rattle.seuss_parser.specs.declared.word.Sort.{Sort}
use Rattle.seuss_parser.specs.Phrases.{Piece, Phrase, words_in, OneWord, OneMark, Only, Either, Optional}
use Rattle.seuss_parser.specs.Phrases.{Many, Whole, ◌>>=◌}
use Rattle.seuss_print.proofs.Lists.{all_append}

abbrev pub sorts_of : List Word → List Sort
sorts_of words = map (λ (w : Word). w.sort) words

abbrev pub PassesNone : Piece → Type 0
PassesNone p = p.passes ≡ false

-- a phrase of these words, with a value that is the same in what is kept of it
pub record Made {A B : Type 0} (P : Phrase A) (keep : A → B) (value : A) (words : List Word) (room left : ℕ)
    : Type 0 where
  pub other : A
  pub pieces : List Piece
  pub derives : P other room pieces left
  pub kept : AllByRecursion PassesNone pieces
  pub words_are : words_in pieces ≡ words
  pub same : keep other ≡ keep value

pub record Makes {A B : Type 0} (P : Phrase A) (keep : A → B) (value : A) (sorts : List Sort) (marks : ℕ) :
    Type 0 where
  pub of : (words : List Word) → sorts_of words ≡ sorts → (room left : ℕ) → room ≡ marks + left →
      Made P keep value words room left

pub makes-as : {A B : Type 0} (P : Phrase A) (keep : A → B) (value : A) (xs ys : List Sort) (m n : ℕ) →
    xs ≡ ys → m ≡ n →
    Makes P keep value xs m → Makes P keep value ys n
makes-as P keep value xs ys m n h k g = record {
  of = λ words are room left fits.
      g.of words (are ∙ sym h) room left (omega (arith, fits, k));
}

-- the same value in another phrase, and another value that is the same in what is kept
pub makes-by : {A B : Type 0} (P Q : Phrase A) (keep : A → B) (value : A) (xs : List Sort) (m : ℕ) →
    ((a : A) (room : ℕ) (pieces : List Piece) (left : ℕ) → P a room pieces left → Q a room pieces left) →
    Makes P keep value xs m → Makes Q keep value xs m
makes-by P Q keep value xs m turn g = record {
  of = λ words are room left fits.
      let x = g.of words are room left fits in
      record {
        other = x.other;
        pieces = x.pieces;
        derives = turn x.other room x.pieces left x.derives;
        kept = x.kept;
        words_are = x.words_are;
        same = x.same;
      };
}

pub makes-same : {A B : Type 0} (P : Phrase A) (keep : A → B) (a b : A) (xs : List Sort) (m : ℕ) →
    keep a ≡ keep b →
    Makes P keep a xs m → Makes P keep b xs m
makes-same P keep a b xs m h g = record {
  of = λ words are room left fits.
      let x = g.of words are room left fits in
      record {
        other = x.other;
        pieces = x.pieces;
        derives = x.derives;
        kept = x.kept;
        words_are =
            x.words_are;
        same = x.same ∙ h;
      };
}

-- words that are cut in two, by their sorts
pub record Cut (xs ys : List Sort) (words : List Word) : Type 0 where
  pub front : List Word
  pub back : List Word
  pub whole : words ≡ front ++ back
  pub first : sorts_of front ≡ xs
  pub second : sorts_of back ≡ ys

first-sort : (x y : Sort) (xs ys : List Sort) → x ∷ xs ≡ y ∷ ys → x ≡ y
first-sort x y xs ys h = cc

other-sorts : (x y : Sort) (xs ys : List Sort) → x ∷ xs ≡ y ∷ ys → xs ≡ ys
other-sorts x y xs ys h = cc

no-sorts : (x : Sort) (xs : List Sort) → [] ≡ x ∷ xs → ⊥
no-sorts x xs h = cc

pub cut : (xs ys : List Sort) (words : List Word) → sorts_of words ≡ xs ++ ys → Cut xs ys words
cut [] ys words h = record { front = []; back = words; whole = refl; first = refl; second = h }
cut (x ∷ xs) ys [] h = absurd (no-sorts x (xs ++ ys) h)
cut (x ∷ xs) ys (w ∷ words) h =
    let rest = cut xs ys words (other-sorts w.sort x (sorts_of words) (xs ++ ys) h) in
    record {
      front = w ∷ rest.front;
      back = rest.back;
      whole = ap (λ ws. w ∷ ws) rest.whole;
      first = ap (λ s. s ∷ sorts_of rest.front) (first-sort w.sort x (sorts_of words) (xs ++ ys) h)
          ∙ ap (λ ss. x ∷ ss) rest.first;
      second = rest.second;
    }

pub words-append : (ps qs : List Piece) → words_in (ps ++ qs) ≡ words_in ps ++ words_in qs
words-append ps qs = map-append (λ (p : Piece). p.word) ps qs

module _ {A B C D : Type 0} (P : Phrase A) (Q : A → Phrase B) (f : A → C) (g : B → D) (a : A) (b : B)
    (xs ys : List Sort) (m n : ℕ) where
  pub makes-then : Makes P f a xs m → ((other : A) → f other ≡ f a → Makes (Q other) g b ys n) →
      Makes (P >>= Q) g b (xs ++ ys) (m + n)
  makes-then first next = record {
    of = λ words are room left fits.
        let parts = cut xs ys words are in
        let x = first.of parts.front parts.first room (n + left) (omega (arith, fits)) in
        let y = (next x.other x.same).of parts.back parts.second (n + left) left refl in
        record {
          other = y.other;
          pieces = x.pieces ++ y.pieces;
          derives = record {
            first = x.other;
            front = x.pieces;
            between = n + left;
            back = y.pieces;
            spelled = refl;
            begins = x.derives;
            goes_on = y.derives;
          };
          kept = all_append PassesNone x.pieces y.pieces x.kept y.kept;
          words_are = words-append x.pieces y.pieces
              ∙ (ap (λ ws. ws ++ words_in y.pieces) x.words_are
              ∙ (ap (λ ws. parts.front ++ ws) y.words_are ∙ sym parts.whole));
          same = y.same;
        };
  }

-- a word of this sort is read as the value, whatever its line is
pub record Reads {A C : Type 0} (reads : Word → Option A) (f : A → C) (a : A) (sort : Sort) (word : Word) :
    Type 0 where
  pub found : A
  pub is : reads word ≡ Some found
  pub same : f found ≡ f a

abbrev pub AlwaysReads : {A C : Type 0} → (Word → Option A) → (A → C) → A → Sort → Type 0
AlwaysReads reads f a sort = (line : ℕ) → Reads reads f a sort (record { line = line; sort = sort })

one-word : (sort : Sort) (words : List Word) → sorts_of words ≡ sort ∷ [] →
    (line : ℕ) × (words ≡ record { line = line; sort = sort } ∷ [])
one-word sort [] h = absurd (no-sorts sort [] h)
one-word sort (w ∷ []) h =
    (w.line, ap (λ s. record { line = w.line; sort = s } ∷ []) (first-sort w.sort sort [] [] h))
one-word sort (w ∷ v ∷ words) h = absurd
    (no-sorts v.sort (sorts_of words) (sym (other-sorts w.sort sort (v.sort ∷ sorts_of words) [] h)))

some-left : (left : ℕ) → (suc left == 0) ≡ false
some-left left = grind arith

module _ {A C : Type 0} (reads : Word → Option A) (f : A → C) (a : A) (sort : Sort)
    (always : AlwaysReads reads f a sort) where
  pub makes-word : Makes (OneWord reads false) f a (sort ∷ []) 0
  makes-word = record {
    of = λ words are room left fits.
        let one = one-word sort words are in
        let r = always one.0 in
        record {
          other = r.found;
          pieces = record { word = record { line = one.0; sort = sort }; passes = false } ∷ [];
          derives = record {
            word = record { line = one.0; sort = sort };
            spelled = refl;
            read = r.is;
            room_stays = omega (arith, fits);
          };
          kept = (refl, tt);
          words_are = sym one.1;
          same = r.same;
        };
  }

  pub makes-mark : Makes (OneMark reads) f a (sort ∷ []) 1
  makes-mark = record {
    of = λ words are room left fits.
        let one = one-word sort words are in
        let r = always one.0 in
        let some : room ≡ suc left = omega (arith, fits) in
        record {
          other = r.found;
          pieces = record { word = record { line = one.0; sort = sort }; passes = room == 0 } ∷ [];
          derives = record {
            word = record { line = one.0; sort = sort };
            spelled = refl;
            read = r.is;
            room_falls = sym (ap (λ n. pred n) some);
          };
          kept = (ap (λ n. n == 0) some ∙ some-left left, tt);
          words_are = sym one.1;
          same = r.same;
        };
  }

  module _ {B D : Type 0} (Q : A → Phrase B) (g : B → D) (b : B) (ys : List Sort) (n : ℕ)
      (next : (other : A) → f other ≡ f a → Makes (Q other) g b ys n) where
    pub word-makes : Makes (OneWord reads false >>= Q) g b (sort ∷ ys) n
    word-makes = makes-as _ g b _ (sort ∷ ys) (0 + n) n refl (omega arith)
        (makes-then (OneWord reads false) Q f g a b (sort ∷ []) ys 0 n makes-word next)

    pub mark-makes : Makes (OneMark reads >>= Q) g b (sort ∷ ys) (suc n)
    mark-makes = makes-as _ g b _ (sort ∷ ys) (1 + n) (suc n) refl (omega arith)
        (makes-then (OneMark reads) Q f g a b (sort ∷ []) ys 1 n makes-mark next)

pub makes-only : {B D : Type 0} (this b : B) (g : B → D) → g this ≡ g b → Makes (Only this) g b [] 0
makes-only this b g h = record {
  of = λ words are room left fits.
      record {
        other = this;
        pieces = [];
        derives = record { is_this = refl; spelled = refl; room_stays = omega (arith, fits) };
        kept = tt;
        words_are = none words are;
        same = h;
      };
}
  where
    none : (words : List Word) → sorts_of words ≡ [] → [] ≡ words
    none [] h = refl
    none (w ∷ words) h = absurd (no-sorts w.sort (sorts_of words) (sym h))

module _ {A C : Type 0} (P Q : Phrase A) (f : A → C) (a : A) (xs : List Sort) (m : ℕ) where
  pub makes-first : Makes P f a xs m → Makes (Either P Q) f a xs m
  makes-first g = makes-by P (Either P Q) f a xs m (λ b room pieces left d. inl d) g

  pub makes-second : Makes Q f a xs m → Makes (Either P Q) f a xs m
  makes-second g = makes-by Q (Either P Q) f a xs m (λ b room pieces left d. inr d) g

-- what is kept of a value that may be left out
abbrev pub kept_option : {A C : Type 0} → (A → C) → Option A → Option C
kept_option f None = None
kept_option f (Some a) = Some (f a)

module _ {A C : Type 0} (P : Phrase A) (f : A → C) where
  pub makes-none : Makes (Optional P) (kept_option f) None [] 0
  makes-none = record {
    of = λ words are room left fits.
        record {
          other = None;
          pieces = [];
          derives = (refl, omega (arith, fits));
          kept = tt;
          words_are =
              none words are;
          same = refl;
        };
  }
    where
      none : (words : List Word) → sorts_of words ≡ [] → [] ≡ words
      none [] h = refl
      none (w ∷ words) h = absurd (no-sorts w.sort (sorts_of words) (sym h))

  pub makes-some : (a : A) (xs : List Sort) (m : ℕ) → Makes P f a xs m →
      Makes (Optional P) (kept_option f) (Some a) xs m
  makes-some a xs m g = record {
    of = λ words are room left fits.
        let x = g.of words are room left fits in
        record {
          other = Some x.other;
          pieces = x.pieces;
          derives = x.derives;
          kept = x.kept;
          words_are =
              x.words_are;
          same = ap (λ c. Some c) x.same;
        };
  }

  pub makes-nothing : Makes (Many P) (λ (as_ : List A). map f as_) [] [] 0
  makes-nothing = record {
    of = λ words are room left fits.
        record {
          other = [];
          pieces = [];
          derives = (refl, omega (arith, fits));
          kept = tt;
          words_are =
              none words are;
          same = refl;
        };
  }
    where
      none : (words : List Word) → sorts_of words ≡ [] → [] ≡ words
      none [] h = refl
      none (w ∷ words) h = absurd (no-sorts w.sort (sorts_of words) (sym h))

  pub makes-one-more : (a : A) (as_ : List A) (xs ys : List Sort) (m n : ℕ) → Makes P f a xs m →
      Makes (Many P) (λ (as_ : List A). map f as_) as_ ys n →
      Makes (Many P) (λ (as_ : List A). map f as_) (a ∷ as_) (xs ++ ys) (m + n)
  makes-one-more a as_ xs ys m n first others = record {
    of = λ words are room left fits.
        let parts = cut xs ys words are in
        let x = first.of parts.front parts.first room (n + left) (omega (arith, fits)) in
        let y = others.of parts.back parts.second (n + left) left refl in
        record {
          other = x.other ∷ y.other;
          pieces = x.pieces ++ y.pieces;
          derives = (x.pieces, n + left, y.pieces, refl, x.derives, y.derives);
          kept = all_append PassesNone x.pieces y.pieces x.kept y.kept;
          words_are = words-append x.pieces y.pieces
              ∙ (ap (λ ws. ws ++ words_in y.pieces) x.words_are
              ∙ (ap (λ ws. parts.front ++ ws) y.words_are ∙ sym parts.whole));
          same = ap (λ c. c ∷ map f y.other) x.same ∙ ap (λ cs. f a ∷ cs) y.same;
        };
  }

  -- a row of values, none of which takes marks
  pub makes-row : (sorts : A → List Sort) (as_ : List A) →
      AllByRecursion (λ a. Makes P f a (sorts a) 0) as_ →
      Makes (Many P) (λ (as_ : List A). map f as_) as_ (flat_map sorts as_) 0
  makes-row sorts [] all = makes-nothing
  makes-row sorts (a ∷ as_) all =
      makes-as (Many P) (λ (as_ : List A). map f as_) (a ∷ as_) _ _ (0 + 0) 0 refl (omega arith)
      (makes-one-more a as_ (sorts a) (flat_map sorts as_) 0 0 all.0 (makes-row sorts as_ all.1))

  pub makes-whole : (marks : ℕ) (a : A) (xs : List Sort) (m : ℕ) → m ≤ marks → Makes P f a xs m →
      Makes (Whole marks P) f a xs 0
  makes-whole marks a xs m h g = record {
    of = λ words are room left fits.
        let x = g.of words are marks (marks - m) (omega (arith, h)) in
        record {
          other = x.other;
          pieces = x.pieces;
          derives = record { unused = marks - m; spelled = x.derives; room_stays = omega (arith, fits) };
          kept = x.kept;
          words_are = x.words_are;
          same = x.same;
        };
  }
