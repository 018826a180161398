-- What follows of the value of each phrase, where its words are within their limits and none passes one.
use Rattle.std.proofs.Common.{◌≡◌, ℕ, zero, suc, pred, ◌+◌, ◌==◌, Bool, false, List, [], ◌∷◌, ◌++◌, length}
use Rattle.std.proofs.Common.{Option, Some, None, inl, inr, ap, subst, sym, ◌∙◌, arith, length-append}
use Rattle.std.specs.List.{AllByRecursion}
use Rattle.seuss_parser.specs.declared.word.Word.{Word}
use Rattle.seuss_parser.specs.Phrases.{Piece, Phrase, OneWord, OneMark, Only, Either, Optional, Many, Whole}
use Rattle.seuss_parser.specs.Phrases.{◌>>=◌}
use Rattle.seuss_print.specs.Printable.{IsWithinLimit}
use Rattle.seuss_print.proofs.Lists.{all_left, all_right}

-- a piece that passes no limit and whose word is within its own
pub record IsFine (piece : Piece) : Type 0 where
  pub kept : piece.passes ≡ false
  pub good : IsWithinLimit piece.word.sort

abbrev pub AreFine : List Piece → Type 0
AreFine pieces = AllByRecursion IsFine pieces

-- what is known of a value, the room that is left and the number of words
abbrev pub Claim : Type 0 → Type 1
Claim A = A → ℕ → ℕ → Type 0

-- from this room on, the phrase gives values of which the claim holds
pub record Gives {A : Type 0} (P : Phrase A) (room : ℕ) (R : Claim A) : Type 0 where
  pub of : (value : A) (pieces : List Piece) (left : ℕ) → P value room pieces left → AreFine pieces →
      R value left (length pieces)

module _ {A B : Type 0} (P : Phrase A) (Q : A → Phrase B) (room : ℕ) (R : Claim A) (S : Claim B) where
  pub gives-then : Gives P room R →
      ((a : A) (mid n : ℕ) → R a mid n → Gives (Q a) mid (λ b left m. S b left (n + m))) →
      Gives (P >>= Q) room S
  gives-then g next = record {
    of = λ value pieces left d fine.
        let parts : AreFine (d.front ++ d.back) = subst AreFine d.spelled fine in
        let sizes : length d.front + length d.back ≡ length pieces =
        sym (ap (λ (ps : List Piece). length ps) d.spelled ∙ length-append d.front d.back) in
        subst (λ n. S value left n) sizes
        ((next d.first d.between (length d.front)
        (g.of d.first d.front d.between d.begins (all_left IsFine d.front d.back parts))).of
        value d.back left d.goes_on (all_right IsFine d.front d.back parts));
  }

-- a word that is read as this
pub record WordOf {A : Type 0} (reads : Word → Option A) (a : A) : Type 0 where
  pub word : Word
  pub good : IsWithinLimit word.sort
  pub read : reads word ≡ Some a

one-piece : (pieces : List Piece) (piece : Piece) → pieces ≡ piece ∷ [] → AreFine pieces →
    IsFine piece × (length pieces ≡ 1)
one-piece pieces piece h fine = ((subst AreFine h fine).0, ap (λ (ps : List Piece). length ps) h)

mark-room : (room left : ℕ) → (room == 0) ≡ false → left ≡ pred room → room ≡ suc left
mark-room zero left kept h = absurd (grind (arith, kept))
mark-room (suc room) left kept h = ap (λ n. suc n) (sym h)

-- a word that passes no limit, and one that counts as a mark
pub record AsWord {A : Type 0} (reads : Word → Option A) (passes : Bool) (room : ℕ) (a : A) (left n : ℕ) :
    Type 0 where
  pub is : WordOf reads a
  pub kept : passes ≡ false
  pub same : room ≡ left
  pub one : n ≡ 1

pub record AsMark {A : Type 0} (reads : Word → Option A) (room : ℕ) (a : A) (left n : ℕ) : Type 0 where
  pub is : WordOf reads a
  pub less : room ≡ suc left
  pub one : n ≡ 1

pub gives-word : {A : Type 0} (reads : Word → Option A) (passes : Bool) (room : ℕ) →
    Gives (OneWord reads passes) room (AsWord reads passes room)
gives-word reads passes room = record {
  of = λ value pieces left d fine.
      let one = one-piece pieces _ d.spelled fine in
      record {
        is = record { word = d.word; good = one.0.good; read = d.read };
        kept = one.0.kept;
        same =
            sym d.room_stays;
        one = one.1;
      };
}

pub gives-mark : {A : Type 0} (reads : Word → Option A) (room : ℕ) →
    Gives (OneMark reads) room (AsMark reads room)
gives-mark reads room = record {
  of = λ value pieces left d fine.
      let one = one-piece pieces _ d.spelled fine in
      record {
        is = record { word = d.word; good = one.0.good; read = d.read };
        less =
            mark-room room left one.0.kept d.room_falls;
        one = one.1;
      };
}

module _ {A B : Type 0} (reads : Word → Option A) (Q : A → Phrase B) (room : ℕ) (S : Claim B) where
  pub word-then : (passes : Bool) →
      ((a : A) → WordOf reads a → passes ≡ false → Gives (Q a) room (λ b left m. S b left (suc m))) →
      Gives (OneWord reads passes >>= Q) room S
  word-then passes next = gives-then (OneWord reads passes) Q room (AsWord reads passes room) S
      (gives-word reads passes room) (λ a mid n w. record {
        of = λ b pieces left d fine.
            let sizes : suc (length pieces) ≡ n + length pieces = omega (arith, w.one) in
            subst (λ k. S b left k) sizes
            ((next a w.is w.kept).of b pieces left (subst (λ r. Q a b r pieces left) (sym w.same) d) fine);
      })

  pub mark-then :
      ((a : A) (mid : ℕ) → WordOf reads a → room ≡ suc mid → Gives (Q a) mid (λ b left m. S b left (suc m)))
      →
      Gives (OneMark reads >>= Q) room S
  mark-then next = gives-then (OneMark reads) Q room (AsMark reads room) S (gives-mark reads room)
      (λ a mid n w. record {
        of = λ b pieces left d fine.
            let sizes : suc (length pieces) ≡ n + length pieces = omega (arith, w.one) in
            subst (λ k. S b left k) sizes ((next a mid w.is w.less).of b pieces left d fine);
      })

pub gives-only : {A : Type 0} (this : A) (room : ℕ) (R : Claim A) → R this room 0 → Gives (Only this) room R
gives-only this room R h = record {
  of = λ value pieces left d fine.
      subst (λ a. R a left (length pieces)) (sym d.is_this)
      (subst (λ l. R this l (length pieces)) (sym d.room_stays)
      (subst (λ (ps : List Piece). R this room (length ps)) (sym d.spelled) h));
}

module _ {A : Type 0} (P Q : Phrase A) (room : ℕ) (R : Claim A) (p : Gives P room R) (q : Gives Q room R)
  where
    one-of : (value : A) (pieces : List Piece) (left : ℕ) → Either P Q value room pieces left →
        AreFine pieces → R value left (length pieces)
    one-of value pieces left (inl d) fine = p.of value pieces left d fine
    one-of value pieces left (inr d) fine = q.of value pieces left d fine

    pub gives-either : Gives (Either P Q) room R
    gives-either = record { of = one-of }

module _ {A : Type 0} (P : Phrase A) (room : ℕ) (R : Claim (Option A)) (none : R None room 0)
    (some : Gives P room (λ a left n. R (Some a) left n)) where
  perhaps-of : (value : Option A) (pieces : List Piece) (left : ℕ) → Optional P value room pieces left →
      AreFine pieces → R value left (length pieces)
  perhaps-of None pieces left d fine =
      subst (λ l. R None l (length pieces)) (sym d.1)
      (subst (λ (ps : List Piece). R None room (length ps)) (sym d.0) none)
  perhaps-of (Some a) pieces left d fine = some.of a pieces left d fine

  pub gives-optional : Gives (Optional P) room R
  gives-optional = record { of = perhaps-of }

-- a row: what is known of the whole, from what is known of each
module _ {A : Type 0} (P : Phrase A) (R : ℕ → Claim A) (S : ℕ → Claim (List A))
    (g : (room : ℕ) → Gives P room (R room))
    (none : (room : ℕ) → S room [] room 0)
    (more_ : (a : A) (as_ : List A) (room mid left n m : ℕ) → R room a mid n → S mid as_ left m →
    S room (a ∷ as_) left (n + m)) where
  each-of : (values : List A) (room : ℕ) (pieces : List Piece) (left : ℕ) → Many P values room pieces left →
      AreFine pieces → S room values left (length pieces)
  each-of [] room pieces left d fine =
      subst (λ l. S room [] l (length pieces)) (sym d.1)
      (subst (λ (ps : List Piece). S room [] room (length ps)) (sym d.0) (none room))
  each-of (a ∷ as_) room pieces left d fine =
      let parts : AreFine (d.0 ++ d.2) = subst AreFine d.3 fine in
      let sizes : length d.0 + length d.2 ≡ length pieces =
      sym (ap (λ (ps : List Piece). length ps) d.3 ∙ length-append d.0 d.2) in
      subst (λ n. S room (a ∷ as_) left n) sizes
      (more_ a as_ room d.1 left (length d.0) (length d.2)
      ((g room).of a d.0 d.1 d.4 (all_left IsFine d.0 d.2 parts))
      (each-of as_ d.1 d.2 left d.5 (all_right IsFine d.0 d.2 parts)))

  pub gives-many : (room : ℕ) → Gives (Many P) room (S room)
  gives-many room = record { of = λ values pieces left d fine. each-of values room pieces left d fine }

-- a whole expression, which takes no room from what stands around it
pub record AsWhole {A : Type 0} (marks : ℕ) (R : Claim A) (room : ℕ) (a : A) (left n : ℕ) : Type 0 where
  pub unused : ℕ
  pub is : R a unused n
  pub same : room ≡ left

pub gives-whole : {A : Type 0} (marks : ℕ) (P : Phrase A) (room : ℕ) (R : Claim A) → Gives P marks R →
    Gives (Whole marks P) room (AsWhole marks R room)
gives-whole marks P room R g = record {
  of = λ value pieces left d fine.
      record { unused = d.unused; is = g.of value pieces d.unused d.spelled fine; same = sym d.room_stays };
}
