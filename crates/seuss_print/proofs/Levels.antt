-- The productions of expressions by their levels: what is of a level is of each lower one.
use Rattle.std.proofs.Common.{◌≡◌, ℕ, zero, suc, ◌≤◌, nat_le, true, false, List, [], ◌∷◌, ◌++◌, Option}
use Rattle.std.proofs.Common.{None, ap, subst, sym, refl, ◌∙◌, arith, append_assoc, append-nil}
use Rattle.seuss_parser.specs.Trees as G
use Rattle.seuss_parser.specs.Trees.{disjunction, conjunction, addition, multiplication}
use Rattle.seuss_parser.specs.Phrases.{Piece, Phrase, Many, Only, Then}
use Rattle.seuss_parser.specs.Grammar.{IsMark, IsBehind, IsChain, IsPrimary, IsUnary, IsProduct, IsSum}
use Rattle.seuss_parser.specs.Grammar.{IsComparison, IsNegation, IsConjunction, IsDisjunction}
use Rattle.seuss_parser.specs.declared.word.Behind.{Behind}
use Rattle.seuss_parser.specs.declared.symbol.Symbol.{Symbol}
use Rattle.seuss_parser.specs.declared.symbol.Symbol.TheVariants as S
use Rattle.seuss_print.specs.Places.{IsOfLevel}
use Rattle.seuss_program.specs.declared.tree.Name.{Name}
use Rattle.seuss_program.specs.declared.tree.Op.{Op}
use Rattle.seuss_program.specs.declared.tree.Expr.{Expr}
use Rattle.seuss_program.specs.declared.tree.Node.TheVariants as N

-- one phrase is a phrase of another production, with the same value
abbrev pub Turns : Phrase (Expr Name) → Phrase (Expr Name) → Type 0
Turns P Q = (e : Expr Name) (room : ℕ) (pieces : List Piece) (left : ℕ) → P e room pieces left →
    Q e room pieces left

chain-alone : (ops : Symbol → Option Op) (Part : Phrase (Expr Name)) → Turns Part (IsChain ops Part)
unfolding IsChain
chain-alone ops Part e room pieces left d = record {
  first = e;
  front = pieces;
  between = left;
  back = [];
  spelled = sym (append-nil pieces);
  begins = d;
  goes_on = record {
    first = [];
    front = [];
    between = left;
    back = [];
    spelled = refl;
    begins = (refl, refl);
    goes_on = record { is_this = refl; spelled = refl; room_stays = refl };
  };
}

-- signs before a part, and none
record Signed (s : Symbol) (wrap : List ℕ → Expr Name → Expr Name) (Part : Phrase (Expr Name))
    (e : Expr Name) (room : ℕ) (pieces : List Piece) (left : ℕ) : Type 0 where
  is : Then (Many (IsMark s)) (λ (lines : List ℕ). Then Part (λ (part : Expr Name). Only (wrap lines part)))
      e room pieces left

signs-none : (s : Symbol) (wrap : List ℕ → Expr Name → Expr Name) → ((e : Expr Name) → wrap [] e ≡ e) →
    (Part : Phrase (Expr Name)) → Turns Part (Signed s wrap Part)
signs-none s wrap none Part e room pieces left d = record {
  is = record {
    first = [];
    front = [];
    between = room;
    back = pieces;
    spelled = refl;
    begins = (refl, refl);
    goes_on = record {
      first = e;
      front = pieces;
      between = left;
      back = [];
      spelled = sym (append-nil pieces);
      begins = d;
      goes_on = record { is_this = sym (none e); spelled = refl; room_stays = refl };
    };
  };
}

-- one more sign
signs-more : (s : Symbol) (wrap : List ℕ → Expr Name → Expr Name) (one : ℕ → Expr Name → Expr Name) →
    ((line : ℕ) (lines : List ℕ) (e : Expr Name) → wrap (line ∷ lines) e ≡ one line (wrap lines e)) →
    (Part : Phrase (Expr Name)) →
    (line : ℕ) (e : Expr Name) (room mid left : ℕ) (front back : List Piece) →
    IsMark s line room front mid → Signed s wrap Part e mid back left →
    Signed s wrap Part (one line e) room (front ++ back) left
signs-more s wrap one more_ Part line e room mid left front back mark d = record {
  is = record {
    first = line ∷ d.is.first;
    front = front ++ d.is.front;
    between = d.is.between;
    back = d.is.back;
    spelled = ap (λ (ps : List Piece). front ++ ps) d.is.spelled
        ∙ sym (append_assoc front d.is.front d.is.back);
    begins = (front, mid, d.is.front, refl, mark, d.is.begins);
    goes_on = record {
      first = d.is.goes_on.first;
      front = d.is.goes_on.front;
      between = d.is.goes_on.between;
      back = d.is.goes_on.back;
      spelled = d.is.goes_on.spelled;
      begins = d.is.goes_on.begins;
      goes_on = record {
        is_this = ap (λ x. one line x) d.is.goes_on.goes_on.is_this
            ∙ sym (more_ line d.is.first d.is.goes_on.first);
        spelled = d.is.goes_on.goes_on.spelled;
        room_stays = d.is.goes_on.goes_on.room_stays;
      };
    };
  };
}

-- a row with one more at its end
many-end : {A : Type 0} (P : Phrase A) (as_ : List A) (a : A) (room mid left : ℕ) (ps qs : List Piece) →
    Many P as_ room ps mid → P a mid qs left → Many P (as_ ++ a ∷ []) room (ps ++ qs) left
many-end P [] a room mid left ps qs d x =
    let none : ps ++ qs ≡ qs = ap (λ (zs : List Piece). zs ++ qs) d.0 in
    (qs, left, [], none ∙ sym (append-nil qs), subst (λ r. P a r qs left) d.1 x, (refl, refl))
many-end P (b ∷ bs) a room mid left ps qs d x = (
  d.0,
  d.1,
  d.2 ++ qs,
  ap (λ (zs : List Piece). zs ++ qs) d.3
      ∙ append_assoc d.0 d.2 qs,
  d.4,
  many-end P bs a d.1 mid left d.2 qs d.5 x,
)

grouped-end : (first : Expr Name) (others : List Behind) (next : Behind) →
    G.grouped first (others ++ next ∷ []) ≡ G.two next.op (G.grouped first others) next.part
grouped-end first [] next = refl
grouped-end first (other ∷ others) next = grouped-end (G.two other.op first other.part) others next

-- a chain with one more part
pub chain-more : (ops : Symbol → Option Op) (Part : Phrase (Expr Name)) (e : Expr Name) (next : Behind)
    (room mid left : ℕ) (ps qs : List Piece) →
    IsChain ops Part e room ps mid → IsBehind ops Part next mid qs left →
    IsChain ops Part (G.two next.op e next.part) room (ps ++ qs) left
unfolding IsChain
chain-more ops Part e next room mid left ps qs d x =
    let others : List Behind = d.goes_on.first in
    let tail : d.back ≡ d.goes_on.front =
    d.goes_on.spelled ∙ (ap (λ (zs : List Piece). d.goes_on.front ++ zs) d.goes_on.goes_on.spelled
    ∙ append-nil d.goes_on.front) in
    let stays : d.goes_on.between ≡ mid = sym d.goes_on.goes_on.room_stays in
    record {
      first = d.first;
      front = d.front;
      between = d.between;
      back = d.back ++ qs;
      spelled = ap (λ (zs : List Piece). zs ++ qs) d.spelled ∙ append_assoc d.front d.back qs;
      begins = d.begins;
      goes_on = record {
        first = others ++ next ∷ [];
        front = d.back ++ qs;
        between = left;
        back = [];
        spelled = sym (append-nil (d.back ++ qs));
        begins = many-end (IsBehind ops Part) others next d.between mid left d.back qs
            (subst (λ (zs : List Piece). Many (IsBehind ops Part) others d.between zs mid) (sym tail)
            (subst (λ r. Many (IsBehind ops Part) others d.between d.goes_on.front r) stays
            d.goes_on.begins)) x;
        goes_on = record {
          is_this = ap (λ z. G.two next.op z next.part) d.goes_on.goes_on.is_this
              ∙ sym (grouped-end d.first others next);
          spelled = refl;
          room_stays = refl;
        };
      };
    }

module _ (Inner : Phrase (Expr Name)) where
  -- the production of each level
  abbrev pub Level : ℕ → Phrase (Expr Name)
  Level n = IsOfLevel Inner n

  pub unary-more : (line : ℕ) (e : Expr Name) (room mid left : ℕ) (ps qs : List Piece) →
      IsMark S.Minus line room ps mid → IsUnary Inner e mid qs left →
      IsUnary Inner (G.expression line (N.Neg e)) room (ps ++ qs) left
  unfolding IsUnary
  unary-more line e room mid left ps qs mark d =
      (signs-more S.Minus G.minus (λ line e. G.expression line (N.Neg e)) (λ line lines e. refl)
      (IsPrimary Inner) line e room mid left ps qs mark (record { is = d })).is

  pub negation-more : (line : ℕ) (e : Expr Name) (room mid left : ℕ) (ps qs : List Piece) →
      IsMark S.Not line room ps mid → IsNegation Inner e mid qs left →
      IsNegation Inner (G.expression line (N.Not e)) room (ps ++ qs) left
  unfolding IsNegation
  negation-more line e room mid left ps qs mark d =
      (signs-more S.Not G.negated (λ line e. G.expression line (N.Not e)) (λ line lines e. refl)
      (IsComparison Inner) line e room mid left ps qs mark (record { is = d })).is

  to-disjunction : Turns (IsConjunction Inner) (IsDisjunction Inner)
  unfolding IsDisjunction
  to-disjunction = chain-alone disjunction (IsConjunction Inner)

  to-conjunction : Turns (IsNegation Inner) (IsConjunction Inner)
  unfolding IsConjunction
  to-conjunction = chain-alone conjunction (IsNegation Inner)

  to-negation : Turns (IsComparison Inner) (IsNegation Inner)
  unfolding IsNegation
  to-negation e room pieces left d =
      (signs-none S.Not G.negated (λ e. refl) (IsComparison Inner) e room pieces left d).is

  to-comparison : Turns (IsSum Inner) (IsComparison Inner)
  unfolding IsComparison
  to-comparison e room pieces left d = record {
    first = e;
    front = pieces;
    between = left;
    back = [];
    spelled = sym (append-nil pieces);
    begins = d;
    goes_on = record {
      first = None;
      front = [];
      between = left;
      back = [];
      spelled = refl;
      begins = (refl, refl);
      goes_on = record { is_this = refl; spelled = refl; room_stays = refl };
    };
  }

  to-sum : Turns (IsProduct Inner) (IsSum Inner)
  unfolding IsSum
  to-sum = chain-alone addition (IsProduct Inner)

  to-product : Turns (IsUnary Inner) (IsProduct Inner)
  unfolding IsProduct
  to-product = chain-alone multiplication (IsUnary Inner)

  to-unary : Turns (IsPrimary Inner) (IsUnary Inner)
  unfolding IsUnary
  to-unary e room pieces left d =
      (signs-none S.Minus G.minus (λ e. refl) (IsPrimary Inner) e room pieces left d).is

  down : (p : ℕ) → Turns (Level (suc p)) (Level p)
  down zero = to-disjunction
  down (suc zero) = to-conjunction
  down (suc (suc zero)) = to-negation
  down (suc (suc (suc zero))) = to-comparison
  down (suc (suc (suc (suc zero)))) = to-sum
  down (suc (suc (suc (suc (suc zero))))) = to-product
  down (suc (suc (suc (suc (suc (suc zero)))))) = to-unary
  down (suc (suc (suc (suc (suc (suc (suc n))))))) = λ e room pieces left d. d

  -- what is of a level is of each lower one
  pub descend : (q p : ℕ) → p ≤ q → Turns (Level q) (Level p)
  descend zero p h = subst (λ k. Turns (Level zero) (Level k)) (none-below p h) (λ e room pieces left d. d)
    where
      none-below : (p : ℕ) → p ≤ zero → zero ≡ p
      none-below p h = omega (arith, h)
  descend (suc q) p h = elim (nat_le p q) as (λ b. nat_le p q ≡ b → Turns (Level (suc q)) (Level p)) [
    | true ↦ λ is. λ e room pieces left d. descend q p (below q p is) e room pieces left
        (down q e room pieces left d)
    | false ↦ λ is. subst (λ k. Turns (Level (suc q)) (Level k)) (last q p h is) (λ e room pieces left d. d)
  ] refl
    where
      below : (q p : ℕ) → nat_le p q ≡ true → p ≤ q
      below q p h = grind (arith, h)

      last : (q p : ℕ) → p ≤ suc q → nat_le p q ≡ false → suc q ≡ p
      last q p h k = grind (arith, h, k)
