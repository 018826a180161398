-- What single words are read as.
use Rattle.std.proofs.Common.{◌≡◌, ℕ, Option, Some, None, unwrap_or, ap, subst, refl}
use Rattle.seuss_parser.specs.Words.{as_name, as_numeral, as_one_of, name_of, numeral_of, meaning_of}
use Rattle.seuss_parser.specs.Words.{marked_as}
use Rattle.seuss_parser.specs.Trees.{disjunction, conjunction, comparison, addition, multiplication}
use Rattle.seuss_parser.specs.Trees.{pair_function, small_kind}
use Rattle.seuss_parser.specs.declared.word.Numeral.{Numeral}
use Rattle.seuss_parser.specs.declared.word.Marked.{Marked}
use Rattle.seuss_parser.specs.declared.symbol.Symbol.{Symbol}
use Rattle.seuss_parser.specs.declared.symbol.Symbol.TheVariants as S
use Rattle.seuss_parser.specs.declared.word.Word.{Word}
use Rattle.seuss_parser.specs.declared.word.Sort.{Sort}
use Rattle.seuss_parser.specs.declared.word.Sort.TheVariants.{Fixed, Name as Named, Number}
use Rattle.seuss_program.specs.declared.tree.Name.{Name}
use Rattle.seuss_program.specs.declared.tree.Op.{Op}
use Rattle.seuss_program.specs.declared.tree.Op.TheVariants as O
use Rattle.seuss_program.specs.declared.tree.Kind.{Kind}
use Rattle.seuss_program.specs.declared.tree.Kind.TheVariants as K
use Rattle.seuss_program.specs.WellFormed.{IsSmall}
use Rattle.seuss_print.specs.Expressions.{op_level, left_level, right_level}
use Rattle.seuss_print.specs.Printable.{IsWithinLimit}

pub none-some : {A : Type 0} (a : A) → None ≡ Some a → ⊥
none-some a h = cc

pub some-same : {A : Type 0} (a b : A) → Some a ≡ Some b → a ≡ b
some-same a b h = ap (λ o. unwrap_or o a) h

pub name-sort : (line : ℕ) (sort : Sort) (a : Name) → name_of line sort ≡ Some a → sort ≡ Named a.text
name-sort line (Fixed s) a h = absurd (none-some a h)
name-sort line (Named text) a h = ap (λ (n : Name). Named n.text) (some-same _ a h)
name-sort line (Number z) a h = absurd (none-some a h)

pub numeral-sort : (line : ℕ) (sort : Sort) (a : Numeral) → numeral_of line sort ≡ Some a →
    sort ≡ Number a.value
numeral-sort line (Fixed s) a h = absurd (none-some a h)
numeral-sort line (Named text) a h = absurd (none-some a h)
numeral-sort line (Number z) a h = ap (λ (n : Numeral). Number n.value) (some-same _ a h)

pub good-name : (word : Word) (a : Name) → IsWithinLimit word.sort → as_name word ≡ Some a →
    IsWithinLimit (Named a.text)
good-name word a good h = subst IsWithinLimit (name-sort word.line word.sort a h) good

pub good-numeral : (word : Word) (a : Numeral) → IsWithinLimit word.sort → as_numeral word ≡ Some a →
    IsWithinLimit (Number a.value)
good-numeral word a good h = subst IsWithinLimit (numeral-sort word.line word.sort a h) good

marked-found : {A : Type 0} (line : ℕ) (found : Option A) (m : Marked A) → marked_as line found ≡ Some m →
    found ≡ Some m.is
marked-found line None m h = absurd (none-some m h)
marked-found line (Some a) m h = ap (λ (m : Marked _). Some m.is) (some-same _ m h)

-- the symbol of a table that a word is
pub symbol-found : {A : Type 0} (table : Symbol → Option A) (line : ℕ) (sort : Sort) (m : Marked A) →
    meaning_of table line sort ≡ Some m → (s : Symbol) × (sort ≡ Fixed s) × (table s ≡ Some m.is)
symbol-found table line (Fixed s) m h = (s, refl, marked-found line (table s) m h)
symbol-found table line (Named text) m h = absurd (none-some m h)
symbol-found table line (Number z) m h = absurd (none-some m h)

pub in-table : {A : Type 0} (table : Symbol → Option A) (word : Word) (m : Marked A) →
    as_one_of table word ≡ Some m →
    (s : Symbol) × (table s ≡ Some m.is)
in-table table word m h = let found = symbol-found table word.line word.sort m h in (found.0, found.2)

-- an operator of this level, which wants these of its parts
pub record HasLevels (op : Op) (own left right : ℕ) : Type 0 where
  pub own_is : op_level op ≡ own
  pub left_is : left_level op ≡ left
  pub right_is : right_level op ≡ right

same-levels : (found op : Op) (own left right : ℕ) → Some found ≡ Some op → HasLevels found own left right →
    HasLevels op own left right
same-levels found op own left right h levels = subst (λ op. HasLevels op own left right)
    (some-same found op h) levels

pub disjunction-levels : (s : Symbol) (op : Op) → disjunction s ≡ Some op → HasLevels op 0 0 1
disjunction-levels S.Or op h = same-levels O.Or op 0 0 1 h
    (record { own_is = refl; left_is = refl; right_is = refl })
disjunction-levels s op h = absurd (none-some op h)

pub conjunction-levels : (s : Symbol) (op : Op) → conjunction s ≡ Some op → HasLevels op 1 1 2
conjunction-levels S.And op h = same-levels O.And op 1 1 2 h
    (record { own_is = refl; left_is = refl; right_is = refl })
conjunction-levels s op h = absurd (none-some op h)

pub comparison-levels : (s : Symbol) (op : Op) → comparison s ≡ Some op → HasLevels op 3 4 4
comparison-levels S.Equal op h = same-levels O.Eq op 3 4 4 h
    (record { own_is = refl; left_is = refl; right_is = refl })
comparison-levels S.NotEqual op h = same-levels O.Ne op 3 4 4 h
    (record { own_is = refl; left_is = refl; right_is = refl })
comparison-levels S.Less op h = same-levels O.Lt op 3 4 4 h
    (record { own_is = refl; left_is = refl; right_is = refl })
comparison-levels S.LessOrEqual op h = same-levels O.Le op 3 4 4 h
    (record { own_is = refl; left_is = refl; right_is = refl })
comparison-levels S.Greater op h = same-levels O.Gt op 3 4 4 h
    (record { own_is = refl; left_is = refl; right_is = refl })
comparison-levels S.GreaterOrEqual op h = same-levels O.Ge op 3 4 4 h
    (record { own_is = refl; left_is = refl; right_is = refl })
comparison-levels s op h = absurd (none-some op h)

pub addition-levels : (s : Symbol) (op : Op) → addition s ≡ Some op → HasLevels op 4 4 5
addition-levels S.Plus op h = same-levels O.Plus op 4 4 5 h
    (record { own_is = refl; left_is = refl; right_is = refl })
addition-levels S.Minus op h = same-levels O.Minus op 4 4 5 h
    (record { own_is = refl; left_is = refl; right_is = refl })
addition-levels S.WrapPlus op h = same-levels O.WrapPlus op 4 4 5 h
    (record { own_is = refl; left_is = refl; right_is = refl })
addition-levels S.WrapMinus op h = same-levels O.WrapMinus op 4 4 5 h
    (record { own_is = refl; left_is = refl; right_is = refl })
addition-levels s op h = absurd (none-some op h)

pub multiplication-levels : (s : Symbol) (op : Op) → multiplication s ≡ Some op → HasLevels op 5 5 6
multiplication-levels S.Times op h = same-levels O.Times op 5 5 6 h
    (record { own_is = refl; left_is = refl; right_is = refl })
multiplication-levels S.Divide op h = same-levels O.Divide op 5 5 6 h
    (record { own_is = refl; left_is = refl; right_is = refl })
multiplication-levels S.Remainder op h = same-levels O.Remainder op 5 5 6 h
    (record { own_is = refl; left_is = refl; right_is = refl })
multiplication-levels s op h = absurd (none-some op h)

pub pair_function-level : (s : Symbol) (op : Op) → pair_function s ≡ Some op → op_level op ≡ 7
pair_function-level S.At op h = subst (λ op. op_level op ≡ 7) (some-same O.At op h) refl
pair_function-level S.Add op h = subst (λ op. op_level op ≡ 7) (some-same O.Add op h) refl
pair_function-level s op h = absurd (none-some op h)

pub small-kind : (s : Symbol) (kind : Kind) → small_kind s ≡ Some kind → IsSmall kind
small-kind S.Int kind h = subst IsSmall (some-same K.Int kind h) tt
small-kind S.Bool kind h = subst IsSmall (some-same K.Bool kind h) tt
small-kind s kind h = absurd (none-some kind h)
