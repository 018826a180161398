-- Sets of words: by which words a phrase may begin, and which may follow it.
use Rattle.std.proofs.Common.{◌≡◌, ℕ, zero, suc, Bool, true, false, cond, List, [], ◌∷◌, refl, sym, ap}
use Rattle.std.proofs.Common.{◌∙◌, subst, nat_eq}
use Rattle.std.specs.Prelude.{not}
use Rattle.seuss_parser.specs.Symbols.{symbol_number}
use Rattle.seuss_parser.specs.declared.symbol.Symbol.{Symbol}
use Rattle.seuss_parser.specs.declared.symbol.Symbol.TheVariants as S
use Rattle.seuss_parser.specs.declared.word.Sort.{Sort}
use Rattle.seuss_parser.specs.declared.word.Sort.TheVariants.{Fixed, Name as Named, Number}
use Rattle.seuss_parser.specs.declared.word.Word.{Word}

-- sorts of words: some symbols, and perhaps names and numbers
pub record Sorts : Type 0 where
  pub symbols : Symbol → Bool
  pub names : Bool
  pub numbers : Bool

abbrev pub has : Sorts → Sort → Bool
has set (Fixed symbol) = set.symbols symbol
has set (Named text) = set.names
has set (Number value) = set.numbers

abbrev pub or_also : Bool → Bool → Bool
or_also a b = cond a true b

abbrev pub only_if : Bool → Bool → Bool
only_if a b = cond a b true

abbrev pub everything : Sorts
everything = record { symbols = λ s. true; names = true; numbers = true }

abbrev pub nothing : Sorts
nothing = record { symbols = λ s. false; names = false; numbers = false }

abbrev pub the_symbol : Symbol → Sorts
the_symbol symbol = record {
  symbols = λ s. nat_eq (symbol_number s) (symbol_number symbol);
  names = false;
  numbers = false;
}

abbrev pub the_names : Sorts
the_names = record { symbols = λ s. false; names = true; numbers = false }

abbrev pub the_numbers : Sorts
the_numbers = record { symbols = λ s. false; names = false; numbers = true }

abbrev pub joined : Sorts → Sorts → Sorts
joined a b = record {
  symbols = λ s. or_also (a.symbols s) (b.symbols s);
  names = or_also a.names b.names;
  numbers = or_also a.numbers b.numbers;
}

abbrev pub others : Sorts → Sorts
others a = record { symbols = λ s. not (a.symbols s); names = not a.names; numbers = not a.numbers }

abbrev pub all_symbols : List Symbol
all_symbols = S.Seuss ∷ S.Cat ∷ S.Box ∷ S.Var ∷ S.Total ∷ S.Partial ∷ S.Action ∷ S.Is ∷ S.When ∷ S.Let
    ∷ S.If ∷ S.Then ∷ S.Else ∷ S.While ∷ S.Do ∷ S.End ∷ S.Semi ∷ S.Int ∷ S.Bool ∷ S.Seq
    ∷ S.True ∷ S.False ∷ S.And ∷ S.Or ∷ S.Not ∷ S.First ∷ S.Last ∷ S.Rest ∷ S.Front ∷ S.Back
    ∷ S.Len ∷ S.At ∷ S.Add ∷ S.Assign ∷ S.Arrow ∷ S.NegativeArrow ∷ S.NotEqual ∷ S.LessOrEqual
    ∷ S.GreaterOrEqual ∷ S.WrapPlus ∷ S.WrapMinus ∷ S.Colon ∷ S.Semicolon ∷ S.Comma ∷ S.Dot ∷ S.Open
    ∷ S.Close ∷ S.OpenSquare ∷ S.CloseSquare ∷ S.Equal ∷ S.Less ∷ S.Greater ∷ S.Plus ∷ S.Minus
    ∷ S.Times ∷ S.Divide ∷ S.Remainder ∷ S.Other ∷ []

-- the item at a place of a list, from the first one of the list on
abbrev pub item_at : ℕ → Symbol → List Symbol → Symbol
item_at n usual [] = usual
item_at zero usual (s ∷ symbols) = s
item_at (suc n) usual (s ∷ symbols) = item_at n usual symbols

abbrev pub each : (Symbol → Bool) → List Symbol → Bool
each test [] = test S.Other
each test (s ∷ symbols) = cond (test s) (each test symbols) false

both : (a b : Bool) → cond a b false ≡ true → (a ≡ true) × (b ≡ true)
both true b h = (refl, h)
both false b h = absurd (cc)

each-at : (test : Symbol → Bool) (n : ℕ) (symbols : List Symbol) → each test symbols ≡ true →
    test (item_at n S.Other symbols) ≡ true
each-at test n [] h = h
each-at test zero (s ∷ symbols) h = (both (test s) (each test symbols) h).0
each-at test (suc n) (s ∷ symbols) h = each-at test n symbols (both (test s) (each test symbols) h).1

-- a symbol is at its place
pub at-number : (s : Symbol) → item_at (symbol_number s) S.Other all_symbols ≡ s
at-number S.Seuss = refl
at-number S.Cat = refl
at-number S.Box = refl
at-number S.Var = refl
at-number S.Total = refl
at-number S.Partial = refl
at-number S.Action = refl
at-number S.Is = refl
at-number S.When = refl
at-number S.Let = refl
at-number S.If = refl
at-number S.Then = refl
at-number S.Else = refl
at-number S.While = refl
at-number S.Do = refl
at-number S.End = refl
at-number S.Semi = refl
at-number S.Int = refl
at-number S.Bool = refl
at-number S.Seq = refl
at-number S.True = refl
at-number S.False = refl
at-number S.And = refl
at-number S.Or = refl
at-number S.Not = refl
at-number S.First = refl
at-number S.Last = refl
at-number S.Rest = refl
at-number S.Front = refl
at-number S.Back = refl
at-number S.Len = refl
at-number S.At = refl
at-number S.Add = refl
at-number S.Assign = refl
at-number S.Arrow = refl
at-number S.NegativeArrow = refl
at-number S.NotEqual = refl
at-number S.LessOrEqual = refl
at-number S.GreaterOrEqual = refl
at-number S.WrapPlus = refl
at-number S.WrapMinus = refl
at-number S.Colon = refl
at-number S.Semicolon = refl
at-number S.Comma = refl
at-number S.Dot = refl
at-number S.Open = refl
at-number S.Close = refl
at-number S.OpenSquare = refl
at-number S.CloseSquare = refl
at-number S.Equal = refl
at-number S.Less = refl
at-number S.Greater = refl
at-number S.Plus = refl
at-number S.Minus = refl
at-number S.Times = refl
at-number S.Divide = refl
at-number S.Remainder = refl
at-number S.Other = refl

-- what holds of each symbol of the list holds of each symbol
pub every-symbol : (test : Symbol → Bool) → each test all_symbols ≡ true → (s : Symbol) → test s ≡ true
every-symbol test h s =
    subst (λ t. test t ≡ true) (at-number s) (each-at test (symbol_number s) all_symbols h)

-- symbols of one number are one
pub symbol-by_number : (s t : Symbol) → symbol_number s ≡ symbol_number t → s ≡ t
symbol-by_number s t same =
    sym (at-number s) ∙ ap (λ n. item_at n S.Other all_symbols) same ∙ at-number t

-- the first set is a part of the second
abbrev pub is_part : Sorts → Sorts → Bool
is_part a b = cond (each (λ s. only_if (a.symbols s) (b.symbols s)) all_symbols)
    (cond (only_if a.names b.names) (only_if a.numbers b.numbers) false) false

-- the same, as a fact
pub record Part (a b : Sorts) : Type 0 where
  pub shown : is_part a b ≡ true

by_if : (a b : Bool) → only_if a b ≡ true → a ≡ true → b ≡ true
by_if true b h is = h
by_if false b h is = absurd (cc)

has-checked : (a b : Sorts) → is_part a b ≡ true → (sort : Sort) → has a sort ≡ true → has b sort ≡ true
has-checked a b part (Fixed s) is =
    let parts = both (each (λ t. only_if (a.symbols t) (b.symbols t)) all_symbols)
    (cond (only_if a.names b.names) (only_if a.numbers b.numbers) false) part in
    by_if (a.symbols s) (b.symbols s) (every-symbol (λ t. only_if (a.symbols t) (b.symbols t)) parts.0 s) is
has-checked a b part (Named text) is =
    let parts = both (each (λ t. only_if (a.symbols t) (b.symbols t)) all_symbols)
    (cond (only_if a.names b.names) (only_if a.numbers b.numbers) false) part in
    by_if a.names b.names (both (only_if a.names b.names) (only_if a.numbers b.numbers) parts.1).0 is
has-checked a b part (Number value) is =
    let parts = both (each (λ t. only_if (a.symbols t) (b.symbols t)) all_symbols)
    (cond (only_if a.names b.names) (only_if a.numbers b.numbers) false) part in
    by_if a.numbers b.numbers (both (only_if a.names b.names) (only_if a.numbers b.numbers) parts.1).1 is

pub part-has : (a b : Sorts) → Part a b → (sort : Sort) → has a sort ≡ true → has b sort ≡ true
part-has a b part sort is = has-checked a b part.shown sort is

-- the words are at their end, or their first one is in the set
abbrev pub Follows : Sorts → List Word → Type 0
Follows set [] = Unit {0}
Follows set (word ∷ words) = has set word.sort ≡ true

pub part-follows : (a b : Sorts) → Part a b → (words : List Word) → Follows a words → Follows b words
part-follows a b part [] h = tt
part-follows a b part (word ∷ words) h = part-has a b part word.sort h

if-self : (b : Bool) → only_if b b ≡ true
if-self true = refl
if-self false = refl

all-each : (test : Symbol → Bool) → ((s : Symbol) → test s ≡ true) → (symbols : List Symbol) →
    each test symbols ≡ true
all-each test all [] = all S.Other
all-each test all (s ∷ symbols) = rw (all s) (all-each test all symbols)

-- a set is a part of itself, and of everything
pub part-self : (a : Sorts) → Part a a
part-self a = record {
  shown = rw (
    all-each (λ s. only_if (a.symbols s) (a.symbols s)) (λ s. if-self (a.symbols s)) all_symbols,
    if-self a.names,
  ) (if-self a.numbers);
}

if-true : (b : Bool) → only_if b true ≡ true
if-true true = refl
if-true false = refl

pub part-everything : (a : Sorts) → Part a everything
part-everything a = record {
  shown = rw (
    all-each (λ s. only_if (a.symbols s) true) (λ s. if-true (a.symbols s)) all_symbols,
    if-true a.names,
  ) (if-true a.numbers);
}
