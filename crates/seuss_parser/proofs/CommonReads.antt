-- Reading single words, and the lists that many productions share.
use Rattle.std.proofs.Common.{◌≡◌, ℕ, true, false, List, [], ◌∷◌, refl}
use Rattle.seuss_parser.specs.Phrases.{Phrase, Then, Only, Many}
use Rattle.seuss_parser.specs.Readings.{Reading, read_then, ends, many}
use Rattle.seuss_parser.specs.Words.{as_symbol, as_numeral}
use Rattle.seuss_parser.specs.Grammar.{IsSymbol, IsNext, IsSeparated}
use Rattle.seuss_parser.specs.Grammar.{IsPerhapsSeparated, IsGroup, IsPerhapsGroup, IsArguments, IsSigned}
use Rattle.seuss_parser.specs.CommonReading.{read_symbol}
use Rattle.seuss_parser.specs.CommonReading.{read_next, read_separated, read_perhaps_separated}
use Rattle.seuss_parser.specs.CommonReading.{read_group, read_perhaps_group, read_arguments, read_signed}
use Rattle.seuss_parser.specs.Fronts.{begins_with, begins_without}
use Rattle.seuss_parser.specs.Trees.{with_first, listed, signed}
use Rattle.seuss_parser.specs.declared.word.Word.{Word}
use Rattle.seuss_parser.specs.declared.word.Sort.{Sort}
use Rattle.seuss_parser.specs.declared.word.Sort.TheVariants.{Fixed, Name as Named, Number}
use Rattle.seuss_parser.specs.declared.symbol.Symbol.{Symbol}
use Rattle.seuss_parser.specs.declared.symbol.Symbol.TheVariants as S
use Rattle.seuss_parser.proofs.Sets.{Sorts, has, Follows, Part, part-self, part-everything, everything}
use Rattle.seuss_parser.proofs.Sets.{others}
use Rattle.seuss_parser.proofs.Sets.{the_symbol, the_numbers, joined}
use Rattle.seuss_parser.proofs.Tells.{Reads, Sample, Firsts, Leads}
use Rattle.seuss_parser.proofs.WordReads.{WordSample, reads-word, reads-ends}
use Rattle.seuss_parser.proofs.ChoiceReads.{narrower, reads-then}
use Rattle.seuss_parser.proofs.RepeatReads.{reads-many, reads-optional}
use Rattle.seuss_parser.proofs.FirstSets.{symbol-in, numeral-in, firsts-word, firsts-then}
use Rattle.seuss_parser.proofs.FirstSets.{firsts-optional_then, leads-firsts, leads-only, leads-then}
use Rattle.seuss_parser.proofs.FirstSets.{leads-many}
use Rattle.seuss_parser.proofs.WordTests.{tests-symbol, tests-without}
use Rattle.seuss_parser.proofs.Samples.{sample-Comma, sample-Open, sample-Close, sample-Minus}
use Rattle.seuss_parser.proofs.Samples.{sample-numeral}

is-anything : (sort : Sort) → has everything sort ≡ true
is-anything (Fixed symbol) = refl
is-anything (Named text) = refl
is-anything (Number value) = refl

pub follows-anything : (words : List Word) → Follows everything words
follows-anything [] = tt
follows-anything (word ∷ words) = is-anything word.sort

pub leads-anything : {A : Type 0} {Q : Phrase A} {behind : Sorts} → Leads Q behind everything
leads-anything = record { at = λ value room pieces left rest phrase follows. follows-anything _ }

pub sample-only : {A : Type 0} (this : A) → Sample (Only this)
sample-only this = (reads-ends this 0).sample

-- a phrase that any words may follow, and another one
pub after : {A B : Type 0} {P Q : Phrase A} {P-next Q-next : A → Phrase B} {one : Reading A}
    {next : A → Reading B} {depth : ℕ} {behind : Sorts} → Reads P Q one depth everything →
    ((x : A) → Reads (P-next x) (Q-next x) (next x) depth behind) →
    Reads (λ v r ps l. Then P P-next v r ps l) (λ v r ps l. Then Q Q-next v r ps l)
    (λ room words. read_then (one room words) next) depth behind
after first second = reads-then first second (λ x. leads-anything)

-- a phrase whose value is changed at the end
pub last : {A B : Type 0} {P Q : Phrase A} {one : Reading A} {depth : ℕ} {may : Sorts} (change : A → B) →
    Reads P Q one depth may →
    Reads (λ v r ps l. Then P (λ x. Only (change x)) v r ps l)
    (λ v r ps l. Then Q (λ x. Only (change x)) v r ps l)
    (λ room words. read_then (one room words) (λ x. ends (change x))) depth may
last {A} {B} {P} {Q} {one} {depth} {may} change part =
    reads-then part (λ x. narrower (part-everything may) (reads-ends (change x) depth))
    (λ x. leads-only (part-self may))

pub reads-symbol : (symbol : Symbol) (depth : ℕ) → WordSample (as_symbol symbol) →
    Reads (IsSymbol symbol) (IsSymbol symbol) (read_symbol symbol) depth everything
reads-symbol symbol depth sample = reads-word (as_symbol symbol) sample depth false

pub firsts-symbol : (symbol : Symbol) → Firsts (IsSymbol symbol) (the_symbol symbol)
firsts-symbol symbol = firsts-word (symbol-in symbol) false

module _ {A : Type 0} (P Q : Phrase A) (one : Reading A) (depth : ℕ) (may first : Sorts)
    (item : Reads P Q one depth may) (firsts : Firsts Q first) where
  reads-next : Reads (IsNext P) (IsNext Q) (read_next one) depth may
  unfolding IsNext read_next
  reads-next = after (reads-symbol S.Comma depth sample-Comma) (λ line. item)

  firsts-next : (R : Phrase A) → Firsts (IsNext R) (the_symbol S.Comma)
  unfolding IsNext
  firsts-next R = firsts-then (firsts-symbol S.Comma)

  -- items behind which such words may stand
  module _ (behind : Sorts) (comma : Part (the_symbol S.Comma) may) (part : Part behind may)
      (fails : Part behind (others (the_symbol S.Comma))) where
    reads-nexts : Reads (Many (IsNext P)) (Many (IsNext Q)) (many (begins_with S.Comma) (read_next one))
        depth behind
    reads-nexts = reads-many (IsNext P) (IsNext Q) (read_next one) (begins_with S.Comma) depth may behind
        (the_symbol S.Comma) (the_symbol S.Comma) (tests-symbol S.Comma) reads-next (firsts-next P)
        (firsts-next Q)
        (part-self (the_symbol S.Comma)) fails part comma

    pub reads-separated : Reads (IsSeparated P) (IsSeparated Q) (read_separated one) depth behind
    unfolding IsSeparated read_separated
    reads-separated = reads-then item (λ x. last (λ xs. with_first x xs) reads-nexts)
        (λ x. leads-then (leads-many (firsts-next Q) comma part) (λ xs. leads-only (part-self behind)))

  pub firsts-separated : Firsts (IsSeparated Q) first
  unfolding IsSeparated
  firsts-separated = firsts-then firsts

  -- items before a closing bracket
  module _ (closing : Symbol) (comma : Part (the_symbol S.Comma) may) (part : Part (the_symbol closing) may)
      (fails : Part (the_symbol closing) (others (the_symbol S.Comma)))
      (opens : Part first (others (the_symbol closing)))
      (closes : Part (the_symbol closing) (others (others (the_symbol closing)))) where
    pub reads-perhaps_separated : Reads (IsPerhapsSeparated P) (IsPerhapsSeparated Q)
        (read_perhaps_separated closing one) depth (the_symbol closing)
    unfolding IsPerhapsSeparated read_perhaps_separated
    reads-perhaps_separated = last listed
        (reads-optional (IsSeparated P) (IsSeparated Q) (read_separated one)
        (begins_without closing) depth (the_symbol closing) (the_symbol closing) first
        (others (the_symbol closing)) (tests-without closing)
        (reads-separated (the_symbol closing) comma part fails) firsts-separated opens closes
        (part-self (the_symbol closing)))

  module _ (comma : Part (the_symbol S.Comma) may) (part : Part (the_symbol S.Close) may) where
    reads-group : Reads (IsGroup P) (IsGroup Q) (read_group one) depth everything
    unfolding IsGroup read_group
    reads-group = after (reads-symbol S.Open depth sample-Open) (λ line.
        reads-then (reads-separated (the_symbol S.Close) comma part (record { shown = refl }))
        (λ items. last (λ line. items) (reads-symbol S.Close depth sample-Close))
        (λ items. leads-firsts everything (firsts-then (firsts-symbol S.Close))
        (part-self (the_symbol S.Close))))

    firsts-group : Firsts (IsGroup Q) (the_symbol S.Open)
    unfolding IsGroup
    firsts-group = firsts-then (firsts-symbol S.Open)

    pub reads-perhaps_group : (behind : Sorts) → Part behind (others (the_symbol S.Open)) →
        Reads (IsPerhapsGroup P) (IsPerhapsGroup Q) (read_perhaps_group one) depth behind
    unfolding IsPerhapsGroup read_perhaps_group
    reads-perhaps_group behind fails = last listed (reads-optional (IsGroup P) (IsGroup Q) (read_group one)
        (begins_with S.Open) depth everything behind (the_symbol S.Open) (the_symbol S.Open)
        (tests-symbol S.Open) reads-group firsts-group (part-self (the_symbol S.Open)) fails
        (part-everything behind))

    pub reads-arguments : Part first (others (the_symbol S.Close)) →
        Reads (IsArguments P) (IsArguments Q) (read_arguments one) depth everything
    unfolding IsArguments read_arguments
    reads-arguments opens = after (reads-symbol S.Open depth sample-Open) (λ line.
        reads-then (reads-perhaps_separated S.Close comma part (record { shown = refl }) opens
        (record { shown = refl }))
        (λ items. last (λ line. items) (reads-symbol S.Close depth sample-Close))
        (λ items. leads-firsts everything (firsts-then (firsts-symbol S.Close))
        (part-self (the_symbol S.Close))))

-- [ "-" ] NUMBER
pub reads-signed : (depth : ℕ) → Reads IsSigned IsSigned read_signed depth everything
unfolding IsSigned read_signed
reads-signed depth = reads-then (reads-optional (IsSymbol S.Minus) (IsSymbol S.Minus) (read_symbol S.Minus)
    (begins_with S.Minus) depth everything the_numbers (the_symbol S.Minus) (the_symbol S.Minus)
    (tests-symbol S.Minus) (reads-symbol S.Minus depth sample-Minus) (firsts-symbol S.Minus)
    (part-self (the_symbol S.Minus)) (record { shown = refl }) (part-everything the_numbers))
    (λ sign. last (λ number. signed sign number) (reads-word as_numeral sample-numeral depth false))
    (λ sign. leads-firsts everything (firsts-then (firsts-word numeral-in false)) (part-self the_numbers))

pub firsts-signed : Firsts IsSigned (joined (the_symbol S.Minus) the_numbers)
unfolding IsSigned
firsts-signed = firsts-optional_then (firsts-symbol S.Minus)
    (λ sign. firsts-then (firsts-word numeral-in false))
