-- What the parts of the reader find.
use Rattle.std.specs.Prelude.{◌≡◌, ◌⊎◌, ◌<◌, ◌≤◌, ℕ, List, [], ◌++◌, map, length, slice_get, Some, Result}
use Rattle.std.specs.Prelude.{Ok, Err}
use Rattle.std.specs.List.{flat_map}
use Rattle.seuss_text.specs.Rows.{AreTokens}
use Rattle.seuss_text.specs.Limits.{AreInLimits, IsTooLong, max_text}
use Rattle.seuss_text.specs.Refusals.{BadByteAt, RangeAt}
use Rattle.seuss_text.specs.declared.token.Tokens.{Tokens}
use Rattle.seuss_parser.specs.declared.word.Word.{Word}
use Rattle.seuss_program.specs.Keeping.{kind_in}
use Rattle.seuss_program.specs.declared.program.Program.{Program}
use Rattle.seuss_program.specs.declared.tree.Cat.{Cat}
use Rattle.seuss_program.specs.declared.tree.Kind.TheVariants as K
use Rattle.seuss_program.specs.declared.tree.Ref.{Ref}
use Rattle.box_types.specs.Answers.{BeginsWith}
use Rattle.box_types.specs.SingleExpressions.{vars_scope}
use Rattle.safety_check.specs.declared.property.Property.{Property}
use Rattle.safety_texts.specs.declared.refusal.PropertyRefusal.{PropertyRefusal}
use Rattle.safety_texts.specs.declared.refusal.PropertyRefusal.TheVariants as R
use Rattle.safety_texts.specs.declared.texts.PropertyText.{PropertyText}
use Rattle.safety_texts.specs.Lists.{AreList, IsOne, IsNone}
use Rattle.safety_texts.specs.Verdicts.{undeclared, unresolved, property_of, misshapen}

-- a call answered what was read, unless memory ran out
abbrev pub Gives : {A : Type 0} → Result A PropertyRefusal → Result A ℕ → Type 0
Gives (Ok value) found = found ≡ Ok value
Gives (Err (R.Bad line)) found = found ≡ Err line
Gives (Err R.TooLong) found = ⊥
Gives (Err R.Memory) found = Unit {0}

-- one property was read, or there is none
abbrev pub ReadsOne : List Word → ℕ → Result (PropertyText × ℕ) PropertyRefusal → Type 0
ReadsOne words at (Ok (text, next)) = IsOne words at text next × (at < next)
ReadsOne words at (Err (R.Bad line)) = IsNone words at line
ReadsOne words at (Err R.TooLong) = ⊥
ReadsOne words at (Err R.Memory) = Unit {0}

-- a list was read, or there is none
abbrev pub ReadsList : List Word → Result (List PropertyText) PropertyRefusal → Type 0
ReadsList words (Ok texts) = AreList words 0 (Ok texts)
ReadsList words (Err (R.Bad line)) = AreList words 0 (Err line)
ReadsList words (Err R.TooLong) = ⊥
ReadsList words (Err R.Memory) = Unit {0}

-- these properties in front of those of a list, or of none
abbrev pub in_front : List PropertyText → Result (List PropertyText) ℕ → Result (List PropertyText) ℕ
in_front before (Ok texts) = Ok (before ++ texts)
in_front before (Err line) = Err line

-- from the first word to a place stand these properties
pub record IsReached (words : List Word) (before : List PropertyText) (at : ℕ) : Type 0 where
  pub goes_on : (found : Result (List PropertyText) ℕ) → AreList words at found →
      AreList words 0 (in_front before found)

-- something is refused at the first of these lines, and passes where there is none
abbrev pub Refuses : {A : Type 0} → Result A PropertyRefusal → List ℕ → Type 0
Refuses (Ok value) lines = lines ≡ []
Refuses (Err (R.Bad line)) lines = BeginsWith lines line
Refuses (Err R.TooLong) lines = ⊥
Refuses (Err R.Memory) lines = Unit {0}

-- the expression of a property is a bool, where each part of it has the kind that is wanted there
abbrev pub HasKind : Program → Property → Type 0
HasKind p property = (c : Cat Ref) → slice_get p.cats property.cat ≡ Some c →
    kind_in (vars_scope p.cats c) property.expr ≡ Some K.Bool

-- the tokens of a text that isn't too long, or its first fault
abbrev pub IsSpelled : List ℕ → Result Tokens PropertyRefusal → Type 0
IsSpelled text (Ok tokens) =
    (length text ≤ max_text) × AreTokens text tokens.list × AreInLimits text tokens.list
IsSpelled text (Err R.TooLong) = IsTooLong text
IsSpelled text (Err (R.Bad line)) = (length text ≤ max_text) × (BadByteAt text line ⊎ RangeAt text line)
IsSpelled text (Err R.Memory) = Unit {0}

-- the first fault of properties that were read, in the order of the checks
abbrev pub HasFault : Program → List PropertyText → ℕ → Type 0
HasFault p texts line = BeginsWith (flat_map (undeclared p) texts) line
    ⊎ (((flat_map (undeclared p) texts ≡ []) × BeginsWith (flat_map (unresolved p) texts) line)
    ⊎ ((flat_map (undeclared p) texts ≡ []) × (flat_map (unresolved p) texts ≡ [])
    × BeginsWith (flat_map misshapen (map (property_of p) texts)) line))

-- none of the properties that were read has a fault, or the first one is refused
abbrev pub AreRead : Program → List PropertyText → Result (List Property) PropertyRefusal → Type 0
AreRead p texts (Ok properties) = (flat_map (undeclared p) texts ≡ [])
    × (flat_map (unresolved p) texts ≡ []) × (flat_map misshapen (map (property_of p) texts) ≡ [])
    × (properties ≡ map (property_of p) texts)
AreRead p texts (Err (R.Bad line)) = HasFault p texts line
AreRead p texts (Err R.TooLong) = ⊥
AreRead p texts (Err R.Memory) = Unit {0}
