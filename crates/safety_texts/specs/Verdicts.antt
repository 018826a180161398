-- What a text is for a program: a list of its properties, or refused at the line of its first fault.
use Rattle.std.specs.Prelude.{◌≡◌, ◌⊎◌, ◌≤◌, ℕ, ◌+◌, not, is_none, List, [], ◌++◌, map, drop, length}
use Rattle.std.specs.Prelude.{Option, None, Some, option_map, unwrap_or, Result, Ok, Err}
use Rattle.std.specs.List.{flat_map}
use Rattle.seuss_text.specs.Rows.{AreTokens}
use Rattle.seuss_text.specs.Limits.{AreInLimits, IsTooLong, max_text}
use Rattle.seuss_text.specs.Refusals.{BadByteAt, RangeAt}
use Rattle.seuss_text.specs.declared.token.Token.{Token}
use Rattle.seuss_parser.specs.Words.{words_of}
use Rattle.seuss_program.specs.declared.tree.Name.{Name}
use Rattle.seuss_program.specs.declared.tree.Ref.{Ref}
use Rattle.seuss_program.specs.declared.tree.Cat.{Cat}
use Rattle.seuss_program.specs.declared.program.Program.{Program}
use Rattle.box_types.specs.Answers.{BeginsWith}
use Rattle.box_types.specs.Namings.{expression}
use Rattle.box_types.specs.Scopes.{number_of}
use Rattle.box_types.specs.SingleExpressions.{alone, seen_beside}
use Rattle.box_types.specs.Twice.{fails}
use Rattle.box_types.specs.Unknown.{unknown_at}
use Rattle.box_types.specs.WrongType.{type_at}
use Rattle.safety_check.specs.declared.property.Property.{Property}
use Rattle.safety_check.specs.Properties.{look_of}
use Rattle.safety_texts.specs.declared.refusal.PropertyRefusal.{PropertyRefusal}
use Rattle.safety_texts.specs.declared.refusal.PropertyRefusal.TheVariants as R
use Rattle.safety_texts.specs.declared.texts.PropertyText.{PropertyText}
use Rattle.safety_texts.specs.Lists.{AreList}

-- the number of a cat that the program's text declares, so behind `Input` and `Output`
abbrev pub declared_cat : Program → Name → Option ℕ
declared_cat p name = option_map (λ n. n + 2) (number_of (λ (c : Cat Ref). c.name) (drop 2 p.cats) name)

-- the same; of the first cat where there is none
abbrev pub cat_number : Program → Name → ℕ
cat_number p name = unwrap_or (declared_cat p name) 0

-- the line of a cat that isn't declared
abbrev pub undeclared : Program → PropertyText → List ℕ
undeclared p text = fails (is_none (declared_cat p text.cat)) text.cat.line

-- the lines of what is unknown in an expression beside its cat, and of what is of another type than wanted
abbrev pub unresolved : Program → PropertyText → List ℕ
unresolved p text =
    let place = alone (seen_beside p (cat_number p text.cat)) text.expr in unknown_at place ++ type_at place

-- a property with its names as numbers
abbrev pub property_of : Program → PropertyText → Property
property_of p text = record {
  cat = cat_number p text.cat;
  expr = expression (seen_beside p (cat_number p text.cat)) [] text.expr;
}

-- the line of an expression that is of another form than that of properties
abbrev pub misshapen : Property → List ℕ
misshapen property = fails (not (look_of property.expr).allowed) property.expr.line

-- the text spells these properties
pub record Spells (text : List ℕ) (texts : List PropertyText) : Type 0 where
  pub tokens : List Token
  pub are_tokens : AreTokens text tokens
  pub in_limits : AreInLimits text tokens
  pub are_list : AreList (words_of text tokens) 0 (Ok texts)

-- the text has tokens within their limits, which are no list of properties
pub record SpellsNone (text : List ℕ) (line : ℕ) : Type 0 where
  pub tokens : List Token
  pub are_tokens : AreTokens text tokens
  pub in_limits : AreInLimits text tokens
  pub no_list : AreList (words_of text tokens) 0 (Err line)

-- The line of the first fault, where the faults are tried in this order: a byte or a token that can't be
-- read; a word with which no list goes on, one that passes the limit of marks, or the last one, where the
-- text ends within a property; a cat that isn't declared; a name that is unknown beside its cat, or a wrong
-- type, in the first property that has one; an expression of another form.
pub data IsBad (p : Program) (text : List ℕ) (line : ℕ) : Type 0 where
  NoToken : BadByteAt text line ⊎ RangeAt text line → IsBad p text line
  NoList : SpellsNone text line → IsBad p text line
  NotDeclared : (texts : List PropertyText) → Spells text texts →
      BeginsWith (flat_map (undeclared p) texts) line → IsBad p text line
  NotResolved : (texts : List PropertyText) → Spells text texts → flat_map (undeclared p) texts ≡ [] →
      BeginsWith (flat_map (unresolved p) texts) line → IsBad p text line
  OtherForm : (texts : List PropertyText) → Spells text texts → flat_map (undeclared p) texts ≡ [] →
      flat_map (unresolved p) texts ≡ [] →
      BeginsWith (flat_map misshapen (map (property_of p) texts)) line → IsBad p text line

-- The text spells these properties, and none of them has a fault.
pub record AreOf (p : Program) (text : List ℕ) (properties : List Property) : Type 0 where
  pub texts : List PropertyText
  pub spelled : Spells text texts
  pub declared : flat_map (undeclared p) texts ≡ []
  pub resolved : flat_map (unresolved p) texts ≡ []
  pub shaped : flat_map misshapen (map (property_of p) texts) ≡ []
  pub properties_are : properties ≡ map (property_of p) texts

-- What the reader of properties answers: that a text is too long is tested first. Want of memory is free.
abbrev pub IsVerdict : Program → List ℕ → Result (List Property) PropertyRefusal → Type 0
IsVerdict p text (Ok properties) = (length text ≤ max_text) × AreOf p text properties
IsVerdict p text (Err R.TooLong) = IsTooLong text
IsVerdict p text (Err (R.Bad line)) = (length text ≤ max_text) × IsBad p text line
IsVerdict p text (Err R.Memory) = Unit {0}

-- an answer that says something of the text: memory didn't run out
abbrev pub IsAnswered : Result (List Property) PropertyRefusal → Type 0
IsAnswered (Ok properties) = Unit {0}
IsAnswered (Err R.TooLong) = Unit {0}
IsAnswered (Err (R.Bad line)) = Unit {0}
IsAnswered (Err R.Memory) = ⊥
