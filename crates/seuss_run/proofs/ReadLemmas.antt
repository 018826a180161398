-- What the parser and the reader of an input say is one answer each.
use Rattle.std.proofs.Common.{◌≡◌, ℕ, ◌<◌, ℤ, List, [], ◌∷◌, length, refl, sym, ap, ◌∙◌, arith}
use Rattle.std.specs.Prelude.{Result, Ok, Err, All, Some}
use Rattle.std.specs.List.{AllByRecursion}
use Rattle.std.proofs.lemmas.List.Elements.{recursion_from_All, All-from_recursion}
use Rattle.seuss_text.specs.Rows.{AreTokens, token_text}
use Rattle.seuss_text.specs.Words.{kind_of}
use Rattle.seuss_text.specs.Limits.{max_text}
use Rattle.seuss_text.specs.declared.token.Token.{Token}
use Rattle.seuss_parser.specs.Words.{words_of}
use Rattle.seuss_parser.specs.Spelling.{IsWord}
use Rattle.seuss_parser.specs.Answers.{Parses, IsAnswered}
use Rattle.seuss_parser.specs.Inputs.{ReadsInput}
use Rattle.seuss_parser.specs.declared.word.Word.{Word}
use Rattle.seuss_parser.specs.declared.refusal.ParseRefusal.{ParseRefusal}
use Rattle.seuss_parser.specs.declared.refusal.ParseRefusal.TheVariants as P
use Rattle.seuss_parser.specs.declared.input.refusal.InputRefusal.{InputRefusal}
use Rattle.seuss_parser.specs.declared.input.refusal.InputRefusal.TheVariants as I
use Rattle.seuss_program.specs.declared.tree.Tree.{Tree}
use Rattle.report_text.specs.declared.refusals.Refused.{Refused}
use Rattle.report_text.specs.declared.refusals.Refused.TheVariants as R
use Rattle.seuss_run.specs.Stages.{IsOne}
use Rattle.seuss_run.specs.Verdicts.{has_tree, IsTreeFault, has_input, IsInputFault}

-- the words of a text's tokens are words
words_are : (text : List ℕ) (tokens : List Token) →
    AllByRecursion (λ (t : Token). kind_of (token_text text t) ≡ Some t.kind) tokens →
    AllByRecursion IsWord (words_of text tokens)
words_are text [] kinds = tt
words_are text (token ∷ tokens) (kind, kinds) = (
  record {
    bytes = token_text text token;
    kind = token.kind;
    is = record { is_token = kind; is_sort = refl };
  },
  words_are text tokens kinds,
)

-- where words are refused
pub data IsRefusedTree (words : List ℕ × List Token) (why : Refused) : Type 0 where
  syntax : (line : ℕ) → Parses (Err (P.Syntax line)) (words_of words.0 words.1) → why ≡ R.Syntax line →
      IsRefusedTree words why
  nesting : (line : ℕ) → Parses (Err (P.Nesting line)) (words_of words.0 words.1) → why ≡ R.Nesting line →
      IsRefusedTree words why

refused_of : (words : List ℕ × List Token) (why : Refused) → IsTreeFault words why → IsRefusedTree words why
refused_of words R.Long fault = absurd fault
refused_of words (R.Byte n) fault = absurd fault
refused_of words (R.Range n) fault = absurd fault
refused_of words (R.Syntax n) fault = syntax n fault refl
refused_of words (R.Nesting n) fault = nesting n fault refl
refused_of words (R.Twice n) fault = absurd fault
refused_of words (R.Unknown n) fault = absurd fault
refused_of words (R.WrongKind n) fault = absurd fault
refused_of words (R.WrongType n) fault = absurd fault
refused_of words (R.Arguments n) fault = absurd fault
refused_of words (R.Count n) fault = absurd fault
refused_of words (R.PartialCall n) fault = absurd fault
refused_of words (R.TotalCall n) fault = absurd fault
refused_of words (R.Cycle n) fault = absurd fault
refused_of words (R.Input n) fault = absurd fault
refused_of words (R.Property n) fault = absurd fault
refused_of words (R.CertificateNo n) fault = absurd fault
refused_of words (R.CertificateUnclear n) fault = absurd fault
refused_of words R.Attempts fault = absurd fault
refused_of words R.Action fault = absurd fault

module _ (law : (words : List Word) (one other : Result Tree ParseRefusal) → All IsWord words →
    Parses one words →
    Parses other words → IsAnswered one → IsAnswered other → one ≡ other)
    (kinds : (text : List ℕ) (tokens : List Token) → AreTokens text tokens →
    All (λ (t : Token). kind_of (token_text text t) ≡ Some t.kind) tokens) where
  -- tokens of a text spell one tree, or are refused at one place
  pub one_tree : (text : List ℕ) (tokens : List Token) → AreTokens text tokens →
      (one other : Result Tree Refused) → has_tree (text, tokens) one → has_tree (text, tokens) other →
      one ≡ other
  one_tree text tokens are one other is again =
      by_cases one other is again
      (All-from_recursion IsWord (words_of text tokens)
      (words_are text tokens (recursion_from_All _ tokens (kinds text tokens are))))
    where
      words : List Word
      words = words_of text tokens

      refusals : (why cause : Refused) → IsRefusedTree (text, tokens) why →
          IsRefusedTree (text, tokens) cause → All IsWord words → why ≡ cause
      refusals why cause (syntax m is e) (syntax n again f) real =
          let same : m ≡ n = cc (law words (Err (P.Syntax m)) (Err (P.Syntax n)) real is again tt tt) in
          e ∙ ap R.Syntax same ∙ sym f
      refusals why cause (syntax m is e) (nesting n again f) real =
          absurd (cc (law words (Err (P.Syntax m)) (Err (P.Nesting n)) real is again tt tt))
      refusals why cause (nesting m is e) (syntax n again f) real =
          absurd (cc (law words (Err (P.Nesting m)) (Err (P.Syntax n)) real is again tt tt))
      refusals why cause (nesting m is e) (nesting n again f) real =
          let same : m ≡ n = cc (law words (Err (P.Nesting m)) (Err (P.Nesting n)) real is again tt tt) in
          e ∙ ap R.Nesting same ∙ sym f

      spelled : (tree : Tree) (why : Refused) → Parses (Ok tree) words → IsRefusedTree (text, tokens) why →
          All IsWord words → ⊥
      spelled tree why is (syntax m again e) real =
          absurd (cc (law words (Ok tree) (Err (P.Syntax m)) real is again tt tt))
      spelled tree why is (nesting m again e) real =
          absurd (cc (law words (Ok tree) (Err (P.Nesting m)) real is again tt tt))

      by_cases : (one other : Result Tree Refused) → has_tree (text, tokens) one →
          has_tree (text, tokens) other → All IsWord words → one ≡ other
      by_cases (Ok tree) (Ok found) is again real = ap Ok (again.1 tree is.0)
      by_cases (Ok tree) (Err why) is again real =
          absurd (spelled tree why is (refused_of (text, tokens) why again) real)
      by_cases (Err why) (Ok tree) is again real =
          absurd (spelled tree why again (refused_of (text, tokens) why is) real)
      by_cases (Err why) (Err cause) is again real =
          ap Err (refusals why cause (refused_of (text, tokens) why is)
          (refused_of (text, tokens) cause again) real)

-- where an input is refused
pub data IsRefusedInput (text : List ℕ) (why : Refused) : Type 0 where
  too_long : max_text < length text → why ≡ R.Long → IsRefusedInput text why
  bad : (line : ℕ) → ReadsInput (Err (I.Bad line)) text → why ≡ R.Input line → IsRefusedInput text why

input_of : (text : List ℕ) (why : Refused) → IsInputFault text why → IsRefusedInput text why
input_of text R.Long fault = too_long fault refl
input_of text (R.Byte n) fault = absurd fault
input_of text (R.Range n) fault = absurd fault
input_of text (R.Syntax n) fault = absurd fault
input_of text (R.Nesting n) fault = absurd fault
input_of text (R.Twice n) fault = absurd fault
input_of text (R.Unknown n) fault = absurd fault
input_of text (R.WrongKind n) fault = absurd fault
input_of text (R.WrongType n) fault = absurd fault
input_of text (R.Arguments n) fault = absurd fault
input_of text (R.Count n) fault = absurd fault
input_of text (R.PartialCall n) fault = absurd fault
input_of text (R.TotalCall n) fault = absurd fault
input_of text (R.Cycle n) fault = absurd fault
input_of text (R.Input n) fault = bad n fault refl
input_of text (R.Property n) fault = absurd fault
input_of text (R.CertificateNo n) fault = absurd fault
input_of text (R.CertificateUnclear n) fault = absurd fault
input_of text R.Attempts fault = absurd fault
input_of text R.Action fault = absurd fault

module _ (law : (text : List ℕ) (a b : Result (List ℤ) InputRefusal) → ReadsInput a text →
    ReadsInput b text →
    (a ≡ Err I.Memory → ⊥) → (b ≡ Err I.Memory → ⊥) → a ≡ b) where
  read_refusals : (text : List ℕ) (why cause : Refused) → IsRefusedInput text why →
      IsRefusedInput text cause → why ≡ cause
  read_refusals text why cause (too_long long is) (too_long long' is') = is ∙ sym is'
  read_refusals text why cause (too_long long is) (bad n again f) = absurd (omega (arith, long, again.0))
  read_refusals text why cause (bad m is e) (too_long long f) = absurd (omega (arith, long, is.0))
  read_refusals text why cause (bad m is e) (bad n again f) =
      let same : m ≡ n = cc (law text (Err (I.Bad m)) (Err (I.Bad n)) is again (λ x. cc x) (λ x. cc x)) in
      e ∙ ap R.Input same ∙ sym f

  read_or_refused : (text : List ℕ) (numbers : List ℤ) (why : Refused) → ReadsInput (Ok numbers) text →
      IsRefusedInput text why → ⊥
  read_or_refused text numbers why is (too_long long f) = omega (arith, long, is.0)
  read_or_refused text numbers why is (bad n again f) =
      cc (law text (Ok numbers) (Err (I.Bad n)) is again (λ x. cc x) (λ x. cc x))

  -- an input is read in one way
  pub one_has_input : IsOne has_input
  one_has_input text (Ok ns) (Ok ms) is again =
      let same : ns ≡ ms = cc (law text (Ok ns) (Ok ms) is again (λ x. cc x) (λ x. cc x)) in ap Ok same
  one_has_input text (Ok ns) (Err why) is again =
      absurd (read_or_refused text ns why is (input_of text why again))
  one_has_input text (Err why) (Ok ns) is again =
      absurd (read_or_refused text ns why again (input_of text why is))
  one_has_input text (Err why) (Err cause) is again =
      ap Err (read_refusals text why cause (input_of text why is) (input_of text cause again))
