-- Reading calls, and statements that begin with a name.
use Rattle.std.proofs.Common.{ℕ, zero, suc, false, refl}
use Rattle.std.proofs.Common.{arith}
use Rattle.seuss_parser.specs.Phrases.{Phrase, Then, Only}
use Rattle.seuss_parser.specs.Words.{as_name}
use Rattle.seuss_parser.specs.Grammar.{IsSymbol, IsName, IsArguments, IsExpression, IsWholeExpression}
use Rattle.seuss_parser.specs.Grammar.{IsCall}
use Rattle.seuss_parser.specs.Grammar.{max_marks}
use Rattle.seuss_parser.specs.ExpressionReading.{read_whole_expression, most_brackets}
use Rattle.seuss_parser.specs.StatementReading.{read_call_of, read_call}
use Rattle.seuss_parser.specs.declared.symbol.Symbol.TheVariants as S
use Rattle.seuss_program.specs.declared.tree.Name.{Name}
use Rattle.seuss_program.specs.declared.tree.Call.{Call}
use Rattle.seuss_parser.proofs.Sets.{everything}
use Rattle.seuss_parser.proofs.Sets.{the_names}
use Rattle.seuss_parser.proofs.Tells.{Reads, Firsts}
use Rattle.seuss_parser.proofs.WordReads.{reads-word}
use Rattle.seuss_parser.proofs.RepeatReads.{reads-whole}
use Rattle.seuss_parser.proofs.FirstSets.{name-in, firsts-word, firsts-then, firsts-whole}
use Rattle.seuss_parser.proofs.CommonReads.{after, last, reads-symbol, reads-arguments}
use Rattle.seuss_parser.proofs.ExpressionReads.{reads-expression, behind_expression, expression_first}
use Rattle.seuss_parser.proofs.ExpressionReads.{firsts-disjunction}
use Rattle.seuss_parser.proofs.Samples.{sample-name, sample-Dot}

-- brackets stand so deep at most in the expressions that finish what was begun
abbrev pub own_brackets : ℕ
own_brackets = suc most_brackets

pub reads-whole_expression : (any depth : ℕ) →
    Reads (IsWholeExpression own_brackets) (IsWholeExpression any) read_whole_expression depth
    behind_expression
unfolding IsWholeExpression read_whole_expression
reads-whole_expression any depth = reads-whole max_marks depth (omega arith)
    (reads-expression most_brackets any)

firsts-expression : (any : ℕ) → Firsts (IsExpression any) expression_first
firsts-expression zero = record { at = λ value room pieces left phrase. absurd phrase }
firsts-expression (suc any) = firsts-disjunction (IsExpression any)

pub firsts-whole_expression : (any : ℕ) → Firsts (IsWholeExpression any) expression_first
unfolding IsWholeExpression
firsts-whole_expression any = firsts-whole max_marks (firsts-expression any)

-- "." NAME "(" [ expr { "," expr } ] ")", behind the name of a box
unfoldable pub IsCallOf : ℕ → Name → Phrase (Call Name)
IsCallOf brackets target value room pieces left =
    Then (IsSymbol S.Dot) (λ line. λ v r ps l. Then IsName (λ method. λ v r ps l. Then
    (IsArguments (IsWholeExpression brackets))
    (λ args. Only (record { target = target; method = method; args = args })) v r ps l) v r ps l)
    value room pieces left

pub reads-call_of : (any depth : ℕ) (target : Name) →
    Reads (IsCallOf own_brackets target) (IsCallOf any target) (read_call_of target) depth everything
unfolding IsCallOf read_call_of
reads-call_of any depth target = after (reads-symbol S.Dot depth sample-Dot) (λ line.
    after (reads-word as_name sample-name depth false) (λ method.
    last (λ args. record { target = target; method = method; args = args })
    (reads-arguments (IsWholeExpression own_brackets) (IsWholeExpression any) read_whole_expression depth
    behind_expression expression_first (reads-whole_expression any depth) (firsts-whole_expression any)
    (record { shown = refl }) (record { shown = refl }) (record { shown = refl }))))

pub reads-call : (any depth : ℕ) → Reads (IsCall own_brackets) (IsCall any) read_call depth everything
unfolding IsCall read_call IsCallOf
reads-call any depth = after (reads-word as_name sample-name depth false)
    (λ target. reads-call_of any depth target)

pub firsts-call : (any : ℕ) → Firsts (IsCall any) the_names
unfolding IsCall
firsts-call any = firsts-then (firsts-word name-in false)
