-- Statements inside blocks, from the calls for their parts.
use Rattle.std.proofs.Common.{◌≡◌, ℕ, zero, suc, pred, ◌<◌, ◌-◌, ◌==◌, Bool, List, Result, refl, sym, subst}
use Rattle.std.proofs.Common.{arith}
use Rattle.seuss_parser.specs.Readings.{Read, Reading, Gives, Fault, Got, Refused, read_then, read_as}
use Rattle.seuss_parser.specs.Readings.{one_word}
use Rattle.seuss_parser.specs.Blocks.{read_block, read_perhaps_else}
use Rattle.seuss_parser.specs.CommonReading.{read_symbol}
use Rattle.seuss_parser.specs.ExpressionReading.{read_whole_expression}
use Rattle.seuss_parser.specs.StatementReading.{read_statement, read_any_statement, read_if}
use Rattle.seuss_parser.specs.Words.{as_symbol}
use Rattle.seuss_parser.specs.declared.stop.Stop.{Stop}
use Rattle.seuss_parser.specs.declared.symbol.Symbol.TheVariants as S
use Rattle.seuss_parser.specs.declared.word.Word.{Word}
use Rattle.seuss_program.specs.declared.tree.Name.{Name}
use Rattle.seuss_program.specs.declared.tree.Expr.{Expr}
use Rattle.seuss_program.specs.declared.tree.Statement.{Statement}
use Rattle.seuss_parser.proofs.LoopLemmas.{HandsOn}

-- a statement of a block is one by the blocks inside it
pub statement-inside : (nesting : ℕ) (room : ℕ) (words : List Word) → 0 < nesting →
    read_statement nesting (pred nesting) room words ≡
    read_any_statement (nesting - 1 == 0) (read_block (nesting - 1)) room words
statement-inside zero room words some = absurd (omega arith)
statement-inside (suc n) room words some =
    let same : suc n - 1 ≡ n = omega arith in
    subst (λ m. read_statement (suc n) n room words ≡ read_any_statement (m == 0) (read_block m) room words)
    (sym same) refl

pub refused-inside : (nesting : ℕ) (room : ℕ) (words : List Word) (result : Result (Statement Name) Stop)
    (left : ℕ) (rest : List Word) → 0 < nesting →
    Gives result left rest (read_any_statement (nesting - 1 == 0) (read_block (nesting - 1)) room words) →
    Gives result left rest (read_statement nesting (pred nesting) room words)
refused-inside nesting room words result left rest some gives =
    subst (λ (read : Read (Statement Name)). Gives result left rest read)
    (sym (statement-inside nesting room words some)) gives

-- what is refused behind a value that was changed is refused behind the value itself
refused-behind : {A B C : Type 0} (f : A → B) (found : Read A) (value : B) (left : ℕ) (words : List Word)
    (next : A → Reading C) (fault : Fault) (rest : List Word) → read_as f found ≡ Got value left words →
    ((a : A) → next a left words ≡ Refused fault rest) → read_then found next ≡ Refused fault rest
refused-behind f (Got a l ws) value left words next fault rest is refused =
    let room : l ≡ left = cc in
    let here : ws ≡ words = cc in
    rw (room, here) (refused a)
refused-behind f (Refused cause ws) value left words next fault rest is refused = absurd (cc)

-- an `if` is refused where its `end` is
pub if-end : (passes : Bool) (block : Reading (List (Statement Name))) (room : ℕ) (words : List Word)
    (line then_line : ℕ) (cond : Expr Name) (holds fails : List (Statement Name))
    (r1 r2 r3 r4 r5 : ℕ) (w1 w2 w3 w4 w5 : List Word) →
    one_word (as_symbol S.If) passes room words ≡ Got line r1 w1 →
    read_whole_expression r1 w1 ≡ Got cond r2 w2 → read_symbol S.Then r2 w2 ≡ Got then_line r3 w3 →
    block r3 w3 ≡ Got holds r4 w4 → read_perhaps_else passes block r4 w4 ≡ Got fails r5 w5 →
    HandsOn (read_symbol S.End r5 w5) (read_if passes block room words)
unfolding read_if
if-end passes block room words line then_line cond holds fails r1 r2 r3 r4 r5 w1 w2 w3 w4 w5 head found then
    inside other fault rest refused =
    rw (head, found, then, inside)
    (refused-behind _ _ fails r5 w5 _ fault rest other (λ a. rw refused refl))
