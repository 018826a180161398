use Rattle.std.proofs.Common.{◌≡◌, ◌-◌, length, deque_len, subst, arith}
use Rattle.seuss_parser.specs.SingleExpressions.{IsExpressionAt}
use Rattle.seuss_parser.proofs.ExpressionAnswers.{expression-found, expression-stopped}
use Rattle.seuss_parser.proofs.single_expressions.words_expression.Goals as goal

pub returns-in-Ok : goal.returns-in-Ok
returns-in-Ok c = λ words from left_is within count_is end_is.
    let rest = c.whole_expression-found.new.words.left in
    let long : length rest.items ≡ deque_len rest = omega (arith, rest.ok.0) in
    rw c.len.ensures
    (subst (λ n. IsExpressionAt words from c.in-Ok.value (c.args.count - n)) long
    (expression-found words c.args.left.items from c.args.count left_is within count_is c.in-Ok.value
    c.whole_expression-found.new.words.room rest.items c.in-Ok.ensures.gives))

pub returns : goal.returns
returns c = λ words from left_is within count_is end_is.
    rw (c.refusal.ensures, c.front_line-line.ensures)
    (expression-stopped words c.args.left.items from c.args.end left_is end_is c.in-Err.stop
    c.whole_expression-found.new.words.room c.whole_expression-found.new.words.left.items
    c.in-Err.ensures.gives)
