use Rattle.std.proofs.Common.{rules, ◌≡◌, ◌++◌, ◌+◌, ◌<◌, ◌^◌, [], ◌∷◌, All, sym, subst}
use Rattle.seuss_parser.specs.declared.symbol.Symbol.TheVariants as S
use Rattle.seuss_program.specs.declared.tree.Statement
use Rattle.seuss_print.specs.Items.{line, symbol, text_of}
use Rattle.seuss_print.specs.Statements.{let_line, assignment_line, call_line, head_line, statement, body}
use Rattle.seuss_print.specs.Statements.{else_of}
use Rattle.seuss_print.specs.Printable.{HasRoom}
use Rattle.seuss_print.proofs.Layers.{printed-Let, printed-Assign, printed-Call, printed-If, printed-While}
use Rattle.seuss_print.proofs.Layers.{written_as, three_written, four_written, room-holds, room-fails}
use Rattle.seuss_print.proofs.Layers.{room-If, room-turn, room-While}
use Rattle.seuss_print.proofs.statements.+statement.Goals as goal

pub push_statement-overflow_add-depth : goal.push_statement-overflow_add-depth
push_statement-overflow_add-depth t c =
    let room : c.args.depth + 1 < 2 ^ 32 = room-If c.args.s.now c.args.depth c.requires c.in-If.cond
    c.in-If.yes c.in-If.no c.in-If.is in
    search (rules, room)

pub push_statement-push_body-requires : goal.push_statement-push_body-requires
push_statement-push_body-requires t c = (
  search (rules, Statement.the_lemmas),
  subst (λ ss. All (HasRoom (c.args.depth + 1)) ss) (sym c.as_slice.ensures)
      (room-holds c.args.s.now c.args.depth c.requires c.in-If.cond c.in-If.yes c.in-If.no c.in-If.is),
)

pub push_statement-push_else-requires : goal.push_statement-push_else-requires
push_statement-push_else-requires t c = (
  search (rules, Statement.the_lemmas),
  (
    room-If c.args.s.now c.args.depth c.requires c.in-If.cond c.in-If.yes c.in-If.no c.in-If.is,
    subst (λ ss. All (HasRoom (c.args.depth + 1)) ss) (sym c.as_slice-in-If.ensures)
        (room-fails c.args.s.now c.args.depth c.requires c.in-If.cond c.in-If.yes c.in-If.no c.in-If.is),
  ),
)

pub push_statement-overflow_add-depth-in-While : goal.push_statement-overflow_add-depth-in-While
push_statement-overflow_add-depth-in-While t c =
    let room : c.args.depth + 1 < 2 ^ 32 = room-While c.args.s.now c.args.depth c.requires c.in-While.cond
    c.in-While.turn c.in-While.is in
    search (rules, room)

pub push_statement-push_body-requires-in-While : goal.push_statement-push_body-requires-in-While
push_statement-push_body-requires-in-While t c = (
  search (rules, Statement.the_lemmas),
  subst (λ ss. All (HasRoom (c.args.depth + 1)) ss) (sym c.as_slice-in-While.ensures)
      (room-turn c.args.s.now c.args.depth c.requires c.in-While.cond c.in-While.turn c.in-While.is),
)

pub push_statement-returns-in-Let : goal.push_statement-returns-in-Let
push_statement-returns-in-Let t c =
    written_as c.push_let.result c.args.text.now c.push_let.new.text
    (let_line c.in-Let.name c.in-Let.kind c.in-Let.value c.args.depth) (statement c.args.s.now c.args.depth)
    (printed-Let c.args.s.now c.args.depth c.in-Let.name c.in-Let.kind c.in-Let.value c.in-Let.is)
    c.push_let.ensures

pub push_statement-returns-in-Assign : goal.push_statement-returns-in-Assign
push_statement-returns-in-Assign t c =
    written_as c.push_assignment.result c.args.text.now c.push_assignment.new.text
    (assignment_line c.in-Assign.name c.in-Assign.value c.args.depth) (statement c.args.s.now c.args.depth)
    (printed-Assign c.args.s.now c.args.depth c.in-Assign.name c.in-Assign.value c.in-Assign.is)
    c.push_assignment.ensures

pub push_statement-returns-in-Call : goal.push_statement-returns-in-Call
push_statement-returns-in-Call t c =
    written_as c.push_call_line.result c.args.text.now c.push_call_line.new.text
    (call_line c.in-Call.bind c.in-Call.call c.args.depth) (statement c.args.s.now c.args.depth)
    (printed-Call c.args.s.now c.args.depth c.in-Call.bind c.in-Call.call c.in-Call.is)
    c.push_call_line.ensures

pub push_statement-returns-in_ok-push_else-in-If : goal.push_statement-returns-in_ok-push_else-in-If
push_statement-returns-in_ok-push_else-in-If t c =
    let n = c.args.depth in
    four_written c.push_end.result c.args.text.now c.push_if_head.new.text c.push_body.new.text
    c.push_else.new.text
    c.push_end.new.text (head_line S.If c.in-If.cond S.Then n) (body c.in-If.yes (n + 1))
    (else_of c.in-If.no n)
    (line n (symbol S.End ∷ [])) (statement c.args.s.now n)
    (printed-If c.args.s.now n c.in-If.cond c.in-If.yes c.in-If.no c.in-If.is)
    c.in_ok-push_if_head-in-If.ensures
    (subst (λ ss. c.push_body.new.text ≡ c.push_if_head.new.text ++ text_of (body ss (n + 1)))
    c.as_slice.ensures c.in_ok-push_body-in-If.ensures)
    (subst (λ ss. c.push_else.new.text ≡ c.push_body.new.text ++ text_of (else_of ss n))
    c.as_slice-in-If.ensures c.in_ok-push_else-in-If.ensures)
    c.push_end.ensures

pub push_statement-returns-in_ok-push_body-in-While : goal.push_statement-returns-in_ok-push_body-in-While
push_statement-returns-in_ok-push_body-in-While t c =
    let n = c.args.depth in
    three_written c.push_end-in-While.result c.args.text.now c.push_while_head.new.text
    c.push_body-in-While.new.text
    c.push_end-in-While.new.text (head_line S.While c.in-While.cond S.Do n) (body c.in-While.turn (n + 1))
    (line n (symbol S.End ∷ [])) (statement c.args.s.now n)
    (printed-While c.args.s.now n c.in-While.cond c.in-While.turn c.in-While.is)
    c.in_ok-push_while_head-in-While.ensures
    (subst (λ ss. c.push_body-in-While.new.text ≡ c.push_while_head.new.text ++ text_of (body ss (n + 1)))
    c.as_slice-in-While.ensures c.in_ok-push_body-in-While.ensures)
    c.push_end-in-While.ensures
