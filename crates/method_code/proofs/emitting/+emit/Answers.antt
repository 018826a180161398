use Rattle.std.proofs.Common.{List, ◌≡◌, [], ◌∷◌, ◌++◌, sym, ap, subst, ◌∙◌}
use Rattle.std.specs.Result.{IfOk}
use Rattle.std.specs.List.{flat_map}
use Rattle.method_code.specs.declared.instruction.CallCode.{CallCode}
use Rattle.method_code.specs.declared.instruction.Instruction.{Instruction}
use Rattle.method_code.specs.declared.instruction.Instruction.TheVariants as I
use Rattle.method_code.specs.Codes.{if_code, while_code, code_of}
use Rattle.method_code.proofs.CodeLemmas.{code-Let, code-Assign, code-Call, code-If, code-While}
use Rattle.method_code.proofs.emitting.+emit.Goals as goal

pub emit_statement-returns-in_ok-copy_expr-in-Let :
    goal.emit_statement-returns-in_ok-copy_expr-in-Let
emit_statement-returns-in_ok-copy_expr-in-Let t c =
    subst (λ (x : List Instruction). IfOk c.one.result (λ code. code ≡ x))
    (ap (λ e. I.Set c.in-Let.name e ∷ []) c.in_ok-copy_expr-in-Let.ensures
    ∙ sym (code-Let c.args.statement.now c.in-Let.name c.in-Let.kind c.in-Let.value c.in-Let.is))
    c.one.ensures

pub emit_statement-returns-in_ok-copy_expr-in-Assign :
    goal.emit_statement-returns-in_ok-copy_expr-in-Assign
emit_statement-returns-in_ok-copy_expr-in-Assign t c =
    subst (λ (x : List Instruction). IfOk c.one-in-Assign.result (λ code. code ≡ x))
    (ap (λ e. I.Set c.in-Assign.name e ∷ []) c.in_ok-copy_expr-in-Assign.ensures
    ∙ sym (code-Assign c.args.statement.now c.in-Assign.name c.in-Assign.value c.in-Assign.is))
    c.one-in-Assign.ensures

pub emit_statement-returns-in_ok-push-in-Call : goal.emit_statement-returns-in_ok-push-in-Call
emit_statement-returns-in_ok-push-in-Call t c =
    c.in_ok-push-in-Call.ensures.ok
    ∙ (ap (λ is. is ++ I.Take c.in-Call.bind ∷ [])
    (c.in_ok-code-in-Call.ensures ∙ ap (λ (call : CallCode). I.Call call ∷ [])
    c.in_ok-emit_call-in-Call.ensures)
    ∙ sym (code-Call c.args.statement.now c.in-Call.bind c.in-Call.call c.in-Call.is))

pub emit_statement-returns-in_ok-fails-in-If : goal.emit_statement-returns-in_ok-fails-in-If
emit_statement-returns-in_ok-fails-in-If t c =
    subst (λ (x : List Instruction). IfOk c.if_code.result (λ code. code ≡ x))
    (ap (λ is. if_code c.in-If.cond is c.in_ok-fails-in-If.fails)
    (c.in_ok-holds-in-If.ensures ∙ ap (flat_map code_of) c.as_slice.ensures)
    ∙ (ap (λ is. if_code c.in-If.cond (flat_map code_of c.in-If.yes) is)
    (c.in_ok-fails-in-If.ensures ∙ ap (flat_map code_of) c.as_slice-in-If.ensures)
    ∙ sym (code-If c.args.statement.now c.in-If.cond c.in-If.yes c.in-If.no c.in-If.is)))
    c.if_code.ensures

pub emit_statement-returns-in_ok-turn-in-While : goal.emit_statement-returns-in_ok-turn-in-While
emit_statement-returns-in_ok-turn-in-While t c =
    subst (λ (x : List Instruction). IfOk c.while_code.result (λ code. code ≡ x))
    (ap (λ is. while_code c.in-While.cond is)
    (c.in_ok-turn-in-While.ensures ∙ ap (flat_map code_of) c.as_slice-in-While.ensures)
    ∙ sym (code-While c.args.statement.now c.in-While.cond c.in-While.turn c.in-While.is))
    c.while_code.ensures
