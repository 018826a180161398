use Rattle.std.proofs.Common.{Option, Result, true, ◌+◌, sym, ap, subst, ◌∙◌, drop}
use Rattle.seuss_base.specs.declared.outcome.Trap.{Trap}
use Rattle.seuss_program.specs.Values.{Evaluated, value}
use Rattle.method_code.specs.declared.method.Head.{Head}
use Rattle.method_code.specs.declared.frame.Frame.{Frame}
use Rattle.method_code.specs.declared.frame.End.{End}
use Rattle.method_code.specs.declared.frame.End.TheVariants as E
use Rattle.method_code.specs.Steps.{Stepped, chosen, chosen_head, judged_head}
use Rattle.method_code.specs.Answers.{Steps}
use Rattle.method_code.proofs.WalkLemmas.{head-from, judged-so}
use Rattle.method_code.proofs.stepping.choose.Goals as goal

pub returns-then-truth : goal.returns-then-truth
returns-then-truth c =
    let head = c.head-item.result in
    let others = chosen_head (drop (c.loop-head.head-index + 1) c.args.heads.now) c.loop-head.vars
    c.loop-head.frame.slots in
    let here = head-from c.args.heads.now c.loop-head.head-index head c.loop-head.vars
    c.loop-head.frame.slots c.loop-head-test.true c.head-item.is
    ∙ judged-so (value head.cond c.loop-head.vars c.loop-head.frame.slots) c.in-Ok.found true head others
    (sym c.in_ok-found.ensures ∙ c.in-Ok.is) (sym c.if-truth.ensures) in
    let same = ap (λ (h : Result (Option Head) Trap). chosen c.args.method.now c.loop-head.frame.method
    c.loop-head.budget h c.loop-head.vars c.loop-head.frame.slots) here in
    subst (λ (s : Stepped). Steps c.begin.result s c.begin.new.vars c.begin.new.frame c.begin.new.budget)
    (sym same ∙ c.loop-head.invariant) c.begin.ensures

pub returns-in-Err : goal.returns-in-Err
returns-in-Err c =
    let head = c.head-item.result in
    let others = chosen_head (drop (c.loop-head.head-index + 1) c.args.heads.now) c.loop-head.vars
    c.loop-head.frame.slots in
    let here = head-from c.args.heads.now c.loop-head.head-index head c.loop-head.vars
    c.loop-head.frame.slots c.loop-head-test.true c.head-item.is
    ∙ ap (λ (e : Evaluated). judged_head e head others) (sym c.in_ok-found.ensures ∙ c.in-Err.is) in
    let same = ap (λ (h : Result (Option Head) Trap). chosen c.args.method.now c.loop-head.frame.method
    c.loop-head.budget h c.loop-head.vars c.loop-head.frame.slots) here in
    let left = ap (λ (f : Frame). record
    { vars = c.loop-head.vars; frame = f; budget = c.loop-head.budget; end = E.Trapped c.in-Err.trap })
    (sym c.leave.ensures.after)
    ∙ ap (λ (e : End). record
    { vars = c.loop-head.vars; frame = c.leave.new.frame; budget = c.loop-head.budget; end = e })
    (sym c.leave.ensures.end) in
    sym c.loop-head.invariant ∙ (same ∙ left)
