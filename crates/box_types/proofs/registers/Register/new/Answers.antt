use Rattle.std.proofs.Common.{cond, None, Some, ap, ◌∙◌}
use Rattle.std.specs.List.{position_from}
use Rattle.std.specs.Str.{bytes_eq}
use Rattle.box_types.specs.Registers.{found}
use Rattle.box_types.specs.Scopes.{or_else}
use Rattle.box_types.proofs.Registered.{next, none_found, numbered}
use Rattle.box_types.proofs.registers.Register.new.Goals as goal

pub loop-number-init : goal.loop-number-init
loop-number-init g c = λ text.
    ap (λ o. or_else o (position_from (λ x. bytes_eq (g.T.Named.name_of x).text text) 0 c.args.items.now))
    (none_found c.new-numbers.result text c.new-numbers.ensures.empty)

pub loop-number-preserved : goal.loop-number-preserved
loop-number-preserved g c = λ text.
    let l = c.loop-number in let x = c.index-items-number in
    let noted = c.in_ok-note.ensures.noted text
    ∙ ap (λ n. or_else (found l.numbers text) (cond (bytes_eq n.text text) (Some l.number) None))
    c.name.ensures in
    next (λ y. bytes_eq (g.T.Named.name_of y).text text) c.args.items.now l.number x.result
    (found l.numbers text) (found c.note.new.numbers text) c.loop-number-test.true x.is noted
    ∙ l.invariant text

pub invariant_of-result : goal.invariant_of-result
invariant_of-result g c = record {
  are_numbers = record {
    number = λ text.
        numbered (λ x. bytes_eq (g.T.Named.name_of x).text text) c.args.items.now c.loop-number.number
        (found c.loop-number.numbers text) c.loop-number-test.false (c.loop-number.invariant text);
  };
}
