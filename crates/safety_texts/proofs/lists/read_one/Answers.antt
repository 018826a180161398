use Rattle.std.proofs.Common.{inl, inr}
use Rattle.safety_texts.proofs.ListLemmas.{missing}
use Rattle.safety_texts.proofs.lists.read_one.Goals as goal

pub returns-in-Err-Nesting : goal.returns-in-Err-Nesting
returns-in-Err-Nesting c = missing c.args.words.now.items _ c.args.at c.in-Err-Nesting.line c.in_ok-cat.cat
    c.requires.words c.in_ok-cat.ensures.gives
    (inr (rw c.in-Err-Nesting.field-0-is at c.in-Err-Nesting.ensures))

pub returns-in-Err-Syntax : goal.returns-in-Err-Syntax
returns-in-Err-Syntax c = missing c.args.words.now.items _ c.args.at c.in-Err-Syntax.line c.in_ok-cat.cat
    c.requires.words c.in_ok-cat.ensures.gives
    (inl (rw c.in-Err-Syntax.field-0-is at c.in-Err-Syntax.ensures))
