use Rattle.safety_texts.proofs.OneList.{one_verdict}
use Rattle.safety_texts.proofs.laws.one_list.Goals as goal

pub returns : goal.returns
returns c = λ p text.
    one_verdict c.one_expression.ensures (record {
      one_reading = c.one_reading.ensures;
      kinds = c.tokens_have_kinds.ensures;
      bad_byte = c.one_fault.ensures.bad_byte;
      range = c.one_fault.ensures.range;
      one_kind = c.one_fault.ensures.one_kind;
      no_bad_byte = c.one_fault.ensures.no_bad_byte;
      no_range = c.one_fault.ensures.no_range;
    }) p text
