use Rattle.seuss_text.proofs.RowLemmas.{bad_byte_same, range_same, bad_byte_no_range, tokens_no_bad_byte}
use Rattle.seuss_text.proofs.RowLemmas.{tokens_no_range}
use Rattle.seuss_text.proofs.laws.one_fault.Goals as goal

pub returns-clause-bad_byte : goal.returns-clause-bad_byte
returns-clause-bad_byte c = bad_byte_same

pub returns-clause-range : goal.returns-clause-range
returns-clause-range c = range_same

pub returns-clause-one_kind : goal.returns-clause-one_kind
returns-clause-one_kind c = bad_byte_no_range

pub returns-clause-no_bad_byte : goal.returns-clause-no_bad_byte
returns-clause-no_bad_byte c = tokens_no_bad_byte

pub returns-clause-no_range : goal.returns-clause-no_range
returns-clause-no_range c = tokens_no_range
