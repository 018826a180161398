use Rattle.seuss_text.proofs.AnswerLemmas.{answer_rises, answer_finds, answer_bad_byte, answer_range}
use Rattle.seuss_text.proofs.reader.tokens.Goals as goal

pub returns-clause-rising : goal.returns-clause-rising
returns-clause-rising c = answer_rises c.args.text.now c.read.result c.read.ensures

pub returns-clause-only : goal.returns-clause-only
returns-clause-only c xs short are limits =
    answer_finds c.args.text.now c.read.result xs c.read.ensures are limits

pub returns-clause-bad_byte_only : goal.returns-clause-bad_byte_only
returns-clause-bad_byte_only c line short bad =
    answer_bad_byte c.args.text.now c.read.result line c.read.ensures bad

pub returns-clause-range_only : goal.returns-clause-range_only
returns-clause-range_only c line short past =
    answer_range c.args.text.now c.read.result line c.read.ensures past
