-- The gap at the front is cut off, and the word behind it decides.
use Rattle.std.proofs.Common.{sym, refl}
use Rattle.std.proofs.lemmas.Bool.{eqb-true, eqb-false, iff_false}
use Rattle.seuss_text.proofs.StepLemmas.{cut_at, cut_ends, cut_bad, cut_word}
use Rattle.seuss_text.proofs.reader.next_token.Goals as goal

pub returns-then-is_empty : goal.returns-then-is_empty
returns-then-is_empty c before place line =
    cut_ends c.args.rest.now c.split_at.result.0.now c.split_at.result.1.now
    (cut_at _ _ _ c.gap_len.result c.split_at.ensures.front c.split_at.ensures.back c.gap_len.ensures.rest)
    (eqb-true _ 0 (sym c.if-is_empty.ensures))

pub returns-in_default : goal.returns-in_default
returns-in_default c before place line =
    cut_bad before c.args.rest.now c.split_at.result.0.now c.split_at.result.1.now c.args.line
    c.line_feeds.result
    (cut_at _ _ _ c.gap_len.result c.split_at.ensures.front c.split_at.ensures.back c.gap_len.ensures.rest)
    (eqb-false _ 0 (sym c.if-is_empty.ensures)) line c.line_feeds.ensures c.in_default.ensures

pub returns-then-not-is_in_limit : goal.returns-then-not-is_in_limit
returns-then-not-is_in_limit c before place line =
    let found =
    cut_word before c.args.rest.now c.split_at.result.0.now c.split_at.result.1.now c.args.place
    c.args.line c.line_feeds.result c.in-Some.len c.in-Some.kind
    (cut_at _ _ _ c.gap_len.result c.split_at.ensures.front c.split_at.ensures.back c.gap_len.ensures.rest)
    (eqb-false _ 0 (sym c.if-is_empty.ensures)) place line c.line_feeds.ensures c.in-Some.ensures in
    (_, _, _, _, found.0, found.1, iff_false c.is_in_limit.ensures c.if-not-is_in_limit.true, refl)

pub returns : goal.returns
returns c before place line =
    let found =
    cut_word before c.args.rest.now c.split_at.result.0.now c.split_at.result.1.now c.args.place
    c.args.line c.line_feeds.result c.in-Some.len c.in-Some.kind
    (cut_at _ _ _ c.gap_len.result c.split_at.ensures.front c.split_at.ensures.back c.gap_len.ensures.rest)
    (eqb-false _ 0 (sym c.if-is_empty.ensures)) place line c.line_feeds.ensures c.in-Some.ensures in
    (_, _, _, found.0, found.1, c.is_in_limit.ensures.0 c.if-not-is_in_limit.false)
