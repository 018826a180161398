-- Line by line up to the first marker, or to the end.
use Rattle.std.proofs.Common.{inl, inr}
use Rattle.std.proofs.lemmas.Bool.{iff_false}
use Rattle.seuss_run.proofs.SplitLemmas.{past_start, line_passed, split_here, unsplit_at_end}
use Rattle.seuss_run.proofs.split.split.Goals as goal

pub loop-start-init : goal.loop-start-init
loop-start-init c = past_start c.args.bytes.now

pub returns-then-is_marker : goal.returns-then-is_marker
returns-then-is_marker c =
    inl (split_here c.args.bytes.now _ c.split_at.result.1.now _ _ c.loop-start.start c.line_len.result
    c.loop-start.invariant c.loop-start-test.true c.split_at.ensures.front c.split_at.ensures.back
    (let e = c.line_len.ensures in record {
      some = e.some;
      within = e.within;
      inside = e.inside;
      ended = e.ended;
    })
    c.split_at-in-loop-start.ensures.front c.split_at-in-loop-start.ensures.back
    (c.is_marker.ensures.0 c.if-is_marker.true))

pub loop-start-preserved : goal.loop-start-preserved
loop-start-preserved c =
    line_passed c.args.bytes.now c.split_at.result.1.now _ c.loop-start.start c.line_len.result
    c.loop-start.invariant c.loop-start-test.true c.split_at.ensures.back
    (let e = c.line_len.ensures in record {
      some = e.some;
      within = e.within;
      inside = e.inside;
      ended = e.ended;
    })
    c.split_at-in-loop-start.ensures.front (iff_false c.is_marker.ensures c.if-is_marker.false)

pub returns : goal.returns
returns c =
    inr (unsplit_at_end c.args.bytes.now c.loop-start.start c.loop-start.invariant c.loop-start-test.false)
