use Rattle.std.proofs.Common.{◌+◌, ◌++◌, codes}
use Rattle.std.specs.List.{flat_map, range_with_len}
use Rattle.seuss_program.specs.Reports.{line}
use Rattle.report_text.proofs.MatrixLemmas.{number_written}
use Rattle.demo_texts.specs.Demos.{cats_text, channel_line, relay_line}
use Rattle.demo_texts.proofs.program.demo_program.Goals as goal

-- one more channel
pub loop-n-preserved : goal.loop-n-preserved
loop-n-preserved c =
    number_written (λ n. channel_line (n + 1)) c.loop-n.n (cats_text ++ line (codes "box c0 : Input"))
    c.loop-n.text c.push_channel.new.text c.loop-n.invariant c.in_ok-push_channel.ensures

-- one more relay
pub loop-n-2-preserved : goal.loop-n-2-preserved
loop-n-2-preserved c =
    number_written (λ n. relay_line (n + 2)) c.loop-n-2.n
    (((cats_text ++ line (codes "box c0 : Input"))
    ++ flat_map (λ n. channel_line (n + 1)) (range_with_len 0 c.args.relays))
    ++ line (codes "box r1 : Head(c0, c1)"))
    c.loop-n-2.text c.push_relay.new.text c.loop-n-2.invariant c.in_ok-push_relay.ensures
