use Rattle.std.proofs.Common.{◌≡◌, ◌+◌, ◌++◌, codes}
use Rattle.std.specs.List.{flat_map, range_with_len}
use Rattle.seuss_program.specs.Reports.{line}
use Rattle.demo_texts.specs.Demos.{cats_text, channel_line, relay_line}
use Rattle.demo_texts.proofs.program.demo_program.Given as goal

-- the cats, the input, and the channels so far
abbrev pub invariant-loop-n : goal.invariant-loop-n
invariant-loop-n l = l.text ≡ (cats_text ++ line (codes "box c0 : Input"))
    ++ flat_map (λ n. channel_line (n + 1)) (range_with_len 0 l.n)

-- all channels, the head, and the relays so far
abbrev pub invariant-loop-n-2 : goal.invariant-loop-n-2
invariant-loop-n-2 l = l.text ≡ (((cats_text ++ line (codes "box c0 : Input"))
    ++ flat_map (λ n. channel_line (n + 1)) (range_with_len 0 l.relays)) ++ line (codes "box r1 : Head(c0, c1)"))
    ++ flat_map (λ n. relay_line (n + 2)) (range_with_len 0 l.n)
