-- The demo: a pipeline of relays. Each takes a number from the channel in front of it, adds 1, and puts it into its own.
use Rattle.std.specs.Prelude.{ℕ, ◌+◌, ◌*◌, ◌-◌, ℤ, pos, List, [], ◌∷◌, ◌++◌, map, codes}
use Rattle.std.specs.Fmt.{decimal}
use Rattle.std.specs.List.{flat_map, range_with_len}
use Rattle.seuss_program.specs.Reports.{line}

-- the cats: a channel, the head of the pipeline, which takes from the input, and a relay
abbrev pub cats_text : List ℕ
cats_text = flat_map line (
    codes "seuss 1" ∷
    codes "cat Channel" ∷
    codes "  var q : seq" ∷
    codes "  total put(x : int) is" ∷
    codes "    q := add(q, x)" ∷
    codes "  end" ∷
    codes "  partial get() : int" ∷
    codes "    when len(q) > 0 ->" ∷
    codes "      result := first(q)" ∷
    codes "      q := rest(q)" ∷
    codes "  end" ∷
    codes "  semi get, put front q 1" ∷
    codes "end" ∷
    codes "cat Head(a : Input, b : Channel)" ∷
    codes "  action pass" ∷
    codes "    when true ; v := a.read() ->" ∷
    codes "      b.put(v &+ 1)" ∷
    codes "  end" ∷
    codes "end" ∷
    codes "cat Relay(a : Channel, b : Channel)" ∷
    codes "  action pass" ∷
    codes "    when true ; v := a.get() ->" ∷
    codes "      b.put(v &+ 1)" ∷
    codes "  end" ∷
    codes "end" ∷ [])

-- the channel with this number
abbrev pub channel_line : ℕ → List ℕ
channel_line n = line (codes "box c" ++ decimal n ++ codes " : Channel")

-- the relay with this number, which takes from the channel in front of its own
abbrev pub relay_line : ℕ → List ℕ
relay_line n = line (codes "box r" ++ decimal n ++ codes " : Relay(c" ++ decimal (n - 1) ++ codes ", c"
    ++ decimal n ++ codes ")")

-- the program with so many relays, of which the head is the first
abbrev pub demo_text : ℕ → List ℕ
demo_text relays = cats_text ++ line (codes "box c0 : Input")
    ++ flat_map (λ n. channel_line (n + 1)) (range_with_len 0 relays)
    ++ line (codes "box r1 : Head(c0, c1)")
    ++ flat_map (λ n. relay_line (n + 2)) (range_with_len 0 (relays - 1))

-- its input: a hundred numbers for each relay, from 1 on
abbrev pub demo_numbers : ℕ → List ℤ
demo_numbers relays = map (λ n. pos (n + 1)) (range_with_len 0 (100 * relays))
