use Rattle.std.proofs.Common.{◌≡◌, ℕ, List, drop}
use Rattle.std.specs.List.{position_from}
use Rattle.std.specs.Str.{bytes_eq}
use Rattle.box_types.specs.Registers.{found}
use Rattle.box_types.specs.Scopes.{or_else}
use Rattle.box_types.proofs.registers.Register.new.Given as goal

-- what is noted so far and what is behind it give each name its number
abbrev pub invariant-loop-number : goal.invariant-loop-number
invariant-loop-number g l =
    (text : List ℕ) → or_else (found l.numbers text)
    (position_from (λ x. bytes_eq (g.T.Named.name_of x).text text) l.number (drop l.number l.items))
    ≡ position_from (λ x. bytes_eq (g.T.Named.name_of x).text text) 0 l.items
