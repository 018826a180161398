-- The size that the code of a procedure may have, so that a place and a method are numbers of 32 bits.
use Rattle.std.specs.Prelude.{◌≤◌, ◌<◌, ◌^◌, List, length, All}
use Rattle.method_code.specs.declared.method.Method.{Method}
use Rattle.method_code.specs.declared.method.Entry.{Entry}
use Rattle.method_code.specs.declared.method.Entry.TheVariants as N
use Rattle.method_code.specs.declared.method.Head.{Head}

-- each alternative starts at a place
abbrev pub HasStarts : Entry → Type 0
HasStarts N.Total = Unit {0}
HasStarts (N.Partial heads) = All (λ (h : Head). h.start ≤ 4000000000) heads

-- the code of a procedure has no more instructions than there are places
pub record Fits (m : Method) : Type 0 where
  pub places : length m.instructions ≤ 4000000000
  pub starts : HasStarts m.entry

-- the code of a program fits
pub record AllFit (methods : List Method) : Type 0 where
  pub each : All Fits methods
  pub count : length methods < 2 ^ 32
