-- The frame of a pass, as it is lent.
use Rattle.std.specs.Borrow.{Lends, MutBor, Fml}
use Rattle.method_code.specs.declared.activation.Activation.{Activation}
use Rattle.method_code.specs.declared.frame.Frame.{Frame}
use Rattle.method_code.specs.contracts.activation.Activation.{the_row}
use Rattle.method_code.specs.contracts.frame.Frame as frame

-- the pass ends with the frame that stands there when r ends
abbrev pub LendsFrame : MutBor Activation → MutBor Frame → Fml
LendsFrame s r = Lends the_row frame.the_row s r (λ (f : Frame). record s.now { frame = f })
