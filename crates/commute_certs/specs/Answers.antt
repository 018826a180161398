-- What a call answers: what is told in the case, the reason why it isn't, or that memory ran out.
use Rattle.std.specs.Prelude.{◌≡◌, Result, Ok, Err}
use Rattle.commute_certs.specs.declared.why.Reason.{Reason}
use Rattle.commute_certs.specs.declared.why.Untold.{Untold}
use Rattle.commute_certs.specs.declared.why.Untold.TheVariants as U

-- an answer is what is said of a case, or the reason why nothing is; want of memory is free
abbrev pub Tells : {A : Type 0} → Result A Untold → Result A Reason → Type 0
Tells (Ok x) said = said ≡ Ok x
Tells (Err (U.Reason why)) said = said ≡ Err why
Tells (Err U.Memory) said = Unit {0}
