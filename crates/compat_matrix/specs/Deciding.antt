-- How far the certificates of a program are decided.
use Rattle.std.specs.Prelude.{◌≡◌, List, ◌++◌, Result, Ok, Err}
use Rattle.std.specs.List.{AllZip}
use Rattle.seuss_program.specs.declared.program.Program.{Program}
use Rattle.commute_certs.specs.declared.verdict.Verdict.TheVariants as V
use Rattle.compat_matrix.specs.declared.certificate.Certificate.{Certificate}
use Rattle.compat_matrix.specs.declared.refusal.MatrixRefusal.{MatrixRefusal}
use Rattle.compat_matrix.specs.declared.refusal.MatrixRefusal.TheVariants as M
use Rattle.compat_matrix.specs.Certificates.{Written, written, Fails, IsOf}

-- what is answered of one certificate
abbrev pub Answers : Written → Result Certificate MatrixRefusal → Type 0
Answers one (Ok e) = IsOf one e
Answers one (Err (M.No line vars first second)) = Fails one line (V.No vars first second)
Answers one (Err (M.Unclear line why)) = Fails one line (V.Unclear why)
Answers one (Err M.Memory) = Unit {0}

-- the certificates before the rest, by numbers: each of them holds
pub record SoFar (p : Program) (rest : List Written) (es : List Certificate) : Type 0 where
  pub before : List Written
  pub split : written p ≡ before ++ rest
  pub decided : AllZip IsOf before es
