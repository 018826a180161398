-- What `matrix` prints.
use Rattle.std.specs.Prelude.{◌≡◌, ℕ, List, map}
use Rattle.seuss_base.specs.Tables.{Table}
use Rattle.seuss_program.specs.declared.program.Program.{Program}
use Rattle.compat_matrix.specs.declared.certificate.Certificate.{Certificate}
use Rattle.compat_matrix.specs.Certificates.{AreLevels}
use Rattle.report_text.specs.MatrixTexts.{matrix_text}

-- the text is that of the levels of a program: of its certificates, and of its actions by these
abbrev pub IsMatrix : Program → List ℕ → Type 0
IsMatrix p text = (es : List Certificate) × (rows : Table) × AreLevels p es rows ×
    (text ≡ matrix_text p rows (map (λ (e : Certificate). e.level) es))
