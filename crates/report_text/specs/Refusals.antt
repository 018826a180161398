-- The line of a refusal.
use Rattle.std.specs.Prelude.{ℕ, List, [], ◌++◌, codes, Option, None, Some}
use Rattle.std.specs.Fmt.{decimal}
use Rattle.seuss_program.specs.Reports.{line}
use Rattle.report_text.specs.declared.refusals.Refused.{Refused}
use Rattle.report_text.specs.declared.refusals.Refused.TheVariants as R

-- the word of a refusal
abbrev pub kind_of : Refused → List ℕ
kind_of R.Long = codes "long"
kind_of (R.Byte n) = codes "byte"
kind_of (R.Range n) = codes "range"
kind_of (R.Syntax n) = codes "syntax"
kind_of (R.Nesting n) = codes "nesting"
kind_of (R.Twice n) = codes "twice"
kind_of (R.Unknown n) = codes "unknown"
kind_of (R.WrongKind n) = codes "kind"
kind_of (R.WrongType n) = codes "type"
kind_of (R.Arguments n) = codes "arguments"
kind_of (R.Count n) = codes "count"
kind_of (R.PartialCall n) = codes "partial_call"
kind_of (R.TotalCall n) = codes "total_call"
kind_of (R.Cycle n) = codes "cycle"
kind_of (R.Input n) = codes "input"
kind_of (R.Property n) = codes "property"
kind_of (R.CertificateNo n) = codes "certificate_no"
kind_of (R.CertificateUnclear n) = codes "certificate_unclear"
kind_of R.Attempts = codes "attempts"
kind_of R.Action = codes "action"

-- the line that a refusal stands at, where it has one
abbrev pub line_of : Refused → Option ℕ
line_of R.Long = None
line_of (R.Byte n) = Some n
line_of (R.Range n) = Some n
line_of (R.Syntax n) = Some n
line_of (R.Nesting n) = Some n
line_of (R.Twice n) = Some n
line_of (R.Unknown n) = Some n
line_of (R.WrongKind n) = Some n
line_of (R.WrongType n) = Some n
line_of (R.Arguments n) = Some n
line_of (R.Count n) = Some n
line_of (R.PartialCall n) = Some n
line_of (R.TotalCall n) = Some n
line_of (R.Cycle n) = Some n
line_of (R.Input n) = Some n
line_of (R.Property n) = Some n
line_of (R.CertificateNo n) = Some n
line_of (R.CertificateUnclear n) = Some n
line_of R.Attempts = None
line_of R.Action = None

-- the place after the word, where there is one
abbrev pub place_text : Option ℕ → List ℕ
place_text None = []
place_text (Some n) = codes " line " ++ decimal n

-- the line 'refused KIND', or 'refused KIND line N'
abbrev pub refusal : Refused → List ℕ
refusal r = line (codes "refused " ++ kind_of r ++ place_text (line_of r))
