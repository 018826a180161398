-- Expressions in which a length stands beside a literal.
use Rattle.std.specs.Prelude.{◌≡◌, ℤ, ◌⊎◌, IsTrue}
use Rattle.seuss_program.specs.declared.tree.Expr.{Expr}
use Rattle.seuss_program.specs.declared.tree.Fun.TheVariants as F
use Rattle.seuss_program.specs.declared.tree.Node.TheVariants as N
use Rattle.seuss_program.specs.declared.tree.Op.{Op}
use Rattle.seuss_program.specs.declared.tree.Ref.{Ref}
use Rattle.seuss_program.specs.Values.{is_comparison}

-- a number in digits
abbrev pub IsDigits : Expr Ref → Type 0
IsDigits e = (z : ℤ) × (e.node ≡ N.Int z)

-- a literal: a number in digits, with or without a minus before it
abbrev pub IsLiteral : Expr Ref → Type 0
IsLiteral e = IsDigits e ⊎ ((digits : Expr Ref) × (e.node ≡ N.Neg digits) × IsDigits digits)

-- the length of a sequence
abbrev pub IsLength : Expr Ref → Type 0
IsLength e = (sequence : Expr Ref) × (e.node ≡ N.One F.Len sequence)

-- a length is compared with a literal, which may stand on either side
abbrev pub ComparesLength : Op → Expr Ref → Expr Ref → Type 0
ComparesLength op left right = IsTrue (is_comparison op)
    × ((IsLength left × IsLiteral right) ⊎ (IsLiteral left × IsLength right))
