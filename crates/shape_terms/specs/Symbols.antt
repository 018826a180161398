-- What a variable, a slot or an expression is in a case.
use Rattle.std.specs.Prelude.{◌≡◌, List, map}
use Rattle.seuss_program.specs.declared.state.Value.{Value}
use Rattle.seuss_program.specs.declared.state.Value.TheVariants as V
use Rattle.shape_terms.specs.declared.symbol.Symbol.{Symbol}
use Rattle.shape_terms.specs.declared.symbol.Symbol.TheVariants as S
use Rattle.shape_terms.specs.declared.case.Case.{Case}
use Rattle.shape_terms.specs.Points.{Point}
use Rattle.shape_terms.specs.Numbers.{number}
use Rattle.shape_terms.specs.Sequences.{items}

-- what a symbol stands for at a point
abbrev pub value_at : Symbol → Point → Value
value_at (S.Number form) p = V.Int (number form p)
value_at (S.Truth b) p = V.Bool b
value_at (S.Untold at) p = V.Bool (p.truths at)
value_at (S.Sequence form) p = V.Seq (items form p)

-- what symbols stand for at a point
abbrev pub values_at : List Symbol → Point → List Value
values_at symbols p = map (λ (s : Symbol). value_at s p) symbols

-- Variables, and arguments of both methods, are those of a case at a point.
pub record IsOf (c : Case) (p : Point) (state args others : List Value) : Type 0 where
  pub vars : values_at c.vars p ≡ state
  pub first : values_at c.first p ≡ args
  pub second : values_at c.second p ≡ others
