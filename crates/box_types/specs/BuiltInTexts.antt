-- The built-in cats as a text declares them. Their words stand on line 0.
use Rattle.std.specs.Prelude.{ℕ, pos, true, false, List, [], ◌∷◌, codes, None}
use Rattle.seuss_program.specs.declared.tree.Kind.TheVariants as K
use Rattle.seuss_program.specs.declared.tree.Op.{Op}
use Rattle.seuss_program.specs.declared.tree.Op.TheVariants as O
use Rattle.seuss_program.specs.declared.tree.Fun.{Fun}
use Rattle.seuss_program.specs.declared.tree.Fun.TheVariants as U
use Rattle.seuss_program.specs.declared.tree.Name.{Name}
use Rattle.seuss_program.specs.declared.tree.Var.{Var}
use Rattle.seuss_program.specs.declared.tree.Expr.{Expr}
use Rattle.seuss_program.specs.declared.tree.Node.{Node}
use Rattle.seuss_program.specs.declared.tree.Node.TheVariants as N
use Rattle.seuss_program.specs.declared.tree.Statement.{Statement}
use Rattle.seuss_program.specs.declared.tree.Statement.TheVariants as S
use Rattle.seuss_program.specs.declared.tree.Form.TheVariants as F
use Rattle.seuss_program.specs.declared.tree.Proc.{Proc}
use Rattle.seuss_program.specs.declared.tree.Cat.{Cat}
use Rattle.seuss_program.specs.declared.tree.Tree.{Tree}
use Rattle.seuss_program.specs.declared.state.Value.TheVariants as V

-- a name with this text, on line 0
abbrev pub word : List ℕ → Name
word text = record { text = text; line = 0 }

-- an expression with this node, on line 0
abbrev pub expression : Node Name → Expr Name
expression node = record { line = 0; node = node }

-- the one variable of both cats
abbrev pub queue : List Var
queue = record { name = word (codes "q"); kind = K.Seq; start = V.Seq [] } ∷ []

-- the name with this text, as an expression
abbrev pub use_of : List ℕ → Expr Name
use_of text = expression (N.Name (word text))

-- a function of the variable `q`, such as `first(q)`
abbrev pub of_queue : Fun → Expr Name
of_queue fun = expression (N.One fun (use_of (codes "q")))

-- an operator over two parts
abbrev pub two : Op → Expr Name → Expr Name → Expr Name
two op left right = expression (N.Two op left right)

-- the name with this text takes the value of an expression
abbrev pub assignment : List ℕ → Expr Name → Statement Name
assignment text e = S.Assign (word text) e

-- `partial read() : int when len(q) > 0 -> result := first(q) q := rest(q)`
abbrev pub read : Proc Name
read = record {
  name = word (codes "read");
  params = [];
  gives = true;
  form = F.Partial (record {
    line = 0;
    cond = two O.Gt (of_queue U.Len) (expression (N.Int (pos 0)));
    pre = None;
    positive = true;
    body = assignment (codes "result") (of_queue U.First) ∷ assignment (codes "q") (of_queue U.Rest) ∷ [];
  } ∷ []);
}

-- `total write(x : int) is q := add(q, x)`
abbrev pub write : Proc Name
write = record {
  name = word (codes "write");
  params = record { name = word (codes "x"); kind = K.Int } ∷ [];
  gives = false;
  form = F.Total (assignment (codes "q") (two O.Add (use_of (codes "q")) (use_of (codes "x"))) ∷ []);
}

-- the cat of boxes that give the input
abbrev pub input : Cat Name
input = record { name = word (codes "Input"); given = []; vars = queue; procs = read ∷ []; semis = [] }

-- the cat of boxes that take output
abbrev pub output : Cat Name
output = record { name = word (codes "Output"); given = []; vars = queue; procs = write ∷ []; semis = [] }

-- the text with the built-in cats in front of its own
abbrev pub with_built_ins : Tree → Tree
with_built_ins tree = record tree { cats = input ∷ output ∷ tree.cats }
