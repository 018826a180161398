-- What `resolve` answers.
use Rattle.std.specs.Prelude.{◌≡◌, ◌⊎◌, ℕ, List, [], Result, Ok, Err}
use Rattle.seuss_program.specs.declared.tree.Tree.{Tree}
use Rattle.box_types.specs.declared.checking.Check.{Check}
use Rattle.box_types.specs.declared.checking.Check.TheVariants as C
use Rattle.box_types.specs.declared.refusal.CheckRefusal.{CheckRefusal}
use Rattle.box_types.specs.declared.refusal.CheckRefusal.TheVariants as R
use Rattle.box_types.specs.Answers.{BeginsWith}
use Rattle.box_types.specs.Faults.{twice, unknown, wrong_kind, wrong_type, arguments, count}

-- every check passes
pub record IsAccepted (tree : Tree) : Type 0 where
  pub twice : twice tree ≡ []
  pub unknown : unknown tree ≡ []
  pub wrong_kind : wrong_kind tree ≡ []
  pub wrong_type : wrong_type tree ≡ []
  pub arguments : arguments tree ≡ []
  pub count : count tree ≡ []

-- the refusal of a check
abbrev pub refusal_of : Check → ℕ → CheckRefusal
refusal_of C.Twice l = R.Twice l
refusal_of C.Unknown l = R.Unknown l
refusal_of C.WrongKind l = R.WrongKind l
refusal_of C.WrongType l = R.WrongType l
refusal_of C.Arguments l = R.Arguments l
refusal_of C.Count l = R.Count l

-- one check passes, or refuses at the first line that is found; want of memory is free
abbrev pub Refuses : Check → Result (Unit {0}) CheckRefusal → List ℕ → Type 0
Refuses check (Ok u) lines = lines ≡ []
Refuses check (Err r) lines = (r ≡ R.Memory) ⊎ ((l : ℕ) × (r ≡ refusal_of check l) × BeginsWith lines l)

-- The first check that fails refuses a tree, at the first line that it finds.
abbrev pub FirstFails : CheckRefusal → Tree → Type 0
FirstFails (R.Twice l) tree = BeginsWith (twice tree) l
FirstFails (R.Unknown l) tree = (twice tree ≡ []) × BeginsWith (unknown tree) l
FirstFails (R.WrongKind l) tree = (twice tree ≡ []) × (unknown tree ≡ []) × BeginsWith (wrong_kind tree) l
FirstFails (R.WrongType l) tree =
    (twice tree ≡ []) × (unknown tree ≡ []) × (wrong_kind tree ≡ []) × BeginsWith (wrong_type tree) l
FirstFails (R.Arguments l) tree =
    (twice tree ≡ []) × (unknown tree ≡ []) × (wrong_kind tree ≡ []) × (wrong_type tree ≡ [])
    × BeginsWith (arguments tree) l
FirstFails (R.Count l) tree =
    (twice tree ≡ []) × (unknown tree ≡ []) × (wrong_kind tree ≡ []) × (wrong_type tree ≡ [])
    × (arguments tree ≡ [])
    × BeginsWith (count tree) l
FirstFails R.Memory tree = Unit {0}

-- the checks of a tree: all pass, or the first one that fails refuses it
abbrev pub Judges : Result (Unit {0}) CheckRefusal → Tree → Type 0
Judges (Ok u) tree = IsAccepted tree
Judges (Err r) tree = FirstFails r tree

-- A tree is resolved, and is seen as itself, exactly where every check passes; else the first check that
-- fails refuses it. Want of memory is free.
abbrev pub Resolves : Result Tree CheckRefusal → Tree → Type 0
Resolves (Ok resolved) tree = IsAccepted tree × (resolved ≡ tree)
Resolves (Err r) tree = FirstFails r tree
