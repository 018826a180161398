-- The names of a program. By them a report tells its boxes apart, and the procedures of each box.
use Rattle.std.specs.Prelude.{◌≡◌, ◌≢◌, ℕ, Bool, false, ◌==◌, ◌||◌, [], All, AllPairs}
use Rattle.seuss_program.specs.declared.tree.Name.{Name}
use Rattle.seuss_program.specs.declared.tree.Ref.{Ref}
use Rattle.seuss_program.specs.declared.tree.Var.{Var}
use Rattle.seuss_program.specs.declared.tree.Proc.{Proc}
use Rattle.seuss_program.specs.declared.tree.Cat.{Cat}
use Rattle.seuss_program.specs.declared.program.BoxInfo.{BoxInfo}
use Rattle.seuss_program.specs.declared.program.Program.{Program}

-- the bytes at which a name ends in a report: line feed, space, point and `#`
abbrev pub ends_name : ℕ → Bool
ends_name b = b == 10 || (b == 32 || (b == 46 || b == 35))

-- A name that a report tells: it isn't empty, and ends at none of its bytes.
pub record IsName (name : Name) : Type 0 where
  pub some : name.text ≢ []
  pub whole : All (λ (b : ℕ). ends_name b ≡ false) name.text

-- two names with different texts, on whatever lines they stand
abbrev pub DiffersFrom : Name → Name → Type 0
DiffersFrom name other = name.text ≢ other.text

-- The variables and the procedures of a cat have names, and no two of its procedures have the same one.
pub record HasNamesInside (c : Cat Ref) : Type 0 where
  pub vars : All (λ (v : Var). IsName v.name) c.vars
  pub procs : All (λ (q : Proc Ref). IsName q.name) c.procs
  pub procs_differ : AllPairs (λ (q r : Proc Ref). DiffersFrom q.name r.name) c.procs

-- Boxes, variables and procedures have names. No two boxes have the same one, nor two procedures of a cat.
pub record HasNames (p : Program) : Type 0 where
  pub cats : All HasNamesInside p.cats
  pub boxes : All (λ (b : BoxInfo). IsName b.name) p.boxes
  pub boxes_differ : AllPairs (λ (b c : BoxInfo). DiffersFrom b.name c.name) p.boxes
