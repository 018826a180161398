-- What is printed of the levels of a program: its certificates, and how far each action is safe beside
-- each other one.
use Rattle.std.specs.Prelude.{ℕ, List, [], ◌∷◌, ◌++◌, length, map, codes, slice_get}
use Rattle.std.specs.List.{flat_map, range_with_len}
use Rattle.seuss_base.specs.declared.level.Level.{Level}
use Rattle.seuss_base.specs.declared.level.Level.TheVariants as L
use Rattle.seuss_base.specs.Tables.{Table, level_at}
use Rattle.seuss_program.specs.declared.tree.Ref.{Ref}
use Rattle.seuss_program.specs.declared.tree.Cat.{Cat}
use Rattle.seuss_program.specs.declared.tree.Semi.{Semi}
use Rattle.seuss_program.specs.declared.program.Program.{Program}
use Rattle.seuss_program.specs.Programs.{method_of}
use Rattle.seuss_program.specs.Reports.{line, action_name, proc_name}

-- the word of a level
abbrev pub level_text : Level → List ℕ
level_text L.Never = codes "never"
level_text L.Loose = codes "loose"
level_text L.Firm = codes "firm"

-- a method of a cat as CAT.METHOD
abbrev pub method_name : Cat Ref → Ref → List ℕ
method_name c name = c.name.text ++ codes "." ++ proc_name (slice_get c.procs (method_of name))

-- the line `semi CAT.FIRST CAT.SECOND LEVEL` of a certificate of a cat
abbrev pub certificate_line : Cat Ref → Semi Ref → Level → List ℕ
certificate_line c s level = line
    (codes "semi " ++ method_name c s.first ++ codes " " ++ method_name c s.second
    ++ codes " " ++ level_text level)

-- the certificates of all cats, each with its cat, in the order of the text
abbrev pub certificates : List (Cat Ref) → List (Cat Ref × Semi Ref)
certificates [] = []
certificates (c ∷ cs) = map (λ (s : Semi Ref). (c, s)) c.semis ++ certificates cs

-- the lines of certificates, each with its level
abbrev pub certificate_lines : List (Cat Ref × Semi Ref) → List Level → List ℕ
certificate_lines [] levels = []
certificate_lines (x ∷ xs) [] = []
certificate_lines (x ∷ xs) (level ∷ levels) = certificate_line x.0 x.1 level ++ certificate_lines xs levels

-- the line BOX.A BOX.B LEVEL of an action beside another one
abbrev pub pair_line : Program → Table → ℕ → ℕ → List ℕ
pair_line p rows a b = line (action_name p (slice_get p.actions a) ++ codes " "
    ++ action_name p (slice_get p.actions b) ++ codes " " ++ level_text (level_at rows a b))

-- the lines of an action beside each action, in the order of their numbers
abbrev pub row_lines : Program → Table → ℕ → List ℕ
row_lines p rows a = flat_map (pair_line p rows a) (range_with_len 0 (length p.actions))

-- The lines of the certificates, and then those of each action.
abbrev pub matrix_text : Program → Table → List Level → List ℕ
matrix_text p rows levels = certificate_lines (certificates p.cats) levels
    ++ flat_map (row_lines p rows) (range_with_len 0 (length p.actions))
