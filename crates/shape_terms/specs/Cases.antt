-- The cases of a certificate, and how many they are. A place is a variable, a parameter of the first method
-- or one of the second, in this order. Place v has the atoms 8v to 8v + 7, and the unknown rest v.
use Rattle.std.specs.Prelude.{◌≡◌, ℕ, ◌+◌, ◌*◌, nat_lt, if◌then◌else◌, Bool, true, false, ◌&&◌, ◌||◌, not}
use Rattle.std.specs.Prelude.{List, [], ◌∷◌, ◌++◌, map, length, Option, None, Some, option_and_then}
use Rattle.std.specs.Prelude.{slice_get, Result, Ok, Err, All, ◌≤◌}
use Rattle.std.specs.Option.{option_map}
use Rattle.std.specs.List.{flat_map}
use Rattle.std.specs.List.{range_with_len}
use Rattle.seuss_program.specs.declared.tree.Ref.{Ref}
use Rattle.seuss_program.specs.declared.tree.Kind.{Kind}
use Rattle.seuss_program.specs.declared.tree.Kind.TheVariants as K
use Rattle.seuss_program.specs.declared.tree.Param.{Param}
use Rattle.seuss_program.specs.declared.tree.Var.{Var}
use Rattle.seuss_program.specs.declared.tree.Proc.{Proc}
use Rattle.seuss_program.specs.declared.tree.Hint.{Hint}
use Rattle.seuss_program.specs.declared.tree.Semi.{Semi}
use Rattle.seuss_program.specs.declared.tree.Cat.{Cat}
use Rattle.seuss_program.specs.Keeping.{method_at}
use Rattle.shape_terms.specs.declared.num_form.NumForm.{NumForm}
use Rattle.shape_terms.specs.declared.shape.Shape.TheVariants as Q
use Rattle.shape_terms.specs.declared.symbol.Symbol.{Symbol}
use Rattle.shape_terms.specs.declared.symbol.Symbol.TheVariants as S
use Rattle.shape_terms.specs.declared.case.Case.{Case}
use Rattle.shape_terms.specs.declared.refusal.CaseRefusal.{CaseRefusal}
use Rattle.shape_terms.specs.declared.refusal.CaseRefusal.TheVariants as E
use Rattle.seuss_program.specs.declared.program.Program.{Program}
use Rattle.shape_terms.specs.Numbers.{atom}
use Rattle.shape_terms.specs.Texts.{is_variable, in_form}

-- atoms one after the other, as elements
abbrev pub atoms_from : ℕ → ℕ → List NumForm
atoms_from first many = map atom (range_with_len first many)

-- a sequence of this length, all of whose elements are atoms
abbrev pub exact_choice : ℕ → ℕ → Symbol
exact_choice place length = S.Sequence (Q.Exact (atoms_from (8 * place) length))

-- a sequence with so many atoms at each end, and an unknown rest between them
abbrev pub long_choice : ℕ → ℕ → ℕ → Symbol
long_choice place front back =
    S.Sequence (Q.Long (atoms_from (8 * place) front) place (atoms_from (8 * place + front) back))

-- the cases of a sequence that is looked at to these depths: each length below their sum, and all lengths
-- from there on
abbrev pub sequence_choices : ℕ → ℕ → ℕ → List Symbol
sequence_choices place front back =
    map (exact_choice place) (range_with_len 0 (front + back)) ++ long_choice place front back ∷ []

-- whether two sides are the same
abbrev pub same_side : Bool → Bool → Bool
same_side true b = b
same_side false b = not b

-- the depth that hints name at one side of a variable
abbrev pub depth_of : Bool → ℕ → List (Hint Ref) → ℕ
depth_of side v [] = 0
depth_of side v (h ∷ hs) =
    if is_variable v h.name && same_side side h.front then h.depth else depth_of side v hs

-- the cases of a variable, by whether it stands in the text of one of the methods
abbrev pub var_choices : Kind → ℕ → Bool → ℕ → ℕ → List Symbol
var_choices K.Int place in_text front back = S.Number (atom (8 * place)) ∷ []
var_choices K.Bool place true front back = S.Truth true ∷ S.Truth false ∷ []
var_choices K.Bool place false front back = S.Untold place ∷ []
var_choices K.Seq place true front back = sequence_choices place front back
var_choices K.Seq place false front back = sequence_choices place 0 0

-- the cases of each variable from one on, of which this is the place
abbrev pub vars_choices : ℕ → Proc Ref → Proc Ref → List (Hint Ref) → List Var → List (List Symbol)
vars_choices place m n hints [] = []
vars_choices place m n hints (v ∷ vs) =
    var_choices v.kind place (in_form place m.form || in_form place n.form) (depth_of true place hints)
    (depth_of false place hints)
    ∷ vars_choices (place + 1) m n hints vs

-- the cases of each parameter from one on
abbrev pub param_choices : ℕ → List Param → List (List Symbol)
param_choices place [] = []
param_choices place (x ∷ xs) = var_choices x.kind place true 0 0 ∷ param_choices (place + 1) xs

-- each row with each of these after it
abbrev pub rows_before : List (List Symbol) → List Symbol → List (List Symbol)
rows_before rows symbols = flat_map (λ (row : List Symbol). map (λ (s : Symbol). row ++ s ∷ []) symbols) rows

-- each way to take one of each after these rows
abbrev pub rows_after : List (List Symbol) → List (List Symbol) → List (List Symbol)
rows_after rows [] = rows
rows_after rows (symbols ∷ more) = rows_after (rows_before rows symbols) more

-- each way to take one of each
abbrev pub rows_of : List (List Symbol) → List (List Symbol)
rows_of choices = rows_after ([] ∷ []) choices

-- each row of parameters of the second method with these of the first one and these variables
abbrev pub cases_with : List Symbol → List Symbol → List (List Symbol) → List Case
cases_with vars first seconds =
    map (λ (second : List Symbol). record { vars = vars; first = first; second = second }) seconds

-- each row of the first method's parameters with each of the second one's, with these variables
abbrev pub cases_from : List Symbol → List (List Symbol) → List (List Symbol) → List Case
cases_from vars firsts seconds = flat_map (λ (first : List Symbol). cases_with vars first seconds) firsts

-- each row of variables with each row of the first method's parameters and each of the second one's
abbrev pub cases_between : List (List Symbol) → List (List Symbol) → List (List Symbol) → List Case
cases_between rows firsts seconds = flat_map (λ (vars : List Symbol). cases_from vars firsts seconds) rows

-- the first product of counts, from the front on, that passes 4,096
abbrev pub first_above : ℕ → List ℕ → Option ℕ
first_above product [] = None
first_above product (count ∷ counts) =
    if nat_lt 4096 (product * count) then Some (product * count) else first_above (product * count) counts

-- what a certificate is about: its cat, its methods and its hints
pub record Pair : Type 0 where
  pub cat : Cat Ref
  pub first : Proc Ref
  pub second : Proc Ref
  pub hints : List (Hint Ref)

-- a pair of methods of a cat with these hints
abbrev pub pair_with : Cat Ref → List (Hint Ref) → Proc Ref → Proc Ref → Pair
pair_with c hints m n = record { cat = c; first = m; second = n; hints = hints }

-- what a certificate of a cat is about, where its methods are there
abbrev pub pair_of : Cat Ref → Semi Ref → Option Pair
pair_of c s =
    option_and_then (λ (m : Proc Ref). option_map (pair_with c s.hints m) (method_at s.second c))
    (method_at s.first c)

-- what the certificate of this number of the cat of this number is about, where it is there
abbrev pub pair_at : Program → ℕ → ℕ → Option Pair
pair_at p cat semi =
    option_and_then (λ (c : Cat Ref). option_and_then (pair_of c) (slice_get c.semis semi))
    (slice_get p.cats cat)

-- the cases of each variable
abbrev pub choices_of_vars : Pair → List (List Symbol)
choices_of_vars pair = vars_choices 0 pair.first pair.second pair.hints pair.cat.vars

-- the cases of each parameter of the first method
abbrev pub choices_of_first : Pair → List (List Symbol)
choices_of_first pair = param_choices (length pair.cat.vars) pair.first.params

-- the cases of each parameter of the second method
abbrev pub choices_of_second : Pair → List (List Symbol)
choices_of_second pair = param_choices (length pair.cat.vars + length pair.first.params) pair.second.params

-- What is answered of places: all of their cases where they are few, or else the first product above 4,096
-- of their numbers of cases.
abbrev pub AreCasesOf : List (List Symbol) → List (List Symbol) → List (List Symbol) →
    Result (List Case) CaseRefusal → Type 0
AreCasesOf vars firsts seconds (Ok cases) =
    (first_above 1 (map length (vars ++ firsts ++ seconds)) ≡ None)
    × (cases ≡ cases_between (rows_of vars) (rows_of firsts) (rows_of seconds))
AreCasesOf vars firsts seconds (Err (E.TooMany count)) =
    first_above 1 (map length (vars ++ firsts ++ seconds)) ≡ Some count
AreCasesOf vars firsts seconds (Err E.Memory) = Unit {0}

-- what is answered of a certificate
abbrev pub AreCases : Pair → Result (List Case) CaseRefusal → Type 0
AreCases pair result =
    AreCasesOf (choices_of_vars pair) (choices_of_first pair) (choices_of_second pair) result

-- all cases of a certificate
abbrev pub cases_of : Pair → List Case
cases_of pair =
    cases_between (rows_of (choices_of_vars pair)) (rows_of (choices_of_first pair))
    (rows_of (choices_of_second pair))

-- a cat of at most 32 variables, and 32 parameters of each procedure, with hints to a depth of at most 4
pub record HasFew (c : Cat Ref) : Type 0 where
  pub vars : length c.vars ≤ 32
  pub params : All (λ (q : Proc Ref). length q.params ≤ 32) c.procs
  pub depths : All (λ (s : Semi Ref). All (λ (h : Hint Ref). h.depth ≤ 4) s.hints) c.semis
