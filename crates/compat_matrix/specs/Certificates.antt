-- The certificates of a program in the order of its text, and what they say of the levels of its actions.
use Rattle.std.specs.Prelude.{◌≡◌, ℕ, ◌+◌, Bool, ◌&&◌, ◌==◌, if◌then◌else◌, List, [], ◌∷◌, ◌++◌, map}
use Rattle.std.specs.Prelude.{length, All, Some, slice_get}
use Rattle.std.specs.List.{AllZip}
use Rattle.seuss_base.specs.declared.level.Level.{Level}
use Rattle.seuss_base.specs.declared.level.Level.TheVariants.{Never}
use Rattle.seuss_base.specs.Tables.{Table, level_at}
use Rattle.seuss_program.specs.declared.tree.Ref.{Ref}
use Rattle.seuss_program.specs.declared.tree.Ref.TheVariants as R
use Rattle.seuss_program.specs.declared.tree.Semi.{Semi}
use Rattle.seuss_program.specs.declared.tree.Cat.{Cat}
use Rattle.seuss_program.specs.declared.program.ActionInfo.{ActionInfo}
use Rattle.seuss_program.specs.declared.program.Program.{Program}
use Rattle.shape_terms.specs.Cases.{Pair, pair_of}
use Rattle.commute_certs.specs.declared.verdict.Verdict.{Verdict}
use Rattle.commute_certs.specs.declared.verdict.Verdict.TheVariants as V
use Rattle.commute_certs.specs.Verdicts.{IsVerdict}
use Rattle.compat_matrix.specs.declared.certificate.Certificate.{Certificate}
use Rattle.compat_matrix.specs.declared.refusal.MatrixRefusal.{MatrixRefusal}
use Rattle.compat_matrix.specs.declared.refusal.MatrixRefusal.TheVariants as M
use Rattle.compat_matrix.specs.Rule.{CertifiedLevels, IsLevel}

-- a certificate as it is written: the number of its cat, the cat, and its line `semi`
abbrev pub Written : Type 0
Written = ℕ × (Cat Ref × Semi Ref)

-- the certificates of all cats from this number on, in the order of the text
abbrev pub written_from : ℕ → List (Cat Ref) → List Written
written_from number [] = []
written_from number (c ∷ cs) =
    map (λ (s : Semi Ref). (number, (c, s))) c.semis ++ written_from (number + 1) cs

-- the certificates of a program, in the order of the text
abbrev pub written : Program → List Written
written p = written_from 0 p.cats

-- what is decided of a certificate, by its two methods and its hints
pub record Decided (one : Written) (verdict : Verdict) : Type 0 where
  pub pair : Pair
  pub about : pair_of one.1.0 one.1.1 ≡ Some pair
  pub is : IsVerdict pair verdict

-- a certificate that holds, at some level
abbrev pub HasYes : Written → Type 0
HasYes one = (level : Level) × Decided one (V.Yes level)

-- each certificate of a program holds
abbrev pub AllHold : Program → Type 0
AllHold p = All HasYes (written p)

-- a certificate that doesn't hold: its line, and what is decided of it
pub record Fails (one : Written) (line : ℕ) (verdict : Verdict) : Type 0 where
  pub same_line : one.1.1.line ≡ line
  pub decided : Decided one verdict
  pub never : HasYes one → ⊥

-- the first certificate in the order of the text that doesn't hold
pub record IsRefused (p : Program) (line : ℕ) (verdict : Verdict) : Type 0 where
  pub before : List Written
  pub one : Written
  pub behind : List Written
  pub split : written p ≡ before ++ one ∷ behind
  pub earlier : All HasYes before
  pub fails : Fails one line verdict

-- a certificate by numbers: its cat, the methods that it names, and the level at which it holds
pub record IsOf (one : Written) (e : Certificate) : Type 0 where
  pub same_cat : e.cat ≡ one.0
  pub first : one.1.1.first ≡ R.Method e.first
  pub second : one.1.1.second ≡ R.Method e.second
  pub decided : Decided one (V.Yes e.level)

-- all certificates of a program by numbers, in the order of the text: each of them holds
abbrev pub AreCertificates : Program → List Certificate → Type 0
AreCertificates p es = AllZip IsOf (written p) es

-- why a program has no levels
abbrev pub Refuses : Program → MatrixRefusal → Type 0
Refuses p (M.No line vars first second) = IsRefused p line (V.No vars first second)
Refuses p (M.Unclear line why) = IsRefused p line (V.Unclear why)
Refuses p M.Memory = Unit {0}

-- whether a certificate of a cat names both
abbrev pub names : Certificate → ℕ → ℕ → ℕ → Bool
names e cat first second = (e.cat == cat) && ((e.first == first) && (e.second == second))

-- The levels of certificates: of the first one that names both, and never where there is none.
abbrev pub levels_of : List Certificate → CertifiedLevels
levels_of [] cat first second = Never
levels_of (e ∷ es) cat first second =
    if names e cat first second then e.level else levels_of es cat first second

-- The levels of the actions of a program, by its certificates.
pub record AreLevels (p : Program) (es : List Certificate) (rows : Table) : Type 0 where
  pub certificates : AreCertificates p es
  pub count : rows.count ≡ length p.actions
  pub levels : (a b : ℕ) (x y : ActionInfo) → slice_get p.actions a ≡ Some x →
      slice_get p.actions b ≡ Some y →
      IsLevel p (levels_of es) x y (level_at rows a b)
