-- What a name means at a place, by what is found under its text.
use Rattle.std.specs.Prelude.{◌≡◌, ℕ, List, Option, None, Some, option_map}
use Rattle.std.proofs.Common.{refl}
use Rattle.seuss_program.specs.declared.tree.Name.{Name}
use Rattle.seuss_program.specs.declared.tree.Kind.{Kind}
use Rattle.seuss_program.specs.declared.tree.Var.{Var}
use Rattle.seuss_program.specs.declared.tree.Cat.{Cat}
use Rattle.box_types.specs.declared.scopes.Local.{Local}
use Rattle.box_types.specs.declared.scopes.Meaning.{Meaning}
use Rattle.box_types.specs.declared.scopes.Meaning.TheVariants as M
use Rattle.box_types.specs.Scopes.{named, number_of, given_number, proc_number, as_local, kind_in, or_else}
use Rattle.box_types.specs.Scopes.{meaning_in, meaning_of}

-- what a name means in a cat, with its number among the things of its sort
pub data InCat (own : Cat Name) (name : Name) : Meaning → Type 0 where
  AVar : (n : ℕ) (kind : Kind) → number_of (λ (v : Var). v.name) own.vars name ≡ Some n →
      InCat own name (M.Variable n kind)
  AGiven : (n : ℕ) → given_number own name ≡ Some n → InCat own name (M.GivenBox n)
  AProc : (n : ℕ) → proc_number own name ≡ Some n → InCat own name (M.Procedure n)
  Nowhere : InCat own name M.Nothing

-- what a name means at a place: a local that is found, or else what it means in the cat
pub data AtPlace (own : Cat Name) (visible : List Local) (name : Name) : Meaning → Type 0 where
  ALocal : (l : Local) → named (λ (l : Local). l.name) visible name ≡ Some l →
      AtPlace own visible name (M.Slot l.slot l.kind l.is_param)
  OfCat : (m : Meaning) → named (λ (l : Local). l.name) visible name ≡ None → InCat own name m →
      AtPlace own visible name m

-- a meaning, or else another one
abbrev pub or_meaning : Meaning → Option Meaning → Meaning
or_meaning other (Some m) = m
or_meaning other None = other

-- each name means something of these in its cat
pub in_cat : (own : Cat Name) (name : Name) → InCat own name (meaning_in own name)
in_cat own name = by_var (number_of (λ (v : Var). v.name) own.vars name) refl
  where
    by_proc : (p : Option ℕ) → proc_number own name ≡ p →
        InCat own name (or_meaning M.Nothing (option_map M.Procedure p))
    by_proc (Some n) is = AProc n is
    by_proc None is = Nowhere

    by_given : (g : Option ℕ) → given_number own name ≡ g →
        InCat own name (or_meaning M.Nothing
        (or_else (option_map M.GivenBox g) (option_map M.Procedure (proc_number own name))))
    by_given (Some n) is = AGiven n is
    by_given None is = by_proc (proc_number own name) refl

    by_var : (v : Option ℕ) → number_of (λ (v : Var). v.name) own.vars name ≡ v →
        InCat own name (or_meaning M.Nothing (or_else
        (option_map (λ n. M.Variable n (kind_in (named (λ (v : Var). v.name) own.vars name))) v)
        (or_else (option_map M.GivenBox (given_number own name))
        (option_map M.Procedure (proc_number own name)))))
    by_var (Some n) is = AVar n (kind_in (named (λ (v : Var). v.name) own.vars name)) is
    by_var None is = by_given (given_number own name) refl

-- and at a place
pub at_place : (own : Cat Name) (visible : List Local) (name : Name) →
    AtPlace own visible name (meaning_of own visible name)
at_place own visible name = by (named (λ (l : Local). l.name) visible name) refl
  where
    by : (o : Option Local) → named (λ (l : Local). l.name) visible name ≡ o →
        AtPlace own visible name (or_meaning (meaning_in own name) (option_map as_local o))
    by (Some l) is = ALocal l is
    by None is = OfCat (meaning_in own name) is (in_cat own name)
