-- The numbers of names, in a table.
use Rattle.std.specs.Prelude.{◌≡◌, ℕ, List, Option}
use Rattle.std.specs.Borrow.{Bor}
use Rattle.std.specs.List.{position_from}
use Rattle.std.specs.Str.{bytes_eq}
use Rattle.indexmap.specs.IndexMap.{IndexMap, get_by}
use Rattle.seuss_program.specs.declared.tree.Name.{Name}

-- a table from names to numbers
abbrev pub Table : Type 0 → Type 0
Table S = IndexMap (Bor (List ℕ)) ℕ S

-- what a table has for a text
abbrev pub found : {S : Type 0} → Table S → List ℕ → Option ℕ
found table text = get_by (λ k. bytes_eq text k.now) table

-- a table has for each name the number of the first item with this name, counted from 0
pub record HasNumbers {X S : Type 0} (name_of : X → Name) (xs : List X) (table : Table S) : Type 0 where
  pub number : (text : List ℕ) →
      found table text ≡ position_from (λ x. bytes_eq (name_of x).text text) 0 xs
