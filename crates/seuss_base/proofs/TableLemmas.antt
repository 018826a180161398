-- What a write into a table leaves at its places.
use Rattle.std.proofs.Common.{◌≡◌, ◌≢◌, ℕ, ◌+◌, ◌*◌, ◌/◌, ◌%◌, ◌<◌, ◌⊎◌, List, length, get_or, sym, ap, ◌∙◌}
use Rattle.std.proofs.Common.{⊎_elim, refl, arith}
use Rattle.std.proofs.lemmas.List.{get_or-set_other, get_or-set_same}
use Rattle.std.proofs.Math.ListN.{set}
use Rattle.std.proofs.lemmas.Nat.{mul-add-lt, div-mul-add, mod-mul-add}
use Rattle.seuss_base.specs.Tables.{Table, level_at, Sets}
use Rattle.seuss_base.specs.declared.level.Level.{Level}
use Rattle.seuss_base.specs.declared.level.Level.TheVariants.{Never}

-- two places that are one have the same row and the same column
pub rows_differ : (w a b i j : ℕ) → b < w → j < w → (i ≢ a) ⊎ (j ≢ b) → i * w + j ≢ a * w + b
rows_differ w a b i j hb hj differ e =
    ⊎_elim (λ (d : i ≢ a). d (sym (div-mul-add i w j hj) ∙ ap (λ n. n / w) e ∙ div-mul-add a w b hb))
    (λ (d : j ≢ b). d (sym (mod-mul-add i w j hj) ∙ ap (λ n. n % w) e ∙ mod-mul-add a w b hb)) differ

-- a write at the place of a pair sets the level of that pair alone
pub set_sets : (count : ℕ) (levels : List Level) (a b : ℕ) (level : Level) → a < count → b < count →
    length levels ≡ count * count →
    Sets (record { count = count; levels = levels })
    (record { count = count; levels = set levels (a * count + b) level }) a b level
set_sets count levels a b level ha hb full =
    let place : a * count + b < length levels = omega (arith, full, mul-add-lt a count b count ha hb) in
    record {
      count = refl;
      here = get_or-set_same levels (a * count + b) level Never place;
      others = λ i j hi hj differ. get_or-set_other levels (a * count + b) (i * count + j) level Never
          (rows_differ count a b i j hb hj differ);
    }
