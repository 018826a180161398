use Rattle.std.proofs.Common.{sym, subst, arith}
use Rattle.seuss_print.specs.Printable.{IsKeptCat}
use Rattle.seuss_print.proofs.tree.push_cats.Goals as goal

pub push_cat-requires : goal.push_cat-requires
push_cat-requires c =
    subst IsKeptCat (sym c.c-item.is) (c.requires.kept c.loop-c.c-index c.c-item.result (omega arith))
