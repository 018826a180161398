use Rattle.std.proofs.Common.{ℕ, ◌<◌, subst, sym, ap}
use Rattle.seuss_base.specs.Tables.{Table}
use Rattle.seuss_base.proofs.TableLemmas.{set_sets}
use Rattle.seuss_base.proofs.compat_rows.CompatRows.set.Goals as goal

-- the place that is written is that of the pair
pub returns : goal.returns
returns c =
    let below : (n : ℕ) → n < c.args.self.now.count → n < c.self.inside.count =
    λ n h. subst (λ (t : Table). n < t.count) (sym c.self.view_is) h in
    rw (c.place-at.ensures.value, ← c.self.view_is)
    (set_sets c.self.inside.count c.self.inside.levels.items c.args.a c.args.b c.args.level
    (below c.args.a c.requires.first) (below c.args.b c.requires.second) c.self.invariant.1)
