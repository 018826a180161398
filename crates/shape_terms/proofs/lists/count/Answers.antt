use Rattle.std.proofs.Common.{◌∙◌, sym}
use Rattle.std.proofs.lemmas.Int.{to_z-of_z}
use Rattle.std.specs.Int.{w64}
use Rattle.shape_terms.proofs.Wraps.{counted}
use Rattle.shape_terms.proofs.lists.count.Goals as goal

pub returns : goal.returns
returns c =
    to_z-of_z w64 c.cast_signed.result (record { sfits = c.cast_signed.type_inv }) ∙ c.cast_signed.ensures
    ∙ sym (counted c.args.many c.ranges.many.fits)
