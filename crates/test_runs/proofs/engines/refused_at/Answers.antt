use Rattle.std.proofs.Common.{◌≡◌, [], ◌∷◌, length, Some}
use Rattle.std.specs.Prelude.{slice_get}
use Rattle.pass_seats.proofs.Lists.{at-append, at-push}
use Rattle.test_runs.proofs.engines.refused_at.Goals as goal

-- both seats are new
pub refused_beside-requires : goal.refused_beside-requires
refused_beside-requires g c =
    let left = c.pop-2.new.self in
    let both = c.pop.new.self in
    let seat = c.in-Some-pop.seat in
    let here : slice_get both (length left) ≡ Some seat = rw c.in-Some-pop.ensures (at-push left seat) in
    let there : slice_get c.in_ok-engine.seats (length left) ≡ Some seat =
    rw c.in-Some.ensures (at-append both (c.in-Some.other ∷ []) (length left) seat here) in
    (c.in_ok-engine.ensures.seats.each (length left) seat there).whole
