use Rattle.std.proofs.Common.{◌≡◌, length}
use Rattle.pass_seats.specs.Opening.{ArePlacesOf}
use Rattle.pass_seats.proofs.making.open_places.Given as goal

-- as many seats as turns, by their numbers
abbrev pub invariant-loop-number : goal.invariant-loop-number
invariant-loop-number g l = record {
  numbers : ArePlacesOf 0 l.places.items;
  all : length l.places.items ≡ l.number;
}
