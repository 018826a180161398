use Rattle.std.proofs.Common.{◌≡◌, ◌+◌, ◌++◌, [], length, None}
use Rattle.std.specs.Vec.Iter.{into_iter_items, into_iter_len}
use Rattle.pass_seats.specs.Opening.{AreNewSeats, fresh_sched}
use Rattle.pass_seats.proofs.making.open_seats.Given as goal

-- the seats so far, and what is left of the scheduler's seats, of the quit word's and of the ledger
abbrev pub invariant-loop-place : goal.invariant-loop-place
invariant-loop-place g l = record {
  rest : l.yielded ++ into_iter_items l.place-iterator ≡ l.fn.places.items;
  count : into_iter_len l.place-iterator ≡ length (into_iter_items l.place-iterator);
  seats : AreNewSeats l.seats.items;
  many : length l.seats.items ≡ length l.yielded;
  sched : l.sched ≡ fresh_sched g.N.EngineNames.names.sched l.fn.sched.setting (length l.yielded);
  first : l.first
      ≡ record { given = length l.yielded; held = []; seen = None; name = g.N.EngineNames.names.quit };
  parts : l.part.parts + length l.yielded ≡ g.N.EngineNames.names.seats;
  amount : l.part.amount ≡ 0;
}
