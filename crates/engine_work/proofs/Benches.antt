-- The passes that a worker holds, after its calls.
use Rattle.std.proofs.Common.{◌≡◌, ◌≢◌, ℕ, ◌<◌, sym, ap, List, [], ◌∷◌, ◌++◌, length, arith}
use Rattle.std.specs.Prelude.{slice_get, Some}
use Rattle.std.proofs.lemmas.Option.{slice_get_within}
use Rattle.pass_seats.specs.declared.pass.Pass.{Pass}
use Rattle.pass_seats.specs.declared.pass.SeatPass.{SeatPass}
use Rattle.pass_seats.specs.Names.{Names}
use Rattle.pass_seats.specs.Seats.{SeatState}
use Rattle.pass_seats.specs.Slots.{HasStep}
use Rattle.worker_seats.specs.Workers.{WorkerState}
use Rattle.worker_seats.specs.Takes.{Started}
use Rattle.shared_engine.specs.Calls.{KeepsOthers, KeepsPasses}
use Rattle.engine_work.specs.declared.bench.HeldPass.{HeldPass}
use Rattle.engine_work.specs.Benches.{AreOthers, IsBench, fresh}

-- a pass that stays in its slot has its next step still
step_stays : (old new : SeatState) (slot : ℕ) →
    ((pass : SeatPass) → slice_get old.passes slot ≡ Some pass → slice_get new.passes slot ≡ Some pass) →
    HasStep old slot → HasStep new slot
step_stays old new slot keeps step = (
  step.0,
  record {
    pass = step.1.pass;
    there = keeps step.1.pass step.1.there;
    going = step.1.going;
    box = step.1.box;
  },
)

-- a bench stays one where each pass is as it was but one that isn't of it
pub bench_beside : (old new : WorkerState) (slot : ℕ) (held : List HeldPass) → KeepsOthers old new slot →
    AreOthers slot held → IsBench old.core held → IsBench new.core held
bench_beside old new slot [] keeps others bench = bench
bench_beside old new slot (h ∷ held) keeps others bench = (
  step_stays old.core new.core h.pass.slot
      (λ pass at. keeps.each h.pass.slot pass others.0 at) bench.0,
  bench.1,
  bench_beside old new slot held keeps others.1 bench.2,
)

-- a bench stays one where each pass is as it was
pub bench_kept : (old new : WorkerState) (held : List HeldPass) → KeepsPasses old new →
    IsBench old.core held → IsBench new.core held
bench_kept old new [] keeps bench = bench
bench_kept old new (h ∷ held) keeps bench = (
  step_stays old.core new.core h.pass.slot (λ pass at. keeps.each h.pass.slot pass at) bench.0,
  bench.1,
  bench_kept old new held keeps bench.2,
)

-- others with one more behind them
others_push : (slot : ℕ) (held : List HeldPass) (last : HeldPass) → AreOthers slot held →
    last.pass.slot ≢ slot → AreOthers slot (held ++ last ∷ [])
others_push slot [] last others apart = (apart, others)
others_push slot (h ∷ held) last others apart = (others.0, others_push slot held last others.1 apart)

-- a bench with one more pass behind the others
pub bench_push : (s : SeatState) (held : List HeldPass) (last : HeldPass) → IsBench s held →
    AreOthers last.pass.slot held → HasStep s last.pass.slot → IsBench s (held ++ last ∷ [])
bench_push s [] last bench others step = (step, others, bench)
bench_push s (h ∷ held) last bench others step =
    let apart : last.pass.slot ≢ h.pass.slot = λ same. others.0 (sym same) in
    (bench.0, others_push h.pass.slot held last bench.1 apart, bench_push s held last bench.2 others.1 step)

-- a slot behind those of a seat is none of a bench
others_new : (s : SeatState) (held : List HeldPass) → IsBench s held → AreOthers (length s.passes) held
others_new s [] bench = bench
others_new s (h ∷ held) bench =
    let within : h.pass.slot < length s.passes =
    slice_get_within s.passes h.pass.slot bench.0.1.pass bench.0.1.there in
    (λ same. absurd (omega (arith, within, same)), others_new s held bench.2)

-- a bench with the pass that a start gave behind the others
pub begun_bench : (names : Names) (old new : WorkerState) (held : List HeldPass) (pass : Pass) →
    Started names old new pass → HasStep new.core pass.slot → KeepsPasses old new → IsBench old.core held →
    IsBench new.core (held ++ fresh pass ∷ [])
begun_bench names old new held pass started step keeps bench =
    let slot : pass.slot ≡ length old.core.passes = ap (λ (p : Pass). p.slot) started.taken.pass_is in
    let others : AreOthers pass.slot held = rw slot (others_new old.core held bench) in
    bench_push new.core held (fresh pass) (bench_kept old new held keeps bench) others step

-- the passes that are held where the first of them went behind the others
pub back_bench : (old new : WorkerState) (one last : HeldPass) (rest after : List HeldPass) →
    IsBench old.core (one ∷ rest) → KeepsOthers old new one.pass.slot → last.pass ≡ one.pass →
    HasStep new.core one.pass.slot → after ≡ rest ++ last ∷ [] → IsBench new.core after
back_bench old new one last rest after bench keeps is step same =
    let slot : last.pass.slot ≡ one.pass.slot = ap (λ (p : Pass). p.slot) is in
    let others : AreOthers last.pass.slot rest = rw slot bench.1 in
    let next : HasStep new.core last.pass.slot = rw slot step in
    let beside = bench_beside old new one.pass.slot rest keeps bench.1 bench.2 in
    rw same (bench_push new.core rest last beside others next)

-- those that are held where the first of them was finished
pub over_bench : (old mid new : WorkerState) (one : HeldPass) (rest : List HeldPass) →
    IsBench old.core (one ∷ rest) → KeepsOthers old mid one.pass.slot → KeepsOthers mid new one.pass.slot →
    IsBench new.core rest
over_bench old mid new one rest bench tried finished =
    let beside = bench_beside old mid one.pass.slot rest tried bench.1 bench.2 in
    bench_beside mid new one.pass.slot rest finished bench.1 beside
