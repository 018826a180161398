use Rattle.std.proofs.Common.{◌≡◌, Bool, true, false, List, [], ◌∷◌, ◌++◌, map, ap, sym, ◌∙◌, refl, None}
use Rattle.std.specs.Prelude.{Option, Some, IsTrue}
use Rattle.std.specs.Option.{is_some}
use Rattle.std.proofs.lemmas.List.{map-append}
use Rattle.std.proofs.lemmas.List.Elements.{All-push}
use Rattle.worker_seats.specs.Workers.{WorkerState}
use Rattle.engine_work.specs.declared.working.WorkerRecord.{WorkerRecord}
use Rattle.worker_runs.proofs.running.seats_back.Goals as goal

-- what isn't something is nothing
none_of : {A : Type 0} (o : Option A) → is_some o ≡ false → o ≡ None
none_of None is = refl
none_of (Some x) is = absurd (cc is)

pub loop-record-preserved : goal.loop-record-preserved
loop-record-preserved g c =
    let i = c.loop-record.invariant in
    let ys = c.loop-record.yielded in
    let r = c.in-Some.record in
    record {
      seats = c.in_ok-push.ensures.ok ∙ ap (λ (l : List WorkerState). l ++ r.seat ∷ []) i.seats
          ∙ sym (map-append (λ (x : WorkerRecord g.row.N.Denot). x.seat) ys (r ∷ []));
      none = All-push (λ (x : WorkerRecord g.row.N.Denot). x.refusal ≡ None) ys r i.none
          (none_of r.refusal (sym c.is_some.ensures ∙ c.if-is_some.false));
    }
