use Rattle.std.proofs.Common.{◌≡◌, ℕ, List, map, length, ap, sym, ◌∙◌, subst, All, Option}
use Rattle.std.proofs.lemmas.List.{length-map, length_push}
use Rattle.std.proofs.lemmas.List.Elements.{All-head, All-push, All-tail}
use Rattle.atomic_table.specs.Seated.{TableId}
use Rattle.ready_queue.specs.Seats.{FirstState}
use Rattle.worker_seats.specs.Workers.{IsWorker}
use Rattle.shared_engine.specs.Rings.{name_of}
use Rattle.engine_gather.specs.Gathering.{core_of}
use Rattle.engine_gather.specs.Columns.{ColumnState, column_of, with_back}
use Rattle.engine_gather.specs.Parting.{IsAt, ready_of, earlier}
use Rattle.engine_gather.proofs.Parting.{columns_next, column_names, first_push, push-map}
use Rattle.engine_gather.proofs.seats_apart.take_seats.Goals as goal

pub take-requires-clause-many : goal.take-requires-clause-many
take-requires-clause-many g c =
    let turns = c.args.turns.items in
    ap length c.loop-seat.invariant.apart.columns
    ∙ length-map turns (column_of (length c.loop-seat.yielded)) ∙ c.requires.many

pub take-requires-clause-turns : goal.take-requires-clause-turns
take-requires-clause-turns g c =
    let i = c.loop-seat.invariant in
    let turns = c.args.turns.items in
    let s = c.in-Some.seat in
    let rest = c.next.new.self.rest.items in
    let names : map (λ (d : ColumnState). d.name) c.loop-seat.made.columns.items ≡ map name_of turns =
    ap (map (λ (d : ColumnState). d.name)) i.apart.columns ∙ column_names (length c.loop-seat.yielded) turns in
    let left = subst (All (IsAt (map name_of turns))) c.in-Some.ensures.steps.0 i.left in
    subst (λ (l : List TableId). IsAt l s) (sym names) (All-head (IsAt (map name_of turns)) s rest left)

pub loop-seat-preserved : goal.loop-seat-preserved
loop-seat-preserved g c =
    let i = c.loop-seat.invariant in
    let ys = c.loop-seat.yielded in
    let s = c.in-Some.seat in
    let turns = c.args.turns.items in
    let old = c.loop-seat.made in
    let new = c.take.new.self in
    let e = c.in_ok-take.ensures in
    record {
      apart = record {
        columns = e.columns ∙ ap (map with_back) i.apart.columns ∙ columns_next (length ys) turns
            ∙ ap (λ (n : ℕ). map (column_of n) turns) (sym (length_push ys s));
        cores = push-map core_of ys s old.cores.items new.cores.items e.cores i.apart.cores;
        rows = push-map ready_of ys s old.rows.items new.rows.items e.rows i.apart.rows;
        first = e.line ∙ ap (λ (o : Option FirstState). earlier o s.first) i.apart.first ∙ sym (first_push ys s);
      };
      left = All-tail (IsAt (map name_of turns)) s c.next.new.self.rest.items
          (subst (All (IsAt (map name_of turns))) c.in-Some.ensures.steps.0 i.left);
      kept = All-push (IsWorker g.N.EngineNames.names) ys s i.kept e.kept;
    }
