use Rattle.std.proofs.Common.{List, [], ◌∷◌, ◌++◌, sym, ap, ◌∙◌}
use Rattle.std.specs.Prelude.{slice_set}
use Rattle.std.proofs.lemmas.Option.{get_or_from_slice_get}
use Rattle.loose_records.specs.declared.record.BoxEntry.{BoxEntry}
use Rattle.turn_runs.proofs.ListLemmas.{put_back}
use Rattle.turn_runs.proofs.run.push_entry.Goals as goal

pub returns : goal.returns
returns c =
    put_back c.args.boxes.now c.replace-journal.new.self c.set.new.self c.args.number c.new.result
    c.push.new.self c.replace-journal.ensures.after c.set.ensures
    ∙ ap (λ (es : List BoxEntry). slice_set c.args.boxes.now c.args.number es)
    (c.in_ok-push.ensures.ok
    ∙ ap (λ (es : List BoxEntry). es ++ c.args.entry ∷ [])
    (sym (get_or_from_slice_get c.args.boxes.now c.args.number c.replace-journal.result []
    c.replace-journal.ensures.value)))
