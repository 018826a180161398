use Rattle.std.proofs.Common.{◌≡◌, sym, ap, ◌∙◌}
use Rattle.std.specs.Prelude.{slice_set}
use Rattle.std.proofs.lemmas.Option.{same_Some}
use Rattle.loose_records.specs.declared.record.PassRecord.{PassRecord}
use Rattle.turn_runs.proofs.ListLemmas.{put_back}
use Rattle.turn_runs.proofs.run.tell.Goals as goal

pub returns : goal.returns
returns c = λ pass there.
    let found : PassRecord = c.replace-pass.result in
    let put : PassRecord =
    record found { commit = c.args.commit; end = c.args.end; verdict = c.args.verdict } in
    let is : found ≡ pass = same_Some found pass (sym c.replace-pass.ensures.value ∙ there) in
    put_back c.args.passes.now c.replace-pass.new.self c.set.new.self c.args.ticket.pass c.pass_begun.result
    put c.replace-pass.ensures.after c.set.ensures
    ∙ ap (λ (p : PassRecord). slice_set c.args.passes.now c.args.ticket.pass
    (record p { commit = c.args.commit; end = c.args.end; verdict = c.args.verdict })) is
