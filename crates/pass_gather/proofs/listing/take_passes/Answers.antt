use Rattle.std.proofs.Common.{◌++◌, ◌∷◌, [], sym, subst}
use Rattle.pass_gather.specs.Listing.{AreTold}
use Rattle.pass_gather.specs.Given.{pass_note, pass_share}
use Rattle.pass_gather.proofs.Slots.{told_push, after_push}
use Rattle.pass_gather.proofs.listing.take_passes.Goals as goal

pub loop-pass-preserved : goal.loop-pass-preserved
loop-pass-preserved c =
    let i = c.loop-pass.invariant in
    let ys = c.loop-pass.yielded in
    let p = c.in-Some.pass in
    record {
      notes = after_push pass_note c.args.notes.now ys p c.loop-pass.notes c.push.new.self c.take_pass-note.result.0
          c.in_ok-push.ensures.ok i.notes c.take_pass-note.ensures.note;
      shares = after_push pass_share c.args.shares.now ys p c.loop-pass.shares c.push-in-loop-pass.new.self
          c.take_pass-note.result.1 c.in_ok-push-2.ensures.ok i.shares c.take_pass-note.ensures.share;
      records = subst (AreTold (ys ++ p ∷ [])) (sym c.in_ok-push-3.ensures.items)
          (told_push ys c.loop-pass.records.items p c.take_pass-note.result.2 i.records
          c.take_pass-note.ensures.record);
    }
