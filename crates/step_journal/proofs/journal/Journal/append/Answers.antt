use Rattle.std.proofs.Common.{length, ap, arith}
use Rattle.std.proofs.lemmas.List.{length-map}
use Rattle.step_journal.specs.Histories.{IsNoteOf}
use Rattle.step_journal.specs.Desks.{seen_in}
use Rattle.step_journal.proofs.Owns.{length-own_entries-le}
use Rattle.step_journal.proofs.journal.Journal.append.Goals as goal

-- the one list that is kept is the note's
pub append-place-requires-clause-taken : goal.append-place-requires-clause-taken
append-place-requires-clause-taken g c =
    (seen_in c.replace-badge.result.views, ap (λ d. d.olds) c.admit.ensures.desk)

-- the share counts no more than there are
pub overflow_add-share : goal.overflow_add-share
overflow_add-share g c =
    let before : IsNoteOf c.args.self.now.log c.args.note.now.maker c.args.note.now.seen = grind arith in
    let few = length-own_entries-le c.args.note.now.maker c.args.self.now.log in
    let all = ap (λ j. length j.log) c.self.view_is in
    let makers = ap length c.self.invariant.makers_are in
    let same = length-map c.self.inside.desk.log (λ p. p.0) in
    omega (
      arith,
      ap (λ s. s.count) c.share.view_is,
      c.requires.pair.count,
      ap length before.own,
      few,
      all,
      makers,
      same,
    )
