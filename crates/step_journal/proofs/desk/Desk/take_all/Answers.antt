use Rattle.std.proofs.Common.{◌≡◌, [], ◌∷◌, ◌++◌, map, ap, ◌∙◌}
use Rattle.step_journal.specs.Desks.{list_of}
use Rattle.step_journal.proofs.Closing.{map_last, All_front}
use Rattle.step_journal.proofs.desk.Desk.take_all.Goals as goal

-- one note goes from those that are left to those that were taken in
pub loop-note-preserved : goal.loop-note-preserved
loop-note-preserved g c =
    let i = c.loop-note.invariant in
    let n = c.in-Some.note in
    let taken = ap (λ d. d.olds) c.take_in.ensures ∙ ap (λ m. list_of m ∷ c.loop-note.self.olds)
    c.note.view_is in
    record {
      lists = ap (λ olds. map list_of c.pop.new.self ++ olds) taken ∙ map_last list_of c.loop-note.left
          c.pop.new.self n c.loop-note.self.olds c.in-Some.ensures ∙ i.lists;
      log = ap (λ d. d.log) c.take_in.ensures ∙ i.log;
      given = ap (λ d. d.given) c.take_in.ensures ∙ i.given;
      name = ap (λ d. d.name) c.take_in.ensures ∙ i.name;
      journal = All_front (λ m. m.journal ≡ c.args.self.now.name) c.loop-note.left c.pop.new.self (n ∷ [])
          c.in-Some.ensures i.journal;
    }
