use Rattle.std.proofs.Common.{◌++◌, map, ap, ◌∙◌, append-nil}
use Rattle.step_journal.specs.Histories.{makers_of, entries_of}
use Rattle.step_journal.specs.Desks.{list_of}
use Rattle.step_journal.proofs.Closing.{ends}
use Rattle.step_journal.proofs.journal.Journal.close.Goals as goal

-- a look at a desk that took all notes in tells what they and the shares say
pub returns : goal.returns
returns g c =
    let t = c.take_all.ensures in
    let i = c.self.invariant in
    let all = map list_of c.args.notes in
    let olds = ap (λ d. d.olds) t ∙ ap (λ olds. all ++ olds) i.olds ∙ append-nil all in
    let log = ap (λ d. d.log) t ∙ ap (λ j. j.log) c.self.view_is in
    let given = ap (λ d. d.given) t ∙ i.given_is ∙ ap (λ j. j.makers) c.self.view_is in
    let end = ends c.take_all.new.self c.args.self.log c.args.self.makers c.args.notes c.args.shares
    c.look.ensures.sound log olds given c.requires.all c.requires.pairs in
    record {
      makers = c.from_vec.ensures ∙ i.makers_are ∙ ap (λ j. makers_of j.log) c.self.view_is;
      entries = c.from_vec-2.ensures ∙ i.entries_are ∙ ap (λ j. entries_of j.log) c.self.view_is;
      given = end.below;
      notes = end.notes_are;
      each_once = end.each_once;
      counts = end.counts;
      total = end.total;
    }
