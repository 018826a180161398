use Rattle.std.proofs.Common.{◌<◌, length, All, refl, sym, ap, ◌∙◌, subst}
use Rattle.step_journal.specs.Histories.{own_entries}
use Rattle.step_journal.specs.Desks.{seen_in}
use Rattle.step_journal.proofs.Owns.{own_entries_none}
use Rattle.step_journal.proofs.journal.Journal.seat.Goals as goal

-- the new maker has no entry yet
pub returns-clause-pair : goal.returns-clause-pair
returns-clause-pair g c =
    let m = c.self.inside.given in
    let log = c.self.inside.desk.log in
    let below = subst (λ n. All (λ p. p.0 < n) log) c.self.invariant.given_is c.look.ensures.sound.makers in
    let seen = ap seen_in c.new_note-badge.ensures.note ∙ ap (λ d. d.log) c.look.ensures.same in
    record {
      maker = refl;
      count =
          sym (ap (λ l. length (own_entries m l)) seen ∙ ap length (own_entries_none m log below));
    }
