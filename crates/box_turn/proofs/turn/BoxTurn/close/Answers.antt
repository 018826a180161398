use Rattle.std.proofs.Common.{◌≡◌, false, length, arith, ap, ◌∙◌}
use Rattle.std.proofs.lemmas.List.{length_push}
use Rattle.box_turn.proofs.Closing.{All-popped}
use Rattle.box_turn.proofs.turn.BoxTurn.close.Goals as goal

-- the seat that is popped first has one part, and the others are left
pub loop-other-init : goal.loop-other-init
loop-other-init g c =
    let all = All-popped (λ s. (s.turn ≡ c.args.self.name) × (s.holds ≡ false)) _ _ _ c.in-Some.ensures
    c.requires.turn in
    record {
      turn = all.0;
      mine = ap (λ s. s.turn) c.into_parts-last.ensures ∙ all.1.0;
      parts = omega (
        arith,
        length_push c.pop.new.self c.in-Some.seat,
        ap length c.in-Some.ensures,
        ap (λ s. s.parts) c.into_parts-last.ensures,
        c.requires.all,
      );
    }
