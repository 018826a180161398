use Rattle.seuss_parser.proofs.WholeLemmas.{whole-found, whole-stopped}
use Rattle.seuss_parser.proofs.programs.words_program.Goals as goal

pub returns-in-Ok : goal.returns-in-Ok
returns-in-Ok c = whole-found c.args.left.items _ _ _ c.in-Ok.ensures

pub returns : goal.returns
returns c =
    rw (c.refusal.ensures, c.front_line-line.ensures, c.last_line-end.ensures)
    (whole-stopped c.args.left.items c.in-Err.stop c.whole_program-found.new.words.room
    c.whole_program-found.new.words.left.items c.in-Err.ensures)
