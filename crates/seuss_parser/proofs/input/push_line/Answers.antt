-- The parts of a line that are read are its first ones, and in the end all of them.
use Rattle.std.proofs.Common.{ℕ, List, rules, map, length, subst}
use denote.Ref.{Bor}
use Rattle.std.proofs.lemmas.Iterator.Consumers.{YieldsList-turn, YieldsList-end, YieldsList-so_far}
use Rattle.std.proofs.lemmas.Iterator.Splits.{YieldsList-from_slice_split}
use Rattle.std.proofs.lemmas.List.{map_push}
use Rattle.std.proofs.lemmas.Result.{err_from_is_err_and}
use Rattle.std.specs.List.{slice_split}
use Rattle.seuss_text.specs.Bytes.{is_white}
use Rattle.seuss_parser.specs.Inputs.{filled}
use Rattle.seuss_parser.proofs.InputReads.{Stand, part_put, part_refused}
use Rattle.seuss_parser.proofs.input.push_line.Goals as goal

pub loop-part-preserved : goal.loop-part-preserved
loop-part-preserved c =
    part_put (map (λ (x : Bor (List ℕ)). x.now) c.loop-part.yielded) _ c.in-Some.part.now c.args.numbers.now
    c.loop-part.numbers c.push_part.new.numbers c.loop-part.invariant c.in_ok-push_part.ensures
    (map_push (λ (x : Bor (List ℕ)). x.now) c.loop-part.yielded c.in-Some.part)

pub returns-in_err-push_part : goal.returns-in_err-push_part
returns-in_err-push_part c =
    let road = YieldsList-from_slice_split _ is_white c.args.bytes.now (cc) (cc) (cc)
    (λ x b q k. search rules) in
    let p = err_from_is_err_and c.from_residual.result c.from_residual.ensures.1 in
    rw (p.1, p.2)
    (part_refused (slice_split is_white c.args.bytes.now) _ c.in-Some.part.now (length c.loop-part.yielded)
    c.args.line c.loop-part.numbers c.push_part.new.numbers c.args.numbers.now c.push_part.new.numbers
    c.in_err-push_part.field-0.0 c.in_err-push_part.ensures
    (YieldsList-so_far road c.loop-part.yielded _ c.loop-part.yielded_by)
    (YieldsList-turn road c.loop-part.yielded _ c.loop-part.yielded_by _ _ c.in-Some.part c.in-Some.is
    c.next.ensures.steps))

pub returns : goal.returns
returns c =
    let road = YieldsList-from_slice_split _ is_white c.args.bytes.now (cc) (cc) (cc)
    (λ x b q k. search rules) in
    let t = YieldsList-end road c.loop-part.yielded _ c.loop-part.yielded_by _ _ c.in-None.is
    c.next.ensures.steps in
    subst (λ parts. Stand (filled parts) c.args.numbers.now c.loop-part.numbers) t.0 c.loop-part.invariant
