-- The lines that are read are the first ones of the text, and in the end all of them.
use Rattle.std.proofs.Common.{ℕ, ◌+◌, List, rules, map, length, eqb, arith, ap, sym}
use denote.Ref.{Bor}
use Rattle.std.proofs.lemmas.Iterator.Consumers.{YieldsList-turn, YieldsList-end, YieldsList-so_far}
use Rattle.std.proofs.lemmas.Iterator.Splits.{YieldsList-from_slice_split}
use Rattle.std.proofs.lemmas.List.{map_push, length_push, length-map}
use Rattle.std.proofs.lemmas.Result.{err_from_is_err_and}
use Rattle.seuss_text.specs.Bytes.{line_feed}
use Rattle.seuss_parser.proofs.InputReads.{line_put, line_refused, all_read}
use Rattle.seuss_parser.proofs.input.read.Goals as goal

pub loop-bytes-preserved : goal.loop-bytes-preserved
loop-bytes-preserved c = record {
  numbers = line_put (map (λ (x : Bor (List ℕ)). x.now) c.loop-bytes.yielded) _ c.in-Some.bytes.now
      c.loop-bytes.numbers c.push_line.new.numbers c.loop-bytes.invariant.numbers c.in_ok-push_line.ensures
      (map_push (λ (x : Bor (List ℕ)). x.now) c.loop-bytes.yielded c.in-Some.bytes);
  lines = omega (arith, length_push c.loop-bytes.yielded c.in-Some.bytes);
}

pub returns-in_err-push_line : goal.returns-in_err-push_line
returns-in_err-push_line c =
    let road = YieldsList-from_slice_split _ (λ b. eqb b line_feed) c.args.text.now (cc) (cc) (cc)
    (λ x b q k. search rules) in
    let p = err_from_is_err_and c.from_residual.result c.from_residual.ensures.1 in
    rw (p.1, p.2)
    (line_refused c.args.text.now (map (λ (x : Bor (List ℕ)). x.now) c.loop-bytes.yielded)
    c.in-Some.bytes.now (length c.loop-bytes.yielded) _ c.loop-bytes.numbers c.push_line.new.numbers
    c.in_err-push_line.field-0.0 c.requires c.in_err-push_line.ensures c.loop-bytes.invariant.numbers
    (ap (λ k. k + 1) c.loop-bytes.invariant.lines)
    (YieldsList-so_far road c.loop-bytes.yielded _ c.loop-bytes.yielded_by)
    (YieldsList-turn road c.loop-bytes.yielded _ c.loop-bytes.yielded_by _ _ c.in-Some.bytes c.in-Some.is
    c.next.ensures.steps)
    (sym (length-map _ _)))

pub returns : goal.returns
returns c =
    let road = YieldsList-from_slice_split _ (λ b. eqb b line_feed) c.args.text.now (cc) (cc) (cc)
    (λ x b q k. search rules) in
    let t = YieldsList-end road c.loop-bytes.yielded _ c.loop-bytes.yielded_by _ _ c.in-None.is
    c.next.ensures.steps in
    (c.requires, all_read c.args.text.now _ c.loop-bytes.numbers c.loop-bytes.invariant.numbers t.0)
