use Rattle.std.proofs.Common.{◌<◌, ◌≤◌, Ok, Err, ap, subst, length, sym, arith}
use Rattle.seuss_parser.specs.Words.{words_of}
use Rattle.safety_texts.specs.Readings.{IsReached, ReadsOne}
use Rattle.safety_texts.proofs.ListLemmas.{reached_more, reached_all, stopped_by}
use Rattle.safety_texts.proofs.lists.read_list.Goals as goal

pub returns-in_err-one : goal.returns-in_err-one
returns-in_err-one c =
    let below : c.loop-at.at < length (words_of c.args.text.now c.args.tokens.now.list) =
    subst (λ ws. c.loop-at.at < length ws) c.in_ok-words.ensures
    (omega (arith, c.loop-at-test.true, c.len.ensures)) in
    stopped_by (words_of c.args.text.now c.args.tokens.now.list) c.loop-at.texts c.loop-at.at
    c.in_err-one.field-0.0 c.from_residual-in_err-one.result c.from_residual-in_err-one.ensures.1 below
    (subst (λ ws. ReadsOne ws c.loop-at.at (Err c.in_err-one.field-0.0)) c.in_ok-words.ensures
    c.in_err-one.ensures) c.loop-at.invariant

pub loop-at-preserved : goal.loop-at-preserved
loop-at-preserved c =
    let below : c.loop-at.at < length (words_of c.args.text.now c.args.tokens.now.list) =
    subst (λ ws. c.loop-at.at < length ws) c.in_ok-words.ensures
    (omega (arith, c.loop-at-test.true, c.len.ensures)) in
    let one : ReadsOne (words_of c.args.text.now c.args.tokens.now.list) c.loop-at.at
    (Ok (c.in_ok-one.one, c.in_ok-one.next)) =
    subst (λ ws. ReadsOne ws c.loop-at.at (Ok (c.in_ok-one.one, c.in_ok-one.next))) c.in_ok-words.ensures
    c.in_ok-one.ensures in
    subst (λ ts. IsReached (words_of c.args.text.now c.args.tokens.now.list) ts c.in_ok-one.next)
    (sym c.in_ok-push.ensures.ok)
    (reached_more (words_of c.args.text.now c.args.tokens.now.list) c.loop-at.texts c.loop-at.at
    c.in_ok-one.one c.in_ok-one.next below
    one.0 c.loop-at.invariant)

pub returns : goal.returns
returns c =
    let past : length (words_of c.args.text.now c.args.tokens.now.list) ≤ c.loop-at.at =
    subst (λ ws. length ws ≤ c.loop-at.at) c.in_ok-words.ensures
    (omega (arith, c.loop-at-test.false, c.len.ensures)) in
    reached_all (words_of c.args.text.now c.args.tokens.now.list) c.loop-at.texts c.loop-at.at past
    c.loop-at.invariant
