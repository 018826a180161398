use Rattle.std.proofs.Common.{◌≡◌, ◌^◌, ◌<◌, sym, ap, ◌∙◌, arith, rules}
use Rattle.std.specs.Prelude.{decimal}
use Rattle.std.proofs.lemmas.Fmt.{parse-decimal}
use Rattle.std.proofs.lemmas.Slice.Eq.{bytes_eq-Decides}
use Rattle.seuss_run.proofs.NumberWords.{no_number, is_number}
use Rattle.seuss_run.proofs.words.number.Goals as goal
use Rattle.seuss_run.proofs.words.number.Goals.{else-eq-via-then-eq+then-least-n+else-n-most}
use Rattle.seuss_run.proofs.words.number.Goals.{else-eq-via-then-eq+else-least-n, else-eq-via-else-eq}

-- the text of a number within the limits would have been read
pub returns-in_default-clause-is : goal.returns-in_default-clause-is
returns-in_default-clause-is c = sym (no_number c.args.least c.args.most c.args.word.now (λ n high low e.
    let small : n < 2 ^ 32 = omega (arith, c.ranges.most.fits) in
    cc (parse-decimal 32 n c.args.word.now _ small (omega arith) e c.parse.ensures.value.0)))

-- the number that was read is written so
pub returns-then-n-most-clause-is : goal.returns-then-n-most-clause-is
returns-then-n-most-clause-is c =
    let equal : c.format.result.now ≡ c.args.word.now =
    (bytes_eq-Decides c.format.result.now c.args.word.now).0 (sym c.eq.ensures ∙ c.if-eq.true) in
    let text : c.args.word.now ≡ decimal c.in-Ok.n = sym equal ∙ c.format.ensures.text in
    sym (is_number c.args.least c.args.most c.in-Ok.n c.args.word.now (omega arith) text
    c.if-least-n.true c.if-n-most.true)

-- the number that was read is past a limit, or isn't written so
pub returns-else-eq-clause-is : goal.returns-else-eq-clause-is
returns-else-eq-clause-is c = sym (no_number c.args.least c.args.most c.args.word.now (λ n high low e.
    let small : n < 2 ^ 32 = omega (arith, c.ranges.most.fits) in
    let read = parse-decimal 32 n c.args.word.now _ small (omega arith) e c.parse.ensures.value.0 in
    let same : n ≡ c.in-Ok.n = cc read in
    elim c.else-eq.branch [
      | else-eq-via-then-eq+then-least-n+else-n-most w ↦ omega arith
      | else-eq-via-then-eq+else-least-n w ↦ omega arith
      | else-eq-via-else-eq w ↦
          let text : c.format.result.now ≡ c.args.word.now =
          c.format.ensures.text ∙ (ap decimal (sym same) ∙ sym e) in search rules
    ]))
