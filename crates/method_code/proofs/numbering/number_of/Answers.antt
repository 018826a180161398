use Rattle.std.proofs.Common.{◌≡◌, ◌<◌, List, length, take, sym, ap, ◌∙◌, arith}
use Rattle.seuss_program.specs.declared.tree.Ref.{Ref}
use Rattle.seuss_program.specs.declared.tree.Cat.{Cat}
use Rattle.method_code.specs.declared.method.Method.{Method}
use Rattle.method_code.specs.Codes.{cats_code}
use Rattle.method_code.proofs.NumberLemmas.{count-through, number-is}
use Rattle.method_code.proofs.numbering.number_of.Goals as goal

pub returns-in-Ok : goal.returns-in-Ok
returns-in-Ok c =
    let within : c.args.procedure < length c.in-Some-get.cat.now.procs =
    omega (arith, c.len.ensures, c.if-procedure-len.false) in
    let is = number-is c.args.program.now c.args.box_number c.args.procedure c.in-Some.info.now
    c.in-Some-get.cat.now (sym c.in-Some.ensures.value) (sym c.in-Some-get.ensures.value) within in
    let through = count-through c.args.program.now.cats c.in-Some.info.now.cat c.in-Some-get.cat.now
    (sym c.in-Some-get.ensures.value) in
    let taken : c.in-Ok.before ≡ length (cats_code (take c.in-Some.info.now.cat c.args.program.now.cats)) =
    c.in-Ok.ensures.ok ∙ ap (λ (cats : List (Cat Ref)). length (cats_code (take c.in-Some.info.now.cat cats)))
    c.as_slice-cats.ensures in
    let count : length c.code.inside.methods ≡ length (cats_code c.args.program.now.cats) =
    ap (λ (ms : List Method). length ms) (c.code.view_is ∙ c.requires) in
    omega (arith, c.saturating_add.ensures, is, through, taken, count, c.code.invariant.count, within)

pub returns-in-Err : goal.returns-in-Err
returns-in-Err c =
    let through = count-through c.args.program.now.cats c.in-Some.info.now.cat c.in-Some-get.cat.now
    (sym c.in-Some-get.ensures.value) in
    let taken : length (cats_code (take c.in-Some.info.now.cat c.as_slice-cats.result.now))
    ≡ length (cats_code (take c.in-Some.info.now.cat c.args.program.now.cats)) =
    ap (λ (cats : List (Cat Ref)). length (cats_code (take c.in-Some.info.now.cat cats)))
    c.as_slice-cats.ensures in
    let count : length c.code.inside.methods ≡ length (cats_code c.args.program.now.cats) =
    ap (λ (ms : List Method). length ms) (c.code.view_is ∙ c.requires) in
    absurd (omega (arith, c.in-Err.ensures.err, through, taken, count, c.code.invariant.count))
