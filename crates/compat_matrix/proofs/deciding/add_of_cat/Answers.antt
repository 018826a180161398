use Rattle.std.proofs.Common.{rules, ◌≡◌, ◌<◌, ◌≤◌, ◌+◌, ℕ, List, length, get_or, Some, Result, Err, IfErr}
use Rattle.std.proofs.Common.{sym, subst, refl, arith}
use Rattle.std.specs.Prelude.{slice_get}
use Rattle.std.proofs.lemmas.Option.{slice_get_read}
use Rattle.compat_matrix.specs.declared.certificate.Certificate.{Certificate}
use Rattle.compat_matrix.specs.declared.refusal.MatrixRefusal.{MatrixRefusal}
use Rattle.compat_matrix.specs.Certificates.{Refuses}
use Rattle.compat_matrix.specs.Deciding.{SoFar}
use Rattle.compat_matrix.proofs.WrittenLemmas.{rest_of, into_cat, out_of_cat, next_of_cat, refused_of_cat}
use Rattle.compat_matrix.proofs.deciding.add_of_cat.Goals as goal

-- what is read of a list at a place stands there
read : {X : Type 0} (xs items : List X) (at : ℕ) (x : X) → items ≡ xs → at < length xs →
    x ≡ get_or items at x → slice_get xs at ≡ Some x
read xs items at x same less is =
    slice_get_read xs (length xs) at x refl less (subst (λ ys. x ≡ get_or ys at x) same is)

pub loop-at-init : goal.loop-at-init
loop-at-init c =
    into_cat c.args.program.now c.args.cat c.args.own.now c.args.certificates.now c.requires.there
    c.requires.before

pub loop-at-preserved : goal.loop-at-preserved
loop-at-preserved c =
    let p = c.args.program.now in
    let own = c.args.own.now in
    let less : c.loop-at.at < length own.semis = omega (arith, c.requires.few, c.len-at-end.ensures) in
    let among = read own.semis c.as_slice.result.now c.loop-at.at c.index-as_slice-at.result
    c.as_slice.ensures less c.index-as_slice-at.is in
    subst (λ (es : List Certificate). SoFar p (rest_of p c.args.cat own (c.loop-at.at + 1)) es)
    (sym c.in_ok-push.ensures.ok)
    (next_of_cat p c.args.cat own c.loop-at.certificates c.loop-at.at c.index-as_slice-at.result
    c.in_ok-certificate.field-0 among (c.in_ok-certificate.ensures own c.requires.there among)
    c.loop-at.invariant)

pub returns-in_err-certificate-clause-refused : goal.returns-in_err-certificate-clause-refused
returns-in_err-certificate-clause-refused c =
    let p = c.args.program.now in
    let own = c.args.own.now in
    let refusal = c.in_err-certificate.field-0.0 in
    let less : c.loop-at.at < length own.semis = omega (arith, c.requires.few, c.len-at-end.ensures) in
    let among = read own.semis c.as_slice.result.now c.loop-at.at c.index-as_slice-at.result
    c.as_slice.ensures less c.index-as_slice-at.is in
    let same : c.from_residual.result ≡ Err refusal = search rules in
    subst (λ (r : Result (Unit {0}) MatrixRefusal). IfErr r (Refuses p)) (sym same)
    (refused_of_cat p c.args.cat own c.loop-at.certificates c.loop-at.at c.index-as_slice-at.result refusal
    among (c.in_err-certificate.ensures own c.requires.there among) c.loop-at.invariant)

pub returns-clause-ok : goal.returns-clause-ok
returns-clause-ok c =
    let past : length c.args.own.now.semis ≤ c.loop-at.at =
    omega (arith, c.requires.few, c.len-at-end.ensures) in
    out_of_cat c.args.program.now c.args.cat c.args.own.now c.loop-at.certificates c.loop-at.at past
    c.loop-at.invariant
