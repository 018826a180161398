use Rattle.std.proofs.Common.{◌≤◌, length, sym, subst, arith}
use Rattle.std.proofs.lemmas.List.{drop_all}
use Rattle.compat_matrix.specs.Certificates.{written, written_from}
use Rattle.compat_matrix.specs.Deciding.{SoFar}
use Rattle.compat_matrix.proofs.WrittenLemmas.{none_yet, are_all}
use Rattle.compat_matrix.proofs.deciding.certificates.Goals as goal

pub loop-cat-init : goal.loop-cat-init
loop-cat-init c =
    let p = c.args.program.now in
    subst (λ es. SoFar p (written p) es) (sym c.new-certificates.ensures) (none_yet p)

pub returns-clause-found : goal.returns-clause-found
returns-clause-found c =
    let p = c.args.program.now in
    let past : length p.cats ≤ c.loop-cat.cat =
    omega (arith, c.requires.few_cats, c.len-cat-end.ensures) in
    are_all p c.loop-cat.certificates
    (subst (λ cats. SoFar p (written_from c.loop-cat.cat cats) c.loop-cat.certificates)
    (drop_all c.loop-cat.cat p.cats past) c.loop-cat.invariant)
