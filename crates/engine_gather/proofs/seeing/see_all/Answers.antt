use Rattle.std.proofs.Common.{◌∷◌, ◌++◌, [], sym, ◌∙◌, subst}
use Rattle.std.proofs.lemmas.List.Elements.{AllZip-push}
use Rattle.pass_seats.specs.Desks.{SchedDeskState}
use Rattle.engine_gather.specs.Seeing.{HasLooked, HaveLooked}
use Rattle.engine_gather.proofs.seeing.see_all.Goals as goal

pub loop-core-preserved : goal.loop-core-preserved
loop-core-preserved g c =
    let names = g.N.EngineNames.names in
    let i = c.loop-core.invariant in
    let ys = c.loop-core.yielded in
    let s = c.in-Some.core in
    let cell = c.args.desk.now.cell in
    let made = c.see_list in
    let looked = subst (λ (d : SchedDeskState). HasLooked names d.cell s made.result) i.desk made.ensures.looked in
    record {
      desk = made.ensures.desk ∙ i.desk;
      looked = subst (HaveLooked names cell (ys ++ s ∷ [])) (sym c.in_ok-push.ensures.items)
          (AllZip-push (HasLooked names cell) ys c.loop-core.seen.items s made.result i.looked looked);
    }
