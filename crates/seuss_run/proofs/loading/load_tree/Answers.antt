use Rattle.std.proofs.Common.{refl}
use Rattle.seuss_run.specs.Stages.{◌>=>◌}
use Rattle.seuss_run.specs.Verdicts.{is_read, is_split, tree_of}
use Rattle.seuss_run.proofs.StageLemmas.{behind}
use Rattle.seuss_run.proofs.LoadLemmas.{tree_alone}
use Rattle.seuss_run.proofs.loading.load_tree.Goals as goal

-- the bytes are few enough, and have two parts, of which the first one tells
pub returns-clause-meets : goal.returns-clause-meets
returns-clause-meets c =
    behind is_read (is_split >=> tree_of) c.args.bytes.now c.args.bytes.now
    (λ tree. tree) c.text_tree.result (refl, c.requires)
    (behind is_split tree_of c.args.bytes.now (c.split.result.0.now, c.split.result.1.now)
    (λ tree. tree) c.text_tree.result
    c.split.ensures (tree_alone c.split.result.0.now c.split.result.1.now c.text_tree.result
    c.text_tree.ensures.meets))
