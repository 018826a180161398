use denote.Signature.{named_lft}
use Rattle.shared_engine.specs.contracts.engine.engine_crosses.{N-row}
use Rattle.shared_engine.proofs.Crossing.{engine_sync}
use Rattle.shared_engine.proofs.engine.engine_crosses.Goals as goal

pub needs_sync-requires-sync-T : goal.needs_sync-requires-sync-T
needs_sync-requires-sync-T g c κs within = record {
  shared = (engine_sync (named_lft 2 1 tt κs) (N-row g.row.N) g.N.EngineNames g.N.CellNames g.N.Ledger).shared;
}
