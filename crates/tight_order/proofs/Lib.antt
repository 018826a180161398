pub mod PartLemmas
pub mod ReadLemmas
pub mod RunLemmas
pub mod StatementLemmas
pub mod WeightLemmas
pub mod StoreLemmas
