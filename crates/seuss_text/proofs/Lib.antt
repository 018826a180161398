pub mod AnswerLemmas
pub mod GapLemmas
pub mod NextLemmas
pub mod NumberLemmas
pub mod ReadLemmas
pub mod RowLemmas
pub mod StepLemmas
pub mod WordLemmas
