pub mod PlaceLemmas
pub mod ReadLemmas
pub mod TakesLemmas
pub mod AnswerLemmas
pub mod RecordLemmas
pub mod SourceLemmas
pub mod FoundLemmas
pub mod ChoiceLemmas
pub mod CommandLemmas
pub mod WorkLemmas
pub mod TurnsLemmas
pub mod LifeLaw
pub mod VarLemmas
mod TookLemmas
