pub mod AnswerLemmas
pub mod WantedLemmas
pub mod ChoiceLemmas
pub mod NameLemmas
pub mod WalkLemmas
