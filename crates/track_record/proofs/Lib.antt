pub mod SourceLemmas
pub mod TellLemmas
pub mod EntryLemmas
pub mod MomentLemmas
pub mod StepLemmas
pub mod TrackLemmas
