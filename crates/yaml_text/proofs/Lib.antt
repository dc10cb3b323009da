pub mod SourceLemmas
pub mod OutcomeLemmas
pub mod LineLemmas
pub mod WithinLemmas
pub mod RuleLemmas
