pub mod WantLemmas
pub mod TemplateLemmas
