pub mod KeptLemmas
pub mod TakesLemmas
pub mod ShortLemmas
